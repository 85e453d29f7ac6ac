-- What the command answers, by its words and variables, its input and its files, and by what it read and wrote.
use Rattle.std.specs.Prelude.{◌≡◌, ℕ, ◌+◌, ◌<◌, ◌≤◌, ◌⊎◌, Bool, true, false, List, length, Option, Some, None, IfSome, Result, Ok, Err}
use Rattle.std.specs.Io.KnownBytes.{Appends, Consumes, IsAtEnd}
use Rattle.page_base.specs.Lanes.{Rose}
use Rattle.file_store.specs.Shelves.{FolderSeen}
use Rattle.file_store.specs.declared.folder.FolderFault.{FolderFault}
use Rattle.file_store.specs.declared.folder.FolderFault.TheVariants.{Missing, TooShort, Failed, OutOfMemory}
use Rattle.workload_text.specs.declared.limits.TheConstants.{MOST_TEXT_BYTES}
use Rattle.workload_text.specs.Line.{Line}
use Rattle.workload_text.specs.Grammar.{Spells}
use Rattle.workload_text.specs.FirstBad.{RefusedRightly}
use Rattle.file_store.specs.Streams.{AppendsFront}
use Rattle.region_lanes.specs.Regions.{IsAsBefore, StopsRightly, StopCause}
use Rattle.call_words.specs.Calls.{SettingsSeen}
use Rattle.call_words.specs.declared.fault.WordsFault.{WordsFault}
use Rattle.umapsh.specs.Inputs.{refusal_of}
use Rattle.umapsh.specs.Runs.{Runs, RunsPlainly}
use Rattle.umapsh.specs.declared.refusal.Refusal.{Refusal}
use Rattle.umapsh.specs.declared.refusal.Refusal.TheVariants as why
use Rattle.umapsh.specs.declared.status.Status.{Status}
use Rattle.umapsh.specs.declared.status.Status.TheVariants.{Done, StoreFault, Refused, Words, Folder, Memory, SinkFault, SourceFault}

-- what contracts see of what the command works on: the input that is left, the files, the output, and how many calls of each
-- have failed
pub record Outside : Type 0 where
  pub left : Option (List ℕ)
  pub source_faults : ℕ
  pub folder : FolderSeen
  pub written : Option (List ℕ)
  pub sink_faults : ℕ

-- what is seen of a source, a folder and a sink by these functions
abbrev pub outside : {S F K : Type 0} → (S → Option (List ℕ)) → (S → ℕ) → (F → FolderSeen) → (K → Option (List ℕ)) → (K → ℕ) → S → F → K → Outside
outside left source_faults seen written sink_faults source folder sink = record {
  left = left source;
  source_faults = source_faults source;
  folder = seen folder;
  written = written sink;
  sink_faults = sink_faults sink;
}

-- what words and variables give: settings, or the refusal
abbrev pub Reads : Type 0
Reads = Result SettingsSeen WordsFault

-- the bytes are the text of this workload, and the input isn't refused
pub record Accepts (page_size : ℕ) (bytes : List ℕ) (lines : List Line) : Type 0 where
  pub spelt : Spells bytes lines
  pub unrefused : refusal_of page_size bytes ≡ None

-- ---- what each status says

-- the input was accepted and its workload run, with replies that were written so
pub record RunsInput (reads : Reads) (bytes : List ℕ) (old new : FolderSeen) (faulted : Bool) (Writes : List ℕ → Type 0) : Type 0 where
  pub settings : SettingsSeen
  pub read : reads ≡ Ok settings
  pub lines : List Line
  pub accepted : Accepts settings.page_size bytes lines
  pub text : List ℕ
  pub ran : Runs settings lines old new text faulted
  pub plain : faulted ≡ false → RunsPlainly lines old new text
  pub writes : Writes text

-- the input is refused, with this line and kind
pub record RefusesInput (reads : Reads) (bytes : List ℕ) (line : ℕ) (k : Refusal) : Type 0 where
  pub settings : SettingsSeen
  pub read : reads ≡ Ok settings
  pub refused : refusal_of settings.page_size bytes ≡ Some (record { line = line; kind = k })

-- the input was accepted, and this region is the first that couldn't be opened
pub record StopsInput (reads : Reads) (bytes : List ℕ) (folder : FolderSeen) (region : ℕ) (fault : FolderFault) : Type 0 where
  pub settings : SettingsSeen
  pub read : reads ≡ Ok settings
  pub lines : List Line
  pub accepted : Accepts settings.page_size bytes lines
  pub stops : StopsRightly folder lines (record { region = region; fault = fault })

-- the text was written whole, or a front part of it where a write failed
abbrev pub WritesOrFails : (old new : Outside) → List ℕ → Type 0
WritesOrFails old new text =
    Appends old.written new.written text ⊎ (Rose old.sink_faults new.sink_faults × AppendsFront old.written new.written text)

-- nothing was written, and each file is as before
pub record LeavesAll (old new : Outside) : Type 0 where
  pub written : new.written ≡ old.written
  pub files : IsAsBefore old.folder new.folder

-- of an input that is longer than a text may be, one byte more than that was read
abbrev pub IsReadSoFar : List ℕ → (left : Option (List ℕ)) → Type 0
IsReadSoFar bytes left = MOST_TEXT_BYTES < length bytes → IfSome left (λ l. length bytes ≡ MOST_TEXT_BYTES + 1 + length l)

-- `reads` is what words and variables give. Of input and files this speaks where they are told
abbrev pub Says : Reads → Status → (old new : Outside) → Type 0
Says reads Done old new =
    IfSome old.left (λ b. RunsInput reads b old.folder new.folder false (Appends old.written new.written)) × IsAtEnd new.left
Says reads StoreFault old new =
    IfSome old.left (λ b. RunsInput reads b old.folder new.folder true (WritesOrFails old new)) × IsAtEnd new.left
Says reads (Refused line k) old new = IfSome old.left (λ b. RefusesInput reads b line k × IsReadSoFar b new.left) × LeavesAll old new
Says reads (Words fault) old new = (new.left ≡ old.left) × LeavesAll old new
Says reads (Folder region fault) old new =
    IfSome old.left (λ b. StopsInput reads b old.folder region fault) × IsAtEnd new.left × LeavesAll old new
Says reads Memory old new = LeavesAll old new
Says reads (SinkFault faults) old new =
    IfSome old.left (λ b. RunsInput reads b old.folder new.folder false (AppendsFront old.written new.written)) × IsAtEnd new.left
Says reads (SourceFault faults) old new = LeavesAll old new

-- a refusal by the text is right by the grammar alone: it names the first line with which no accepted text begins, and the
-- first kind that applies to it, or a text that is too long
abbrev pub RefusesRightly : Status → (input : Option (List ℕ)) → Type 0
RefusesRightly (Refused line (why.Text k)) input = IfSome input (λ b. RefusedRightly b line k)
RefusesRightly status input = Unit {0}

-- the words are refused exactly where reading them is, with its refusal; only want of memory may come instead
abbrev pub DecidesWords : Reads → Status → Type 0
DecidesWords reads (Words fault) = reads ≡ Err fault
DecidesWords reads Memory = Unit {0}
DecidesWords reads Done = (s : SettingsSeen) × (reads ≡ Ok s)
DecidesWords reads StoreFault = (s : SettingsSeen) × (reads ≡ Ok s)
DecidesWords reads (Refused line k) = (s : SettingsSeen) × (reads ≡ Ok s)
DecidesWords reads (Folder region fault) = (s : SettingsSeen) × (reads ≡ Ok s)
DecidesWords reads (SinkFault faults) = (s : SettingsSeen) × (reads ≡ Ok s)
DecidesWords reads (SourceFault faults) = (s : SettingsSeen) × (reads ≡ Ok s)

-- want of memory stops no region
abbrev pub StopsRegion : FolderFault → Type 0
StopsRegion Missing = Unit {0}
StopsRegion (TooShort have need) = Unit {0}
StopsRegion (Failed faults) = Unit {0}
StopsRegion OutOfMemory = ⊥

-- a fault of the source, the sink or the folder comes only where its count rose
abbrev pub Causes : Status → (old new : Outside) → Type 0
Causes Done old new = Unit {0}
Causes StoreFault old new = Rose old.folder.count new.folder.count
Causes (Refused line k) old new = Unit {0}
Causes (Words fault) old new = Unit {0}
Causes (Folder region fault) old new = StopsRegion fault × StopCause old.folder.count new.folder.count fault
Causes Memory old new = Unit {0}
Causes (SinkFault faults) old new = Rose old.sink_faults new.sink_faults × (faults ≡ new.sink_faults)
Causes (SourceFault faults) old new = Rose old.source_faults new.source_faults × (faults ≡ new.source_faults)

-- the source gave some bytes, no more than one past what a text may have
abbrev pub ReadsFew : (input left : Option (List ℕ)) → Type 0
ReadsFew input left = (bytes : List ℕ) × Consumes input left bytes × (length bytes ≤ MOST_TEXT_BYTES + 1)
