-- What the parts of the command answer: how reading stopped, why an input isn't run, how an opening stopped, and what is written.
use Rattle.std.specs.Prelude.{◌≡◌, ℕ, ◌+◌, ◌≤◌, ◌⊎◌, Bool, true, false, List, length, Option, Some}
use Rattle.std.specs.Io.KnownBytes.{Appends, Consumes, IsAtEnd}
use Rattle.page_base.specs.Lanes.{Rose}
use Rattle.file_store.specs.Shelves.{FolderSeen}
use Rattle.file_store.specs.declared.folder.FolderFault.{FolderFault}
use Rattle.file_store.specs.declared.folder.FolderFault.TheVariants as folder
use Rattle.workload_text.specs.declared.limits.TheConstants.{MOST_TEXT_BYTES}
use Rattle.workload_text.specs.declared.refusal.TextFault.{TextFault}
use Rattle.workload_text.specs.declared.refusal.TextFault.TheVariants as text
use Rattle.workload_text.specs.Line.{Line}
use Rattle.file_store.specs.Streams.{AppendsFront}
use Rattle.script_run.specs.declared.regions.TableFault.{TableFault}
use Rattle.script_run.specs.declared.regions.TableFault.TheVariants as table
use Rattle.region_lanes.specs.Regions.{StopsRightly, StopCause}
use Rattle.region_lanes.specs.declared.open.LaneStop.{LaneStop}
use Rattle.call_words.specs.Calls.{SettingsSeen}
use Rattle.umapsh.specs.Inputs.{refusal_of}
use Rattle.umapsh.specs.Runs.{Runs, RunsPlainly}
use Rattle.umapsh.specs.Top.{Accepts, StopsRegion}
use Rattle.umapsh.specs.declared.refusal.Refusal.TheVariants as why
use Rattle.umapsh.specs.declared.status.Status.{Status}
use Rattle.umapsh.specs.declared.status.Status.TheVariants.{Done, StoreFault, Refused, Words, Folder, Memory, SinkFault, SourceFault}
use Rattle.umapsh.specs.declared.top.Ended.{Ended}

-- the source gave these bytes: all of the input, or one more than a text may have
pub record ReadAll (input left : Option (List ℕ)) (bytes : List ℕ) : Type 0 where
  pub taken : Consumes input left bytes
  pub few : length bytes ≤ MOST_TEXT_BYTES + 1
  pub whole : length bytes ≤ MOST_TEXT_BYTES → IsAtEnd left

-- why reading stopped
abbrev pub ReadStop : Status → (before now : ℕ) → Type 0
ReadStop Memory before now = Unit {0}
ReadStop (SourceFault faults) before now = Rose before now × (faults ≡ now)
ReadStop Done before now = ⊥
ReadStop StoreFault before now = ⊥
ReadStop (Refused line k) before now = ⊥
ReadStop (Words fault) before now = ⊥
ReadStop (Folder region fault) before now = ⊥
ReadStop (SinkFault faults) before now = ⊥

-- the status of a fault of the text
abbrev pub text_status : TextFault → Status
text_status (text.Refused line k) = Refused line (why.Text k)
text_status text.OutOfMemory = Memory

-- the status of a fault of the regions
abbrev pub region_status : TableFault → Status
region_status (table.Refused r) = Refused r.line (why.Region r.kind)
region_status table.OutOfMemory = Memory

-- the status of a region that couldn't be opened
abbrev pub fault_status : (region : ℕ) → FolderFault → Status
fault_status region folder.Missing = Folder region folder.Missing
fault_status region (folder.TooShort have need) = Folder region (folder.TooShort have need)
fault_status region (folder.Failed faults) = Folder region (folder.Failed faults)
fault_status region folder.OutOfMemory = Memory

abbrev pub stop_status : LaneStop → Status
stop_status stop = fault_status stop.region stop.fault

-- why a text isn't run
abbrev pub AcceptStop : (page_size : ℕ) → Status → List ℕ → Type 0
AcceptStop page_size Memory bytes = Unit {0}
AcceptStop page_size (Refused line k) bytes = refusal_of page_size bytes ≡ Some (record { line = line; kind = k })
AcceptStop page_size Done bytes = ⊥
AcceptStop page_size StoreFault bytes = ⊥
AcceptStop page_size (Words fault) bytes = ⊥
AcceptStop page_size (Folder region fault) bytes = ⊥
AcceptStop page_size (SinkFault faults) bytes = ⊥
AcceptStop page_size (SourceFault faults) bytes = ⊥

-- why the lanes of these lines weren't opened
abbrev pub OpenStop : Status → List Line → (old new : FolderSeen) → Type 0
OpenStop Memory lines old new = Unit {0}
OpenStop (Folder region fault) lines old new =
    StopsRightly old lines (record { region = region; fault = fault }) × StopsRegion fault × StopCause old.count new.count fault
OpenStop Done lines old new = ⊥
OpenStop StoreFault lines old new = ⊥
OpenStop (Refused line k) lines old new = ⊥
OpenStop (Words fault) lines old new = ⊥
OpenStop (SinkFault faults) lines old new = ⊥
OpenStop (SourceFault faults) lines old new = ⊥

-- why a text wasn't run
abbrev pub RunStop : (page_size : ℕ) → Status → List ℕ → (old new : FolderSeen) → Type 0
RunStop page_size Memory bytes old new = Unit {0}
RunStop page_size (Refused line k) bytes old new = refusal_of page_size bytes ≡ Some (record { line = line; kind = k })
RunStop page_size (Folder region fault) bytes old new =
    (lines : List Line) × Accepts page_size bytes lines × StopsRightly old lines (record { region = region; fault = fault }) × StopsRegion fault × StopCause old.count new.count fault
RunStop page_size Done bytes old new = ⊥
RunStop page_size StoreFault bytes old new = ⊥
RunStop page_size (Words fault) bytes old new = ⊥
RunStop page_size (SinkFault faults) bytes old new = ⊥
RunStop page_size (SourceFault faults) bytes old new = ⊥

-- the lines ran over the folder's files, and ended so
pub record RanOver (s : SettingsSeen) (lines : List Line) (old new : FolderSeen) (e : Ended) : Type 0 where
  pub runs : Runs s lines old new e.text.items e.faulted
  pub plain : e.faulted ≡ false → RunsPlainly lines old new e.text.items
  pub cause : e.faulted ≡ true → Rose old.count new.count

-- the input was accepted, and its lines ran so
abbrev pub RanText : SettingsSeen → List ℕ → (old new : FolderSeen) → Ended → Type 0
RanText s bytes old new e = (lines : List Line) × Accepts s.page_size bytes lines × RanOver s lines old new e

-- the status of a run whose text was written so: `before` and `now` are the sink's count of faults
abbrev pub Delivers : Status → (faulted : Bool) → (text : List ℕ) → (old new : Option (List ℕ)) → (before now : ℕ) → Type 0
Delivers Done faulted text old new before now = (faulted ≡ false) × Appends old new text
Delivers StoreFault faulted text old new before now =
    (faulted ≡ true) × (Appends old new text ⊎ (Rose before now × AppendsFront old new text))
Delivers (SinkFault faults) faulted text old new before now =
    (faulted ≡ false) × AppendsFront old new text × Rose before now × (faults ≡ now)
Delivers (Refused line k) faulted text old new before now = ⊥
Delivers (Words fault) faulted text old new before now = ⊥
Delivers (Folder region fault) faulted text old new before now = ⊥
Delivers Memory faulted text old new before now = ⊥
Delivers (SourceFault faults) faulted text old new before now = ⊥
