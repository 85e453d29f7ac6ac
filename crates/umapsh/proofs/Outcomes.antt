-- What the command answers, from what it read, what became of it, and what was written.
use Rattle.std.proofs.Common.{◌≡◌, inl, inr, ℕ, ◌+◌, ◌<◌, ◌≤◌, Bool, true, false, List, ◌++◌, length, Option, Some, None, Ok, refl, sym, ap, subst, ◌∙◌, arith, append-nil, length-append}
use Rattle.std.specs.Option.{IfSome}
use Rattle.std.specs.Io.KnownBytes.{Appends, IsAtEnd}
use Rattle.std.proofs.lemmas.Bool.{cases_lt}
use Rattle.file_store.specs.Parts.{WhereTold}
use Rattle.file_store.specs.Shelves.{Shelf, FolderSeen}
use Rattle.workload_text.specs.Line.{Line}
use Rattle.region_lanes.specs.Regions.{HasSame, IsAsBefore}
use Rattle.call_words.specs.Calls.{SettingsSeen}
use Rattle.umapsh.specs.Inputs.{refusal_of}
use Rattle.umapsh.specs.Runs.{Runs}
use Rattle.umapsh.specs.Top.{Outside, Reads, Accepts, RunsInput, RefusesInput, StopsInput, IsReadSoFar, LeavesAll, Says, DecidesWords, Causes}
use Rattle.umapsh.specs.InsideTop.{ReadAll, ReadStop, AcceptStop, RunStop, OpenStop, RanOver, RanText, Delivers}
use Rattle.umapsh.proofs.Refused.{long_refused}
use Rattle.umapsh.specs.declared.refusal.Refusal.{Refusal}
use Rattle.umapsh.specs.declared.top.Ended.{Ended}
use Rattle.umapsh.specs.declared.status.Status.{Status}
use Rattle.umapsh.specs.declared.status.Status.TheVariants.{Done, StoreFault, Refused, Words, Folder, Memory, SinkFault, SourceFault}

same_told : (t : Option Shelf) → WhereTold HasSame t t
same_told None = tt
same_told (Some s) = record { files = λ path. refl; out = refl }

-- nothing was done to the files
pub same_files : (f : FolderSeen) → IsAsBefore f f
same_files f = same_told f.told

-- what is short enough to be a text was read whole
whole_input : (input left : Option (List ℕ)) (v : List ℕ) → ReadAll input left v → length v ≤ 16777216 → IfSome input (λ b. v ≡ b)
whole_input None left v r short = tt
whole_input (Some b) None v r short = absurd r.taken
whole_input (Some b) (Some l) v r short = sym (r.taken ∙ ap (λ (t : List ℕ). v ++ t) (r.whole short) ∙ append-nil v)

if_here : (P : List ℕ → Type 0) (input : Option (List ℕ)) (v : List ℕ) → IfSome input (λ b. v ≡ b) → P v → IfSome input P
if_here P None v h p = tt
if_here P (Some b) v h p = subst P h p

-- ---- reading stopped

pub read_says : (reads : Reads) (status : Status) (old new : Outside) → ReadStop status old.source_faults new.source_faults → LeavesAll old new → Says reads status old new
read_says reads Done old new s leaves = absurd s
read_says reads StoreFault old new s leaves = absurd s
read_says reads (Refused line k) old new s leaves = absurd s
read_says reads (Words fault) old new s leaves = absurd s
read_says reads (Folder region fault) old new s leaves = absurd s
read_says reads Memory old new s leaves = leaves
read_says reads (SinkFault faults) old new s leaves = absurd s
read_says reads (SourceFault faults) old new s leaves = leaves

pub read_causes : (status : Status) (old new : Outside) → ReadStop status old.source_faults new.source_faults → Causes status old new
read_causes Done old new s = tt
read_causes StoreFault old new s = absurd s
read_causes (Refused line k) old new s = tt
read_causes (Words fault) old new s = tt
read_causes (Folder region fault) old new s = absurd s
read_causes Memory old new s = tt
read_causes (SinkFault faults) old new s = absurd s
read_causes (SourceFault faults) old new s = s

pub read_words : (reads : Reads) (given : SettingsSeen) → reads ≡ Ok given → (status : Status) (a b : ℕ) → ReadStop status a b → DecidesWords reads status
read_words reads given is Done a b s = absurd s
read_words reads given is StoreFault a b s = absurd s
read_words reads given is (Refused line k) a b s = absurd s
read_words reads given is (Words fault) a b s = absurd s
read_words reads given is (Folder region fault) a b s = absurd s
read_words reads given is Memory a b s = tt
read_words reads given is (SinkFault faults) a b s = absurd s
read_words reads given is (SourceFault faults) a b s = (given, is)

-- ---- the run didn't begin

module _ (z : ℕ) (f0 f1 : FolderSeen) where
  pub accept_stops : (status : Status) (bytes : List ℕ) → AcceptStop z status bytes → RunStop z status bytes f0 f1
  accept_stops Done bytes s = absurd s
  accept_stops StoreFault bytes s = absurd s
  accept_stops (Refused line k) bytes s = s
  accept_stops (Words fault) bytes s = absurd s
  accept_stops (Folder region fault) bytes s = absurd s
  accept_stops Memory bytes s = tt
  accept_stops (SinkFault faults) bytes s = absurd s
  accept_stops (SourceFault faults) bytes s = absurd s

  pub open_stops : (status : Status) (bytes : List ℕ) (lines : List Line) → Accepts z bytes lines → OpenStop status lines f0 f1 → RunStop z status bytes f0 f1
  open_stops Done bytes lines a s = absurd s
  open_stops StoreFault bytes lines a s = absurd s
  open_stops (Refused line k) bytes lines a s = absurd s
  open_stops (Words fault) bytes lines a s = absurd s
  open_stops (Folder region fault) bytes lines a s = (lines, a, s.0, s.1, s.2)
  open_stops Memory bytes lines a s = tt
  open_stops (SinkFault faults) bytes lines a s = absurd s
  open_stops (SourceFault faults) bytes lines a s = absurd s

module _ (reads : Reads) (given : SettingsSeen) (is : reads ≡ Ok given) (old new : Outside) (v : List ℕ) (all : ReadAll old.left new.left v) where
  -- what was read is refused, and so is the whole input
  refused_whole : (input left : Option (List ℕ)) → ReadAll input left v → (line : ℕ) (k : Refusal) → refusal_of given.page_size v ≡ Some (record { line = line; kind = k }) → IfSome input (λ b. RefusesInput reads b line k × IsReadSoFar b left)
  refused_whole None left r line k refused = tt
  refused_whole (Some b) None r line k refused = absurd r.taken
  refused_whole (Some b) (Some l) r line k refused =
      let long : length b ≡ length v + length l = ap length r.taken ∙ length-append v l in
      elim (cases_lt 16777216 (length v)) [
        | inl past ↦ (record { settings = given; read = is; refused = long_refused given.page_size b (omega arith) ∙ sym (long_refused given.page_size v past) ∙ refused }, λ _. omega (arith, r.few))
        | inr short ↦
            let same : v ≡ b = sym (r.taken ∙ ap (λ (t : List ℕ). v ++ t) (r.whole short) ∙ append-nil v) in
            (record { settings = given; read = is; refused = ap (refusal_of given.page_size) (sym same) ∙ refused }, λ past. absurd (omega (arith, ap (length {A = ℕ}) same)))
      ]

  at_end : (lines : List Line) → Accepts given.page_size v lines → IsAtEnd new.left
  at_end lines a = all.whole a.spelt.text.short

  here : (P : List ℕ → Type 0) (lines : List Line) → Accepts given.page_size v lines → P v → IfSome old.left P
  here P lines a p = if_here P old.left v (whole_input old.left new.left v all a.spelt.text.short) p

  pub run_says : (status : Status) → RunStop given.page_size status v old.folder new.folder → LeavesAll old new → Says reads status old new
  run_says Done s leaves = absurd s
  run_says StoreFault s leaves = absurd s
  run_says (Refused line k) s leaves = (refused_whole old.left new.left all line k s, leaves)
  run_says (Words fault) s leaves = absurd s
  run_says (Folder region fault) s leaves = (
    here (λ b. StopsInput reads b old.folder region fault) s.0 s.1 (record { settings = given; read = is; lines = s.0; accepted = s.1; stops = s.2 }),
    at_end s.0 s.1,
    leaves,
  )
  run_says Memory s leaves = leaves
  run_says (SinkFault faults) s leaves = absurd s
  run_says (SourceFault faults) s leaves = absurd s

  pub run_causes : (status : Status) → RunStop given.page_size status v old.folder new.folder → Causes status old new
  run_causes Done s = tt
  run_causes StoreFault s = absurd s
  run_causes (Refused line k) s = tt
  run_causes (Words fault) s = tt
  run_causes (Folder region fault) s = (s.3, s.4)
  run_causes Memory s = tt
  run_causes (SinkFault faults) s = absurd s
  run_causes (SourceFault faults) s = absurd s

  pub run_words : (status : Status) → RunStop given.page_size status v old.folder new.folder → DecidesWords reads status
  run_words Done s = absurd s
  run_words StoreFault s = absurd s
  run_words (Refused line k) s = (given, is)
  run_words (Words fault) s = absurd s
  run_words (Folder region fault) s = (given, is)
  run_words Memory s = tt
  run_words (SinkFault faults) s = absurd s
  run_words (SourceFault faults) s = absurd s

  -- ---- the run has ended

  module _ (e : Ended) (ran : RanText given v old.folder new.folder e) where
    abbrev Delivered : Status → Type 0
    Delivered status = Delivers status e.faulted e.text.items old.written new.written old.sink_faults new.sink_faults

    runs : (faulted : Bool) → e.faulted ≡ faulted → (Writes : List ℕ → Type 0) → Writes e.text.items → RunsInput reads v old.folder new.folder faulted Writes
    runs faulted same Writes wrote = record {
      settings = given;
      read = is;
      lines = ran.0;
      accepted = ran.1;
      text = e.text.items;
      ran = subst (λ (f : Bool). Runs given ran.0 old.folder new.folder e.text.items f) same ran.2.runs;
      plain = λ clear. ran.2.plain (same ∙ clear);
      writes = wrote;
    }

    pub delivered_says : (status : Status) → Delivered status → Says reads status old new
    delivered_says Done d = (here (λ b. RunsInput reads b old.folder new.folder false _) ran.0 ran.1 (runs false d.0 _ d.1), at_end ran.0 ran.1)
    delivered_says StoreFault d = (here (λ b. RunsInput reads b old.folder new.folder true _) ran.0 ran.1 (runs true d.0 _ d.1), at_end ran.0 ran.1)
    delivered_says (Refused line k) d = absurd d
    delivered_says (Words fault) d = absurd d
    delivered_says (Folder region fault) d = absurd d
    delivered_says Memory d = absurd d
    delivered_says (SinkFault faults) d = (here (λ b. RunsInput reads b old.folder new.folder false _) ran.0 ran.1 (runs false d.0 _ d.1), at_end ran.0 ran.1)
    delivered_says (SourceFault faults) d = absurd d

    pub delivered_causes : (status : Status) → Delivered status → Causes status old new
    delivered_causes Done d = tt
    delivered_causes StoreFault d = ran.2.cause d.0
    delivered_causes (Refused line k) d = absurd d
    delivered_causes (Words fault) d = absurd d
    delivered_causes (Folder region fault) d = absurd d
    delivered_causes Memory d = absurd d
    delivered_causes (SinkFault faults) d = (d.2, d.3)
    delivered_causes (SourceFault faults) d = absurd d

    pub delivered_words : (status : Status) → Delivered status → DecidesWords reads status
    delivered_words Done d = (given, is)
    delivered_words StoreFault d = (given, is)
    delivered_words (Refused line k) d = absurd d
    delivered_words (Words fault) d = absurd d
    delivered_words (Folder region fault) d = absurd d
    delivered_words Memory d = absurd d
    delivered_words (SinkFault faults) d = (given, is)
    delivered_words (SourceFault faults) d = absurd d
