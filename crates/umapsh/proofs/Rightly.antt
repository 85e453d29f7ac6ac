-- A refusal by the text is right by the grammar alone.
use Rattle.std.proofs.Common.{◌≡◌, ℕ, Bool, true, false, List, [], Option, Some, None, Result, Ok, Err, ap, refl, sym, true≢false, ◌∙◌}
use Rattle.workload_text.specs.Line.{TextLine}
use Rattle.workload_text.specs.FirstBad.{RefusalsAreRight, RefusedRightly}
use Rattle.workload_text.specs.Refusals.{RefusedAt, refusal, read_text}
use Rattle.workload_text.specs.declared.refusal.TextKind.{TextKind}
use Rattle.workload_text.specs.declared.refusal.TextKind.TheVariants as kind
use Rattle.script_run.specs.RegionRules.{region_refusal}
use Rattle.script_run.specs.Tables.{regions_seen}
use Rattle.script_run.specs.declared.regions.RegionRefusal.{RegionRefusal}
use Rattle.workload_text.specs.Grammar.{lines_in}
use Rattle.workload_text.specs.Answers.{map_numbers}
use Rattle.workload_text.specs.Built.{is_built}
use Rattle.umapsh.specs.Inputs.{RefusedInput, refusal_of, refused_behind, refused_text}
use Rattle.std.specs.Option.{IfSome}
use Rattle.umapsh.specs.Top.{Outside, Reads, RefusesInput, IsReadSoFar, Says, RefusesRightly}
use Rattle.umapsh.specs.declared.refusal.Refusal.{Refusal}
use Rattle.umapsh.specs.declared.refusal.Refusal.TheVariants as why
use Rattle.umapsh.specs.declared.status.Status.{Status}
use Rattle.umapsh.specs.declared.status.Status.TheVariants.{Done, StoreFault, Refused, Words, Folder, Memory, SinkFault, SourceFault}

abbrev is_text : Option RefusedInput → Bool
is_text None = false
is_text (Some r) = of_text r.kind where
  of_text : Refusal → Bool
  of_text (why.Text k) = true
  of_text (why.Region k) = false
  of_text why.Unbuilt = false

-- neither the regions nor what isn't built refuses by a kind of the text
not_behind : (r : Option RegionRefusal) (built : Bool) → is_text (refused_behind r built) ≡ false
not_behind (Some r) built = refl
not_behind None true = refl
not_behind None false = refl

-- the line and the kind of a refusal by the text
abbrev text_at : Option RefusedInput → RefusedAt
text_at None = record { line = 0; kind = kind.Long }
text_at (Some r) = record { line = r.line; kind = kind_or r.kind } where
  kind_or : Refusal → TextKind
  kind_or (why.Text k) = k
  kind_or (why.Region k) = kind.Long
  kind_or why.Unbuilt = kind.Long

of_reading : (z : ℕ) (read : Result (List TextLine) RefusedAt) (line : ℕ) (k : TextKind) → refused_text z read ≡ Some (record { line = line; kind = why.Text k }) → read ≡ Err (record { line = line; kind = k })
of_reading z (Err r) line k e = ap (λ (o : Option RefusedInput). Err (text_at o)) e
of_reading z (Ok ts) line k e =
    let text : is_text (refused_text z (Ok ts)) ≡ true = ap is_text e in
    let other : is_text (refused_text z (Ok ts)) ≡ false = not_behind (region_refusal z [] (regions_seen (lines_in ts)) (map_numbers 1 ts)) (is_built (lines_in ts)) in
    absurd (true≢false (sym text ∙ other))

reading : (z : ℕ) (bytes : List ℕ) (line : ℕ) (k : TextKind) → refusal_of z bytes ≡ Some (record { line = line; kind = why.Text k }) → read_text bytes ≡ Err (record { line = line; kind = k })
unfolding refusal_of
reading z bytes line k e = of_reading z (read_text bytes) line k e

pub rightly : RefusalsAreRight → ((bytes : List ℕ) (r : RefusedAt) → read_text bytes ≡ Err r → refusal bytes ≡ Some r)
    → (reads : Reads) (s : Status) (old new : Outside) → Says reads s old new → RefusesRightly s old.left
rightly right first reads (Refused line (why.Text k)) old new says = by old.left says.0
  where
    by : (input : Option (List ℕ)) → IfSome input (λ b. RefusesInput reads b line (why.Text k) × IsReadSoFar b new.left) → IfSome input (λ b. RefusedRightly b line k)
    by None h = tt
    by (Some b) h = right b (record { line = line; kind = k }) (first b (record { line = line; kind = k }) (reading h.0.settings.page_size b line k h.0.refused))
rightly right first reads (Refused line (why.Region k)) old new says = tt
rightly right first reads (Refused line why.Unbuilt) old new says = tt
rightly right first reads Done old new says = tt
rightly right first reads StoreFault old new says = tt
rightly right first reads (Words fault) old new says = tt
rightly right first reads (Folder region fault) old new says = tt
rightly right first reads Memory old new says = tt
rightly right first reads (SinkFault n) old new says = tt
rightly right first reads (SourceFault n) old new says = tt
