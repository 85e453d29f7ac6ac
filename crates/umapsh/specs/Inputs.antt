-- Which inputs are refused, with pages of which size.
use Rattle.std.specs.Prelude.{ℕ, Bool, true, false, List, [], Option, Some, None, Result, Ok, Err}
use Rattle.workload_text.specs.Line.{TextLine}
use Rattle.workload_text.specs.Grammar.{lines_in}
use Rattle.workload_text.specs.Refusals.{RefusedAt, read_text}
use Rattle.workload_text.specs.Answers.{map_numbers}
use Rattle.workload_text.specs.Built.{is_built}
use Rattle.script_run.specs.Tables.{regions_seen}
use Rattle.script_run.specs.RegionRules.{region_refusal}
use Rattle.script_run.specs.declared.regions.RegionRefusal.{RegionRefusal}
use Rattle.umapsh.specs.declared.refusal.Refusal.{Refusal}
use Rattle.umapsh.specs.declared.refusal.Refusal.TheVariants as why

pub record RefusedInput : Type 0 where
  pub line : ℕ
  pub kind : Refusal

-- what the regions say of a text that is accepted, and whether it is built
abbrev pub refused_behind : Option RegionRefusal → (built : Bool) → Option RefusedInput
refused_behind (Some r) built = Some (record { line = r.line; kind = why.Region r.kind })
refused_behind None true = None
refused_behind None false = Some (record { line = 0; kind = why.Unbuilt })

abbrev pub refused_text : (page_size : ℕ) → Result (List TextLine) RefusedAt → Option RefusedInput
refused_text page_size (Err r) = Some (record { line = r.line; kind = why.Text r.kind })
refused_text page_size (Ok ts) = refused_behind (region_refusal page_size [] (regions_seen (lines_in ts)) (map_numbers 1 ts)) (is_built (lines_in ts))

-- why an input is refused, if it is
unfoldable pub refusal_of : (page_size : ℕ) → List ℕ → Option RefusedInput
refusal_of page_size bytes = refused_text page_size (read_text bytes)
