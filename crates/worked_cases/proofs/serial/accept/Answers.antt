use Rattle.std.proofs.Common.{◌≡◌, ℕ, true, List, map, sym, ap, ◌∙◌, subst}
use Rattle.region_table.specs.Regions.{NamedRegion, TableSeen}
use Rattle.workload_text.specs.Grammar.{Region}
use Rattle.workload_text.specs.Accepted.{regions_of}
use Rattle.workload_text.specs.View.{lines_of}
use Rattle.workload_text.specs.declared.workload.MapLine.{MapLine}
use Rattle.script_run.specs.Fits.{has_whole_pages}
use Rattle.script_run.specs.RegionRules.{named_region}
use Rattle.worked_cases.proofs.serial.accept.Goals as goal

pub returns-clause-table : goal.returns-clause-table
returns-clause-table c =
    let w = c.in_ok-parsed.parsed.workload in
    c.in_ok-table.ensures.table
    ∙ ap (λ (n : ℕ). let y : TableSeen = record { page_size = n; regions = map named_region c.as_slice-maps.result.now } in y) c.page_size.ensures
    ∙ ap (λ (ms : List MapLine). let y : TableSeen = record { page_size = c.args.layout.now.page_size; regions = map named_region ms } in y) c.as_slice-maps.ensures
    ∙ ap (λ (rs : List NamedRegion). let y : TableSeen = record { page_size = c.args.layout.now.page_size; regions = rs } in y) (sym (c.regions_are_maps.ensures.seen w))

pub returns-clause-whole : goal.returns-clause-whole
returns-clause-whole c =
    let w = c.in_ok-parsed.parsed.workload in
    subst (λ (z : ℕ). has_whole_pages z (regions_of (lines_of w)) ≡ true) c.page_size.ensures
    (subst (λ (gs : List Region). has_whole_pages c.page_size.result gs ≡ true) (sym (c.regions_are_maps.ensures.regions w)) (rw c.as_slice-maps.ensures at c.in_ok-table.ensures.whole))
