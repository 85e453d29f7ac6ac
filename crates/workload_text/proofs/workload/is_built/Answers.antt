use Rattle.std.proofs.Common.{◌≡◌, ◌&&◌, true, false, sym, ap, ◌∙◌}
use Rattle.workload_text.proofs.BuiltLines.{regions_built, scripts_built, workload_built}
use Rattle.workload_text.proofs.workload.is_built.Goals as goal

pub returns-then-are_built_regions : goal.returns-then-are_built_regions
returns-then-are_built_regions c =
    let w = c.args.workload.now in
    let regions : regions_built w.maps.items ≡ true = ap regions_built (sym c.as_slice.ensures) ∙ sym c.are_built_regions.ensures ∙ c.if-are_built_regions.true in
    c.are_built_scripts.ensures ∙ ap scripts_built c.as_slice-then-are_built_regions.ensures
    ∙ sym (workload_built w.maps.items w.scripts.items ∙ ap (λ b. b && scripts_built w.scripts.items) regions)

pub returns-else-are_built_regions : goal.returns-else-are_built_regions
returns-else-are_built_regions c =
    let w = c.args.workload.now in
    let regions : regions_built w.maps.items ≡ false = ap regions_built (sym c.as_slice.ensures) ∙ sym c.are_built_regions.ensures ∙ c.if-are_built_regions.false in
    c.if-are_built_regions.false
    ∙ sym (workload_built w.maps.items w.scripts.items ∙ ap (λ b. b && scripts_built w.scripts.items) regions)
