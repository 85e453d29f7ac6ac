use Rattle.std.proofs.Common.{◌≡◌, ap, sym, ◌∙◌}
use Rattle.workload_text.proofs.BuiltLines.{regions_in_memory, workload_in_memory}
use Rattle.workload_text.proofs.workload.is_in_memory.Goals as goal

pub returns : goal.returns
returns c =
    let w = c.args.workload.now in
    c.are_memory_regions.ensures ∙ ap regions_in_memory c.as_slice.ensures ∙ sym (workload_in_memory w.maps.items w.scripts.items)
