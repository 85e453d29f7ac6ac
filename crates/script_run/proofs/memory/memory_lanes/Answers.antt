use Rattle.std.proofs.Common.{◌≡◌, List, length, map, sym, ap, subst, ◌∙◌, arith}
use Rattle.std.proofs.lemmas.List.{length-map}
use Rattle.workload_text.specs.Grammar.{Region}
use Rattle.workload_text.specs.Accepted.{regions_of}
use Rattle.workload_text.specs.View.{region, lines_of}
use Rattle.workload_text.specs.declared.workload.MapLine.{MapLine}
use Rattle.store_trait.specs.declared.mem_lane.MemLane.{MemLane}
use Rattle.page_base.specs.ListSeen.{ListSeen}
use Rattle.script_run.specs.Contents.{rows_in}
use Rattle.script_run.specs.InsideZeros.{AreSmall, AreZeroRows}
use Rattle.script_run.proofs.Zeros.{regions_are, regions_small, zeros_fit, zeros_are}
use Rattle.script_run.proofs.memory.memory_lanes.Goals as goal

pub zero_rows-requires-clause-few : goal.zero_rows-requires-clause-few
zero_rows-requires-clause-few c =
    let w = c.args.workload.now in
    omega (arith, c.requires.runnable.regions, ap length (regions_are w), length-map w.maps.items region, ap (length {A = MapLine}) c.as_slice.ensures)

pub zero_rows-requires-clause-small : goal.zero_rows-requires-clause-small
zero_rows-requires-clause-small c =
    let w = c.args.workload.now in
    let z = c.args.settings.now.layout.page_size in
    let can = c.requires.runnable in
    subst (λ (ms : List MapLine). AreSmall z (map region ms)) (sym c.as_slice.ensures)
    (subst (AreSmall z) (regions_are w) (regions_small z (lines_of w) c.requires.memory can.fit c.requires.whole))

rows_are : (z n : _) (gs : List Region) (ms : List MapLine) (slice : List MapLine) (rows stripes : List (ListSeen MemLane)) → gs ≡ map region ms → slice ≡ ms → stripes ≡ rows → AreZeroRows z n (map region slice) (rows_in rows) → AreZeroRows z n gs (rows_in stripes)
rows_are z n gs ms slice rows stripes e f h are =
    subst (λ (xs : List (ListSeen MemLane)). AreZeroRows z n gs (rows_in xs)) (sym h)
    (subst (λ (x : List Region). AreZeroRows z n x (rows_in rows)) (ap (map region) f ∙ sym e) are)

pub returns-clause-fit : goal.returns-clause-fit
returns-clause-fit c =
    let w = c.args.workload.now in
    let layout = c.args.settings.now.layout in
    let gs : List Region = regions_of (lines_of w) in
    zeros_fit layout gs (rows_in c.from_vec.result.items) c.requires.whole
    (rows_are layout.page_size layout.stripes gs w.maps.items c.as_slice.result.now c.in_ok-rows.rows.items c.from_vec.result.items (regions_are w) c.as_slice.ensures c.from_vec.ensures.items c.in_ok-rows.ensures)

pub returns-clause-zeros : goal.returns-clause-zeros
returns-clause-zeros c =
    let w = c.args.workload.now in
    let layout = c.args.settings.now.layout in
    let gs : List Region = regions_of (lines_of w) in
    zeros_are layout gs (rows_in c.from_vec.result.items) c.requires.whole
    (rows_are layout.page_size layout.stripes gs w.maps.items c.as_slice.result.now c.in_ok-rows.rows.items c.from_vec.result.items (regions_are w) c.as_slice.ensures c.from_vec.ensures.items c.in_ok-rows.ensures)
