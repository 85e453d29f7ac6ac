use Rattle.std.proofs.Common.{◌++◌, ◌∷◌, [], List, take, sym, ap, ◌∙◌, arith}
use Rattle.std.proofs.lemmas.List.{take_more}
use Rattle.std.proofs.lemmas.Option.{slice_get_within, get_or_from_slice_get}
use Rattle.page_base.specs.declared.keys.RegionShape.{RegionShape}
use Rattle.region_table.specs.Regions.{shapes_of}
use Rattle.script_run.proofs.opening.shapes_of.Goals as goal

pub loop-region-preserved : goal.loop-region-preserved
loop-region-preserved c =
    let all : List RegionShape = shapes_of c.args.table.now in
    let i = c.loop-region.region in
    let shape = c.shape.result in
    let at = c.shape.ensures.shape in
    record {
      shapes =
          c.put.ensures.items
          ∙ ap (λ (ss : List RegionShape). ss ++ shape ∷ []) c.loop-region.invariant.shapes
          ∙ ap (λ (s : RegionShape). take i all ++ s ∷ []) (sym (get_or_from_slice_get all i shape shape at))
          ∙ sym (take_more all i shape (slice_get_within all i shape at));
      room = omega (arith, c.put.ensures.spare, c.loop-region.invariant.room);
    }
