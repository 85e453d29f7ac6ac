use Rattle.std.proofs.Common.{[], Some, ap, ◌∙◌, sym, arith}
use Rattle.std.proofs.lemmas.Option.{slice_get-map}
use Rattle.std.specs.Prelude.{slice_get, option_map}
use Rattle.page_base.specs.declared.keys.RegionShape.{RegionShape}
use Rattle.region_table.proofs.Keeping.{good_at, pages_at}
use Rattle.region_table.specs.Regions.{TableSeen, shape_of, shapes_of}
use Rattle.region_table.proofs.table.RegionTable.shape.Goals as goal

pub shape-requires-clause-good : goal.shape-requires-clause-good
shape-requires-clause-good c = good_at c.self.inside.page_size [] c.self.inside.regions.items c.args.region c.get.result.now c.self.invariant.5 c.get.ensures

pub shape-requires-clause-few : goal.shape-requires-clause-few
shape-requires-clause-few c =
    let less = pages_at c.self.inside.page_size c.self.inside.regions.items c.args.region c.get.result.now c.get.ensures in
    omega (arith, less, c.self.invariant.1, c.self.invariant.2)

pub returns-clause-shape : goal.returns-clause-shape
returns-clause-shape c =
    ap (λ (t : TableSeen). slice_get (shapes_of t) c.args.region) (sym c.self.view_is)
    ∙ slice_get-map (shape_of c.self.inside.page_size) c.self.inside.regions.items c.args.region
    ∙ ap (option_map (shape_of c.self.inside.page_size)) c.get.ensures
    ∙ ap Some (sym c.shape.ensures.shape)

pub returns-clause-few : goal.returns-clause-few
returns-clause-few c =
    let less = pages_at c.self.inside.page_size c.self.inside.regions.items c.args.region c.get.result.now c.get.ensures in
    let pages = ap (λ (s : RegionShape). s.pages) c.shape.ensures.shape in
    omega (arith, less, pages, c.self.invariant.1, c.self.invariant.2)
