use Rattle.std.proofs.Common.{◌≡◌, true, List, refl, sym, ap, subst, ◌∙◌, arith, rules}
use Rattle.std.specs.List.{All}
use Rattle.region_lanes.specs.InsideOpened.{IsStriped}
use Rattle.region_lanes.proofs.Opening.{each_striped, file_lanes}
use Rattle.region_lanes.proofs.region.open_file.Goals as goal

pub lanes_over-requires-clause-striped : goal.lanes_over-requires-clause-striped
lanes_over-requires-clause-striped g c =
    let seen = g.F.Part.Part.seen in
    subst (λ (xs : List _). All (λ p. IsStriped (seen p)) xs) (sym c.into_vec.ensures)
    (each_striped seen (g.F.Folder.seen c.args.folder.now).told c.args.path.now.items c.args.cut.now c.in-Ok.parts.items c.in-Ok.ensures.parts c.in-Ok.ensures.made)

pub returns-in-Ok-clause-lanes : goal.returns-in-Ok-clause-lanes
returns-in-Ok-clause-lanes g c =
    file_lanes g.F.Part.Part.seen (g.F.Folder.seen c.args.folder.now) c.args.path.now.items c.args.cut.now c.in-Ok.parts.items c.in-Ok.ensures.count c.in-Ok.ensures.parts _ (rw c.into_vec.ensures at c.lanes_over.ensures)
