use Rattle.std.proofs.Common.{◌≡◌, true, List, map, sym, subst}
use Rattle.std.specs.Option.{IfSome}
use Rattle.sparse_store.specs.Closings.{AreAllOut, any_fault}
use Rattle.sparse_store.specs.InsideStores.{AreApart}
use Rattle.sparse_store.proofs.LaneClosing.{lane_apart, some_fault}
use Rattle.sparse_store.proofs.lane.SparseLane.close.Goals as goal

pub close_parts-requires-clause-apart : goal.close_parts-requires-clause-apart
close_parts-requires-clause-apart g c =
    let seen = g.P.Part.seen in
    let l = c.args.self in
    subst (λ (xs : List _). AreApart (map seen xs)) (sym c.into_vec.ensures) (lane_apart l.dir.items l.shape l.layout l.region l.stripe (map seen l.parts.items) l.shaped l.files)

pub close_parts-requires-clause-out : goal.close_parts-requires-clause-out
close_parts-requires-clause-out g c =
    let seen = g.P.Part.seen in
    subst (λ (xs : List _). IfSome (g.F.Folder.seen c.args.folder.now).told (λ s. AreAllOut (map seen xs) s.out)) (sym c.into_vec.ensures) c.requires.out

pub returns-clause-faults : goal.returns-clause-faults
returns-clause-faults g c = λ above.
    let seen = g.P.Part.seen in
    c.close_parts.ensures.faults (subst (λ (xs : List _). any_fault (map seen xs) ≡ true) (sym c.into_vec.ensures) (some_fault (map seen c.args.self.parts.items) above))
