use Rattle.std.proofs.Common.{List, map, sym, subst}
use Rattle.sparse_store.specs.InsideStores.{AreApart}
use Rattle.sparse_store.proofs.Creating.{files_apart}
use Rattle.sparse_store.proofs.store.SparseStore.close.Goals as goal

pub close_parts-requires-clause-apart : goal.close_parts-requires-clause-apart
close_parts-requires-clause-apart g c =
    let seen = g.P.Part.seen in
    let store = c.args.self in
    subst (λ (xs : List _). AreApart (map seen xs)) (sym c.into_vec.ensures) (files_apart seen store.dir.items store.shape store.parts.items store.shaped store.files)
