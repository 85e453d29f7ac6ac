use Rattle.std.proofs.Common.{◌≡◌, ℕ, List, map, Option, Some, sym, subst, ◌∙◌}
use Rattle.std.specs.Option.{IfSome}
use Rattle.file_store.specs.Shelves.{Shelf}
use Rattle.sparse_store.specs.Contents.{contents_of, joined_in}
use Rattle.sparse_store.proofs.Joined.{opened_contents}
use Rattle.sparse_store.specs.InsideStores.{AreFiles}
use Rattle.sparse_store.proofs.Creating.{are_files, all_out}
use Rattle.sparse_store.proofs.store.SparseStore.open.Goals as goal

pub invariant_of-result : goal.invariant_of-result
invariant_of-result g c =
    let seen = g.P.Part.seen in
    record {
      shaped = c.requires.shape;
      files = subst (λ (dir : List ℕ). AreFiles seen dir c.args.asked c.in_ok-parts.parts.items) (sym (c.in_ok-own.ensures.items ∙ c.as_slice.ensures)) (are_files seen c.args.dir.now.items c.args.asked c.in_ok-parts.parts.items c.requires.shape _ c.in_ok-parts.ensures.parts);
    }

pub returns-clause-ours : goal.returns-clause-ours
returns-clause-ours g c =
    let seen = g.P.Part.seen in
    let now = g.F.Folder.seen c.look.new.folder in
    let new = g.F.Folder.seen c.open_files.new.folder in
    all_out seen c.args.dir.now.items c.args.asked c.in_ok-parts.parts.items c.in_ok-parts.ensures.names now.told new.told c.in_ok-parts.ensures.out

pub returns-clause-contents : goal.returns-clause-contents
returns-clause-contents g c =
    let seen = g.P.Part.seen in
    let dir = c.args.dir.now.items in
    let parts = c.in_ok-parts.parts.items in
    let before = g.F.Folder.seen c.look.new.folder in
    subst (λ (t : Option Shelf). IfSome t (λ s. contents_of (map seen parts) ≡ Some (joined_in s.files dir c.args.asked))) c.look.ensures.same
    (opened_contents seen before.told dir c.args.asked parts c.in_ok-parts.ensures.parts)
