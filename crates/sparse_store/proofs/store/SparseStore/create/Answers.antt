use Rattle.std.proofs.Common.{◌≡◌, ℕ, List, map, Option, Some, None, sym, subst, ◌∙◌}
use Rattle.std.specs.Option.{IfSome}
use Rattle.file_store.specs.Parts.{WhereTold}
use Rattle.file_store.specs.Shelves.{Shelf, file_at}
use Rattle.sparse_store.specs.declared.fault.SparseFault.{SparseFault}
use Rattle.sparse_store.specs.Closings.{AreAllOut, ClosesEach}
use Rattle.sparse_store.specs.InsideStores.{AreApart}
use Rattle.sparse_store.specs.Files.{NoneOutIn}
use Rattle.sparse_store.specs.InsideStores.{AreFiles}
use Rattle.sparse_store.specs.Openings.{of_folder, LeavesFiles}
use Rattle.sparse_store.proofs.PartLists.{if_some}
use Rattle.sparse_store.proofs.Creating.{are_files, parts_apart, parts_out, refused, not_there}
use Rattle.sparse_store.specs.Contents.{contents_of, joined_in}
use Rattle.sparse_store.proofs.Joined.{opened_contents}
use Rattle.sparse_store.proofs.store.SparseStore.create.Goals as goal

pub invariant_of-result : goal.invariant_of-result
invariant_of-result g c =
    let seen = g.P.Part.seen in
    record {
      shaped = c.requires.shape;
      files = subst (λ (dir : List ℕ). AreFiles seen dir c.args.shape c.in_ok-parts.parts.items) (sym (c.in_ok-own.ensures.items ∙ c.as_slice.ensures)) (are_files seen c.args.dir.now.items c.args.shape c.in_ok-parts.parts.items c.requires.shape _ c.in_ok-parts.ensures.parts);
    }

pub close_parts-requires-clause-apart : goal.close_parts-requires-clause-apart
close_parts-requires-clause-apart g c =
    let seen = g.P.Part.seen in
    subst (λ (xs : List _). AreApart (map seen xs)) (sym c.into_vec.ensures) (parts_apart seen c.args.dir.now.items c.args.shape c.in_ok-parts.parts.items c.requires.shape _ c.in_ok-parts.ensures.parts)

pub close_parts-requires-clause-out : goal.close_parts-requires-clause-out
close_parts-requires-clause-out g c =
    let seen = g.P.Part.seen in
    let mid = g.F.Folder.seen c.open_files.new.folder in
    let now = g.F.Folder.seen c.write_text.new.folder in
    subst (λ (xs : List _). IfSome now.told (λ s. AreAllOut (map seen xs) s.out)) (sym c.into_vec.ensures)
    (parts_out seen c.args.dir.now.items c.args.shape c.in_ok-parts.parts.items c.requires.shape _ c.in_ok-parts.ensures.parts c.in_ok-parts.ensures.names mid.told now.told c.in_ok-meta.meta.items c.in_ok-parts.ensures.out c.in-Err.ensures.others)

pub returns-in-Ok-clause-ours : goal.returns-in-Ok-clause-ours
returns-in-Ok-clause-ours g c =
    let seen = g.P.Part.seen in
    let mid = g.F.Folder.seen c.open_files.new.folder in
    let now = g.F.Folder.seen c.write_text.new.folder in
    parts_out seen c.args.dir.now.items c.args.shape c.in_ok-parts.parts.items c.requires.shape _ c.in_ok-parts.ensures.parts c.in_ok-parts.ensures.names mid.told now.told c.in_ok-meta.meta.items c.in_ok-parts.ensures.out c.in-Ok.ensures.others

pub returns-clause-err : goal.returns-clause-err
returns-clause-err g c =
    let seen = g.P.Part.seen in
    let dir = c.args.dir.now.items in
    let m = c.args.shape in
    let old = g.F.Folder.seen c.args.folder.now in
    let before = g.F.Folder.seen c.stands.new.folder in
    let mid = g.F.Folder.seen c.open_files.new.folder in
    let now = g.F.Folder.seen c.write_text.new.folder in
    let new = g.F.Folder.seen c.close_parts.new.folder in
    let path = c.in_ok-meta.meta.items in
    let same : before.told ≡ old.told = c.in_ok-stands.ensures.same in
    let absent : IfSome old.told (λ s. file_at s.files path ≡ None) = if_some old.told (λ s h. not_there (file_at s.files path) _ h c.if-branch.false) c.in_ok-stands.ensures.there in
    subst (λ (f : SparseFault). WhereTold (LeavesFiles dir m f) old.told new.told) (sym c.from.ensures)
    (subst (λ (t : Option Shelf). WhereTold (LeavesFiles dir m (of_folder c.in-Err.fault)) t new.told) same
    (refused seen dir m c.in_ok-parts.parts.items c.requires.shape before.told c.in_ok-parts.ensures.parts c.in_ok-parts.ensures.names
    c.in-Err.fault mid.told now.told new.told path c.in_ok-meta.ensures c.in_ok-parts.ensures.out
    (subst (λ (t : Option Shelf). IfSome t (λ s. NoneOutIn dir s.out)) (sym same) c.requires.none_out)
    (subst (λ (t : Option Shelf). IfSome t (λ s. file_at s.files path ≡ None)) (sym same) absent)
    c.in-Err.ensures.others c.in-Err.ensures.written
    (subst (λ (xs : List _). WhereTold (ClosesEach (map seen xs)) now.told new.told) c.into_vec.ensures c.close_parts.ensures.closed)))

pub returns-in-Ok-clause-contents : goal.returns-in-Ok-clause-contents
returns-in-Ok-clause-contents g c =
    let seen = g.P.Part.seen in
    let dir = c.args.dir.now.items in
    let parts = c.in_ok-parts.parts.items in
    let before = g.F.Folder.seen c.stands.new.folder in
    subst (λ (t : Option Shelf). IfSome t (λ s. contents_of (map seen parts) ≡ Some (joined_in s.files dir c.args.shape))) c.in_ok-stands.ensures.same
    (opened_contents seen before.told dir c.args.shape parts c.in_ok-parts.ensures.parts)
