use Rattle.std.proofs.Common.{inl, inr, refl, sym, subst, arith, Err}
use Rattle.file_store.specs.Folders.{OfFile}
use Rattle.sparse_store.specs.declared.fault.SparseFault.{SparseFault}
use Rattle.sparse_store.specs.InsideOpenings.{TellsMeta}
use Rattle.sparse_store.proofs.PartLists.{if_some}
use Rattle.sparse_store.proofs.LookedAt.{bad_shown, meta_shown, asked_shown}
use Rattle.sparse_store.proofs.store.look.Goals as goal

pub returns-in-Err-clause-shows : goal.returns-in-Err-clause-shows
returns-in-Err-clause-shows g c =
    let old = g.F.Folder.seen c.args.folder.now in
    subst (λ (f : SparseFault). OfFile old c.args.path.now.items (λ there. TellsMeta there c.args.asked (Err f))) (sym c.from.ensures)
    (bad_shown old.told c.args.path.now.items c.read_head.new.buf c.in_ok-count.count c.in-Err.bad.byte (omega (arith, c.read_head.auto.buf)) c.in_ok-count.ensures.bytes c.in-Err.ensures.bad)

pub returns-then-kept-asked-clause-shows : goal.returns-then-kept-asked-clause-shows
returns-then-kept-asked-clause-shows g c =
    let old = g.F.Folder.seen c.args.folder.now in
    if_some old.told (λ s h. (c.in-Ok.kept, h, (c.if-kept-asked.true, inl (refl, refl))))
    (meta_shown old.told c.args.path.now.items c.read_head.new.buf c.in_ok-count.count c.in-Ok.kept (omega (arith, c.read_head.auto.buf)) c.in_ok-count.ensures.bytes c.in-Ok.ensures.text c.in-Ok.ensures.meta)

pub returns-then-kept-asked-2-clause-shows : goal.returns-then-kept-asked-2-clause-shows
returns-then-kept-asked-2-clause-shows g c =
    let old = g.F.Folder.seen c.args.folder.now in
    if_some old.told (λ s h. (c.in-Ok.kept, h, (c.if-kept-asked-2.true, inr (c.if-kept-asked.false, refl, refl))))
    (meta_shown old.told c.args.path.now.items c.read_head.new.buf c.in_ok-count.count c.in-Ok.kept (omega (arith, c.read_head.auto.buf)) c.in_ok-count.ensures.bytes c.in-Ok.ensures.text c.in-Ok.ensures.meta)

pub returns-clause-shows : goal.returns-clause-shows
returns-clause-shows g c =
    let old = g.F.Folder.seen c.args.folder.now in
    asked_shown old.told c.args.path.now.items c.in-Ok.kept c.args.asked c.if-kept-asked.false c.if-kept-asked-2.false
    (meta_shown old.told c.args.path.now.items c.read_head.new.buf c.in_ok-count.count c.in-Ok.kept (omega (arith, c.read_head.auto.buf)) c.in_ok-count.ensures.bytes c.in-Ok.ensures.text c.in-Ok.ensures.meta)
