use Rattle.std.proofs.Common.{ℕ, List, map, sym, ap, subst, ◌∙◌, arith}
use Rattle.std.specs.Option.{IfSome, option_map}
use Rattle.file_store.specs.Folders.{opened}
use Rattle.file_store.specs.Parts.{WhereTold}
use Rattle.sparse_store.specs.Closings.{AreAllOut, ClosesEach}
use Rattle.sparse_store.specs.InsideStores.{AreApart}
use Rattle.sparse_store.proofs.OpeningFiles.{begins, none_out, one_more, parts_apart, parts_out, closed_again, first_names}
use Rattle.sparse_store.proofs.store.open_files.Goals as goal

pub loop-number-init : goal.loop-number-init
loop-number-init g c = begins g.F.Part.Part.seen c.args.dir.now.items c.args.shape c.reserve.new.self (g.F.Folder.seen c.args.folder.now) (c.in_ok-reserve.ensures.items ∙ c.new-parts.ensures.items) c.in_ok-reserve.ensures.ok

pub open_file-requires : goal.open_file-requires
open_file-requires g c =
    let i = c.loop-number.invariant in
    record { none_out = none_out g.F.Part.Part.seen c.args.dir.now.items c.args.shape c.loop-number.number c.loop-number.parts (g.F.Folder.seen c.args.folder.now) (g.F.Folder.seen c.loop-number.folder) i (omega (arith, c.loop-number-test.true, c.requires.shape.few_files)) c.requires.none_out }

pub close_parts-requires-clause-apart : goal.close_parts-requires-clause-apart
close_parts-requires-clause-apart g c =
    let seen = g.F.Part.Part.seen in
    subst (λ (xs : List _). AreApart (map seen xs)) (sym c.into_vec.ensures)
    (parts_apart seen c.args.dir.now.items c.args.shape c.loop-number.number c.loop-number.parts (g.F.Folder.seen c.args.folder.now) (g.F.Folder.seen c.loop-number.folder) c.loop-number.invariant (omega (arith, c.loop-number-test.true, c.requires.shape.few_files)))

pub close_parts-requires-clause-out : goal.close_parts-requires-clause-out
close_parts-requires-clause-out g c =
    let seen = g.F.Part.Part.seen in
    let mid = g.F.Folder.seen c.open_file.new.folder in
    subst (λ (xs : List _). IfSome mid.told (λ s. AreAllOut (map seen xs) s.out)) (sym c.into_vec.ensures)
    (parts_out seen c.args.dir.now.items c.args.shape c.loop-number.number c.loop-number.parts (g.F.Folder.seen c.args.folder.now) (g.F.Folder.seen c.loop-number.folder) c.loop-number.invariant (omega (arith, c.loop-number-test.true, c.requires.shape.few_files)) mid.told c.in-Err.ensures.err)

pub returns-in-Err-clause-err : goal.returns-in-Err-clause-err
returns-in-Err-clause-err g c =
    let seen = g.F.Part.Part.seen in
    let mid = g.F.Folder.seen c.open_file.new.folder in
    let new = g.F.Folder.seen c.close_parts.new.folder in
    closed_again seen c.args.dir.now.items c.args.shape c.loop-number.number c.loop-number.parts (g.F.Folder.seen c.args.folder.now) (g.F.Folder.seen c.loop-number.folder) c.loop-number.invariant (omega (arith, c.loop-number-test.true, c.requires.shape.few_files)) mid.told new.told c.in-Err.ensures.err c.requires.none_out
    (subst (λ (xs : List _). WhereTold (ClosesEach (map seen xs)) mid.told new.told) c.into_vec.ensures c.close_parts.ensures.closed)

pub loop-number-preserved : goal.loop-number-preserved
loop-number-preserved g c =
    one_more g.F.Part.Part.seen c.args.dir.now.items c.args.shape c.loop-number.number c.loop-number.parts (g.F.Folder.seen c.args.folder.now) (g.F.Folder.seen c.loop-number.folder) c.loop-number.invariant
    c.in-Ok.part c.put.new.self (g.F.Folder.seen c.open_file.new.folder) c.put.ensures.items c.put.ensures.spare c.in-Ok.ensures.part c.in-Ok.ensures.out c.in-Ok.ensures.short c.in-Ok.ensures.cause.later

pub returns-clause-names : goal.returns-clause-names
returns-clause-names g c =
    c.loop-number.invariant.names ∙ ap (first_names c.args.dir.now.items c.args.shape.file) (omega (arith, c.loop-number-test.false, c.loop-number.auto.number-end))

pub returns-clause-out : goal.returns-clause-out
returns-clause-out g c =
    let before = g.F.Folder.seen c.args.folder.now in
    c.loop-number.invariant.out ∙ ap (λ (n : ℕ). option_map (opened (first_names c.args.dir.now.items c.args.shape.file n)) before.told) (omega (arith, c.loop-number-test.false, c.loop-number.auto.number-end))
