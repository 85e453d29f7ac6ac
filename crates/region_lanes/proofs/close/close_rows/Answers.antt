use Rattle.std.proofs.Common.{◌≡◌, ◌⊎◌, inl, inr, ◌<◌, ◌≤◌, true, List, [], ◌∷◌, map, length, Option, refl, sym, ap, subst, ◌∙◌, arith, rules}
use Rattle.std.specs.Option.{IfSome}
use Rattle.page_base.specs.Lanes.{LaneSeen, Rose}
use Rattle.file_store.specs.Parts.{WhereTold}
use Rattle.region_lanes.specs.contracts.any_lane.AnyLaneStore.TheImpl.{ghosts}
use Rattle.region_lanes.specs.Closings.{AllOut, ClosesAll, any_fault}
use Rattle.region_lanes.specs.InsideClosed.{flat_rows}
use Rattle.region_lanes.proofs.Closing.{none_closed, one_row_more, rest_out, row_out, unroll, row_faults, none_left, some_left, no_fault}
use Rattle.region_lanes.proofs.close.close_rows.Goals as goal

pub rows-init : goal.rows-init
rows-init g c = record { out = c.requires.out; closed = λ new h. h; later = omega arith; faults = λ h. inr h }

pub close_list-requires : goal.close_list-requires
close_list-requires g c =
    let seen = (ghosts g.row.F-Part g.F.Part.Part g.F.Part.Part-dict).seen in
    let x = c.remove-row.result in
    let rest = c.remove-row.new.self.items in
    let now = (g.F.Folder.seen c.rows.folder).told in
    let e : c.rows.rows.items ≡ x ∷ rest = unroll c.rows.rows.items rest x (some_left c.rows.rows.items (search (rules, c.rows-test.true))) c.remove-row.ensures.value c.remove-row.ensures.items in
    record { out = row_out (map seen x.items) (flat_rows seen rest) now (subst (λ (xs : List _). IfSome now (λ s. AllOut (flat_rows seen xs) s.out)) e c.rows.invariant.out) }

pub rows-preserved : goal.rows-preserved
rows-preserved g c =
    let seen = (ghosts g.row.F-Part g.F.Part.Part g.F.Part.Part-dict).seen in
    let x = c.remove-row.result in
    let rest = c.remove-row.new.self.items in
    let now = (g.F.Folder.seen c.rows.folder).told in
    let mid = (g.F.Folder.seen c.close_list.new.folder).told in
    let i = c.rows.invariant in
    let e : c.rows.rows.items ≡ x ∷ rest = unroll c.rows.rows.items rest x (some_left c.rows.rows.items (search (rules, c.rows-test.true))) c.remove-row.ensures.value c.remove-row.ensures.items in
    record {
      out = rest_out (map seen x.items) (flat_rows seen rest) now mid (subst (λ (xs : List _). IfSome now (λ s. AllOut (flat_rows seen xs) s.out)) e i.out) c.close_list.ensures.closed;
      closed = λ new h. i.closed new (subst (λ (xs : List _). WhereTold (ClosesAll (flat_rows seen xs)) now new) (sym e) (one_row_more (map seen x.items) (flat_rows seen rest) now mid new c.close_list.ensures.closed h));
      later = omega (arith, i.later, c.close_list.ensures.later);
      faults = λ any. row_faults (map seen x.items) (flat_rows seen rest) _ _ _ c.close_list.ensures.later c.close_list.ensures.faults i.later
          (subst (λ (xs : List _). Rose (g.F.Folder.seen c.args.folder.now).count (g.F.Folder.seen c.rows.folder).count ⊎ (any_fault (flat_rows seen xs) ≡ true)) e (i.faults any));
    }

pub returns-clause-closed : goal.returns-clause-closed
returns-clause-closed g c =
    let seen = (ghosts g.row.F-Part g.F.Part.Part g.F.Part.Part-dict).seen in
    let now = (g.F.Folder.seen c.rows.folder).told in
    c.rows.invariant.closed now (subst (λ (xs : List _). WhereTold (ClosesAll (flat_rows seen xs)) now now) (sym (none_left c.rows.rows.items (search (rules, c.rows-test.false)))) (none_closed now))

pub returns-clause-faults : goal.returns-clause-faults
returns-clause-faults g c = λ any.
    let seen = (ghosts g.row.F-Part g.F.Part.Part g.F.Part.Part-dict).seen in
    no_fault _ (subst (λ (xs : List _). Rose (g.F.Folder.seen c.args.folder.now).count (g.F.Folder.seen c.rows.folder).count ⊎ (any_fault (flat_rows seen xs) ≡ true)) (none_left c.rows.rows.items (search (rules, c.rows-test.false))) (c.rows.invariant.faults any))
