use Rattle.std.proofs.Common.{◌≡◌, ◌⊎◌, inl, inr, ◌<◌, ◌≤◌, true, List, [], ◌∷◌, map, length, Option, refl, sym, ap, subst, ◌∙◌, arith, rules}
use Rattle.std.specs.Option.{IfSome}
use Rattle.page_base.specs.Lanes.{LaneSeen, Rose}
use Rattle.file_store.specs.Parts.{WhereTold}
use Rattle.region_lanes.specs.contracts.any_lane.AnyLaneStore.TheImpl.{ghosts}
use Rattle.region_lanes.specs.Closings.{AllOut, ClosesAll, any_fault}
use Rattle.region_lanes.proofs.Closing.{none_closed, one_more, still_out, first_out, unroll, faults_on, none_left, some_left, no_fault}
use Rattle.region_lanes.proofs.close.close_row.Goals as goal

pub lanes-init : goal.lanes-init
lanes-init g c = record { out = c.requires.out; closed = λ new h. h; later = omega arith; faults = λ h. inr h }

pub close_lane-requires : goal.close_lane-requires
close_lane-requires g c =
    let seen = (ghosts g.row.F-Part g.F.Part.Part g.F.Part.Part-dict).seen in
    let x = c.remove-lane.result in
    let rest = c.remove-lane.new.self.items in
    let now = (g.F.Folder.seen c.lanes.folder).told in
    let e : c.lanes.lanes.items ≡ x ∷ rest = unroll c.lanes.lanes.items rest x (some_left c.lanes.lanes.items (search (rules, c.lanes-test.true))) c.remove-lane.ensures.value c.remove-lane.ensures.items in
    record { out = first_out (seen x) (map seen rest) now (subst (λ (xs : List _). IfSome now (λ s. AllOut (map seen xs) s.out)) e c.lanes.invariant.out) }

pub lanes-preserved : goal.lanes-preserved
lanes-preserved g c =
    let seen = (ghosts g.row.F-Part g.F.Part.Part g.F.Part.Part-dict).seen in
    let x = c.remove-lane.result in
    let rest = c.remove-lane.new.self.items in
    let now = (g.F.Folder.seen c.lanes.folder).told in
    let mid = (g.F.Folder.seen c.close_lane.new.folder).told in
    let i = c.lanes.invariant in
    let e : c.lanes.lanes.items ≡ x ∷ rest = unroll c.lanes.lanes.items rest x (some_left c.lanes.lanes.items (search (rules, c.lanes-test.true))) c.remove-lane.ensures.value c.remove-lane.ensures.items in
    record {
      out = still_out (seen x) (map seen rest) now mid (subst (λ (xs : List _). IfSome now (λ s. AllOut (map seen xs) s.out)) e i.out) c.close_lane.ensures.closed;
      closed = λ new h. i.closed new (subst (λ (xs : List _). WhereTold (ClosesAll (map seen xs)) now new) (sym e) (one_more (seen x) (map seen rest) now mid new c.close_lane.ensures.closed h));
      later = omega (arith, i.later, c.close_lane.ensures.later);
      faults = λ any. faults_on (seen x) (map seen rest) _ _ _ c.close_lane.ensures.later c.close_lane.ensures.faults i.later
          (subst (λ (xs : List _). Rose (g.F.Folder.seen c.args.folder.now).count (g.F.Folder.seen c.lanes.folder).count ⊎ (any_fault (map seen xs) ≡ true)) e (i.faults any));
    }

pub returns-clause-closed : goal.returns-clause-closed
returns-clause-closed g c =
    let seen = (ghosts g.row.F-Part g.F.Part.Part g.F.Part.Part-dict).seen in
    let now = (g.F.Folder.seen c.lanes.folder).told in
    c.lanes.invariant.closed now (subst (λ (xs : List _). WhereTold (ClosesAll (map seen xs)) now now) (sym (none_left c.lanes.lanes.items (search (rules, c.lanes-test.false)))) (none_closed now))

pub returns-clause-faults : goal.returns-clause-faults
returns-clause-faults g c = λ any.
    let seen = (ghosts g.row.F-Part g.F.Part.Part g.F.Part.Part-dict).seen in
    no_fault _ (subst (λ (xs : List _). Rose (g.F.Folder.seen c.args.folder.now).count (g.F.Folder.seen c.lanes.folder).count ⊎ (any_fault (map seen xs) ≡ true)) (none_left c.lanes.lanes.items (search (rules, c.lanes-test.false))) (c.lanes.invariant.faults any))
