use Rattle.std.proofs.Common.{◌≡◌, ◌∙◌, ◌+◌, ◌++◌, ◌∷◌, [], length, map, refl, ap, arith, sym, subst}
use Rattle.std.specs.Prelude.{reverse}
use Rattle.std.proofs.lemmas.List.{reverse-reverse, length-map}
use Rattle.page_base.specs.ListSeen.{ListSeen}
use Rattle.stripe_core.specs.declared.config.StripeConfig.{StripeConfig}
use Rattle.umap_pager.specs.Ended.{rows_seen}
use Rattle.umap_pager.specs.InsideEnded.{EndsBefore}
use Rattle.umap_pager.proofs.Ending.{none_left}
use Rattle.umap_pager.proofs.Locking.{Opening, opening_none, opening_more, can_next, journal_at, lengths, may_end, together, opens, gives_back, rows_turned, rows_put_back}
use Rattle.umap_pager.proofs.pager.Pager.open.Goals as goal

pub making-init : goal.making-init
making-init g c =
    let rows = rows_seen g.S.Store.seen c.args.lanes.stripes.items in
    let cfg : StripeConfig = record { layout = c.args.config.now.layout; number = 0; faults = c.args.config.now.faults; high = c.args.config.now.high; low = c.args.config.now.low; shapes = c.in-Ok.shapes } in
    let home = c.reverse.new.self.items in
    let noted = c.reverse-2.new.self.items in
    let as_many : length c.args.lanes.stripes.items ≡ c.len-count.result = sym c.len-count.ensures in
    let many : length c.into_vec-home.result.items ≡ length c.args.lanes.stripes.items = ap length c.into_vec-home.ensures in
    record {
      opening =
          subst (λ ls. Opening g.S.Store.seen c.args.config.now c.args.table rows c.args.journals.items cfg ls c.in-Ok-with_capacity-2.passes.items home noted) (sym c.in-Ok-with_capacity-3.ensures.items)
          (subst (λ ps. Opening g.S.Store.seen c.args.config.now c.args.table rows c.args.journals.items cfg [] ps home noted) (sym c.in-Ok-with_capacity-2.ensures.items)
          (opening_none g.S.Store.seen c.args.config.now c.args.table rows c.args.journals.items c.requires.can cfg home noted refl refl refl refl refl c.in-Ok.ensures.shapes
          (rows_turned g.S.Store.seen c.args.lanes.stripes.items home (c.reverse.ensures.items ∙ ap reverse c.into_vec-home.ensures))
          (sym (ap reverse (c.reverse-2.ensures.items ∙ ap reverse c.into_vec-noted.ensures) ∙ reverse-reverse c.args.journals.items))));
      locks_room = omega (arith, c.in-Ok-with_capacity-3.ensures.len, c.in-Ok-with_capacity-3.ensures.exact, c.reverse.ensures.len, c.into_vec-home.result.ok.0, many, as_many);
      passes_room = omega (arith, c.in-Ok-with_capacity-2.ensures.len, c.in-Ok-with_capacity-2.ensures.exact, c.reverse.ensures.len, c.into_vec-home.result.ok.0, many, as_many);
      home_room = omega (arith, c.in-Ok-with_capacity-3.ensures.len, c.reverse.ensures.len, c.reverse.ensures.capacity, c.into_vec-home.result.ok.0, c.into_vec-home.result.ok.1);
      noted_room = omega (arith, c.in-Ok-with_capacity-3.ensures.len, c.reverse-2.ensures.len, c.reverse-2.ensures.capacity, c.into_vec-noted.result.ok.0, c.into_vec-noted.result.ok.1);
    }

pub lock_stripe-requires-clause-can : goal.lock_stripe-requires-clause-can
lock_stripe-requires-clause-can g c =
    let rows = rows_seen g.S.Store.seen c.args.lanes.stripes.items in
    can_next g.S.Store.seen c.args.config.now c.args.table rows c.args.journals.items c.requires.can c.making.own_config c.making.locks.items c.making.passes.items c.making.home.items c.pop.new.self.items c.making.noted.items c.pop-in-Some.new.self.items c.in-Some.own c.in-Some-pop.journal c.making.invariant.opening c.in-Some.ensures.items c.in-Some-pop.ensures.items c.in-Ok.ensures.regions c.in-Ok.ensures.few c.in-Ok.ensures.groups

pub lock_stripe-requires-clause-noted : goal.lock_stripe-requires-clause-noted
lock_stripe-requires-clause-noted g c =
    let rows = rows_seen g.S.Store.seen c.args.lanes.stripes.items in
    c.requires.noted (length c.making.locks.items) c.in-Some-pop.journal (journal_at g.S.Store.seen c.args.config.now c.args.table rows c.args.journals.items c.requires.can c.making.own_config c.making.locks.items c.making.passes.items c.making.home.items c.pop.new.self.items c.making.noted.items c.pop-in-Some.new.self.items c.in-Some.own c.in-Some-pop.journal c.making.invariant.opening c.in-Some.ensures.items c.in-Some-pop.ensures.items)

pub end_all-lanes-requires-clause-may : goal.end_all-lanes-requires-clause-may
end_all-lanes-requires-clause-may g c =
    let rows = rows_seen g.S.Store.seen c.args.lanes.stripes.items in
    may_end g.S.Store.seen c.args.config.now c.args.table rows c.args.journals.items c.requires.can c.making.own_config c.making.locks.items c.making.passes.items c.making.home.items c.making.noted.items c.making.invariant.opening

pub end_all-lanes-requires-clause-stripes : goal.end_all-lanes-requires-clause-stripes
end_all-lanes-requires-clause-stripes g c =
    let rows = rows_seen g.S.Store.seen c.args.lanes.stripes.items in
    let n = lengths g.S.Store.seen c.args.config.now c.args.table rows c.args.journals.items c.requires.can c.making.own_config c.making.locks.items c.making.passes.items c.making.home.items c.making.noted.items c.making.invariant.opening in
    omega (arith, n.0, c.requires.can.stripes, length-map c.args.lanes.stripes.items (λ (row : ListSeen _). map g.S.Store.seen row.items), c.len-count.ensures, c.in-Ok-with_capacity.ensures.len, c.in-Ok-with_capacity.ensures.capacity, c.making.locks.ok.0)

pub returns-in-Err-clause-back : goal.returns-in-Err-clause-back
returns-in-Err-clause-back g c =
    let rows = rows_seen g.S.Store.seen c.args.lanes.stripes.items in
    let back = c.push_reserved-in-Err.new.self.items in
    let same_noted : c.push_reserved-in-Err-2.new.self.items ≡ c.making.noted.items =
    c.push_reserved-in-Err-2.ensures.items ∙ ap (λ j. c.pop-in-Some.new.self.items ++ j ∷ []) c.in-Err.ensures.kept ∙ sym c.in-Some-pop.ensures.items in
    let same_home : rows_seen g.S.Store.seen back ≡ rows_seen g.S.Store.seen c.making.home.items =
    rows_put_back g.S.Store.seen c.making.home.items back c.pop.new.self.items c.in-Some.own c.in-Err.field-0.lanes c.in-Some.ensures.items c.push_reserved-in-Err.ensures.items c.in-Err.ensures.back in
    gives_back g.S.Store.seen c.args.config.now c.args.table rows c.args.journals.items c.requires.can g.J.Journal.has_noted g.J.Journal.made_with c.requires.noted c.making.own_config c.making.locks.items c.making.passes.items c.making.home.items back c.making.noted.items c.in-Ok-with_capacity.ends.items c.end_all-lanes.result.lanes.stripes.items c.end_all-lanes.result.journals.items c.end_all-lanes.result.stripes.items
    c.making.invariant.opening same_home
    (subst (λ js. EndsBefore g.J.Journal.has_noted g.J.Journal.made_with g.S.Store.seen c.making.locks.items c.making.passes.items back js c.in-Ok-with_capacity.ends.items c.end_all-lanes.result.lanes.stripes.items c.end_all-lanes.result.journals.items c.end_all-lanes.result.stripes.items) same_noted c.end_all-lanes.ensures.ended)

pub overflow_add-own_config : goal.overflow_add-own_config
overflow_add-own_config g c =
    let rows = rows_seen g.S.Store.seen c.args.lanes.stripes.items in
    let n = lengths g.S.Store.seen c.args.config.now c.args.table rows c.args.journals.items c.requires.can c.making.own_config c.making.locks.items c.making.passes.items c.making.home.items c.making.noted.items c.making.invariant.opening in
    omega (arith, n.0, c.args.config.now.layout.few_stripes, c.making.invariant.opening.number)

pub making-preserved : goal.making-preserved
making-preserved g c =
    let rows = rows_seen g.S.Store.seen c.args.lanes.stripes.items in
    let i = c.making.invariant in
    let e = c.in-Ok-lock_stripe.ensures in
    let next = record c.making.own_config { number = c.making.own_config.number + 1 } in
    let more = opening_more g.S.Store.seen c.args.config.now c.args.table rows c.args.journals.items c.requires.can c.making.own_config c.making.locks.items c.making.passes.items c.making.home.items c.pop.new.self.items c.making.noted.items c.pop-in-Some.new.self.items c.in-Some.own c.in-Some-pop.journal c.making.invariant.opening c.in-Some.ensures.items c.in-Some-pop.ensures.items next c.in-Ok-lock_stripe.lock c.in-Ok-lock_stripe.pass refl e.setup e.journal e.limits.0 e.limits.1 e.pass in
    record {
      opening =
          subst (λ ls. Opening g.S.Store.seen c.args.config.now c.args.table rows c.args.journals.items next ls c.push_reserved-in-Ok-lock_stripe.new.self.items c.pop.new.self.items c.pop-in-Some.new.self.items) (sym c.push_reserved.ensures.items)
          (subst (λ ps. Opening g.S.Store.seen c.args.config.now c.args.table rows c.args.journals.items next (c.making.locks.items ++ c.in-Ok-lock_stripe.lock ∷ []) ps c.pop.new.self.items c.pop-in-Some.new.self.items) (sym c.push_reserved-in-Ok-lock_stripe.ensures.items) more);
      locks_room = omega (arith, i.locks_room, c.in-Some.ensures.cases, c.push_reserved.ensures.len, c.push_reserved.ensures.capacity);
      passes_room = omega (arith, i.passes_room, c.in-Some.ensures.cases, c.push_reserved-in-Ok-lock_stripe.ensures.len, c.push_reserved-in-Ok-lock_stripe.ensures.capacity);
      home_room = omega (arith, i.home_room, c.in-Some.ensures.cases, c.in-Some.ensures.capacity, c.push_reserved.ensures.len);
      noted_room = omega (arith, i.noted_room, c.in-Some-pop.ensures.cases, c.in-Some-pop.ensures.capacity, c.push_reserved.ensures.len);
    }

pub invariant_of-pager : goal.invariant_of-pager
invariant_of-pager g c =
    let rows = rows_seen g.S.Store.seen c.args.lanes.stripes.items in
    let i = c.making.invariant in
    let n = lengths g.S.Store.seen c.args.config.now c.args.table rows c.args.journals.items c.requires.can c.making.own_config c.making.locks.items c.making.passes.items c.making.home.items c.making.noted.items c.making.invariant.opening in
    let empty : c.making.home.items ≡ [] = none_left c.making.home.items (omega (arith, c.in_default-pop.ensures.cases, c.making.home.ok.0)) in
    let noted : c.making.noted.items ≡ [] = none_left c.making.noted.items (omega (arith, n.0, n.1, ap length empty)) in
    together g.S.Store.seen c.args.config.now c.args.table rows c.args.journals.items c.requires.can c.making.own_config c.making.locks.items c.making.passes.items c.making.home.items c.making.noted.items c.making.invariant.opening empty noted c.in-Ok.ensures.groups c.in-Ok.ensures.whole

pub returns-clause-opened : goal.returns-clause-opened
returns-clause-opened g c =
    let rows = rows_seen g.S.Store.seen c.args.lanes.stripes.items in
    let n = lengths g.S.Store.seen c.args.config.now c.args.table rows c.args.journals.items c.requires.can c.making.own_config c.making.locks.items c.making.passes.items c.making.home.items c.making.noted.items c.making.invariant.opening in
    let empty : c.making.home.items ≡ [] = none_left c.making.home.items (omega (arith, c.in_default-pop.ensures.cases, c.making.home.ok.0)) in
    let noted : c.making.noted.items ≡ [] = none_left c.making.noted.items (omega (arith, n.0, n.1, ap length empty)) in
    opens g.S.Store.seen c.args.config.now c.args.table rows c.args.journals.items c.requires.can c.making.own_config c.making.locks.items c.making.passes.items c.making.home.items c.making.noted.items c.making.invariant.opening empty noted (length c.in-Ok-vec.scratch.items) (sym c.in-Ok-vec.scratch.ok.0 ∙ c.in-Ok-vec.ensures.len ∙ c.page_size.ensures)
