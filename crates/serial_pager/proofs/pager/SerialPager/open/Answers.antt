use Rattle.std.proofs.Common.{◌≡◌, ◌∙◌, ◌+◌, ◌++◌, ◌∷◌, ℕ, [], length, map, slice_get, refl, ap, arith, sym, subst}
use Rattle.std.specs.Prelude.{reverse}
use Rattle.std.proofs.lemmas.List.{reverse-reverse}
use Rattle.page_base.specs.ListSeen.{ListSeen}
use Rattle.page_model.specs.Core.{Core}
use Rattle.page_model.specs.Stands.{StandsFor}
use Rattle.stripe_core.specs.declared.config.StripeConfig.{StripeConfig}
use Rattle.serial_pager.specs.Pagers.{rows_by, rows_of}
use Rattle.serial_pager.specs.Sound.{seen_of}
use Rattle.serial_pager.specs.InsideSound.{HandsBack}
use Rattle.serial_pager.proofs.Opening.{making_more, can_next, lengths, rows_back, sound_open, opened, none_left, map_reverse, no_item}
use Rattle.serial_pager.proofs.pager.SerialPager.open.Goals as goal

pub making-init : goal.making-init
making-init g c =
    let none = c.in-Ok-with_capacity.ensures.items in
    let can = c.requires.can in
    let as_many : length c.args.lanes.stripes.items ≡ c.len-count.result = sym c.len-count.ensures in
    let home : length c.into_vec-home.result.items ≡ length c.args.lanes.stripes.items = ap length c.into_vec-home.ensures in
    record {
      making = record {
        config = ap (λ (n : ℕ). record { layout = c.args.config.layout; number = n; faults = c.args.config.faults; high = c.args.config.high; low = c.args.config.low; shapes = c.args.config.shapes }) (sym (ap length none));
        rows_are = sym (ap (λ xs. map (λ x. x.core.setup.lanes) xs ++ reverse (rows_by g.S.Store.seen c.reverse.new.self.items)) none
            ∙ ap (λ xs. reverse (rows_by g.S.Store.seen xs)) (c.reverse.ensures.items ∙ ap reverse c.into_vec-home.ensures)
            ∙ ap reverse (map_reverse (λ (row : ListSeen _). map g.S.Store.seen row.items) c.args.lanes.stripes.items)
            ∙ reverse-reverse (rows_by g.S.Store.seen c.args.lanes.stripes.items));
        noted_are = sym (ap (λ xs. map (λ x. x.journal) xs ++ reverse c.reverse-2.new.self.items) none ∙ ap reverse (c.reverse-2.ensures.items ∙ ap reverse c.into_vec-noted.ensures) ∙ reverse-reverse c.args.journals.items);
        made = λ s x e. absurd (no_item s (sym (ap (λ xs. slice_get xs s) none) ∙ e));
      };
      stripes_room = omega (arith, c.in-Ok-with_capacity.ensures.len, c.in-Ok-with_capacity.ensures.exact, c.reverse.ensures.len, c.into_vec-home.result.ok.0, home, as_many);
      home_room = omega (arith, c.in-Ok-with_capacity.ensures.len, c.reverse.ensures.len, c.reverse.ensures.capacity, c.into_vec-home.result.ok.0, c.into_vec-home.result.ok.1);
      noted_room = omega (arith, c.in-Ok-with_capacity.ensures.len, c.reverse-2.ensures.len, c.reverse-2.ensures.capacity, c.into_vec-noted.result.ok.0, c.into_vec-noted.result.ok.1);
    }

pub new-requires : goal.new-requires
new-requires g c =
    let rows = rows_of g.S.Store.seen c.args.lanes in
    record { can = can_next g.S.Store.seen c.args.config c.making.config rows c.args.journals.items c.requires.can c.making.stripes.items c.making.home.items c.pop.new.self.items c.making.noted.items c.pop-in-Some.new.self.items c.in-Some.own c.in-Some-pop.journal c.making.invariant.making c.in-Some.ensures.items }

pub new-requires-in-Ok-new : goal.new-requires-in-Ok-new
new-requires-in-Ok-new g c =
    let rows = rows_of g.S.Store.seen c.args.lanes in
    record {
      fresh = record {
        config = c.making.config;
        lanes = map g.S.Store.seen c.in-Some.own.items;
        can = can_next g.S.Store.seen c.args.config c.making.config rows c.args.journals.items c.requires.can c.making.stripes.items c.making.home.items c.pop.new.self.items c.making.noted.items c.pop-in-Some.new.self.items c.in-Some.own c.in-Some-pop.journal c.making.invariant.making c.in-Some.ensures.items;
        is = c.in-Ok-new.ensures.fresh;
        stands = c.in-Ok-new.ensures.stands;
      };
    }

pub making-preserved : goal.making-preserved
making-preserved g c =
    let rows = rows_of g.S.Store.seen c.args.lanes in
    let e = c.new-in-Ok-new.ensures in
    let i = c.making.invariant in
    let more = making_more g.S.Store.seen c.args.config c.making.config rows c.args.journals.items c.requires.can c.making.stripes.items c.making.home.items c.pop.new.self.items c.making.noted.items c.pop-in-Some.new.self.items c.in-Some.own c.in-Some-pop.journal i.making c.in-Some.ensures.items
    c.in-Some-pop.ensures.items c.new-in-Ok-new.result (e.core ∙ c.in-Ok-new.ensures.fresh) e.journal (subst (λ (d : Core). StandsFor [] d) (sym e.core) c.in-Ok-new.ensures.stands) e.rest e.open_ (record c.making.config { number = c.making.config.number + 1 }) refl in
    record {
      making = rw c.push_reserved.ensures.items more;
      stripes_room = omega (arith, i.stripes_room, c.in-Some.ensures.cases, c.push_reserved.ensures.len, c.push_reserved.ensures.capacity);
      home_room = omega (arith, i.home_room, c.in-Some.ensures.cases, c.in-Some.ensures.capacity, c.push_reserved.ensures.len);
      noted_room = omega (arith, i.noted_room, c.in-Some-pop.ensures.cases, c.in-Some-pop.ensures.capacity, c.push_reserved.ensures.len);
    }

pub unmade-requires-clause-rest : goal.unmade-requires-clause-rest
unmade-requires-clause-rest g c = λ s x e. (c.making.invariant.making.made s x e).rest

pub returns-in-Err-OutOfMemory-clause-back : goal.returns-in-Err-OutOfMemory-clause-back
returns-in-Err-OutOfMemory-clause-back g c =
    let rows = rows_of g.S.Store.seen c.args.lanes in
    let same : c.push_reserved-in-Err-OutOfMemory.new.self.items ≡ c.making.home.items =
    c.push_reserved-in-Err-OutOfMemory.ensures.items ∙ ap (λ x. c.pop.new.self.items ++ x ∷ []) (rw c.in-Err-OutOfMemory.ensures.back refl) ∙ sym c.in-Some.ensures.items in
    rows_back g.S.Store.seen c.args.config c.making.config rows c.args.journals.items c.requires.can c.making.stripes.items c.making.home.items c.making.noted.items (rows_of g.S.Store.seen c.unmade.result.lanes) c.making.invariant.making
    (subst (λ xs. HandsBack c.making.stripes.items (rows_by g.S.Store.seen xs) (rows_of g.S.Store.seen c.unmade.result.lanes)) same c.unmade.ensures.lanes)

pub overflow_add-config : goal.overflow_add-config
overflow_add-config g c =
    let rows = rows_of g.S.Store.seen c.args.lanes in
    let n = lengths g.S.Store.seen c.args.config c.making.config rows c.args.journals.items c.requires.can c.making.stripes.items c.making.home.items c.making.noted.items c.making.invariant.making in
    omega (arith, n.0, c.args.config.layout.few_stripes, ap (λ (k : StripeConfig). k.number) c.making.invariant.making.config)

pub invariant_of-result : goal.invariant_of-result
invariant_of-result g c =
    let rows = rows_of g.S.Store.seen c.args.lanes in
    let i = c.making.invariant in
    let n = lengths g.S.Store.seen c.args.config c.making.config rows c.args.journals.items c.requires.can c.making.stripes.items c.making.home.items c.making.noted.items i.making in
    let empty : c.making.home.items ≡ [] = none_left c.making.home.items (omega (arith, c.in_default-pop.ensures.cases, c.making.home.ok.0)) in
    let noted : c.making.noted.items ≡ [] = none_left c.making.noted.items (omega (arith, n.0, n.1, ap length empty)) in
    let layout = ap (λ (k : StripeConfig). k.layout) i.making.config in
    let popped : c.pop.new.self.items ≡ [] = none_left c.pop.new.self.items (omega (arith, c.in_default-pop.ensures.cases, c.pop.new.self.ok.0)) in (
      sound_open g.S.Store.seen c.args.config c.making.config rows c.args.journals.items c.requires.can c.making.stripes.items c.making.home.items c.making.noted.items i.making empty (seen_of c.making.config c.making.stripes.items 0) refl c.args.config.layout.some_stripe,
      omega (arith, n.0, ap length empty, ap (λ l. l.stripes) layout),
      c.in-Ok.ensures.len ∙ c.page_size.ensures ∙ sym (ap (λ l. l.page_size) layout),
      popped,
      noted,
      omega (arith, i.home_room, c.in_default-pop.ensures.capacity, c.making.stripes.ok.0),
      omega (arith, i.noted_room, c.making.stripes.ok.0),
    )

pub returns-clause-opened : goal.returns-clause-opened
returns-clause-opened g c =
    let rows = rows_of g.S.Store.seen c.args.lanes in
    let i = c.making.invariant in
    let empty : c.making.home.items ≡ [] = none_left c.making.home.items (omega (arith, c.in_default-pop.ensures.cases, c.making.home.ok.0)) in
    opened g.S.Store.seen c.args.config c.making.config rows c.args.journals.items c.requires.can c.making.stripes.items c.making.home.items c.making.noted.items i.making empty (seen_of c.making.config c.making.stripes.items 0) refl
