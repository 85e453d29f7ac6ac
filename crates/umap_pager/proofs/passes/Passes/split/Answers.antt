use Rattle.std.proofs.Common.{rules, ◌≡◌, ◌+◌, ◌<◌, [], ◌∷◌, ◌++◌, length, map, slice_set, Some, length-append, arith, refl, sym, subst, ap, ◌∙◌}
use Rattle.std.specs.List.{slice_get}
use Rattle.std.proofs.lemmas.Option.{slice_get_read, slice_get_within}
use Rattle.turn_lock.specs.Seen.{split_once, newcomer}
use Rattle.umap_pager.specs.Passes.{FitTo}
use Rattle.umap_pager.proofs.Dividing.{SplitSoFar, split_none, split_more, all_changed, split_fit, newcomers_fit}
use Rattle.umap_pager.proofs.passes.Passes.split.Goals as goal

pub loop-stripe-init : goal.loop-stripe-init
loop-stripe-init g c =
    let same = ap (λ v. v.passes) c.self.view_is in
    record {
      many = ap length same;
      scratch = ap (λ v. v.scratch) c.self.view_is;
      long = ap length c.in-Ok-with_capacity.ensures.items;
      room = c.in-Ok-with_capacity.ensures.capacity;
      split = subst (λ nows. SplitSoFar c.args.self.now.passes nows c.in-Ok-with_capacity.passes.items 0) (sym same) (split_none c.args.self.now.passes c.in-Ok-with_capacity.passes.items);
    }

pub split-requires : goal.split-requires
split-requires g c =
    let i = c.loop-stripe.stripe in
    let v = c.loop-stripe.invariant in
    let below : i < length c.loop-stripe.self-inside.passes.items = omega (arith, c.loop-stripe-test.true, c.len-count.ensures, v.many, ap (λ v. length v.passes) c.self.view_is) in
    let pass : slice_get c.args.self.now.passes i ≡ Some c.index_mut.result.now = sym (v.split.rest i (omega arith)) ∙ slice_get_read c.loop-stripe.self-inside.passes.items (length c.loop-stripe.self-inside.passes.items) i c.index_mut.result.now refl below c.index_mut.ensures.value in
    let inside : i < length c.pager.inside.locks.items = omega (arith, below, v.many, c.requires.fit.as_many, ap (λ v. length v.locks) c.pager.view_is) in
    let lock = subst (λ ls. slice_get ls i ≡ Some c.index.result.now) (ap (λ v. v.locks) c.pager.view_is) (slice_get_read c.pager.inside.locks.items (length c.pager.inside.locks.items) i c.index.result.now refl inside c.index.ensures) in
    record { own = c.requires.fit.each i c.index.result.now c.index_mut.result.now lock pass }

pub unreachable-requires : goal.unreachable-requires
unreachable-requires g c =
    let i = c.loop-stripe.stripe in
    let v = c.loop-stripe.invariant in
    let below : i < length c.loop-stripe.self-inside.passes.items = omega (arith, c.loop-stripe-test.true, c.len-count.ensures, v.many, ap (λ v. length v.passes) c.self.view_is) in
    let pass : slice_get c.args.self.now.passes i ≡ Some c.index_mut.result.now = sym (v.split.rest i (omega arith)) ∙ slice_get_read c.loop-stripe.self-inside.passes.items (length c.loop-stripe.self-inside.passes.items) i c.index_mut.result.now refl below c.index_mut.ensures.value in
    c.have_spare.ensures.0 c.if-not-have_spare.false i c.index_mut.result.now pass (c.in_default-split.ensures.none.0 refl)

pub loop-stripe-preserved : goal.loop-stripe-preserved
loop-stripe-preserved g c =
    let i = c.loop-stripe.stripe in
    let v = c.loop-stripe.invariant in
    let below : i < length c.loop-stripe.self-inside.passes.items = omega (arith, c.loop-stripe-test.true, c.len-count.ensures, v.many, ap (λ v. length v.passes) c.self.view_is) in
    let p = c.index_mut.result.now in
    let pass : slice_get c.args.self.now.passes i ≡ Some p = sym (v.split.rest i (omega arith)) ∙ slice_get_read c.loop-stripe.self-inside.passes.items (length c.loop-stripe.self-inside.passes.items) i p refl below c.index_mut.ensures.value in
    let more = split_more c.args.self.now.passes c.loop-stripe.self-inside.passes.items c.loop-stripe.passes.items i p pass v.long v.split in
    let e = c.in-Ok-split.ensures in
    record {
      many = search rules;
      scratch = v.scratch;
      long = ap length c.push_reserved.ensures.items ∙ length-append c.loop-stripe.passes.items (c.in-Ok-split.pass ∷ []) ∙ ap (λ n. n + 1) v.long;
      room = omega (arith, v.room, c.push_reserved.ensures.capacity);
      split =
          subst (λ q. SplitSoFar c.args.self.now.passes (slice_set c.loop-stripe.self-inside.passes.items i q) c.push_reserved.new.self.items (i + 1)) (sym e.this)
          (subst (λ news. SplitSoFar c.args.self.now.passes (slice_set c.loop-stripe.self-inside.passes.items i (split_once p)) news (i + 1)) (sym (c.push_reserved.ensures.items ∙ ap (λ q. c.loop-stripe.passes.items ++ q ∷ []) e.other)) more);
    }

pub returns-clause-this : goal.returns-clause-this
returns-clause-this g c =
    let v = c.loop-stripe.invariant in
    let all = all_changed split_once c.args.self.now.passes c.loop-stripe.self-inside.passes.items v.many (λ s x e.
    let within = slice_get_within c.args.self.now.passes s x e in
    v.split.split s x (omega (arith, within, c.loop-stripe-test.false, c.len-count.ensures, ap (λ v. length v.passes) c.self.view_is)) e) in
    ap (λ ps. record { passes = ps; scratch = length c.loop-stripe.self-inside.scratch.items }) all ∙ ap (λ n. record { passes = map split_once c.args.self.now.passes; scratch = n }) v.scratch

pub returns-clause-other : goal.returns-clause-other
returns-clause-other g c =
    let v = c.loop-stripe.invariant in
    let many : length c.loop-stripe.passes.items ≡ length c.args.self.now.passes = omega (arith, v.long, c.loop-stripe-test.false, c.loop-stripe.auto.stripe-end, c.len-count.ensures, ap (λ v. length v.passes) c.self.view_is) in
    let all = all_changed newcomer c.args.self.now.passes c.loop-stripe.passes.items many (λ s x e.
    let within = slice_get_within c.args.self.now.passes s x e in
    v.split.off s x (omega (arith, within, c.loop-stripe-test.false, c.len-count.ensures, ap (λ v. length v.passes) c.self.view_is)) e) in
    ap (λ ps. record { passes = ps; scratch = length c.in-Ok.scratch.items }) all ∙ ap (λ n. record { passes = map newcomer c.args.self.now.passes; scratch = n }) (sym c.in-Ok.scratch.ok.0 ∙ c.in-Ok.ensures.len ∙ c.len.ensures ∙ c.self.inside.scratch.ok.0 ∙ ap (λ v. v.scratch) c.self.view_is)

pub returns-clause-fit : goal.returns-clause-fit
returns-clause-fit g c = subst (FitTo c.args.pager.now) (sym (returns-clause-this g c)) (split_fit c.args.pager.now c.args.self.now c.requires.fit)

pub returns-clause-other_fit : goal.returns-clause-other_fit
returns-clause-other_fit g c = subst (FitTo c.args.pager.now) (sym (returns-clause-other g c)) (newcomers_fit c.args.pager.now c.args.self.now c.requires.fit)
