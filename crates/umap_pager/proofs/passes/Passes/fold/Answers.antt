use Rattle.std.proofs.Common.{rules, ◌≡◌, ◌<◌, [], ◌∷◌, length, length-append, slice_set, Some, arith, refl, sym, subst, ap, ◌∙◌}
use Rattle.std.specs.List.{slice_get}
use Rattle.std.proofs.lemmas.Option.{slice_get_read, slice_get_within}
use Rattle.umap_pager.specs.Passes.{passes_seen}
use Rattle.umap_pager.proofs.Dividing.{FoldSoFar, fold_none, fold_at, fold_more, folds_all, fold_fit}
use Rattle.umap_pager.proofs.Ending.{none_left}
use Rattle.umap_pager.proofs.passes.Passes.fold.Goals as goal

pub stripes-init : goal.stripes-init
stripes-init g c =
    let same = ap (λ v. v.passes) c.self.view_is in
    let its = ap (λ v. v.passes) c.other.view_is in
    record {
      many = ap length same;
      scratch = ap (λ v. v.scratch) c.self.view_is;
      fold =
          subst (λ nows. FoldSoFar c.args.self.now.passes c.args.other.passes nows c.other.inside.passes.items) (sym same)
          (subst (λ left. FoldSoFar c.args.self.now.passes c.args.other.passes c.args.self.now.passes left) (sym its) (fold_none c.args.self.now.passes c.args.other.passes (c.requires.other.as_many ∙ sym c.requires.fit.as_many)));
    }

pub fold-requires-clause-own : goal.fold-requires-clause-own
fold-requires-clause-own g c =
    let v = c.stripes.invariant in
    let fewer = c.pop.new.self.items in
    let i = c.len-stripe.result in
    let at : i ≡ length fewer = omega (arith, c.len-stripe.ensures, c.pop.new.self.ok.0) in
    let others : slice_get c.args.other.passes i ≡ Some c.in-Some.pass = ap (slice_get c.args.other.passes) at ∙ fold_at c.args.self.now.passes c.args.other.passes c.stripes.self-inside.passes.items c.stripes.passes.items fewer c.in-Some.pass v.fold c.in-Some.ensures.items in
    let below : i < length c.args.other.passes = slice_get_within c.args.other.passes i c.in-Some.pass others in
    let inside : i < length c.stripes.self-inside.passes.items = omega (arith, below, v.many, c.requires.fit.as_many, c.requires.other.as_many) in
    let longer = ap length c.in-Some.ensures.items ∙ length-append fewer (c.in-Some.pass ∷ []) in
    let own : slice_get c.args.self.now.passes i ≡ Some c.index_mut.result.now = sym (v.fold.rest i (omega (arith, at, longer))) ∙ slice_get_read c.stripes.self-inside.passes.items (length c.stripes.self-inside.passes.items) i c.index_mut.result.now refl inside c.index_mut.ensures.value in
    let locks : i < length c.pager.inside.locks.items = omega (arith, below, c.requires.other.as_many, ap (λ v. length v.locks) c.pager.view_is) in
    let lock = subst (λ ls. slice_get ls i ≡ Some c.index.result.now) (ap (λ v. v.locks) c.pager.view_is) (slice_get_read c.pager.inside.locks.items (length c.pager.inside.locks.items) i c.index.result.now refl locks c.index.ensures) in
    c.requires.fit.each i c.index.result.now c.index_mut.result.now lock own

pub fold-requires-clause-first : goal.fold-requires-clause-first
fold-requires-clause-first g c =
    let v = c.stripes.invariant in
    let fewer = c.pop.new.self.items in
    let i = c.len-stripe.result in
    let at : i ≡ length fewer = omega (arith, c.len-stripe.ensures, c.pop.new.self.ok.0) in
    let others : slice_get c.args.other.passes i ≡ Some c.in-Some.pass = ap (slice_get c.args.other.passes) at ∙ fold_at c.args.self.now.passes c.args.other.passes c.stripes.self-inside.passes.items c.stripes.passes.items fewer c.in-Some.pass v.fold c.in-Some.ensures.items in
    let below : i < length c.args.other.passes = slice_get_within c.args.other.passes i c.in-Some.pass others in
    let inside : i < length c.stripes.self-inside.passes.items = omega (arith, below, v.many, c.requires.fit.as_many, c.requires.other.as_many) in
    let longer = ap length c.in-Some.ensures.items ∙ length-append fewer (c.in-Some.pass ∷ []) in
    let own : slice_get c.args.self.now.passes i ≡ Some c.index_mut.result.now = sym (v.fold.rest i (omega (arith, at, longer))) ∙ slice_get_read c.stripes.self-inside.passes.items (length c.stripes.self-inside.passes.items) i c.index_mut.result.now refl inside c.index_mut.ensures.value in
    c.requires.first i c.index_mut.result.now own

pub fold-requires-clause-other : goal.fold-requires-clause-other
fold-requires-clause-other g c =
    let v = c.stripes.invariant in
    let fewer = c.pop.new.self.items in
    let i = c.len-stripe.result in
    let at : i ≡ length fewer = omega (arith, c.len-stripe.ensures, c.pop.new.self.ok.0) in
    let others : slice_get c.args.other.passes i ≡ Some c.in-Some.pass = ap (slice_get c.args.other.passes) at ∙ fold_at c.args.self.now.passes c.args.other.passes c.stripes.self-inside.passes.items c.stripes.passes.items fewer c.in-Some.pass v.fold c.in-Some.ensures.items in
    let below : i < length c.args.other.passes = slice_get_within c.args.other.passes i c.in-Some.pass others in
    let inside : i < length c.stripes.self-inside.passes.items = omega (arith, below, v.many, c.requires.fit.as_many, c.requires.other.as_many) in
    let longer = ap length c.in-Some.ensures.items ∙ length-append fewer (c.in-Some.pass ∷ []) in
    let own : slice_get c.args.self.now.passes i ≡ Some c.index_mut.result.now = sym (v.fold.rest i (omega (arith, at, longer))) ∙ slice_get_read c.stripes.self-inside.passes.items (length c.stripes.self-inside.passes.items) i c.index_mut.result.now refl inside c.index_mut.ensures.value in
    let locks : i < length c.pager.inside.locks.items = omega (arith, below, c.requires.other.as_many, ap (λ v. length v.locks) c.pager.view_is) in
    let lock = subst (λ ls. slice_get ls i ≡ Some c.index.result.now) (ap (λ v. v.locks) c.pager.view_is) (slice_get_read c.pager.inside.locks.items (length c.pager.inside.locks.items) i c.index.result.now refl locks c.index.ensures) in
    c.requires.other.each i c.index.result.now c.in-Some.pass lock others

pub stripes-preserved : goal.stripes-preserved
stripes-preserved g c =
    let v = c.stripes.invariant in
    let fewer = c.pop.new.self.items in
    let i = c.len-stripe.result in
    let at : i ≡ length fewer = omega (arith, c.len-stripe.ensures, c.pop.new.self.ok.0) in
    let others : slice_get c.args.other.passes i ≡ Some c.in-Some.pass = ap (slice_get c.args.other.passes) at ∙ fold_at c.args.self.now.passes c.args.other.passes c.stripes.self-inside.passes.items c.stripes.passes.items fewer c.in-Some.pass v.fold c.in-Some.ensures.items in
    let below : i < length c.args.other.passes = slice_get_within c.args.other.passes i c.in-Some.pass others in
    let inside : i < length c.stripes.self-inside.passes.items = omega (arith, below, v.many, c.requires.fit.as_many, c.requires.other.as_many) in
    let longer = ap length c.in-Some.ensures.items ∙ length-append fewer (c.in-Some.pass ∷ []) in
    let own : slice_get c.args.self.now.passes i ≡ Some c.index_mut.result.now = sym (v.fold.rest i (omega (arith, at, longer))) ∙ slice_get_read c.stripes.self-inside.passes.items (length c.stripes.self-inside.passes.items) i c.index_mut.result.now refl inside c.index_mut.ensures.value in
    let e = c.fold.ensures in
    let more = fold_more c.args.self.now.passes c.args.other.passes c.stripes.self-inside.passes.items c.stripes.passes.items fewer c.index_mut.result.now c.in-Some.pass c.fold.new.self v.fold c.in-Some.ensures.items (ap (slice_get c.args.self.now.passes) (sym at) ∙ own) (record { is = e.this; own = e.grew.0; its = e.grew.1; parts = e.parts }) in
    record {
      many = search rules;
      scratch = v.scratch;
      fold = subst (λ n. FoldSoFar c.args.self.now.passes c.args.other.passes (slice_set c.stripes.self-inside.passes.items n c.fold.new.self) fewer) (sym at) more;
    }

pub returns-clause-folded : goal.returns-clause-folded
returns-clause-folded g c =
    let v = c.stripes.invariant in
    let none : c.stripes.passes.items ≡ [] = none_left c.stripes.passes.items (omega (arith, c.in_default.ensures.cases, c.stripes.passes.ok.0)) in
    folds_all c.args.self.now c.args.other (passes_seen c.stripes.self-inside.passes.items c.stripes.self-inside.scratch.items) c.stripes.passes.items v.fold none v.many v.scratch

pub returns-clause-fit : goal.returns-clause-fit
returns-clause-fit g c = fold_fit c.args.pager.now c.args.self.now c.args.other (passes_seen c.stripes.self-inside.passes.items c.stripes.self-inside.scratch.items) c.requires.fit c.requires.other (returns-clause-folded g c)
