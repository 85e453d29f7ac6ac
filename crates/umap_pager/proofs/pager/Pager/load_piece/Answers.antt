use Rattle.std.proofs.Common.{◌≡◌, sym, ap, ◌∙◌, subst, refl, arith, ◌<◌, length, Some, slice_set}
use Rattle.std.specs.List.{slice_get}
use Rattle.std.proofs.lemmas.Option.{slice_get_read}
use Rattle.umap_pager.specs.InsideParts.{GoesTogether}
use Rattle.umap_pager.proofs.Locks.{scratch_size, in_stripe_page}
use Rattle.umap_pager.proofs.Results.{if_err, both_ok}
use Rattle.umap_pager.proofs.pager.Pager.load_piece.Goals as goal

pub load_in-requires-clause-in_page : goal.load_in-requires-clause-in_page
load_in-requires-clause-in_page g c =
    let at = c.stripe_of-at.result in
    let inside : at < length c.self.inside.locks.items = omega (arith, c.stripe_of-at.ensures.below, ap (λ v. length v.locks) c.self.view_is) in
    let many : length c.p.inside.passes.items ≡ length c.self.inside.locks.items = ap (λ v. length v.passes) c.p.view_is ∙ c.requires.fit.as_many ∙ sym (ap (λ v. length v.locks) c.self.view_is) in
    let lock = subst (λ ls. slice_get ls at ≡ Some c.index.result.now) (ap (λ v. v.locks) c.self.view_is) (slice_get_read c.self.inside.locks.items (length c.self.inside.locks.items) at c.index.result.now refl inside c.index.ensures) in
    let all = subst (λ v. GoesTogether v c.self.inside.config.shapes.items) c.self.view_is c.self.invariant in
    let known = c.stripe_of-at.ensures.known in
    in_stripe_page c.args.self.now c.self.inside.config.shapes.items c.args.key c.args.place (length c.args.buf.now) known.0 c.index.result.now all c.requires.part known.1 (subst (λ n. slice_get c.args.self.now.locks n ≡ Some c.index.result.now) c.stripe_of-at.ensures.stripe lock)

pub returns-clause-ok : goal.returns-clause-ok
returns-clause-ok g c =
    let at = c.stripe_of-at.result in
    let inside : at < length c.self.inside.locks.items = omega (arith, c.stripe_of-at.ensures.below, ap (λ v. length v.locks) c.self.view_is) in
    let many : length c.p.inside.passes.items ≡ length c.self.inside.locks.items = ap (λ v. length v.passes) c.p.view_is ∙ c.requires.fit.as_many ∙ sym (ap (λ v. length v.locks) c.self.view_is) in
    let lock = subst (λ ls. slice_get ls at ≡ Some c.index.result.now) (ap (λ v. v.locks) c.self.view_is) (slice_get_read c.self.inside.locks.items (length c.self.inside.locks.items) at c.index.result.now refl inside c.index.ensures) in
    let pass = subst (λ ps. slice_get ps at ≡ Some c.index_mut.result.now) (ap (λ v. v.passes) c.p.view_is) (slice_get_read c.p.inside.passes.items (length c.self.inside.locks.items) at c.index_mut.result.now (sym many) inside c.index_mut.ensures.value) in
    both_ok c.load_in.result c.load_in.ensures.ok c.load_in.ensures.few (λ w f. record {
      lock = c.index.result.now;
      before = c.index_mut.result.now;
      after = c.load_in.new.pass;
      lock_is = subst (λ n. slice_get c.args.self.now.locks n ≡ Some c.index.result.now) c.stripe_of-at.ensures.stripe lock;
      before_is = subst (λ n. slice_get c.args.p.now.passes n ≡ Some c.index_mut.result.now) c.stripe_of-at.ensures.stripe pass;
      after_is = ap (λ v. slice_set v.passes at c.load_in.new.pass) c.p.view_is ∙ ap (λ n. slice_set c.args.p.now.passes n c.load_in.new.pass) c.stripe_of-at.ensures.stripe;
      scratch = scratch_size c.p.inside.scratch.items c.load_in.new.scratch c.p.inside.scratch.len (c.load_in.ensures.size ∙ ap length c.deref_mut.ensures.value) c.p.inside.scratch.ok.0 ∙ ap (λ v. v.scratch) c.p.view_is;
      did = record { went = w; few = f };
    })

pub returns-clause-err : goal.returns-clause-err
returns-clause-err g c =
    let at = c.stripe_of-at.result in
    let inside : at < length c.self.inside.locks.items = omega (arith, c.stripe_of-at.ensures.below, ap (λ v. length v.locks) c.self.view_is) in
    let many : length c.p.inside.passes.items ≡ length c.self.inside.locks.items = ap (λ v. length v.passes) c.p.view_is ∙ c.requires.fit.as_many ∙ sym (ap (λ v. length v.locks) c.self.view_is) in
    let lock = subst (λ ls. slice_get ls at ≡ Some c.index.result.now) (ap (λ v. v.locks) c.self.view_is) (slice_get_read c.self.inside.locks.items (length c.self.inside.locks.items) at c.index.result.now refl inside c.index.ensures) in
    let pass = subst (λ ps. slice_get ps at ≡ Some c.index_mut.result.now) (ap (λ v. v.passes) c.p.view_is) (slice_get_read c.p.inside.passes.items (length c.self.inside.locks.items) at c.index_mut.result.now (sym many) inside c.index_mut.ensures.value) in
    if_err c.load_in.result c.load_in.ensures.err (λ s w. record {
      lock = c.index.result.now;
      before = c.index_mut.result.now;
      after = c.load_in.new.pass;
      lock_is = subst (λ n. slice_get c.args.self.now.locks n ≡ Some c.index.result.now) c.stripe_of-at.ensures.stripe lock;
      before_is = subst (λ n. slice_get c.args.p.now.passes n ≡ Some c.index_mut.result.now) c.stripe_of-at.ensures.stripe pass;
      after_is = ap (λ v. slice_set v.passes at c.load_in.new.pass) c.p.view_is ∙ ap (λ n. slice_set c.args.p.now.passes n c.load_in.new.pass) c.stripe_of-at.ensures.stripe;
      scratch = scratch_size c.p.inside.scratch.items c.load_in.new.scratch c.p.inside.scratch.len (c.load_in.ensures.size ∙ ap length c.deref_mut.ensures.value) c.p.inside.scratch.ok.0 ∙ ap (λ v. v.scratch) c.p.view_is;
      did = w;
    })
