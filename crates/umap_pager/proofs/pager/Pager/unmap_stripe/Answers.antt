use Rattle.std.proofs.Common.{◌≡◌, sym, ap, ◌∙◌, subst, refl, arith, ◌<◌, ◌+◌, length, Some, slice_set}
use Rattle.std.specs.List.{slice_get}
use Rattle.std.proofs.lemmas.Option.{slice_get_read}
use Rattle.page_model.specs.Setups.{regions}
use Rattle.locked_stripe.specs.Terms.{locked_setup}
use Rattle.umap_pager.specs.InsideParts.{GoesTogether}
use Rattle.umap_pager.proofs.Locks.{scratch_size, stripe_regions}
use Rattle.umap_pager.proofs.Results.{if_err, if_ok}
use Rattle.umap_pager.proofs.pager.Pager.unmap_stripe.Goals as goal

pub unmap_in-requires-clause-region : goal.unmap_in-requires-clause-region
unmap_in-requires-clause-region g c =
    let inside : c.args.stripe < length c.self.inside.locks.items = omega (arith, c.requires.stripe, c.self.invariant.count, ap (λ v. v.layout.stripes) c.self.view_is) in
    let lock = subst (λ ls. slice_get ls c.args.stripe ≡ Some c.index.result.now) (ap (λ v. v.locks) c.self.view_is) (slice_get_read c.self.inside.locks.items (length c.self.inside.locks.items) c.args.stripe c.index.result.now refl inside c.index.ensures) in
    let all = subst (λ v. GoesTogether v c.self.inside.config.shapes.items) c.self.view_is c.self.invariant in
    let many : regions (locked_setup c.index.result.now) ≡ length c.args.self.now.table.regions = stripe_regions c.args.self.now c.self.inside.config.shapes.items c.args.stripe c.index.result.now all lock in
    omega (arith, many, c.requires.region)

pub returns-clause-ok : goal.returns-clause-ok
returns-clause-ok g c =
    let inside : c.args.stripe < length c.self.inside.locks.items = omega (arith, c.requires.stripe, c.self.invariant.count, ap (λ v. v.layout.stripes) c.self.view_is) in
    let many : length c.p.inside.passes.items ≡ length c.self.inside.locks.items = ap (λ v. length v.passes) c.p.view_is ∙ c.requires.fit.as_many ∙ sym (ap (λ v. length v.locks) c.self.view_is) in
    let lock = subst (λ ls. slice_get ls c.args.stripe ≡ Some c.index.result.now) (ap (λ v. v.locks) c.self.view_is) (slice_get_read c.self.inside.locks.items (length c.self.inside.locks.items) c.args.stripe c.index.result.now refl inside c.index.ensures) in
    let pass = subst (λ ps. slice_get ps c.args.stripe ≡ Some c.index_mut.result.now) (ap (λ v. v.passes) c.p.view_is) (slice_get_read c.p.inside.passes.items (length c.self.inside.locks.items) c.args.stripe c.index_mut.result.now (sym many) inside c.index_mut.ensures.value) in
    if_ok c.unmap_in.result c.unmap_in.ensures.ok (λ s w. record {
      lock = c.index.result.now;
      before = c.index_mut.result.now;
      after = c.unmap_in.new.pass;
      lock_is = lock;
      before_is = pass;
      after_is = ap (λ v. slice_set v.passes c.args.stripe c.unmap_in.new.pass) c.p.view_is;
      scratch = scratch_size c.p.inside.scratch.items c.unmap_in.new.scratch c.p.inside.scratch.len (c.unmap_in.ensures.size ∙ ap length c.deref_mut.ensures.value) c.p.inside.scratch.ok.0 ∙ ap (λ v. v.scratch) c.p.view_is;
      did = w;
    })

pub returns-clause-err : goal.returns-clause-err
returns-clause-err g c =
    let inside : c.args.stripe < length c.self.inside.locks.items = omega (arith, c.requires.stripe, c.self.invariant.count, ap (λ v. v.layout.stripes) c.self.view_is) in
    let many : length c.p.inside.passes.items ≡ length c.self.inside.locks.items = ap (λ v. length v.passes) c.p.view_is ∙ c.requires.fit.as_many ∙ sym (ap (λ v. length v.locks) c.self.view_is) in
    let lock = subst (λ ls. slice_get ls c.args.stripe ≡ Some c.index.result.now) (ap (λ v. v.locks) c.self.view_is) (slice_get_read c.self.inside.locks.items (length c.self.inside.locks.items) c.args.stripe c.index.result.now refl inside c.index.ensures) in
    let pass = subst (λ ps. slice_get ps c.args.stripe ≡ Some c.index_mut.result.now) (ap (λ v. v.passes) c.p.view_is) (slice_get_read c.p.inside.passes.items (length c.self.inside.locks.items) c.args.stripe c.index_mut.result.now (sym many) inside c.index_mut.ensures.value) in
    if_err c.unmap_in.result c.unmap_in.ensures.err (λ s w. record {
      lock = c.index.result.now;
      before = c.index_mut.result.now;
      after = c.unmap_in.new.pass;
      lock_is = lock;
      before_is = pass;
      after_is = ap (λ v. slice_set v.passes c.args.stripe c.unmap_in.new.pass) c.p.view_is;
      scratch = scratch_size c.p.inside.scratch.items c.unmap_in.new.scratch c.p.inside.scratch.len (c.unmap_in.ensures.size ∙ ap length c.deref_mut.ensures.value) c.p.inside.scratch.ok.0 ∙ ap (λ v. v.scratch) c.p.view_is;
      did = w;
    })
