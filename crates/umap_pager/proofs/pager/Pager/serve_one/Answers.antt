use Rattle.std.proofs.Common.{◌≡◌, sym, ap, ◌∙◌, subst, refl, arith, ◌<◌, ◌+◌, length, Some, slice_set}
use Rattle.std.specs.List.{slice_get}
use Rattle.std.proofs.lemmas.Option.{slice_get_read}
use Rattle.umap_pager.proofs.Locks.{scratch_size}
use Rattle.umap_pager.proofs.Results.{if_ok, same_some}
use Rattle.umap_pager.proofs.pager.Pager.serve_one.Goals as goal

pub returns-clause-spent : goal.returns-clause-spent
returns-clause-spent g c =
    let inside : c.args.stripe < length c.self.inside.locks.items = omega (arith, c.requires.stripe, c.self.invariant.count, ap (λ v. v.layout.stripes) c.self.view_is) in
    let many : length c.p.inside.passes.items ≡ length c.self.inside.locks.items = ap (λ v. length v.passes) c.p.view_is ∙ c.requires.fit.as_many ∙ sym (ap (λ v. length v.locks) c.self.view_is) in
    let lock = subst (λ ls. slice_get ls c.args.stripe ≡ Some c.index.result.now) (ap (λ v. v.locks) c.self.view_is) (slice_get_read c.self.inside.locks.items (length c.self.inside.locks.items) c.args.stripe c.index.result.now refl inside c.index.ensures) in
    let pass = subst (λ ps. slice_get ps c.args.stripe ≡ Some c.index_mut.result.now) (ap (λ v. v.passes) c.p.view_is) (slice_get_read c.p.inside.passes.items (length c.self.inside.locks.items) c.args.stripe c.index_mut.result.now (sym many) inside c.index_mut.ensures.value) in (
      λ e. record { lock = c.index.result.now; pass = c.index_mut.result.now; lock_is = lock; pass_is = pass; spent = c.serve_in.ensures.spent.0 e },
      λ s.
          let a : s.lock ≡ c.index.result.now = same_some s.lock c.index.result.now (sym s.lock_is ∙ lock) in
          let b : s.pass ≡ c.index_mut.result.now = same_some s.pass c.index_mut.result.now (sym s.pass_is ∙ pass) in
          c.serve_in.ensures.spent.1 (subst (λ l. l.holds < c.index_mut.result.now.holds + 2) a (subst (λ p. s.lock.holds < p.holds + 2) b s.spent)),
    )

pub returns-clause-served : goal.returns-clause-served
returns-clause-served g c =
    let inside : c.args.stripe < length c.self.inside.locks.items = omega (arith, c.requires.stripe, c.self.invariant.count, ap (λ v. v.layout.stripes) c.self.view_is) in
    let many : length c.p.inside.passes.items ≡ length c.self.inside.locks.items = ap (λ v. length v.passes) c.p.view_is ∙ c.requires.fit.as_many ∙ sym (ap (λ v. length v.locks) c.self.view_is) in
    let lock = subst (λ ls. slice_get ls c.args.stripe ≡ Some c.index.result.now) (ap (λ v. v.locks) c.self.view_is) (slice_get_read c.self.inside.locks.items (length c.self.inside.locks.items) c.args.stripe c.index.result.now refl inside c.index.ensures) in
    let pass = subst (λ ps. slice_get ps c.args.stripe ≡ Some c.index_mut.result.now) (ap (λ v. v.passes) c.p.view_is) (slice_get_read c.p.inside.passes.items (length c.self.inside.locks.items) c.args.stripe c.index_mut.result.now (sym many) inside c.index_mut.ensures.value) in
    if_ok c.serve_in.result c.serve_in.ensures.served (λ s w. record {
      lock = c.index.result.now;
      before = c.index_mut.result.now;
      after = c.serve_in.new.pass;
      lock_is = lock;
      before_is = pass;
      after_is = ap (λ v. slice_set v.passes c.args.stripe c.serve_in.new.pass) c.p.view_is;
      scratch = scratch_size c.p.inside.scratch.items c.serve_in.new.scratch c.p.inside.scratch.len (c.serve_in.ensures.size ∙ ap length c.deref_mut.ensures.value) c.p.inside.scratch.ok.0 ∙ ap (λ v. v.scratch) c.p.view_is;
      did = w;
    })
