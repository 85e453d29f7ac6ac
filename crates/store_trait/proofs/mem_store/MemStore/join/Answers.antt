use Rattle.std.proofs.Common.{◌≡◌, ℕ, ◌*◌, ◌/◌, ◌<◌, length, sym, ap, subst, ◌∙◌}
use Rattle.std.proofs.Math.Nat.{mul-div_cancel}
use Rattle.std.proofs.lemmas.Nat.{mul-lt}
use Rattle.store_trait.proofs.Joins.{same_size, same_pages}
use Rattle.store_trait.proofs.mem_store.MemStore.join.Goals as goal

pub invariant_of-result : goal.invariant_of-result
invariant_of-result c =
    let q = c.requires in
    let lanes = c.args.lanes.items in
    let first = c.get.result.now in
    let size : c.page_size-page_size.result ≡ first.page_size = c.page_size-page_size.ensures in
    let len : length c.in-Ok.contents.items ≡ first.pages * c.page_size-page_size.result = c.in-Ok.ensures.size 0 first c.get.ensures ∙ ap (λ (z : ℕ). first.pages * z) (sym size) in
    let sized : 0 < c.page_size-page_size.result = subst (λ (z : ℕ). 0 < z) (sym size) first.sized in
    let some : 0 < first.pages = subst (λ (n : ℕ). 0 < n) (sym (same_pages lanes q 0 first c.get.ensures)) q.not_empty in
    record {
      sized = sized;
      some = subst (λ (n : ℕ). 0 < n) (sym len) (mul-lt 0 0 first.pages c.page_size-page_size.result some sized);
      whole = len ∙ ap (λ (n : ℕ). n * c.page_size-page_size.result) (sym (mul-div_cancel first.pages sized) ∙ ap (λ (n : ℕ). n / c.page_size-page_size.result) (sym len));
    }

pub returns-in-Ok-clause-page_size : goal.returns-in-Ok-clause-page_size
returns-in-Ok-clause-page_size c = λ s lane got.
    let lanes = c.args.lanes.items in
    c.page_size-page_size.ensures ∙ same_size lanes c.requires 0 _ c.get.ensures ∙ sym (same_size lanes c.requires s lane got)
