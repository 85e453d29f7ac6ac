-- Calls of a lane that fails at stated calls: one that is listed, and one that isn't.
use Rattle.std.proofs.Common.{◌≡◌, Bool, true, false, Result, sym, ap, ◌∙◌, true≢false}
use Rattle.std.specs.Result.{IsErr}
use Rattle.page_base.specs.Lanes.{LaneSeen, Rose}
use Rattle.store_trait.specs.FailLanes.{FailSeen, one_more, FailsWhereListed}

module _ {S A E : Type 0} (seen : S → LaneSeen) (listed : Bool) (old : FailSeen S) where
  pub by_list : (counted new : FailSeen S) (result : Result A E) → listed ≡ true → IsErr result → counted.inner ≡ old.inner → counted.failed ≡ old.failed
      → new ≡ record counted { failed = one_more counted.failed } → FailsWhereListed seen listed old new result
  by_list counted new result on fails same failed is = record {
    fails = λ _. fails;
    untouched = λ _. ap (λ (l : FailSeen S). l.inner) is ∙ same;
    counted = λ _. ap (λ (l : FailSeen S). l.failed) is ∙ ap one_more failed;
    passes_on = λ off. absurd (true≢false (sym on ∙ off));
    not_counted = λ off. absurd (true≢false (sym on ∙ off));
  }

  pub by_inner : (new : FailSeen S) (result : Result A E) → listed ≡ false → (IsErr result → Rose (seen old.inner).count (seen new.inner).count) → new.failed ≡ old.failed
      → FailsWhereListed seen listed old new result
  by_inner new result off fails failed = record {
    fails = λ on. absurd (true≢false (sym on ∙ off));
    untouched = λ on. absurd (true≢false (sym on ∙ off));
    counted = λ on. absurd (true≢false (sym on ∙ off));
    passes_on = λ _. fails;
    not_counted = λ _. failed;
  }
