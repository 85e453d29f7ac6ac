-- Raises of which each page has one at the most.
use Rattle.std.proofs.Common.{◌≡◌, ◌+◌, ◌≤◌, Bool, true, false, not, List, [], ◌∷◌, ◌++◌, find, Option, Some, None, refl, subst, arith}
use Rattle.std.specs.Prelude.{count_by}
use Rattle.std.specs.Option.{option_map}
use Rattle.std.proofs.lemmas.List.Sums.{sum_by-append}
use Rattle.page_base.specs.declared.keys.Key.{Key}
use Rattle.page_base.specs.declared.keys.Raise.{Raise}
use Rattle.page_base.specs.Pages.{same}
use Rattle.fault_queue.specs.Queues.{is_of, pending_why, without, AreOnce}
use Rattle.fault_queue.proofs.Keys.{same-true}
use Rattle.fault_queue.proofs.Counts.{count_by-none, count_by-filter}

pub find-none : (raises : List Raise) (key : Key) → pending_why raises key ≡ None → find (is_of key) raises ≡ None
find-none raises key = none (find (is_of key) raises)
  where
    none : (o : Option Raise) → option_map (λ (r : Raise). r.why) o ≡ None → o ≡ None
    none None e = refl
    none (Some r) e = cc

-- with a raise of a page that has none
pub once_raised : (raises : List Raise) (r : Raise) → AreOnce raises → find (is_of r.key) raises ≡ None → AreOnce (raises ++ r ∷ [])
once_raised raises r once fresh =
    λ k.
    let more : count_by (is_of k) (raises ++ r ∷ []) ≡ count_by (is_of k) raises + count_by (is_of k) (r ∷ []) = sum_by-append _ raises (r ∷ []) in
    rw more (one k (same r.key k) refl)
  where
    one : (k : Key) (b : Bool) → same r.key k ≡ b → count_by (is_of k) raises + count_by (is_of k) (r ∷ []) ≤ 1
    one k true e =
        let none : count_by (is_of r.key) raises ≡ 0 = count_by-none (is_of r.key) raises fresh in
        let here : count_by (is_of k) raises ≡ 0 = subst (λ j. count_by (is_of j) raises ≡ 0) (same-true r.key k e) none in
        rw (here, e) (omega arith)
    one k false e = rw e (let before = once k in omega arith)

-- without the raise of a page
pub once_without : (raises : List Raise) (key : Key) → AreOnce raises → AreOnce (without key raises)
once_without raises key once =
    λ k. let fewer = count_by-filter (is_of k) (λ (r : Raise). not (is_of key r)) raises in let before = once k in omega (arith, fewer, before)
