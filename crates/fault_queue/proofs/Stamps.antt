-- Stamps that rise along the order, and the first of two that a test each finds.
use Rattle.std.proofs.Common.{◌≡◌, ℕ, ◌+◌, ◌<◌, ◌≤◌, Bool, true, false, cond, List, [], ◌∷◌, ◌++◌, length, filter, find, Option, Some, None, refl, sym, ap, subst, arith, ◌||◌}
use Rattle.std.specs.Prelude.{slice_set, nat_lt}
use Rattle.std.proofs.lemmas.List.{get_or-set_same, get_or-set_other}
use Rattle.std.proofs.lemmas.Bool.Decides.{nat_tests}
use Rattle.fault_queue.specs.InsideQueues.{stamp_in, AreStamped, earlier}
use Rattle.fault_queue.proofs.Counts.{count, others}

pub rise_lower : (stamps : List ℕ) (from low : ℕ) (xs : List ℕ) (end : ℕ) → low ≤ from → AreStamped stamps from xs end → AreStamped stamps low xs end
rise_lower stamps from low [] end le r = omega (arith, le, r)
rise_lower stamps from low (x ∷ xs) end le r = (omega (arith, le, r.0), r.1)

pub rise_filter : (stamps : List ℕ) (p : ℕ → Bool) (from : ℕ) (xs : List ℕ) (end : ℕ) → AreStamped stamps from xs end → AreStamped stamps from (filter p xs) end
rise_filter stamps p from [] end r = r
rise_filter stamps p from (x ∷ xs) end r = by_test (p x) (rise_filter stamps p (stamp_in stamps x + 1) xs end r.1)
  where
    by_test : (b : Bool) → AreStamped stamps (stamp_in stamps x + 1) (filter p xs) end → AreStamped stamps from (cond b (x ∷ filter p xs) (filter p xs)) end
    by_test true rest = (r.0, rest)
    by_test false rest = rise_lower stamps (stamp_in stamps x + 1) from (filter p xs) end (omega (arith, r.0)) rest

pub rise_push : (stamps : List ℕ) (slot from : ℕ) (xs : List ℕ) (end : ℕ) → slot < length stamps → count slot xs ≡ 0 → AreStamped stamps from xs end → AreStamped (slice_set stamps slot end) from (xs ++ slot ∷ []) (end + 1)
rise_push stamps slot from [] end within fresh r =
    let here : stamp_in (slice_set stamps slot end) slot ≡ end = get_or-set_same stamps slot end 0 within in
    (omega (arith, r, here), omega (arith, here))
rise_push stamps slot from (x ∷ xs) end within fresh r =
    let left = others slot x xs fresh in
    let same : stamp_in (slice_set stamps slot end) x ≡ stamp_in stamps x = get_or-set_other stamps slot x end 0 left.0 in
    let rest : AreStamped (slice_set stamps slot end) (stamp_in stamps x + 1) (xs ++ slot ∷ []) (end + 1) = rise_push stamps slot (stamp_in stamps x + 1) xs end within left.1 r.1 in
    (omega (arith, r.0, same), subst (λ n. AreStamped (slice_set stamps slot end) (n + 1) (xs ++ slot ∷ []) (end + 1)) (sym same) rest)

-- what is found behind a place has a higher stamp
pub found_above : (stamps : List ℕ) (p : ℕ → Bool) (from : ℕ) (xs : List ℕ) (end y : ℕ) → AreStamped stamps from xs end → find p xs ≡ Some y → from ≤ stamp_in stamps y
found_above stamps p from [] end y r e = absurd cc
found_above stamps p from (x ∷ xs) end y r e = by_test (p x) e (found_above stamps p (stamp_in stamps x + 1) xs end y r.1)
  where
    by_test : (b : Bool) → cond b (Some x) (find p xs) ≡ Some y → (find p xs ≡ Some y → stamp_in stamps x + 1 ≤ stamp_in stamps y) → from ≤ stamp_in stamps y
    by_test true e rest = let is : x ≡ y = cc in rw (← is) r.0
    by_test false e rest = let above = rest e in omega (arith, above, r.0)

-- the earlier of two that may be none
abbrev pub first_of : List ℕ → Option ℕ → Option ℕ → Option ℕ
first_of stamps best None = best
first_of stamps best (Some slot) = Some (earlier stamps best slot)

lower : (stamps : List ℕ) (a b : ℕ) → stamp_in stamps a < stamp_in stamps b → cond (nat_lt (stamp_in stamps a) (stamp_in stamps b)) a b ≡ a
lower stamps a b lt = grind (arith, nat_tests, lt)

higher : (stamps : List ℕ) (a b : ℕ) → stamp_in stamps b ≤ stamp_in stamps a → cond (nat_lt (stamp_in stamps a) (stamp_in stamps b)) a b ≡ b
higher stamps a b le = grind (arith, nat_tests, le)

pub find_either : (stamps : List ℕ) (p q : ℕ → Bool) (from : ℕ) (xs : List ℕ) (end : ℕ) → AreStamped stamps from xs end
    → find (λ s. p s || q s) xs ≡ first_of stamps (find p xs) (find q xs)
find_either stamps p q from [] end r = refl
find_either stamps p q from (x ∷ xs) end r = by_tests (p x) (q x) (find p xs) refl (find q xs) refl (find_either stamps p q (stamp_in stamps x + 1) xs end r.1)
  where
    by_tests : (b d : Bool) (f : Option ℕ) → find p xs ≡ f → (g : Option ℕ) → find q xs ≡ g → find (λ s. p s || q s) xs ≡ first_of stamps (find p xs) (find q xs)
        → cond (b || d) (Some x) (find (λ s. p s || q s) xs) ≡ first_of stamps (cond b (Some x) (find p xs)) (cond d (Some x) (find q xs))
    by_tests true true f fe g ge ih = ap Some (sym (higher stamps x x (omega arith)))
    by_tests true false f fe None ge ih = rw ge refl
    by_tests true false f fe (Some y) ge ih =
        let above = found_above stamps q (stamp_in stamps x + 1) xs end y r.1 ge in
        rw ge (ap Some (sym (lower stamps x y (omega (arith, above)))))
    by_tests false true None fe g ge ih = rw fe refl
    by_tests false true (Some y) fe g ge ih =
        let above = found_above stamps p (stamp_in stamps x + 1) xs end y r.1 fe in
        rw fe (ap Some (sym (higher stamps y x (omega (arith, above)))))
    by_tests false false f fe g ge ih = ih
