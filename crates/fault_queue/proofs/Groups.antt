-- The lists of the groups, where a slot gets a raise at the end of the order, and where one leaves the order.
use Rattle.std.proofs.Common.{◌≡◌, ℕ, ◌+◌, ◌<◌, ◌≤◌, ◌==◌, Bool, true, false, cond, List, [], ◌∷◌, ◌++◌, length, map, filter, replicate, zero, suc, ◌⊎◌, refl, sym, ap, ◌∙◌, inl, inr, arith, append-nil}
use Rattle.std.specs.Prelude.{slice_index_or, slice_set}
use Rattle.std.specs.List.{range_with_len, list_any}
use Rattle.std.proofs.lemmas.List.{length-set, get_or-set_same, get_or-set_other, same_lists}
use Rattle.std.proofs.lemmas.List.Elements.{filter-append}
use Rattle.std.proofs.lemmas.List.Sums.{sum_by-cons}
use Rattle.std.proofs.lemmas.List.Folds.{list_any_none, list_any_at}
use Rattle.std.proofs.lemmas.List.FromFn.{length-map-range_with_len, get_or-map-range_with_len}
use Rattle.std.proofs.lemmas.Bool.{cases_eq, eq-eqb, eqb-true, false_from_ne_true}
use Rattle.page_base.specs.declared.keys.Raise.{Raise}
use Rattle.index_lists.specs.Lists.{has, without, stands}
use Rattle.fault_queue.specs.Queues.{opens, group_region}
use Rattle.fault_queue.specs.InsideQueues.{blank, raise_in, groups, fault_group, is_in_group, groups_of}
use Rattle.fault_queue.proofs.Counts.{count, count_by-filter, filter_swap, has_none, has_from_count, filter_apart}

pub group_below : (r : Raise) → fault_group r < groups
group_below r = by_test (opens r)
  where
    by_test : (b : Bool) → cond b (64 + group_region r) (group_region r) < groups
    by_test true = omega arith
    by_test false = omega arith

module _ (slots : List Raise) where
  pub group_count : (order : List ℕ) → length (groups_of slots order) ≡ groups
  group_count order = length-map-range_with_len (λ g. filter (is_in_group slots g) order) 0 groups

  pub group_at : (order : List ℕ) (group : ℕ) (d : List ℕ) → group < groups → slice_index_or (groups_of slots order) group d ≡ filter (is_in_group slots group) order
  group_at order group d below = get_or-map-range_with_len (λ g. filter (is_in_group slots g) order) 0 groups group group d below (omega arith)

  -- a slot that isn't in the order is in no group
  pub in_no_group : (order : List ℕ) (slot : ℕ) → count slot order ≡ 0 → list_any (has slot) (groups_of slots order) ≡ false
  in_no_group order slot none = list_any_none (has slot) (groups_of slots order) (λ k d within.
      let below : k < groups = omega (arith, group_count order, within) in
      let fewer = count_by-filter (λ other. other == slot) (is_in_group slots k) order in
      rw (group_at order k d below) (has_none slot (filter (is_in_group slots k) order) (omega (arith, fewer, none))))

  -- without a slot the groups are those of the order without it
  pub groups_without : (order : List ℕ) (slot : ℕ) → map (without slot) (groups_of slots order) ≡ groups_of slots (without slot order)
  groups_without order slot = each (range_with_len 0 groups)
    where
      each : (gs : List ℕ) → map (without slot) (map (λ b. filter (is_in_group slots b) order) gs) ≡ map (λ b. filter (is_in_group slots b) (without slot order)) gs
      each [] = refl
      each (b ∷ gs) =
          let here : without slot (filter (is_in_group slots b) order) ≡ filter (is_in_group slots b) (without slot order) = filter_swap _ (is_in_group slots b) order in
          let rest : map (without slot) (map (λ b. filter (is_in_group slots b) order) gs) ≡ map (λ b. filter (is_in_group slots b) (without slot order)) gs = each gs in
          rw (here, rest) refl

  module _ (order : List ℕ) (slot : ℕ) (raise : Raise) (within : slot < length slots) (fresh : count slot order ≡ 0) where
    abbrev filled : List Raise
    filled = slice_set slots slot raise

    elsewhere : (x : ℕ) → (x ≡ slot → ⊥) → raise_in filled x ≡ raise_in slots x
    elsewhere x ne = get_or-set_other slots slot x raise blank ne

    group_elsewhere : (group x : ℕ) → (x ≡ slot → ⊥) → is_in_group filled group x ≡ is_in_group slots group x
    group_elsewhere group x ne = ap (λ r. fault_group r == group) (elsewhere x ne)

    group_here : (group : ℕ) → is_in_group filled group slot ≡ (fault_group raise == group)
    group_here group = ap (λ r. fault_group r == group) (get_or-set_same slots slot raise blank within)

    -- a group with the slot at its end, where it is that of the raise
    group_with : (group : ℕ) (is_here : Bool) → (fault_group raise == group) ≡ is_here
        → filter (is_in_group filled group) (order ++ slot ∷ []) ≡ cond is_here (filter (is_in_group slots group) order ++ slot ∷ []) (filter (is_in_group slots group) order)
    group_with group is_here e =
        let kept : filter (is_in_group filled group) order ≡ filter (is_in_group slots group) order = filter_apart (is_in_group filled group) (is_in_group slots group) slot order (group_elsewhere group) fresh in
        filter-append (is_in_group filled group) order (slot ∷ []) ∙ rw kept (by_test is_here (group_here group ∙ e))
      where
        by_test : (b : Bool) → is_in_group filled group slot ≡ b
            → filter (is_in_group slots group) order ++ filter (is_in_group filled group) (slot ∷ []) ≡ cond b (filter (is_in_group slots group) order ++ slot ∷ []) (filter (is_in_group slots group) order)
        by_test true here = rw here refl
        by_test false here = rw here (append-nil (filter (is_in_group slots group) order))

    filled_at : (group : ℕ) (d : List ℕ) → group < groups → slice_index_or (groups_of filled (order ++ slot ∷ [])) group d ≡ filter (is_in_group filled group) (order ++ slot ∷ [])
    filled_at group d below = get_or-map-range_with_len (λ b. filter (is_in_group filled b) (order ++ slot ∷ [])) 0 groups group group d below (omega arith)

    abbrev home : ℕ
    home = fault_group raise

    abbrev pushed_groups : List (List ℕ)
    pushed_groups = slice_set (groups_of slots order) home (slice_index_or (groups_of slots order) home [] ++ slot ∷ [])

    group_is : (group : ℕ) (d : List ℕ) → group < groups → (home ≡ group) ⊎ (home ≡ group → ⊥)
        → slice_index_or pushed_groups group d ≡ slice_index_or (groups_of filled (order ++ slot ∷ [])) group d
    group_is group d within_ (inl is) =
        let there : group < length (groups_of slots order) = omega (arith, group_count order, within_) in
        let left : slice_index_or pushed_groups group d ≡ slice_index_or (groups_of slots order) home [] ++ slot ∷ [] = rw is (get_or-set_same (groups_of slots order) group (slice_index_or (groups_of slots order) group [] ++ slot ∷ []) d there) in
        left ∙ (ap (λ xs. xs ++ slot ∷ []) (ap (λ b. slice_index_or (groups_of slots order) b []) is ∙ group_at order group [] within_)
        ∙ sym (filled_at group d within_ ∙ group_with group true (eq-eqb home group is)))
    group_is group d within_ (inr isnt) =
        let ne : group ≡ home → ⊥ = λ e. isnt (sym e) in
        get_or-set_other (groups_of slots order) home group (slice_index_or (groups_of slots order) home [] ++ slot ∷ []) d ne
        ∙ (group_at order group d within_
        ∙ sym (filled_at group d within_ ∙ group_with group false (false_from_ne_true (home == group) (λ e. isnt (eqb-true home group e)))))

    pub groups_with : pushed_groups ≡ groups_of filled (order ++ slot ∷ [])
    groups_with =
        same_lists pushed_groups (groups_of filled (order ++ slot ∷ [])) lengths (λ group d within_. group_is group d (omega (arith, within_, length-set (groups_of slots order) home (slice_index_or (groups_of slots order) home [] ++ slot ∷ []), group_count order)) (cases_eq home group))
      where
        lengths : length pushed_groups ≡ length (groups_of filled (order ++ slot ∷ []))
        lengths = length-set (groups_of slots order) home (slice_index_or (groups_of slots order) home [] ++ slot ∷ []) ∙ (group_count order ∙ sym (length-map-range_with_len (λ b. filter (is_in_group filled b) (order ++ slot ∷ [])) 0 groups))

  -- a slot of the order stands in the list of its group
  pub in_group : (order : List ℕ) (slot : ℕ) → 1 ≤ count slot order → list_any (has slot) (groups_of slots order) ≡ true
  in_group order slot there =
      let group = fault_group (raise_in slots slot) in
      let below : group < groups = group_below (raise_in slots slot) in
      let is = group_at order group [] below in
      list_any_at (has slot) (groups_of slots order) group [] (omega (arith, group_count order, below)) (rw is (has_from_count slot (filter (is_in_group slots group) order) (kept group order there (eq-eqb group group refl))))
    where
      kept : (group : ℕ) (xs : List ℕ) → 1 ≤ count slot xs → is_in_group slots group slot ≡ true → 1 ≤ count slot (filter (is_in_group slots group) xs)
      kept group [] there passes = absurd (omega arith)
      kept group (x ∷ xs) there passes =
          let cons = sum_by-cons (λ z. cond (z == slot) 1 0) x xs in
          by_tests (x == slot) (is_in_group slots group x) refl refl (omega (arith, cons, there)) (λ more. kept group xs more passes)
        where
          by_tests : (b d : Bool) → (x == slot) ≡ b → is_in_group slots group x ≡ d → 1 ≤ cond b 1 0 + count slot xs → (1 ≤ count slot xs → 1 ≤ count slot (filter (is_in_group slots group) xs))
              → 1 ≤ count slot (cond d (x ∷ filter (is_in_group slots group) xs) (filter (is_in_group slots group) xs))
          by_tests true true e f some rest =
              let cons = sum_by-cons (λ z. cond (z == slot) 1 0) x (filter (is_in_group slots group) xs) in
              let here : cond {A = ℕ} (x == slot) 1 0 ≡ 1 = ap (λ b. cond {A = ℕ} b 1 0) e in
              omega (arith, cons, here)
          by_tests true false e f some rest = absurd (let is : x ≡ slot = eqb-true x slot e in let must : is_in_group slots group x ≡ true = rw is passes in cc)
          by_tests false true e f some rest =
              let more = rest (omega (arith, some)) in
              let cons = sum_by-cons (λ z. cond (z == slot) 1 0) x (filter (is_in_group slots group) xs) in
              omega (arith, cons, more)
          by_tests false false e f some rest = rest (omega (arith, some))

no_groups : (slots : List Raise) (from many : ℕ) → map (λ group. filter (is_in_group slots group) []) (range_with_len from many) ≡ replicate many []
no_groups slots from zero = refl
no_groups slots from (suc many) = ap (λ (xs : List (List ℕ)). [] ∷ xs) (no_groups slots (from + 1) many)

pub empty_groups : (slots : List Raise) → replicate groups [] ≡ groups_of slots []
empty_groups slots = sym (no_groups slots 0 groups)
