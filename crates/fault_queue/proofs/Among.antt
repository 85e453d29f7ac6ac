-- The first raise among several groups.
use Rattle.std.proofs.Common.{suc, ◌≡◌, ℕ, ◌+◌, ◌-◌, ◌<◌, ◌==◌, Bool, true, false, cond, List, [], ◌∷◌, map, filter, find, Option, Some, None, IfSome, is_some, refl, sym, ap, ◌∙◌, arith, ◌||◌, ◌&&◌}
use Rattle.std.specs.Prelude.{slice_get, nat_lt}
use Rattle.std.specs.List.{list_any, Contains}
use Rattle.std.specs.Option.{option_map}
use Rattle.std.proofs.lemmas.Bool.Decides.{nat_tests}
use Rattle.std.proofs.lemmas.Bool.{eqb-true}
use Rattle.page_base.specs.declared.keys.Raise.{Raise}
use Rattle.index_lists.specs.Lists.{ListsSeen, list_at}
use Rattle.fault_queue.specs.Queues.{opens, group_region, passes_by}
use Rattle.fault_queue.specs.InsideQueues.{raise_in, raises_in, groups, fault_group, is_in_group, AreFaultsGrouped, AreStamped, earlier, stamp_in}
use Rattle.fault_queue.proofs.Counts.{find-map}
use Rattle.fault_queue.proofs.Moves.{found}
use Rattle.fault_queue.proofs.Stamps.{first_of, find_either}
use Rattle.fault_queue.proofs.Groups.{group_at, group_below}

-- the first of a part of a list is the first that is in the part
pub first_of_part : (p : ℕ → Bool) (xs : List ℕ) → slice_get (filter p xs) 0 ≡ find p xs
first_of_part p [] = refl
first_of_part p (x ∷ xs) = by_test (p x) (first_of_part p xs)
  where
    by_test : (b : Bool) → slice_get (filter p xs) 0 ≡ find p xs → slice_get (cond b (x ∷ filter p xs) (filter p xs)) 0 ≡ cond b (Some x) (find p xs)
    by_test true rest = refl
    by_test false rest = rest

-- the first of a group's list
pub head_is : (slots : List Raise) (order : List ℕ) (lists : ListsSeen) (stamps : List ℕ) (told : ℕ) → AreFaultsGrouped slots order lists stamps told
    → (group : ℕ) → group < groups → slice_get (list_at lists group) 0 ≡ find (is_in_group slots group) order
head_is slots order lists stamps told g group below =
    ap (λ (o : ListsSeen). slice_get (list_at o group) 0) g.lists_are
    ∙ (ap (λ (xs : List ℕ). slice_get xs 0) (group_at slots order group [] below) ∙ first_of_part (is_in_group slots group) order)

pub or_left : (a b : Bool) → a ≡ true → (a || b) ≡ true
or_left a b e = rw e refl

pub or_right : (a b : Bool) → a ≡ false → (a || b) ≡ b
or_right a b e = rw e refl

either : (b : Bool) → (b || true) ≡ true
either true = refl
either false = refl

found_either : {Y : Type 0} (p q : ℕ → Bool) (t : Y → Bool) (f : ℕ → Y) (xs : List ℕ) → ((x : ℕ) → (p x || q x) ≡ t (f x))
    → (is_some (find p xs) || is_some (find q xs)) ≡ list_any t (map f xs)
found_either p q t f [] agree = refl
found_either p q t f (x ∷ xs) agree = by_tests (p x) (q x) (t (f x)) (agree x) (found_either p q t f xs agree)
  where
    by_tests : (b d e : Bool) → (b || d) ≡ e → (is_some (find p xs) || is_some (find q xs)) ≡ list_any t (map f xs)
        → (is_some (cond b (Some x) (find p xs)) || is_some (cond d (Some x) (find q xs))) ≡ (e || list_any t (map f xs))
    by_tests true d true is rest = refl
    by_tests true d false is rest = absurd cc
    by_tests false true true is rest = either (is_some (find p xs))
    by_tests false true false is rest = absurd cc
    by_tests false false true is rest = absurd cc
    by_tests false false false is rest = rest

in_either : (region : ℕ) → region < 64 → (r : Raise) → (fault_group r == region || fault_group r == 64 + region) ≡ (group_region r == region)
in_either region few r = by_test (opens r)
  where
    by_test : (b : Bool) → (cond b (64 + group_region r) (group_region r) == region || cond b (64 + group_region r) (group_region r) == 64 + region) ≡ (group_region r == region)
    by_test true = grind (arith, nat_tests, few)
    by_test false = grind (arith, nat_tests, few)

pub waits_either : (slots : List Raise) (order : List ℕ) (region : ℕ) → region < 64
    → (is_some (find (is_in_group slots region) order) || is_some (find (is_in_group slots (64 + region)) order)) ≡ list_any (λ (r : Raise). group_region r == region) (raises_in slots order)
waits_either slots order region few = found_either (is_in_group slots region) (is_in_group slots (64 + region)) (λ (r : Raise). group_region r == region) (raise_in slots) order (λ x. in_either region few (raise_in slots x))

-- ---- one group more

abbrev pub passes_at : List Raise → (ℕ → Bool → Bool) → ℕ → Bool
passes_at slots passes slot = passes_by passes (raise_in slots slot)

-- the slot's group passes, and is below a number
abbrev pub passes_below : List Raise → (ℕ → Bool → Bool) → (group slot : ℕ) → Bool
passes_below slots passes group slot = nat_lt (fault_group (raise_in slots slot)) group && passes_at slots passes slot

find_same : (p q : ℕ → Bool) (xs : List ℕ) → ((x : ℕ) → p x ≡ q x) → find p xs ≡ find q xs
find_same p q [] same = refl
find_same p q (x ∷ xs) same = let here = same x in let rest = find_same p q xs same in rw (here, rest) refl

find_never : (p : ℕ → Bool) (xs : List ℕ) → ((x : ℕ) → p x ≡ false) → find p xs ≡ None
find_never p [] never = refl
find_never p (x ∷ xs) never = let here = never x in rw here (find_never p xs never)

both_none : (p q : ℕ → Bool) (xs : List ℕ) → find p xs ≡ None → find (λ x. p x && q x) xs ≡ None
both_none p q [] e = refl
both_none p q (x ∷ xs) e = by_test (p x) e (both_none p q xs)
  where
    by_test : (b : Bool) → cond b (Some x) (find p xs) ≡ None → (find p xs ≡ None → find (λ y. p y && q y) xs ≡ None) → cond (b && q x) (Some x) (find (λ y. p y && q y) xs) ≡ None
    by_test true e rest = absurd cc
    by_test false e rest = rest e

both_some : (p q : ℕ → Bool) (xs : List ℕ) (y : ℕ) → find p xs ≡ Some y → q y ≡ true → find (λ x. p x && q x) xs ≡ Some y
both_some p q [] y e passes = absurd cc
both_some p q (x ∷ xs) y e passes = by_test (p x) e (both_some p q xs y)
  where
    by_test : (b : Bool) → cond b (Some x) (find p xs) ≡ Some y → (find p xs ≡ Some y → q y ≡ true → find (λ z. p z && q z) xs ≡ Some y) → cond (b && q x) (Some x) (find (λ z. p z && q z) xs) ≡ Some y
    by_test true e rest = let is : x ≡ y = cc in let here : q x ≡ true = rw is passes in rw here e
    by_test false e rest = rest e passes

split_by : (a g : ℕ) (b : Bool) → (nat_lt a (g + 1) && b) ≡ ((nat_lt a g && b) || (a == g && b))
split_by a g true = grind (arith, nat_tests)
split_by a g false = grind (arith, nat_tests)

-- raises of one group pass alike
pub alike : (passes : ℕ → Bool → Bool) (r s : Raise) → fault_group r ≡ fault_group s → passes_by passes r ≡ passes_by passes s
alike passes r s same = by_tests (opens r) (opens s) same
  where
    by_tests : (b d : Bool) → cond b (64 + group_region r) (group_region r) ≡ cond d (64 + group_region s) (group_region s) → passes (group_region r) b ≡ passes (group_region s) d
    by_tests true true e = ap (λ n. passes n true) (omega (arith, e))
    by_tests true false e = absurd (omega (arith, e))
    by_tests false true e = absurd (omega (arith, e))
    by_tests false false e = ap (λ n. passes n false) (omega (arith, e))

pub none_below : (slots : List Raise) (order : List ℕ) (passes : ℕ → Bool → Bool) → find (passes_below slots passes 0) order ≡ None
none_below slots order passes = find_never (passes_below slots passes 0) order (λ x. none (fault_group (raise_in slots x)) (passes_at slots passes x))
  where
    none : (a : ℕ) (b : Bool) → (nat_lt a 0 && b) ≡ false
    none a b = grind (arith, nat_tests)

module _ (slots : List Raise) (order : List ℕ) (stamps : List ℕ) (told : ℕ) (rising : AreStamped stamps 0 order told) (passes : ℕ → Bool → Bool) where
  next_group : (group : ℕ) → find (passes_below slots passes (group + 1)) order ≡ first_of stamps (find (passes_below slots passes group) order) (find (λ s. is_in_group slots group s && passes_at slots passes s) order)
  next_group group =
      find_same (passes_below slots passes (group + 1)) (λ s. passes_below slots passes group s || (is_in_group slots group s && passes_at slots passes s)) order (λ s. split_by (fault_group (raise_in slots s)) group (passes_at slots passes s))
      ∙ find_either stamps (passes_below slots passes group) (λ s. is_in_group slots group s && passes_at slots passes s) 0 order told rising

  module _ (group : ℕ) where
    -- the group has no raise
    pub next_none : find (is_in_group slots group) order ≡ None → find (passes_below slots passes group) order ≡ find (passes_below slots passes (group + 1)) order
    next_none none = sym (next_group group ∙ ap (first_of stamps (find (passes_below slots passes group) order)) (both_none (is_in_group slots group) (passes_at slots passes) order none))

    found_in : (slot : ℕ) → find (is_in_group slots group) order ≡ Some slot → fault_group (raise_in slots slot) ≡ group
    found_in slot is = eqb-true (fault_group (raise_in slots slot)) group (found (is_in_group slots group) order slot is).0

    -- the group passes
    pub next_passes : (slot : ℕ) → find (is_in_group slots group) order ≡ Some slot → passes_at slots passes slot ≡ true
        → find (passes_below slots passes (group + 1)) order ≡ Some (earlier stamps (find (passes_below slots passes group) order) slot)
    next_passes slot is passed = next_group group ∙ ap (first_of stamps (find (passes_below slots passes group) order)) (both_some (is_in_group slots group) (passes_at slots passes) order slot is passed)

    -- the group fails
    pub next_fails : (slot : ℕ) → find (is_in_group slots group) order ≡ Some slot → passes_at slots passes slot ≡ false → find (passes_below slots passes group) order ≡ find (passes_below slots passes (group + 1)) order
    next_fails slot is failed =
        sym (next_group group ∙ ap (first_of stamps (find (passes_below slots passes group) order)) (find_never (λ s. is_in_group slots group s && passes_at slots passes s) order (λ s. fails s (is_in_group slots group s) refl)))
      where
        fails : (s : ℕ) (b : Bool) → is_in_group slots group s ≡ b → (b && passes_at slots passes s) ≡ false
        fails s true e = alike passes (raise_in slots s) (raise_in slots slot) (eqb-true (fault_group (raise_in slots s)) group e ∙ sym (found_in slot is)) ∙ failed
        fails s false e = refl

-- all groups
pub all_groups : (slots : List Raise) (order : List ℕ) (passes : ℕ → Bool → Bool) → option_map (raise_in slots) (find (passes_below slots passes groups) order) ≡ find (passes_by passes) (raises_in slots order)
all_groups slots order passes =
    ap (option_map (raise_in slots)) (find_same (passes_below slots passes groups) (passes_at slots passes) order (λ s. all (fault_group (raise_in slots s)) (passes_at slots passes s) (group_below (raise_in slots s))))
    ∙ sym (find-map (passes_by passes) (raise_in slots) order)
  where
    all : (a : ℕ) (b : Bool) → a < 128 → (nat_lt a 128 && b) ≡ b
    all a true lt = grind (arith, nat_tests, lt)
    all a false lt = grind (arith, nat_tests, lt)

pub earlier_within : (stamps : List ℕ) (n : ℕ) (best : Option ℕ) (slot : ℕ) → IfSome best (λ b. b < n) → slot < n → earlier stamps best slot < n
earlier_within stamps n None slot within lt = lt
earlier_within stamps n (Some best) slot within lt = by_test (nat_lt (stamp_in stamps best) (stamp_in stamps slot))
  where
    by_test : (b : Bool) → cond b best slot < n
    by_test true = within
    by_test false = lt

-- what is found is one of the raises
pub contained : (slots : List Raise) (p : ℕ → Bool) (order : List ℕ) (slot : ℕ) → find p order ≡ Some slot → Contains (raises_in slots order) (raise_in slots slot)
contained slots p [] slot is = absurd cc
contained slots p (x ∷ xs) slot is = by_test (p x) is (contained slots p xs slot)
  where
    by_test : (b : Bool) → cond b (Some x) (find p xs) ≡ Some slot → (find p xs ≡ Some slot → Contains (raises_in slots xs) (raise_in slots slot)) → Contains (raises_in slots (x ∷ xs)) (raise_in slots slot)
    by_test true e rest = let same : x ≡ slot = cc in (0, omega arith, ap (raise_in slots) same)
    by_test false e rest = let later = rest e in (suc later.0, omega (arith, later.1), later.2)
