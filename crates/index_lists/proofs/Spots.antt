-- A number that comes to stand among the marked of its group.
use Rattle.std.proofs.Common.{◌≡◌, ◌≢◌, ◌∙◌, ℕ, zero, suc, ◌+◌, ◌-◌, ◌<◌, ◌≤◌, Bool, true, false, cond, ◌==◌, ◌&&◌, List, [], ◌∷◌, ◌++◌, length, filter, take, drop, Option, Some, None, ◌⊎◌, inl, inr, refl, sym, ap, subst, arith, append-nil, length-set, get_or-set_same, get_or-set_other}
use Rattle.std.specs.Prelude.{slice_index_or}
use Rattle.std.specs.List.{slice_get}
use Rattle.std.proofs.lemmas.Bool.{cases_eq, eqb-true, eq-eqb, false_from_ne_true}
use Rattle.std.proofs.lemmas.List.{length-map, get_or-map, take_more, drop_more}
use Rattle.std.proofs.lemmas.List.Elements.{filter-append}
use Rattle.std.proofs.lemmas.Option.{slice_get_within, get_or_from_slice_get, slice_get-get_or}
use Rattle.index_lists.specs.Lists.{ListsSeen, list_at, before_place, put_behind}
use Rattle.index_lists.specs.declared.place.Spot.{Spot}
use Rattle.index_lists.specs.declared.place.Spot.TheVariants as spot
use Rattle.index_lists.specs.InsideOrders.{AreParts, IsSpot, IsSpotBefore, put_at}
use Rattle.index_lists.proofs.Counts.{one, count, count-cons, one-same}
use Rattle.index_lists.proofs.Parts.{apart_of, count_filter-le, filter-agree, filter_both, count_filter-out}

-- ---- a list around one of its numbers

pub around : (n : ℕ) (xs : List ℕ) (place : ℕ) → slice_get xs place ≡ Some n → xs ≡ take place xs ++ n ∷ drop (place + 1) xs
around n [] place is = absurd cc
around n (x ∷ xs) zero is = let same : x ≡ n = cc in ap (λ y. y ∷ xs) same
around n (x ∷ xs) (suc place) is =
    let more : suc place + 1 ≡ suc (place + 1) = omega arith in
    subst (λ k. x ∷ xs ≡ take (suc place) (x ∷ xs) ++ n ∷ drop k (x ∷ xs)) (sym more) (ap (λ ys. x ∷ ys) (around n xs place is))

pub count_around : (n m : ℕ) (us vs : List ℕ) → count m (us ++ n ∷ vs) ≡ count m us + (one (n == m) + count m vs)
count_around n m [] vs = let cons = count-cons m n vs in omega arith
count_around n m (u ∷ us) vs = let rest = count_around n m us vs in let cons = count-cons m u us in let cons' = count-cons m u (us ++ n ∷ vs) in omega arith

pub count_append : (m : ℕ) (us vs : List ℕ) → count m (us ++ vs) ≡ count m us + count m vs
count_append m [] vs = omega arith
count_append m (u ∷ us) vs = let rest = count_append m us vs in let cons = count-cons m u us in let cons' = count-cons m u (us ++ vs) in omega arith

-- ---- a walk outwards

-- so many steps to both sides
pub record IsWalked (marked : ℕ → Bool) (list : List ℕ) (place steps : ℕ) (left right : Option ℕ) : Type 0 where
  pub few : steps ≤ place
  pub before : left ≡ before_place list (place - steps)
  pub behind : right ≡ slice_get list (place + 1 + steps)
  pub unmarked_before : filter marked (take place list) ≡ filter marked (take (place - steps) list)
  pub unmarked_behind : filter marked (drop (place + 1) list) ≡ filter marked (drop (place + 1 + steps) list)

-- the place of what stands before
pub left_place : (list : List ℕ) (i x : ℕ) → Some x ≡ before_place list i → (j : ℕ) × (i ≡ j + 1) × (slice_get list j ≡ Some x)
left_place list zero x e = absurd cc
left_place list (suc j) x e = (j, omega arith, sym e)

pub left_marked : (marked : ℕ → Bool) (list : List ℕ) (j x : ℕ) → slice_get list j ≡ Some x → marked x ≡ true → filter marked (take (j + 1) list) ≡ filter marked (take j list) ++ x ∷ []
left_marked marked list j x here is_yes =
    let within = slice_get_within list j x here in
    let is : slice_index_or list j 0 ≡ x = get_or_from_slice_get list j x 0 here in
    ap (filter marked) (take_more list j 0 within) ∙ (filter-append marked (take j list) (slice_index_or list j 0 ∷ []) ∙ rw (is, is_yes) refl)

pub left_unmarked : (marked : ℕ → Bool) (list : List ℕ) (j x : ℕ) → slice_get list j ≡ Some x → marked x ≡ false → filter marked (take (j + 1) list) ≡ filter marked (take j list)
left_unmarked marked list j x here is_no =
    let within = slice_get_within list j x here in
    let is : slice_index_or list j 0 ≡ x = get_or_from_slice_get list j x 0 here in
    ap (filter marked) (take_more list j 0 within) ∙ (filter-append marked (take j list) (slice_index_or list j 0 ∷ []) ∙ rw (is, is_no) (append-nil (filter marked (take j list))))

pub right_is : (list : List ℕ) (j x : ℕ) → slice_get list j ≡ Some x → drop j list ≡ x ∷ drop (j + 1) list
right_is list j x here =
    let within = slice_get_within list j x here in
    let is : slice_index_or list j 0 ≡ x = get_or_from_slice_get list j x 0 here in
    drop_more list j 0 within ∙ ap (λ y. y ∷ drop (j + 1) list) is

pub right_marked : (marked : ℕ → Bool) (list : List ℕ) (j x : ℕ) → slice_get list j ≡ Some x → marked x ≡ true → filter marked (drop j list) ≡ x ∷ filter marked (drop (j + 1) list)
right_marked marked list j x here is_yes = ap (filter marked) (right_is list j x here) ∙ rw is_yes refl

pub right_unmarked : (marked : ℕ → Bool) (list : List ℕ) (j x : ℕ) → slice_get list j ≡ Some x → marked x ≡ false → filter marked (drop j list) ≡ filter marked (drop (j + 1) list)
right_unmarked marked list j x here is_no = ap (filter marked) (right_is list j x here) ∙ rw is_no refl

pub right_end : (list : List ℕ) (j : ℕ) → slice_get list j ≡ None → drop j list ≡ []
right_end [] zero e = refl
right_end [] (suc j) e = refl
right_end (x ∷ xs) zero e = absurd cc
right_end (x ∷ xs) (suc j) e = right_end xs j e

-- nothing stands before the walk
pub walked_front : (marked : ℕ → Bool) (list : List ℕ) (place steps : ℕ) (behind : Option ℕ) → place ≤ length list → IsWalked marked list place steps None behind → filter marked (take place list) ≡ []
walked_front marked list place steps behind within w = by_left (place - steps) refl
  where
    by_left : (i : ℕ) → place - steps ≡ i → filter marked (take place list) ≡ []
    by_left zero e = w.unmarked_before ∙ ap (λ i. filter marked (take i list)) e
    by_left (suc j) e =
        let some = slice_get-get_or list j 0 (omega arith) in
        let none : None ≡ slice_get list j = w.before ∙ ap (before_place list) e in
        absurd (cc (some, none))

pub walked_back : (marked : ℕ → Bool) (list : List ℕ) (place steps : ℕ) (before : Option ℕ) → IsWalked marked list place steps before None → filter marked (drop (place + 1) list) ≡ []
walked_back marked list place steps before w = w.unmarked_behind ∙ ap (filter marked) (right_end list (place + 1 + steps) (sym w.behind))

pub walked_left : (marked : ℕ → Bool) (list : List ℕ) (place steps x : ℕ) (behind : Option ℕ) → IsWalked marked list place steps (Some x) behind → marked x ≡ true → (others : List ℕ) × (filter marked (take place list) ≡ others ++ x ∷ [])
walked_left marked list place steps x behind w is_yes =
    let at = left_place list (place - steps) x w.before in
    (filter marked (take at.0 list), w.unmarked_before ∙ (ap (λ i. filter marked (take i list)) at.1 ∙ left_marked marked list at.0 x at.2 is_yes))

-- the marked ones around the walk, where the next behind is marked: that stands where those before end
pub walked_right : (marked : ℕ → Bool) (list : List ℕ) (n place steps x : ℕ) (before : Option ℕ) → slice_get list place ≡ Some n → marked n ≡ false → IsWalked marked list place steps before (Some x) → marked x ≡ true
    → filter marked list ≡ filter marked (take place list) ++ x ∷ filter marked (drop (place + 1 + steps + 1) list)
walked_right marked list n place steps x before here is_no w is_yes =
    ap (filter marked) (around n list place here)
    ∙ (filter-append marked (take place list) (n ∷ drop (place + 1) list)
    ∙ ap (λ ys. filter marked (take place list) ++ ys) (ap (λ b. cond b (n ∷ filter marked (drop (place + 1) list)) (filter marked (drop (place + 1) list))) is_no ∙ (w.unmarked_behind ∙ right_marked marked list (place + 1 + steps) x (sym w.behind) is_yes)))

-- one step more to both sides
pub walked_on : (marked : ℕ → Bool) (list : List ℕ) (place steps left right : ℕ) (before behind : Option ℕ) → IsWalked marked list place steps (Some left) (Some right) → marked left ≡ false → marked right ≡ false
    → ((at : ℕ) → slice_get list at ≡ Some left → before ≡ before_place list at) → ((at : ℕ) → slice_get list at ≡ Some right → behind ≡ slice_get list (at + 1)) → IsWalked marked list place (steps + 1) before behind
walked_on marked list place steps left right before behind w no_left no_right to_left to_right =
    let at = left_place list (place - steps) left w.before in
    let few : steps + 1 ≤ place = (let is = at.1 in let was = w.few in omega arith) in
    let one_less : at.0 ≡ place - (steps + 1) = (let is = at.1 in let was = w.few in omega arith) in
    let one_more : place + 1 + steps + 1 ≡ place + 1 + (steps + 1) = omega arith in
    record {
      few = few;
      before = to_left at.0 at.2 ∙ ap (before_place list) one_less;
      behind = to_right (place + 1 + steps) (sym w.behind) ∙ ap (slice_get list) one_more;
      unmarked_before = w.unmarked_before ∙ (ap (λ i. filter marked (take i list)) at.1 ∙ (left_unmarked marked list at.0 left at.2 no_left ∙ ap (λ i. filter marked (take i list)) one_less));
      unmarked_behind = w.unmarked_behind ∙ (right_unmarked marked list (place + 1 + steps) right (sym w.behind) no_right ∙ ap (λ i. filter marked (drop i list)) one_more);
    }

-- ---- the spot in front of a number that is marked

last_of : (us vs : List ℕ) (x : ℕ) → before_place (us ++ vs) (length us) ≡ Some x → (others : List ℕ) × (us ≡ others ++ x ∷ [])
last_of [] vs x e = absurd cc
last_of (u ∷ us) vs x e = go u us e
  where
    go : (w : ℕ) (ws : List ℕ) → slice_get (w ∷ (ws ++ vs)) (length ws) ≡ Some x → (others : List ℕ) × (w ∷ ws ≡ others ++ x ∷ [])
    go w [] is = let same : w ≡ x = cc in ([], ap (λ y. y ∷ []) same)
    go w (z ∷ zs) is = let rest = go z zs is in (w ∷ rest.0, ap (λ ys. w ∷ ys) rest.1)

none_before : (us vs : List ℕ) → before_place (us ++ vs) (length us) ≡ None → us ≡ []
none_before [] vs e = refl
none_before (u ∷ us) vs e = absurd (go u us e)
  where
    go : (w : ℕ) (ws : List ℕ) → slice_get (w ∷ (ws ++ vs)) (length ws) ≡ None → ⊥
    go w [] is = cc
    go w (z ∷ zs) is = go z zs is

pub spot_of : (us vs list : List ℕ) (found : Spot) → list ≡ us ++ vs → IsSpotBefore list (length us) found → (behind : List ℕ) → IsSpot us behind found
spot_of us vs list spot.Front is e behind = none_before us vs (ap (λ xs. before_place xs (length us)) (sym is) ∙ e)
spot_of us vs list spot.Back is e behind = absurd e
spot_of us vs list (spot.Behind x) is e behind = last_of us vs x (ap (λ xs. before_place xs (length us)) (sym is) ∙ e)

pub seam : (us vs : List ℕ) (x : ℕ) → slice_get (us ++ x ∷ vs) (length us) ≡ Some x
seam [] vs x = refl
seam (u ∷ us) vs x = seam us vs x

-- ---- what is put there

put_behind-none : (p n : ℕ) (xs : List ℕ) → count p xs ≡ 0 → put_behind p n xs ≡ xs
put_behind-none p n [] none = refl
put_behind-none p n (x ∷ xs) none =
    let cons = count-cons p x xs in
    let differs : (x == p) ≡ false = false_from_ne_true (x == p) (λ e. (let counts : one (x == p) ≡ 1 = ap one e in absurd (omega arith))) in
    rw differs (ap (λ ys. x ∷ ys) (put_behind-none p n xs (omega arith)))

put_behind-last : (p n : ℕ) (us vs : List ℕ) → count p us ≡ 0 → put_behind p n ((us ++ p ∷ []) ++ vs) ≡ (us ++ p ∷ []) ++ n ∷ vs
put_behind-last p n [] vs none = let self : (p == p) ≡ true = eq-eqb p p refl in rw self refl
put_behind-last p n (x ∷ us) vs none =
    let cons = count-cons p x us in
    let differs : (x == p) ≡ false = false_from_ne_true (x == p) (λ e. (let counts : one (x == p) ≡ 1 = ap one e in absurd (omega arith))) in
    rw differs (ap (λ ys. x ∷ ys) (put_behind-last p n us vs (omega arith)))

-- the list that the number goes to
pub put_own : (lists : ListsSeen) (g n : ℕ) (at : Spot) (us vs : List ℕ) → g < length lists.lists → list_at lists g ≡ us ++ vs → ((m : ℕ) → count m (us ++ vs) ≤ 1) → IsSpot us vs at → list_at (put_at lists g n at) g ≡ us ++ n ∷ vs
put_own lists g n spot.Front us vs below is once found =
    get_or-set_same lists.lists g _ [] below ∙ (ap (λ ys. n ∷ ys) (is ∙ ap (λ xs. xs ++ vs) found) ∙ ap (λ xs. xs ++ n ∷ vs) (sym found))
put_own lists g n spot.Back us vs below is once found =
    get_or-set_same lists.lists g _ [] below
    ∙ (ap (λ ys. ys ++ n ∷ []) (is ∙ (ap (λ xs. us ++ xs) found ∙ append-nil us)) ∙ ap (λ xs. us ++ n ∷ xs) (sym found))
put_own lists g n (spot.Behind p) us vs below is once found =
    let there = once p in
    let all = count_append p us vs in
    let split : count p us ≡ count p (found.0 ++ p ∷ []) = ap (count p) found.1 in
    let own = count_around p p found.0 [] in
    let self = one-same p in
    get_or-map (put_behind p n) lists.lists g [] [] below
    ∙ (ap (put_behind p n) (is ∙ ap (λ xs. xs ++ vs) found.1)
    ∙ (put_behind-last p n found.0 vs (omega arith) ∙ ap (λ xs. xs ++ n ∷ vs) (sym found.1)))

-- another list, which hasn't got the number behind which it goes
pub put_other : (lists : ListsSeen) (g n k : ℕ) (at : Spot) → k ≢ g → k < length lists.lists → ((p : ℕ) → at ≡ spot.Behind p → count p (list_at lists k) ≡ 0) → list_at (put_at lists g n at) k ≡ list_at lists k
put_other lists g n k spot.Front differs below none = get_or-set_other lists.lists g k _ [] differs
put_other lists g n k spot.Back differs below none = get_or-set_other lists.lists g k _ [] differs
put_other lists g n k (spot.Behind p) differs below none = get_or-map (put_behind p n) lists.lists k [] [] below ∙ put_behind-none p n (list_at lists k) (none p refl)

pub put_many : (lists : ListsSeen) (g n : ℕ) (at : Spot) → length (put_at lists g n at).lists ≡ length lists.lists
put_many lists g n spot.Front = length-set lists.lists g _
put_many lists g n spot.Back = length-set lists.lists g _
put_many lists g n (spot.Behind p) = length-map lists.lists (put_behind p n)

pub put_numbers : (lists : ListsSeen) (g n : ℕ) (at : Spot) → (put_at lists g n at).numbers ≡ lists.numbers
put_numbers lists g n spot.Front = refl
put_numbers lists g n spot.Back = refl
put_numbers lists g n (spot.Behind p) = refl

-- ---- the part that it comes to

filter_around : (m new : ℕ → Bool) (n : ℕ) (us vs : List ℕ) → count n us ≡ 0 → count n vs ≡ 0 → ((x : ℕ) → x ≢ n → new x ≡ m x) → new n ≡ true → filter new (us ++ n ∷ vs) ≡ filter m us ++ n ∷ filter m vs
filter_around m new n us vs none none' agree is_yes =
    let left : filter new us ≡ filter m us = filter-agree new m us (λ x there. agree x (apart_of n x us none there)) in
    let right : filter new vs ≡ filter m vs = filter-agree new m vs (λ x there. agree x (apart_of n x vs none' there)) in
    filter-append new us (n ∷ vs) ∙ rw (is_yes, left, right) refl

filter_around_no : (m : ℕ → Bool) (n : ℕ) (us vs : List ℕ) → m n ≡ false → filter m (us ++ n ∷ vs) ≡ filter m us ++ filter m vs
filter_around_no m n us vs is_no = filter-append m us (n ∷ vs) ∙ rw is_no refl

-- of the members of each group the marked ones, where one more is marked
module _ (lists : ListsSeen) (groups : ℕ) (group : ℕ → ℕ) (m new : ℕ → Bool) (order : List ℕ) (n place : ℕ) (at : Spot) (parts : AreParts lists groups (λ g x. (group x == g) && m x) order)
    (below : group n < groups) (once : (x : ℕ) → count x order ≤ 1) (agree : (x : ℕ) → x ≢ n → new x ≡ m x) (was_not : m n ≡ false) (is_now : new n ≡ true) where
  abbrev own : List ℕ
  own = filter (λ x. group x == group n) order

  abbrev us : List ℕ
  us = take place own

  abbrev vs : List ℕ
  vs = drop (place + 1) own

  module _ (here : slice_get own place ≡ Some n) (found : IsSpot (filter m us) (filter m vs) at) where
    split : own ≡ us ++ n ∷ vs
    split = around n own place here

    once_own : (x : ℕ) → count x (us ++ n ∷ vs) ≤ 1
    once_own x = let less = count_filter-le x (λ y. group y == group n) order in let all = once x in let same : count x own ≡ count x (us ++ n ∷ vs) = ap (count x) split in omega arith

    before : filter (λ x. (group x == group n) && m x) order ≡ filter m us ++ filter m vs
    before = filter_both (λ x. group x == group n) m order ∙ (ap (filter m) split ∙ filter_around_no m n us vs was_not)

    after : filter (λ x. (group x == group n) && new x) order ≡ filter m us ++ n ∷ filter m vs
    after =
        let all = once_own n in
        let around_n = count_around n n us vs in
        let self = one-same n in
        filter_both (λ x. group x == group n) new order ∙ (ap (filter new) split ∙ filter_around m new n us vs (omega arith) (omega arith) agree is_now)

    once_marked : (x : ℕ) → count x (filter m us ++ filter m vs) ≤ 1
    once_marked x =
        let two = count_append x (filter m us) (filter m vs) in
        let left = count_filter-le x m us in
        let right = count_filter-le x m vs in
        let all = once_own x in
        let around_x = count_around n x us vs in
        omega arith

    passes : (p : ℕ) → 1 ≤ count p own → (group p == group n) ≡ true
    passes p some = by_test (group p == group n) refl
      where
        by_test : (b : Bool) → (group p == group n) ≡ b → b ≡ true
        by_test true e = refl
        by_test false e = let none = count_filter-out p (λ x. group x == group n) order e in absurd (omega arith)

    -- what the number goes behind is of its group
    of_group : (p k : ℕ) → k ≢ group n → at ≡ spot.Behind p → count p (filter (λ x. (group x == k) && m x) order) ≡ 0
    of_group p k differs e =
        let last : (others : List ℕ) × (filter m us ≡ others ++ p ∷ []) = subst (IsSpot (filter m us) (filter m vs)) e found in
        let same_count : count p (filter m us) ≡ count p (last.0 ++ p ∷ []) = ap (count p) last.1 in
        let ends = count_around p p last.0 [] in
        let self = one-same p in
        let in_us = count_filter-le p m us in
        let around_p = count_around n p us vs in
        let same : count p own ≡ count p (us ++ n ∷ vs) = ap (count p) split in
        let is_own : (group p == group n) ≡ true = passes p (omega arith) in
        let not_k : (group p == k) ≡ false = false_from_ne_true (group p == k) (λ other. differs (sym (eqb-true (group p) k other) ∙ eqb-true (group p) (group n) is_own)) in
        count_filter-out p (λ x. (group x == k) && m x) order (ap (λ b. b && m p) not_k)

    same_else : (k x : ℕ) → k ≢ group n → (x ≡ n) ⊎ (x ≢ n) → ((group x == k) && m x) ≡ ((group x == k) && new x)
    same_else k x differs (inl e) =
        let other : (group x == k) ≡ false = false_from_ne_true (group x == k) (λ is_k. differs (sym (eqb-true (group x) k is_k) ∙ ap group e)) in
        rw other refl
    same_else k x differs (inr ne) = ap (λ b. (group x == k) && b) (sym (agree x ne))

    by_group : (k : ℕ) → k < groups → (k ≡ group n) ⊎ (k ≢ group n) → list_at (put_at lists (group n) n at) k ≡ filter (λ x. (group x == k) && new x) order
    by_group k lt (inl e) =
        let many = parts.many in
        let put : list_at (put_at lists (group n) n at) (group n) ≡ filter (λ x. (group x == group n) && new x) order =
        put_own lists (group n) n at (filter m us) (filter m vs) (omega arith) (parts.part (group n) below ∙ before) once_marked found ∙ sym after in
        subst (λ g. list_at (put_at lists (group n) n at) g ≡ filter (λ x. (group x == g) && new x) order) (sym e) put
    by_group k lt (inr differs) =
        let many = parts.many in
        put_other lists (group n) n k at differs (omega arith) (λ p e. rw (parts.part k lt) (of_group p k differs e))
        ∙ (parts.part k lt ∙ filter-agree (λ x. (group x == k) && m x) (λ x. (group x == k) && new x) order (λ x there. same_else k x differs (cases_eq x n)))

    pub part_marked : AreParts (put_at lists (group n) n at) groups (λ g x. (group x == g) && new x) order
    part_marked = record {
      many = put_many lists (group n) n at ∙ parts.many;
      part = λ k lt. by_group k lt (cases_eq k (group n));
    }
