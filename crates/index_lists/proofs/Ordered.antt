-- What ties the fields of an order with groups stays tied through each call.
use Rattle.std.proofs.Common.{◌≡◌, ◌≢◌, ◌∙◌, ℕ, zero, suc, ◌+◌, ◌-◌, ◌<◌, ◌≤◌, Bool, true, false, not, ◌==◌, ◌&&◌, ◌||◌, List, [], ◌∷◌, ◌++◌, length, replicate, filter, find, take, drop, Option, Some, None, ◌⊎◌, inl, inr, refl, sym, ap, subst, arith, length-set, get_or-set_same, get_or-set_other}
use Rattle.std.specs.Prelude.{slice_index_or, slice_set, map}
use Rattle.std.specs.List.{list_any, slice_get}
use Rattle.std.proofs.lemmas.Bool.{cases_eq, cases_lt, eqb-true, eq-eqb, false_from_ne_true}
use Rattle.std.proofs.lemmas.List.{get_or_default, get_or-map, length-map, get_or-replicate, length-replicate, map-set}
use Rattle.index_lists.specs.Lists.{ListsSeen, list_at, before_place, all_empty, has, stands, pushed, removed, without}
use Rattle.index_lists.specs.declared.place.Place.{Place}
use Rattle.index_lists.specs.declared.place.Spot.{Spot}
use Rattle.index_lists.specs.declared.place.Spot.TheVariants as spot
use Rattle.index_lists.specs.Orders.{OrderSeen, no_members, group_of, mark_of, is_member, in_group, marked_in, appended, left_out, with_mark}
use Rattle.index_lists.specs.InsideOrders.{no_place, place_of, groups_in, marks_in, order_seen, AreParts, AreRising, AreBelow, IsKept, IsGrouped, StandsWhere, IsSpot, IsSpotBefore, IsSpotOf, put_at, members, marked_members}
use Rattle.index_lists.proofs.Counts.{one, count, count-none, count-push, count-without-le, one-same}
use Rattle.index_lists.proofs.Parts.{place_got, apart_of, has_counted, counted_has, count_filter-le, count_filter-out, count_filter-there, filter_both, length_filter-le, find_first, find_filter, find_but, found, part_pushed, part_passed, part_removed, part_missed, part_unmarked, stands_part, stands_nowhere}
use Rattle.index_lists.proofs.Rising.{rising_pushed, rising_without, rising_kept}
use Rattle.std.proofs.lemmas.Option.{slice_get_within}
use Rattle.index_lists.proofs.Dealt.{few_once, set_as, map_got}
use Rattle.index_lists.proofs.Spots.{around, count_around, IsWalked, walked_on, walked_right, seam, spot_of, part_marked, put_numbers}

module _ (o : OrderSeen) (order groups marked : ListsSeen) (places : List Place) (next : ℕ) (s : IsGrouped o order groups marked places next) where
  pub order_at : list_at order 0 ≡ o.order
  order_at = ap (λ (ls : List (List ℕ)). slice_index_or ls 0 []) s.one

  pub one_list : length order.lists ≡ 1
  one_list = ap length s.one

  pub in_order : (n : ℕ) → stands order n ≡ is_member o n
  in_order n = ap (list_any (has n)) s.one ∙ either (is_member o n)
    where
      either : (b : Bool) → (b || false) ≡ b
      either true = refl
      either false = refl

  pub member_counted : (n : ℕ) → is_member o n ≡ true → 1 ≤ count n o.order
  member_counted n there = counted_has n o.order there

  pub fresh_counted : (n : ℕ) → is_member o n ≡ false → count n o.order ≡ 0
  fresh_counted n fresh = count-none n o.order fresh

  pub in_groups : (n : ℕ) → is_member o n ≡ true → stands groups n ≡ true
  in_groups n there =
      let some = member_counted n there in
      stands_part groups o.groups (in_group o) o.order (group_of o n) n s.grouped (s.kept n some).group (eq-eqb (group_of o n) (group_of o n) refl) some

  pub in_marked : (n : ℕ) → is_member o n ≡ true → mark_of o n ≡ true → stands marked n ≡ true
  in_marked n there is_yes =
      let some = member_counted n there in
      stands_part marked o.groups (marked_in o) o.order (group_of o n) n s.marks (s.kept n some).group (let self : (group_of o n == group_of o n) ≡ true = eq-eqb (group_of o n) (group_of o n) refl in rw (self, is_yes) refl) some

  pub out_of_groups : (n : ℕ) → is_member o n ≡ false → stands groups n ≡ false
  out_of_groups n fresh = stands_nowhere groups o.groups (in_group o) o.order n s.grouped (λ k lt. (let none = fresh_counted n fresh in let less = count_filter-le n (in_group o k) o.order in omega arith))

  pub out_of_marked : (n : ℕ) → is_member o n ≡ false → stands marked n ≡ false
  out_of_marked n fresh = stands_nowhere marked o.groups (marked_in o) o.order n s.marks (λ k lt. (let none = fresh_counted n fresh in let less = count_filter-le n (marked_in o k) o.order in omega arith))

  pub unmarked_out : (n : ℕ) → mark_of o n ≡ false → stands marked n ≡ false
  unmarked_out n is_no = stands_nowhere marked o.groups (marked_in o) o.order n s.marks (λ k lt. count_filter-out n (marked_in o k) o.order (fails k))
    where
      fails : (k : ℕ) → marked_in o k n ≡ false
      fails k = by_test (group_of o n == k)
        where
          by_test : (b : Bool) → (b && mark_of o n) ≡ false
          by_test true = is_no
          by_test false = refl

  pub member_within : (n : ℕ) → is_member o n ≡ true → n < o.numbers
  member_within n there = (s.kept n (member_counted n there)).within

  -- ---- what is read

  pub first_is : (g : ℕ) → g < o.groups → slice_get (list_at groups g) 0 ≡ find (in_group o g) o.order
  first_is g lt = ap (λ xs. slice_get xs 0) (s.grouped.part g lt) ∙ sym (find_first (in_group o g) o.order)

  pub first_marked_is : (g : ℕ) → g < o.groups → slice_get (list_at marked g) 0 ≡ find (marked_in o g) o.order
  first_marked_is g lt = ap (λ xs. slice_get xs 0) (s.marks.part g lt) ∙ sym (find_first (marked_in o g) o.order)

  nothing_found : (p : ℕ → Bool) → ((x : ℕ) → 1 ≤ count x o.order → p x ≡ false) → None ≡ find p o.order
  nothing_found p fails = by_found (find p o.order) refl
    where
      by_found : (f : Option ℕ) → find p o.order ≡ f → None ≡ f
      by_found None e = refl
      by_found (Some x) e = let at = found p o.order x e in let is_no = fails x at.1 in absurd (let is_yes = at.0 in cc (is_yes, is_no))

  no_group : (g : ℕ) → o.groups ≤ g → (x : ℕ) → 1 ≤ count x o.order → (group_of o x == g) ≡ false
  no_group g past x there = false_from_ne_true (group_of o x == g) (λ e. (let is = eqb-true (group_of o x) g e in let below = (s.kept x there).group in absurd (omega arith)))

  pub none_past : (g : ℕ) → o.groups ≤ g → None ≡ find (in_group o g) o.order
  none_past g past = nothing_found (in_group o g) (no_group g past)

  pub none_marked_past : (g : ℕ) → o.groups ≤ g → None ≡ find (marked_in o g) o.order
  none_marked_past g past = nothing_found (marked_in o g) (λ x there. ap (λ b. b && mark_of o x) (no_group g past x there))

  -- the first marked of a group but one number
  pub but_other : (g but x : ℕ) → find (marked_in o g) o.order ≡ Some x → (x == but) ≡ false → Some x ≡ find (λ y. marked_in o g y && not (y == but)) o.order
  but_other g but x is differs = sym (find_filter (marked_in o g) (λ y. not (y == but)) o.order ∙ first (filter (marked_in o g) o.order) (sym (find_first (marked_in o g) o.order) ∙ is))
    where
      first : (xs : List ℕ) → slice_get xs 0 ≡ Some x → find (λ y. not (y == but)) xs ≡ Some x
      first [] e = absurd cc
      first (y ∷ ys) e = let same : y ≡ x = cc in rw same (rw differs refl)

  pub but_next : (g x : ℕ) (next_one : Option ℕ) → g < o.groups → find (marked_in o g) o.order ≡ Some x → ((list place : ℕ) → slice_get (list_at marked list) place ≡ Some x → next_one ≡ slice_get (list_at marked list) (place + 1))
      → next_one ≡ find (λ y. marked_in o g y && not (y == x)) o.order
  but_next g x next_one lt is to_next =
      let list = s.marks.part g lt in
      let here : slice_get (list_at marked g) 0 ≡ Some x = first_marked_is g lt ∙ is in
      to_next g 0 here ∙ (ap (λ xs. slice_get xs 1) list ∙ sym (find_filter (marked_in o g) (λ y. not (y == x)) o.order ∙ second (filter (marked_in o g) o.order) (rw list at here) (λ n. (let less = count_filter-le n (marked_in o g) o.order in let once = s.once n in omega arith))))
    where
      second : (xs : List ℕ) → slice_get xs 0 ≡ Some x → ((n : ℕ) → count n xs ≤ 1) → find (λ y. not (y == x)) xs ≡ slice_get xs 1
      second [] e once = absurd cc
      second (y ∷ ys) e once = let same : y ≡ x = cc in subst (λ z. find (λ w. not (w == z)) (y ∷ ys) ≡ slice_get ys 0) same (find_but y ys (once y))

  -- what stands before a marked member
  pub previous_is : (g place n : ℕ) (other : Option ℕ) → g < o.groups → slice_get (marked_members o g) place ≡ Some n → ((list at : ℕ) → slice_get (list_at marked list) at ≡ Some n → other ≡ before_place (list_at marked list) at)
      → before_place (marked_members o g) place ≡ other
  previous_is g place n other lt here to_previous =
      let part = s.marks.part g lt in
      sym (to_previous g place (ap (λ xs. slice_get xs place) part ∙ here) ∙ ap (λ xs. before_place xs place) part)

  -- a group with a member is one that there is
  pub found_below : (g x : ℕ) → find (marked_in o g) o.order ≡ Some x → g < o.groups
  found_below g x is = by_place (cases_lt g o.groups)
    where
      by_place : (g < o.groups) ⊎ (o.groups ≤ g) → g < o.groups
      by_place (inl lt) = lt
      by_place (inr past) = absurd (let none = none_marked_past g past in cc (none, is))

  -- ---- the walk outwards from a member

  module _ (n : ℕ) (there : is_member o n ≡ true) where
    abbrev own : List ℕ
    own = members o (group_of o n)

    own_part : list_at groups (group_of o n) ≡ own
    own_part = s.grouped.part (group_of o n) (s.kept n (member_counted n there)).group

    own_before : (x : ℕ) (before : Option ℕ) → ((list at : ℕ) → slice_get (list_at groups list) at ≡ Some x → before ≡ before_place (list_at groups list) at) → (at : ℕ) → slice_get own at ≡ Some x → before ≡ before_place own at
    own_before x before to_left at here = to_left (group_of o n) at (ap (λ xs. slice_get xs at) own_part ∙ here) ∙ ap (λ xs. before_place xs at) own_part

    own_behind : (x : ℕ) (behind : Option ℕ) → ((list at : ℕ) → slice_get (list_at groups list) at ≡ Some x → behind ≡ slice_get (list_at groups list) (at + 1)) → (at : ℕ) → slice_get own at ≡ Some x → behind ≡ slice_get own (at + 1)
    own_behind x behind to_right at here = to_right (group_of o n) at (ap (λ xs. slice_get xs at) own_part ∙ here) ∙ ap (λ xs. slice_get xs (at + 1)) own_part

    pub walk_begins : (before behind : Option ℕ) → ((list at : ℕ) → slice_get (list_at groups list) at ≡ Some n → before ≡ before_place (list_at groups list) at)
        → ((list at : ℕ) → slice_get (list_at groups list) at ≡ Some n → behind ≡ slice_get (list_at groups list) (at + 1)) → (place : ℕ) → slice_get own place ≡ Some n → IsWalked (mark_of o) own place 0 before behind
    walk_begins before behind to_left to_right place here =
        let none : place - 0 ≡ place = omega arith in
        let none' : place + 1 + 0 ≡ place + 1 = omega arith in
        record {
          few = omega arith;
          before = own_before n before to_left place here ∙ ap (before_place own) (sym none);
          behind = own_behind n behind to_right place here ∙ ap (slice_get own) (sym none');
          unmarked_before = ap (λ i. filter (mark_of o) (take i own)) (sym none);
          unmarked_behind = ap (λ i. filter (mark_of o) (drop i own)) (sym none');
        }

    pub walk_goes : (place steps left right : ℕ) (before behind : Option ℕ) → IsWalked (mark_of o) own place steps (Some left) (Some right) → mark_of o left ≡ false → mark_of o right ≡ false
        → ((list at : ℕ) → slice_get (list_at groups list) at ≡ Some left → before ≡ before_place (list_at groups list) at)
        → ((list at : ℕ) → slice_get (list_at groups list) at ≡ Some right → behind ≡ slice_get (list_at groups list) (at + 1)) → IsWalked (mark_of o) own place (steps + 1) before behind
    walk_goes place steps left right before behind w not_left not_right to_left to_right =
        walked_on (mark_of o) own place steps left right before behind w not_left not_right (own_before left before to_left) (own_behind right behind to_right)

    -- a walk has an end
    pub walk_ends : (place steps : ℕ) → slice_get own place ≡ Some n → steps ≤ place → o.numbers ≤ steps → ⊥
    walk_ends place steps here few all =
        let lt = slice_get_within own place n here in
        let part = length_filter-le (in_group o (group_of o n)) o.order in
        let whole = few_once o.order o.numbers s.once (λ x in_it. (s.kept x in_it).within) in
        omega arith

    -- the next behind is marked
    pub spot_right : (place steps x : ℕ) (before : Option ℕ) (at : Spot) → mark_of o n ≡ false → slice_get own place ≡ Some n → IsWalked (mark_of o) own place steps before (Some x) → mark_of o x ≡ true
        → ((g p : ℕ) → g < o.groups → slice_get (marked_members o g) p ≡ Some x → IsSpotBefore (marked_members o g) p at) → IsSpot (filter (mark_of o) (take place own)) (filter (mark_of o) (drop (place + 1) own)) at
    spot_right place steps x before at unmarked here w is_marked to_spot =
        let left = filter (mark_of o) (take place own) in
        let rest = filter (mark_of o) (drop (place + 1 + steps + 1) own) in
        let all : marked_members o (group_of o n) ≡ left ++ x ∷ rest = filter_both (in_group o (group_of o n)) (mark_of o) o.order ∙ walked_right (mark_of o) own n place steps x before here unmarked w is_marked in
        let there' : slice_get (marked_members o (group_of o n)) (length left) ≡ Some x = ap (λ xs. slice_get xs (length left)) all ∙ seam left rest x in
        spot_of left (x ∷ rest) (marked_members o (group_of o n)) at all (to_spot (group_of o n) (length left) (s.kept n (member_counted n there)).group there') _

  -- ---- a member more

  module _ (g n : ℕ) (m : Bool) (places' : List Place) (g_in : g < o.groups) (n_in : n < o.numbers) (fresh : is_member o n ≡ false)
      (same : (x : ℕ) → x ≢ n → (place_of places' x).stamp ≡ (place_of places x).stamp) (stamped : (place_of places' n).stamp ≡ next) where
    abbrev after : OrderSeen
    after = appended o g n m

    none : count n o.order ≡ 0
    none = fresh_counted n fresh

    group_else : (x : ℕ) → x ≢ n → group_of after x ≡ group_of o x
    group_else x differs = get_or-set_other o.group n x g 0 differs

    group_here : group_of after n ≡ g
    group_here = get_or-set_same o.group n g 0 (rw s.sizes.0 n_in)

    mark_else : (x : ℕ) → x ≢ n → mark_of after x ≡ mark_of o x
    mark_else x differs = get_or-set_other o.marks n x m false differs

    mark_here : mark_of after n ≡ m
    mark_here = get_or-set_same o.marks n m false (rw s.sizes.1 n_in)

    marked_else : (k x : ℕ) → x ≢ n → marked_in after k x ≡ marked_in o k x
    marked_else k x differs = let a = group_else x differs in let b = mark_else x differs in rw (a, b) refl

    marked_here : (k : ℕ) → marked_in after k n ≡ ((g == k) && m)
    marked_here k = let a = group_here in let b = mark_here in rw (a, b) refl

    parts : AreParts (pushed groups g n) o.groups (in_group after) (o.order ++ n ∷ [])
    parts = part_pushed groups o.groups (in_group o) (in_group after) o.order g n s.grouped none g_in (λ k x differs. ap (λ y. y == k) (group_else x differs)) (λ k. ap (λ y. y == k) group_here)

    kept : (x : ℕ) → 1 ≤ count x (o.order ++ n ∷ []) → IsKept after places' (next + 1) x
    kept x there = by_number (cases_eq x n)
      where
        by_number : (x ≡ n) ⊎ (x ≢ n) → IsKept after places' (next + 1) x
        by_number (inl e) = subst (IsKept after places' (next + 1)) (sym e) (record { within = n_in; group = rw group_here g_in; stamp = omega (arith, stamped) })
        by_number (inr differs) =
            let push = count-push x o.order n in
            let other : one (n == x) ≡ 0 = ap one (false_from_ne_true (n == x) (λ e. differs (sym (eqb-true n x e)))) in
            let was = s.kept x (omega arith) in
            let below = was.stamp in
            let stamp = same x differs in
            record { within = was.within; group = rw (group_else x differs) was.group; stamp = omega arith }

    once : (x : ℕ) → count x (o.order ++ n ∷ []) ≤ 1
    once x = by_number (cases_eq x n)
      where
        by_number : (x ≡ n) ⊎ (x ≢ n) → count x (o.order ++ n ∷ []) ≤ 1
        by_number (inl e) = subst (λ y. count y (o.order ++ n ∷ []) ≤ 1) (sym e) (let push = count-push n o.order n in let self = one-same n in let is_no = none in omega arith)
        by_number (inr differs) =
            let push = count-push x o.order n in
            let other : one (n == x) ≡ 0 = ap one (false_from_ne_true (n == x) (λ e. differs (sym (eqb-true n x e)))) in
            let was = s.once x in
            omega arith

    rising : AreRising places' (o.order ++ n ∷ [])
    rising =
        rising_pushed places places' o.order n s.rising (λ x there. same x (apart_of n x o.order none there))
        (λ x there. (let below = (s.kept x there).stamp in let is = stamped in omega arith))

    grouped_with : (marked' : ListsSeen) → marked'.numbers ≡ o.numbers → AreParts marked' o.groups (marked_in after) (o.order ++ n ∷ []) → IsGrouped after (pushed order 0 n) (pushed groups g n) marked' places' (next + 1)
    grouped_with marked' numbers' marks = record {
      few = s.few;
      sizes = (length-set o.group n g ∙ s.sizes.0, length-set o.marks n m ∙ s.sizes.1);
      numbers = s.numbers;
      group_numbers = s.group_numbers;
      mark_numbers = numbers';
      one = ap (λ (ls : List (List ℕ)). slice_set ls 0 (slice_index_or ls 0 [] ++ n ∷ [])) s.one;
      grouped = parts;
      marks = marks;
      kept = kept;
      once = once;
      rising = rising;
    }

    pub grouped_marked : m ≡ true → IsGrouped (appended o g n m) (pushed order 0 n) (pushed groups g n) (pushed marked g n) places' (next + 1)
    grouped_marked is_yes =
        grouped_with (pushed marked g n) s.mark_numbers (part_pushed marked o.groups (marked_in o) (marked_in after) o.order g n s.marks none g_in marked_else (λ k. marked_here k ∙ (ap (λ b. (g == k) && b) is_yes ∙ either (g == k))))
      where
        either : (b : Bool) → (b && true) ≡ b
        either true = refl
        either false = refl

    pub grouped_unmarked : m ≡ false → IsGrouped (appended o g n m) (pushed order 0 n) (pushed groups g n) marked places' (next + 1)
    grouped_unmarked is_no =
        grouped_with marked s.mark_numbers (part_passed marked o.groups (marked_in o) (marked_in after) o.order n s.marks none marked_else (λ k. marked_here k ∙ (ap (λ b. (g == k) && b) is_no ∙ either (g == k))))
      where
        either : (b : Bool) → (b && false) ≡ false
        either true = refl
        either false = refl

  -- ---- a member less

  left_with : (n : ℕ) (marked' : ListsSeen) → marked'.numbers ≡ o.numbers → AreParts marked' o.groups (marked_in o) (without n o.order) → IsGrouped (left_out o n) (removed order n) (removed groups n) marked' places next
  left_with n marked' numbers' marks = record {
    few = s.few;
    sizes = s.sizes;
    numbers = s.numbers;
    group_numbers = s.group_numbers;
    mark_numbers = numbers';
    one = ap (map (without n)) s.one;
    grouped = part_removed groups o.groups (in_group o) o.order n s.grouped;
    marks = marks;
    kept = λ x there. (let less = count-without-le x n o.order in let was = s.kept x (omega arith) in record { within = was.within; group = was.group; stamp = was.stamp });
    once = λ x. (let less = count-without-le x n o.order in let was = s.once x in omega arith);
    rising = rising_without places o.order n s.rising;
  }

  pub left_marked_one : (n : ℕ) → IsGrouped (left_out o n) (removed order n) (removed groups n) (removed marked n) places next
  left_marked_one n = left_with n (removed marked n) s.mark_numbers (part_removed marked o.groups (marked_in o) o.order n s.marks)

  pub left_unmarked_one : (n : ℕ) → mark_of o n ≡ false → IsGrouped (left_out o n) (removed order n) (removed groups n) marked places next
  left_unmarked_one n is_no = left_with n marked s.mark_numbers (part_missed marked o.groups (marked_in o) o.order n s.marks (λ k. by_test (group_of o n == k)))
    where
      by_test : (b : Bool) → (b && mark_of o n) ≡ false
      by_test true = is_no
      by_test false = refl

  -- ---- another mark

  module _ (n : ℕ) (m : Bool) (places' : List Place) (n_in : n < o.numbers) (same : (x : ℕ) → (place_of places' x).stamp ≡ (place_of places x).stamp) where
    remark_else : (x : ℕ) → x ≢ n → mark_of (with_mark o n m) x ≡ mark_of o x
    remark_else x differs = get_or-set_other o.marks n x m false differs

    remark_here : mark_of (with_mark o n m) n ≡ m
    remark_here = get_or-set_same o.marks n m false (rw s.sizes.1 n_in)

    remarked_with : (marked' : ListsSeen) → marked'.numbers ≡ o.numbers → AreParts marked' o.groups (marked_in (with_mark o n m)) o.order → IsGrouped (with_mark o n m) order groups marked' places' next
    remarked_with marked' numbers' marks = record {
      few = s.few;
      sizes = (s.sizes.0, length-set o.marks n m ∙ s.sizes.1);
      numbers = s.numbers;
      group_numbers = s.group_numbers;
      mark_numbers = numbers';
      one = s.one;
      grouped = record { many = s.grouped.many; part = s.grouped.part };
      marks = marks;
      kept = λ x there. (let was = s.kept x there in let below = was.stamp in let stamp = same x in record { within = was.within; group = was.group; stamp = omega arith });
      once = s.once;
      rising = rising_kept places places' o.order s.rising (λ x there. same x);
    }

    pub mark_taken : m ≡ false → IsGrouped (with_mark o n m) order groups (removed marked n) places' next
    mark_taken is_no =
        remarked_with (removed marked n) s.mark_numbers
        (part_unmarked marked o.groups (marked_in o) (marked_in (with_mark o n m)) o.order n s.marks (λ k x differs. ap (λ b. (group_of o x == k) && b) (remark_else x differs)) (λ k. ap (λ b. (group_of o n == k) && b) (remark_here ∙ is_no) ∙ either (group_of o n == k)))
      where
        either : (b : Bool) → (b && false) ≡ false
        either true = refl
        either false = refl

    pub mark_given : (place : ℕ) (at : Spot) → m ≡ true → mark_of o n ≡ false → 1 ≤ count n o.order → slice_get (members o (group_of o n)) place ≡ Some n → IsSpotOf o n at
        → IsGrouped (with_mark o n m) order groups (put_at marked (group_of o n) n at) places' next
    mark_given place at is_yes is_no there here found_at =
        remarked_with (put_at marked (group_of o n) n at) (put_numbers marked (group_of o n) n at ∙ s.mark_numbers)
        (part_marked marked o.groups (group_of o) (mark_of o) (mark_of (with_mark o n m)) o.order n place at s.marks (s.kept n there).group s.once remark_else is_no (remark_here ∙ is_yes) here (found_at place here))

  -- other stamps
  pub restamped : (places' : List Place) (next' : ℕ) → AreRising places' o.order → AreBelow places' o.order next' → IsGrouped o order groups marked places' next'
  restamped places' next' rising below = record {
    few = s.few;
    sizes = s.sizes;
    numbers = s.numbers;
    group_numbers = s.group_numbers;
    mark_numbers = s.mark_numbers;
    one = s.one;
    grouped = s.grouped;
    marks = s.marks;
    kept = λ x there. (let was = s.kept x there in record { within = was.within; group = was.group; stamp = below x there });
    once = s.once;
    rising = rising;
  }

-- the place that was read
pub read_place : (places : List Place) (n : ℕ) (place : Place) → n < length places → place ≡ slice_index_or places n place → place ≡ place_of places n
read_place places n place within is = is ∙ get_or_default places n place no_place within

-- ---- what contracts see of the fields

seen_as : (numbers numbers' groups : ℕ) (order order' group group' : List ℕ) (marks marks' : List Bool) → numbers ≡ numbers' → order ≡ order' → group ≡ group' → marks ≡ marks'
    → (let x : OrderSeen = record { numbers = numbers; groups = groups; order = order; group = group; marks = marks } in x) ≡ record { numbers = numbers'; groups = groups; order = order'; group = group'; marks = marks' }
seen_as numbers numbers' groups order order' group group' marks marks' a b c d = λ i. record { numbers = a i; groups = groups; order = b i; group = c i; marks = d i }

pub seen_pushed : (order : ListsSeen) (places new : List Place) (many n : ℕ) (place : Place) → order.lists ≡ list_at order 0 ∷ [] → groups_in new ≡ groups_in places → marks_in new ≡ marks_in places
    → order_seen (pushed order 0 n) (slice_set new n place) many ≡ appended (order_seen order places many) place.group n place.marked
seen_pushed order places new many n place one groups marks =
    seen_as _ _ many _ _ _ _ _ _
    (length-set new n place ∙ (sym (length-map new (λ (p : Place). p.group)) ∙ (ap length groups ∙ length-map places (λ (p : Place). p.group))))
    (ap (λ (ls : List (List ℕ)). slice_index_or (slice_set ls 0 (list_at order 0 ++ n ∷ [])) 0 []) one)
    (map-set (λ (p : Place). p.group) new n place ∙ ap (λ gs. slice_set gs n place.group) groups)
    (map-set (λ (p : Place). p.marked) new n place ∙ ap (λ ms. slice_set ms n place.marked) marks)

pub seen_left : (order : ListsSeen) (places : List Place) (many n : ℕ) → order.lists ≡ list_at order 0 ∷ [] → order_seen (removed order n) places many ≡ left_out (order_seen order places many) n
seen_left order places many n one = seen_as _ _ many _ _ _ _ _ _ refl (ap (λ (ls : List (List ℕ)). slice_index_or (map (without n) ls) 0 []) one) refl refl

pub seen_marked : (order : ListsSeen) (places : List Place) (many n : ℕ) (old : Place) (m : Bool) → n < length places → old ≡ slice_index_or places n old
    → order_seen order (slice_set places n (record old { marked = m })) many ≡ with_mark (order_seen order places many) n m
seen_marked order places many n old m within is =
    seen_as _ _ many _ _ _ _ _ _ (length-set places n _) refl
    (map-set (λ (p : Place). p.group) places n _ ∙ set_as (groups_in places) n old.group (map_got (λ (p : Place). p.group) places n old within is))
    (map-set (λ (p : Place). p.marked) places n _)

pub read_mark : (order : ListsSeen) (places : List Place) (many n : ℕ) (place : Place) → n < length places → place ≡ slice_index_or places n place → mark_of (order_seen order places many) n ≡ place.marked
read_mark order places many n place within is = get_or-map (λ (p : Place). p.marked) places n place false within ∙ ap (λ (p : Place). p.marked) (sym is)

pub read_group : (order : ListsSeen) (places : List Place) (many n : ℕ) (place : Place) → n < length places → place ≡ slice_index_or places n place → group_of (order_seen order places many) n ≡ place.group
read_group order places many n place within is = get_or-map (λ (p : Place). p.group) places n place 0 within ∙ ap (λ (p : Place). p.group) (sym is)

-- a mark that is there already
pub mark_same : (o : OrderSeen) (n : ℕ) (m : Bool) → n < length o.marks → mark_of o n ≡ m → o ≡ with_mark o n m
mark_same o n m within is =
    seen_as o.numbers o.numbers o.groups o.order o.order o.group o.group o.marks (slice_set o.marks n m) refl refl refl (sym (set_as o.marks n m (within, get_or_default o.marks n m false within ∙ is)))

-- another mark leaves the stamps
pub stamps_kept : (places : List Place) (n : ℕ) (old : Place) (m : Bool) → n < length places → old ≡ slice_index_or places n old → (x : ℕ) → (place_of (slice_set places n (record old { marked = m })) x).stamp ≡ (place_of places x).stamp
stamps_kept places n old m within is x = by_number (cases_eq x n)
  where
    by_number : (x ≡ n) ⊎ (x ≢ n) → (place_of (slice_set places n (record old { marked = m })) x).stamp ≡ (place_of places x).stamp
    by_number (inl e) =
        subst (λ y. (place_of (slice_set places n (record old { marked = m })) y).stamp ≡ (place_of places y).stamp) (sym e)
        (ap (λ (p : Place). p.stamp) (get_or-set_same places n (record old { marked = m }) no_place within) ∙ ap (λ (p : Place). p.stamp) (read_place places n old within is))
    by_number (inr differs) = ap (λ (p : Place). p.stamp) (get_or-set_other places n x (record old { marked = m }) no_place differs)

-- a member has its place in the list of its group
pub own_place : (o : OrderSeen) (n : ℕ) → is_member o n ≡ true → (place : ℕ) × (slice_get (members o (group_of o n)) place ≡ Some n)
own_place o n there =
    place_got n (members o (group_of o n)) (rw (count_filter-there n (in_group o (group_of o n)) o.order (eq-eqb (group_of o n) (group_of o n) refl)) (counted_has n o.order there))

-- what a spot names stands among the marked
pub spot_stands : (o : OrderSeen) (order groups marked : ListsSeen) (places : List Place) (next : ℕ) (n : ℕ) (at : Spot) → IsGrouped o order groups marked places next → is_member o n ≡ true → IsSpotOf o n at → StandsWhere marked at
spot_stands o order groups marked places next n spot.Front s there found_at = tt
spot_stands o order groups marked places next n spot.Back s there found_at = tt
spot_stands o order groups marked places next n (spot.Behind p) s there found_at =
    let own = own_place o n there in
    let last : (others : List ℕ) × (filter (mark_of o) (take own.0 (members o (group_of o n))) ≡ others ++ p ∷ []) = found_at own.0 own.1 in
    let ends = count_around p p last.0 [] in
    let self = one-same p in
    let same : count p (filter (mark_of o) (take own.0 (members o (group_of o n)))) ≡ count p (last.0 ++ p ∷ []) = ap (count p) last.1 in
    let marked_count = count_filter-le p (mark_of o) (take own.0 (members o (group_of o n))) in
    let is_marked : mark_of o p ≡ true = passes (mark_of o) p (take own.0 (members o (group_of o n))) (omega arith) in
    let around_n = around n (members o (group_of o n)) own.0 own.1 in
    let whole : count p (members o (group_of o n)) ≡ count p (take own.0 (members o (group_of o n)) ++ n ∷ drop (own.0 + 1) (members o (group_of o n))) = ap (count p) around_n in
    let parts = count_around n p (take own.0 (members o (group_of o n))) (drop (own.0 + 1) (members o (group_of o n))) in
    let part = count_filter-le p (in_group o (group_of o n)) o.order in
    in_marked o order groups marked places next s p (has_counted p o.order (omega arith)) is_marked
  where
    passes : (m : ℕ → Bool) (x : ℕ) (xs : List ℕ) → 1 ≤ count x (filter m xs) → m x ≡ true
    passes m x xs some = by_test (m x) refl
      where
        by_test : (b : Bool) → m x ≡ b → b ≡ true
        by_test true e = refl
        by_test false e = let none = count_filter-out x m xs e in absurd (omega arith)

-- ---- a new order

map_blank : {X : Type 0} (f : Place → X) (n : ℕ) → map f (replicate n no_place) ≡ replicate n (f no_place)
map_blank f zero = refl
map_blank f (suc n) = ap (λ ys. f no_place ∷ ys) (map_blank f n)

pub seen_new : (groups numbers : ℕ) → order_seen (all_empty 1 numbers) (replicate numbers no_place) groups ≡ no_members groups numbers
seen_new groups numbers =
    seen_as _ _ groups _ _ _ _ _ _ (length-replicate numbers no_place) refl (map_blank (λ (p : Place). p.group) numbers) (map_blank (λ (p : Place). p.marked) numbers)

pub grouped_new : (groups numbers : ℕ) (places : List Place) → numbers + groups < 4294967296 → numbers + 1 < 4294967296 → IsGrouped (no_members groups numbers) (all_empty 1 numbers) (all_empty groups numbers) (all_empty groups numbers) places 0
grouped_new groups numbers places few few' = record {
  few = (few, few');
  sizes = (length-replicate numbers 0, length-replicate numbers false);
  numbers = refl;
  group_numbers = refl;
  mark_numbers = refl;
  one = refl;
  grouped = record { many = length-replicate {A = List ℕ} groups []; part = λ g lt. get_or-replicate {A = List ℕ} groups g [] [] lt };
  marks = record { many = length-replicate {A = List ℕ} groups []; part = λ g lt. get_or-replicate {A = List ℕ} groups g [] [] lt };
  kept = λ n there. absurd (omega arith);
  once = λ n. omega arith;
  rising = tt;
}
