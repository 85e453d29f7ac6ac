-- The oldest page of a region, and the oldest clean one, by what the order finds.
use Rattle.std.proofs.Common.{◌≡◌, ◌∙◌, ℕ, ◌≤◌, Bool, true, false, not, cond, ◌==◌, ◌&&◌, List, [], ◌∷◌, find, Option, Some, None, All, refl, sym, ap, subst, arith}
use Rattle.std.specs.Prelude.{slice_index_or}
use Rattle.std.proofs.lemmas.Bool.{eq-eqb}
use Rattle.page_base.specs.declared.keys.Key.{Key}
use Rattle.page_base.specs.Pages.{same}
use Rattle.index_lists.specs.Orders.{OrderSeen, group_of, mark_of, in_group, marked_in}
use Rattle.page_buffer.specs.Frames.{FrameSeen, Free, Reserved, Resident, page_of, is_resident, resident_key}
use Rattle.page_buffer.specs.Buffers.{is_page}
use Rattle.page_buffer.specs.Insides.{key_in, IsOrdered, IsLinked}
use Rattle.page_buffer.proofs.Counts.{one, count_by-cons, count_by-has}
use Rattle.page_buffer.proofs.Sound.{placed_in}
use Rattle.page_buffer.proofs.Residents.{resident_there, same_page}

-- ---- what a list finds

head_there : (x : ℕ) (xs : List ℕ) → 1 ≤ placed_in x (x ∷ xs)
head_there x xs = let cons = count_by-cons (λ other. other == x) x xs in let counts : one (x == x) ≡ 1 = ap one (eq-eqb x x refl) in omega arith

tail_there : (y x : ℕ) (xs : List ℕ) → 1 ≤ placed_in y xs → 1 ≤ placed_in y (x ∷ xs)
tail_there y x xs there = let cons = count_by-cons (λ other. other == y) x xs in omega arith

pub find_agree : (p q : ℕ → Bool) (xs : List ℕ) → ((x : ℕ) → 1 ≤ placed_in x xs → p x ≡ q x) → find p xs ≡ find q xs
find_agree p q [] agree = refl
find_agree p q (x ∷ xs) agree =
    let here : p x ≡ q x = agree x (head_there x xs) in
    let rest : find p xs ≡ find q xs = find_agree p q xs (λ y there. agree y (tail_there y x xs there)) in
    rw (here, rest) refl

pub find_there : (p : ℕ → Bool) (xs : List ℕ) (x : ℕ) → Some x ≡ find p xs → (p x ≡ true) × (1 ≤ placed_in x xs)
find_there p [] x e = absurd cc
find_there p (y ∷ ys) x e = by_test (p y) refl e (find_there p ys x)
  where
    by_test : (b : Bool) → p y ≡ b → Some x ≡ cond b (Some y) (find p ys) → (Some x ≡ find p ys → (p x ≡ true) × (1 ≤ placed_in x ys)) → (p x ≡ true) × (1 ≤ placed_in x (y ∷ ys))
    by_test true is at rest = let same_one : x ≡ y = cc in (rw same_one is, subst (λ z. 1 ≤ placed_in z (y ∷ ys)) (sym same_one) (head_there y ys))
    by_test false is at rest = let later = rest at in (later.0, tail_there x y ys later.1)

-- what fails the one test fails the other
pub find_less : (p q : ℕ → Bool) (xs : List ℕ) → ((x : ℕ) → p x ≡ false → q x ≡ false) → None ≡ find p xs → None ≡ find q xs
find_less p q [] less none = refl
find_less p q (x ∷ xs) less none = by_test (p x) refl none (find_less p q xs less)
  where
    by_test : (b : Bool) → p x ≡ b → None ≡ cond b (Some x) (find p xs) → (None ≡ find p xs → None ≡ find q xs) → None ≡ cond (q x) (Some x) (find q xs)
    by_test true is e rest = absurd cc
    by_test false is e rest = let fails : q x ≡ false = less x is in rw fails (rest e)

-- the first that passes the one test, where it passes the other
pub find_still : (p q : ℕ → Bool) (xs : List ℕ) (x : ℕ) → ((y : ℕ) → p y ≡ false → q y ≡ false) → Some x ≡ find p xs → q x ≡ true → Some x ≡ find q xs
find_still p q [] x less e passes = absurd cc
find_still p q (y ∷ ys) x less e passes = by_test (p y) refl e (λ later. find_still p q ys x less later passes)
  where
    by_test : (b : Bool) → p y ≡ b → Some x ≡ cond b (Some y) (find p ys) → (Some x ≡ find p ys → Some x ≡ find q ys) → Some x ≡ cond (q y) (Some y) (find q ys)
    by_test true is at rest = let same_one : x ≡ y = cc in let passes' : q y ≡ true = rw (sym same_one) passes in rw passes' at
    by_test false is at rest = let fails : q y ≡ false = less y is in rw fails (rest at)

-- ---- what a buffer finds

plain : (a b : Bool) → (a && b && true) ≡ (a && b)
plain true true = refl
plain true false = refl
plain false true = refl
plain false false = refl

module _ (frames : List FrameSeen) (o : OrderSeen) (l : IsLinked frames o) (s : IsOrdered frames o.order) where
  -- the test of a clean page of the region that isn't this one
  abbrev pub clean_but : ℕ → Option Key → ℕ → Bool
  clean_but region but f = (key_in frames f).region == region && mark_of o f && not (is_page but (key_in frames f))

  group_is : (region f : ℕ) → 1 ≤ placed_in f o.order → (group_of o f == region) ≡ ((key_in frames f).region == region)
  group_is region f there = ap (λ (r : ℕ). r == region) (l.region f there)

  pub of_region : (region : ℕ) → find (in_group o region) o.order ≡ find (λ f. (key_in frames f).region == region) o.order
  of_region region = find_agree (in_group o region) (λ f. (key_in frames f).region == region) o.order (group_is region)

  pub clean_of : (region : ℕ) → find (marked_in o region) o.order ≡ find (clean_but region None) o.order
  clean_of region =
      find_agree (marked_in o region) (clean_but region None) o.order
      (λ f there. (let g = group_is region f there in rw g (sym (plain ((key_in frames f).region == region) (mark_of o f)))))

  less : (region : ℕ) (but : Option Key) (f : ℕ) → clean_but region None f ≡ false → clean_but region but f ≡ false
  less region but f fails = all ((key_in frames f).region == region) (mark_of o f) (not (is_page but (key_in frames f))) fails
    where
      all : (a b d : Bool) → (a && b && true) ≡ false → (a && b && d) ≡ false
      all true true d e = absurd cc
      all true false d e = refl
      all false b d e = refl

  pub none_but : (region : ℕ) (but : Option Key) → None ≡ find (clean_but region None) o.order → None ≡ find (clean_but region but) o.order
  none_but region but = find_less (clean_but region None) (clean_but region but) o.order (less region but)

  pub other_but : (region : ℕ) (but : Key) (f : ℕ) → Some f ≡ find (clean_but region None) o.order → same (key_in frames f) but ≡ false → Some f ≡ find (clean_but region (Some but)) o.order
  other_but region but f e differs =
      find_still (clean_but region None) (clean_but region (Some but)) o.order f (less region (Some but)) e
      (both ((key_in frames f).region == region) (mark_of o f) (same (key_in frames f) but) (find_there (clean_but region None) o.order f e).0 differs)
    where
      both : (a b d : Bool) → (a && b && true) ≡ true → d ≡ false → (a && b && not d) ≡ true
      both a b true e f = absurd cc
      both a b false e f = e

  pub next_but : (region : ℕ) (but : Key) (f : ℕ) → Some f ≡ find (clean_but region None) o.order → key_in frames f ≡ but
      → find (λ n. marked_in o region n && not (n == f)) o.order ≡ find (clean_but region (Some but)) o.order
  next_but region but f e is =
      let f_there = (find_there (clean_but region None) o.order f e).1 in
      find_agree (λ n. marked_in o region n && not (n == f)) (clean_but region (Some but)) o.order
      (λ n there.
      let g = group_is region n there in
      let pages : same (key_in frames n) but ≡ (n == f) = ap (λ (k : Key). same (key_in frames n) k) (sym is) ∙ same_page frames o.order n f s there f_there in
      rw (g, pages) (assoc ((key_in frames n).region == region) (mark_of o n) (not (n == f))))
    where
      assoc : (a b d : Bool) → ((a && b) && d) ≡ (a && b && d)
      assoc true true d = refl
      assoc true false d = refl
      assoc false b d = refl

-- each frame in the order has a resident page
pub all_resident : (frames : List FrameSeen) (order : List ℕ) → IsOrdered frames order → All (λ f. resident_key (slice_index_or frames f Free) ≡ Some (page_of (slice_index_or frames f Free))) order
all_resident frames order s k d lt =
    let f = slice_index_or order k d in
    let there : 1 ≤ placed_in f order = count_by-has (λ other. other == f) order k d lt (eq-eqb f f refl) in
    key_of (slice_index_or frames f Free) (resident_there frames order f s there).0
  where
    key_of : (x : FrameSeen) → is_resident x ≡ true → resident_key x ≡ Some (page_of x)
    key_of Free e = absurd cc
    key_of (Reserved key) e = absurd cc
    key_of (Resident key bytes) e = refl
