-- Walks over a list of slots, from one to the next.
use Rattle.std.proofs.Common.{◌≡◌, ℕ, ◌+◌, ◌<◌, ◌≤◌, ◌==◌, Bool, true, false, List, [], ◌∷◌, ◌++◌, length, find, Option, Some, None, All, refl, sym, ap, subst, ◌∙◌, inl, inr, arith}
use Rattle.std.specs.Prelude.{slice_get, slice_index_or}
use Rattle.std.specs.List.{position_or_len}
use Rattle.std.proofs.lemmas.List.{length_push}
use Rattle.std.proofs.lemmas.List.Elements.{All-push, All-weaker}
use Rattle.std.proofs.lemmas.List.Sums.{position_or_len_is}
use Rattle.std.proofs.lemmas.List.Folds.{find_at, list_any_none}
use Rattle.std.proofs.lemmas.Option.{slice_get_within, slice_get_past, get_or_from_slice_get, slice_get-get_or}
use Rattle.std.proofs.lemmas.Bool.{cases_lt, eqb-true, false_from_ne_true}
use Rattle.index_lists.specs.Lists.{ListsSeen, list_at, has, stands, pushed}

-- a walk over a list has come to a place: there it stands, and each number before fails
pub record HasCome (p : ℕ → Bool) (xs : List ℕ) (place : ℕ) (at : Option ℕ) : Type 0 where
  pub within : place ≤ length xs
  pub there : at ≡ slice_get xs place
  pub before : (j : ℕ) → j < place → p (slice_index_or xs j 0) ≡ false

pub starts : (p : ℕ → Bool) (xs : List ℕ) (at : Option ℕ) → at ≡ slice_get xs 0 → HasCome p xs 0 at
starts p xs at is = record { within = omega arith; there = is; before = λ j lt. absurd (omega arith) }

module _ (p : ℕ → Bool) (xs : List ℕ) (place slot : ℕ) (come : HasCome p xs place (Some slot)) where
  here : slice_index_or xs place 0 ≡ slot
  here = get_or_from_slice_get xs place slot 0 (sym come.there)

  pub inside : place < length xs
  inside = slice_get_within xs place slot (sym come.there)

  pub finds : p slot ≡ true → Some slot ≡ find p xs
  finds passes =
      let lt = inside in
      let first : position_or_len p xs ≡ place = position_or_len_is p xs place 0 (omega (arith, lt)) come.before (λ _. ap p here ∙ passes) in
      sym (find_at p xs ∙ (ap (slice_get xs) first ∙ sym come.there))

  pub goes_on : p slot ≡ false → (next : Option ℕ) → next ≡ slice_get xs (place + 1) → HasCome p xs (place + 1) next
  goes_on fails next is = record {
    within = let lt = inside in omega (arith, lt);
    there = is;
    before = λ j lt. elim (cases_lt j place) [
      | inl less ↦ come.before j less
      | inr more ↦ let same : j ≡ place = omega arith in ap (λ k. p (slice_index_or xs k 0)) same ∙ (ap p here ∙ fails)
    ];
  }

-- at the end nothing is found
pub ends : (p : ℕ → Bool) (xs : List ℕ) (place : ℕ) (at : Option ℕ) → HasCome p xs place at → length xs ≤ place → None ≡ find p xs
ends p xs place at come past =
    let lt = come.within in
    let last : position_or_len p xs ≡ length xs = position_or_len_is p xs (length xs) 0 (omega arith) (λ j less. come.before j (omega (arith, past, less))) (λ less. absurd (omega (arith, less))) in
    sym (find_at p xs ∙ slice_get_past xs (position_or_len p xs) (omega (arith, last)))

pub none_ends : (p : ℕ → Bool) (xs : List ℕ) (place : ℕ) → HasCome p xs place None → None ≡ find p xs
none_ends p xs place come = elim (cases_lt place (length xs)) [
  | inl lt ↦ absurd (let some = slice_get-get_or xs place 0 lt in let none = come.there in cc)
  | inr past ↦ ends p xs place None come past
]

-- ---- a free list that is being made

-- the free slots are those below a number
pub record AreFree (lists : ListsSeen) (slots made : ℕ) : Type 0 where
  pub two : lists ≡ record { numbers = slots; lists = [] ∷ list_at lists 1 ∷ [] }
  pub all : length (list_at lists 1) ≡ made
  pub below : All (λ slot. slot < made) (list_at lists 1)

module _ (lists : ListsSeen) (slots made : ℕ) (are : AreFree lists slots made) where
  pub not_yet : stands lists made ≡ false
  not_yet =
      let free = list_at lists 1 in
      let no_free : has made free ≡ false = list_any_none (λ other. other == made) free (λ k d lt. false_from_ne_true (slice_index_or free k d == made) (λ e. let same : slice_index_or free k d ≡ made = eqb-true (slice_index_or free k d) made e in let less = are.below k d lt in absurd (omega (arith, same, less)))) in
      subst (λ (o : ListsSeen). stands o made ≡ false) (sym are.two) (rw no_free refl)

  pub two_lists : length lists.lists ≡ 2
  two_lists = ap (λ (o : ListsSeen). length o.lists) are.two

  pub numbers_are : lists.numbers ≡ slots
  numbers_are = ap (λ (o : ListsSeen). o.numbers) are.two

  pub one_more : AreFree (pushed lists 1 made) slots (made + 1)
  one_more =
      let is : pushed lists 1 made ≡ record { numbers = slots; lists = [] ∷ (list_at lists 1 ++ made ∷ []) ∷ [] } = ap (λ (o : ListsSeen). pushed o 1 made) are.two in
      let free = list_at lists 1 in
      rw is (record {
        two = refl;
        all = length_push free made ∙ ap (λ n. n + 1) are.all;
        below = All-push (λ n. n < made + 1) free made (All-weaker (λ n. n < made) (λ n. n < made + 1) (λ n lt. omega (arith, lt)) free are.below) (omega arith);
      })
