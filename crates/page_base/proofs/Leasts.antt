-- The least of some keys.
use Rattle.std.proofs.Common.{Bool, List, [], ◌∷◌, Option, Some, None, true, false, ◌≡◌, ◌⊎◌, ◌∙◌, inl, inr, refl, sym, ap, cond, arith}
use Rattle.std.proofs.lemmas.Bool.{cases_Bool, or_cases, or_left, or_parts, or_right}
use Rattle.std.proofs.lemmas.Bool.Decides.{nat_tests}
use Rattle.std.specs.List.{list_any}
use Rattle.page_base.specs.KeyOrder.{is_below, least, lesser}
use Rattle.page_base.specs.Pages.{same}
use Rattle.page_base.specs.declared.keys.Key.{Key}
use Rattle.page_base.proofs.KeyOrders.{below-apart, below-one}
use Rattle.page_base.proofs.SameKeys.{same-true, same_self}

abbrev among : Key → List Key → Bool
among k keys = list_any (λ (j : Key). same j k) keys

some_is : {j k : Key} → Some j ≡ Some k → j ≡ k
some_is e = cc

not_below_self : (k : Key) → is_below k k ≡ false
not_below_self k = grind (arith, nat_tests)

not_below-through : (a b c : Key) → is_below a b ≡ false → is_below b c ≡ false → is_below a c ≡ false
not_below-through a b c e f = grind (arith, nat_tests)

-- the least of a key and others is the least of the others, where that comes before it, and else the key
lesser_cases : (x m : Key) → ((is_below m x ≡ true) × (lesser x (Some m) ≡ m)) ⊎ ((is_below m x ≡ false) × (lesser x (Some m) ≡ x))
lesser_cases x m = elim (cases_Bool (is_below m x)) [
  | inl t ↦ inl (t, ap (λ b. cond b m x) t)
  | inr f ↦ inr (f, ap (λ b. cond b m x) f)
]

pub least-none : (keys : List Key) (k : Key) → least keys ≡ None → among k keys ≡ false
least-none [] k e = refl
least-none (x ∷ keys) k e = absurd cc

-- where the lesser of a key and others is k: it is the key, and no other comes before it; or it is the least of the others
split : (x : Key) (keys : List Key) (k : Key) → least (x ∷ keys) ≡ Some k
    → ((x ≡ k) × ((j : Key) → among j keys ≡ true → ((m : Key) × (least keys ≡ Some m) × (is_below m x ≡ false)))) ⊎ ((least keys ≡ Some k) × (is_below k x ≡ true))
split x keys k e = go (least keys) refl
  where
    go : (o : Option Key) → least keys ≡ o
        → ((x ≡ k) × ((j : Key) → among j keys ≡ true → ((m : Key) × (least keys ≡ Some m) × (is_below m x ≡ false)))) ⊎ ((least keys ≡ Some k) × (is_below k x ≡ true))
    go None n =
        let is : x ≡ k = some_is (ap (λ o. Some (lesser x o)) (sym n) ∙ e) in
        inl (is, λ j a. let no = least-none keys j n in absurd cc)
    go (Some m) n =
        let is : lesser x (Some m) ≡ k = some_is (ap (λ o. Some (lesser x o)) (sym n) ∙ e) in
        elim (lesser_cases x m) [
          | inl c ↦ let mk : m ≡ k = sym c.1 ∙ is in inr (n ∙ ap (λ z. Some z) mk, ap (λ z. is_below z x) (sym mk) ∙ c.0)
          | inr c ↦ inl (sym c.1 ∙ is, λ j a. (m, n, c.0))
        ]

pub least-found : (keys : List Key) (k : Key) → least keys ≡ Some k → among k keys ≡ true
least-found [] k e = absurd cc
least-found (x ∷ keys) k e = elim (split x keys k e) [
  | inl c ↦ let here : same x k ≡ true = ap (λ z. same z k) c.0 ∙ same_self k in or_left (same x k) (among k keys) here
  | inr c ↦ or_right (same x k) (among k keys) (least-found keys k c.0)
]

pub least-first : (keys : List Key) (k j : Key) → least keys ≡ Some k → among j keys ≡ true → is_below j k ≡ false
least-first [] k j e a = absurd cc
least-first (x ∷ keys) k j e a = elim (or_cases (same x j) (among j keys) a) [
  | inl s ↦
      let is : x ≡ j = same-true x j s in
      elim (split x keys k e) [
        | inl c ↦ let jk : j ≡ k = sym is ∙ c.0 in ap (λ z. is_below z k) jk ∙ not_below_self k
        | inr c ↦ ap (λ z. is_below z k) (sym is) ∙ below-apart k x c.1
      ]
  | inr t ↦
      elim (split x keys k e) [
        | inl c ↦
            let rest = c.1 j t in
            let below : is_below j x ≡ false = not_below-through j rest.0 x (least-first keys rest.0 j rest.1 t) rest.2 in
            ap (λ z. is_below j z) (sym c.0) ∙ below
        | inr c ↦ least-first keys k j c.0 t
      ]
]

pub least-empty : (keys : List Key) → ((k : Key) → among k keys ≡ false) → least keys ≡ None
least-empty [] nowhere = refl
least-empty (x ∷ keys) nowhere = let gone = (or_parts (same x x) (among x keys) (nowhere x)).0 in let here = same_self x in absurd cc

pub least-only : (keys : List Key) (k : Key) → among k keys ≡ true → ((j : Key) → among j keys ≡ true → is_below j k ≡ false) → least keys ≡ Some k
least-only keys k here low = go (least keys) refl
  where
    go : (o : Option Key) → least keys ≡ o → least keys ≡ Some k
    go None n = let gone = least-none keys k n in absurd cc
    go (Some m) n = n ∙ ap (λ z. Some z) (below-one m k (low m (least-found keys m n)) (least-first keys m k n here))
