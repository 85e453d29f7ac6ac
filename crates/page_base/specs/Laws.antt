-- The laws of keys and of lists, as statements.
use Rattle.std.specs.Prelude.{◌≡◌, ◌⊎◌, ℕ, true, false, List, [], ◌∷◌, ◌++◌, length, slice_get, slice_set, Some, None}
use Rattle.std.specs.List.{list_any}
use Rattle.page_base.specs.KeyOrder.{is_below, least}
use Rattle.page_base.specs.Pages.{same}
use Rattle.page_base.specs.declared.keys.Key.{Key}

-- the test of two keys answers true for one page, and false for two
pub record SameIsEqual : Type 0 where
  pub self_ : (k : Key) → same k k ≡ true
  pub equal : (j k : Key) → same j k ≡ true → j ≡ k
  pub differs : (j k : Key) → (j ≡ k → ⊥) → same j k ≡ false
  pub swaps : (j k : Key) → same j k ≡ same k j

-- of two keys that differ one comes before the other, and what comes before is passed on
pub record KeysAreOrdered : Type 0 where
  pub apart : (a b : Key) → is_below a b ≡ true → is_below b a ≡ false
  pub through : (a b c : Key) → is_below a b ≡ true → is_below b c ≡ true → is_below a c ≡ true
  pub one : (a b : Key) → is_below a b ≡ false → is_below b a ≡ false → a ≡ b

-- the least of some keys is the one of them that none comes before, and there is one unless there are none
pub record LeastIsFirst : Type 0 where
  pub found : (keys : List Key) (k : Key) → least keys ≡ Some k → list_any (λ j. same j k) keys ≡ true
  pub first : (keys : List Key) (k j : Key) → least keys ≡ Some k → list_any (λ i. same i j) keys ≡ true → is_below j k ≡ false
  pub only : (keys : List Key) (k : Key) → list_any (λ j. same j k) keys ≡ true
      → ((j : Key) → list_any (λ i. same i j) keys ≡ true → is_below j k ≡ false) → least keys ≡ Some k
  pub none : (keys : List Key) (k : Key) → least keys ≡ None → list_any (λ j. same j k) keys ≡ false
  pub empty : (keys : List Key) → ((k : Key) → list_any (λ j. same j k) keys ≡ false) → least keys ≡ None

module _ (A : Type 0) where
  -- a list with one item written over reads as written there, and elsewhere as before
  pub record SetIsRead : Type 0 where
    pub here : (items : List A) (place : ℕ) (old new : A) → slice_get items place ≡ Some old
        → slice_get (slice_set items place new) place ≡ Some new
    pub elsewhere : (items : List A) (place other : ℕ) (new : A) → (other ≡ place → ⊥)
        → slice_get (slice_set items place new) other ≡ slice_get items other
    pub length_ : (items : List A) (place : ℕ) (new : A) → length (slice_set items place new) ≡ length items

  -- a list is what stands at its places
  pub record ListsByPlace : Type 0 where
    -- two of one length with the same items at all places are one
    pub equal : (xs ys : List A) → length xs ≡ length ys
        → ((place : ℕ) (x : A) → slice_get xs place ≡ Some x → slice_get ys place ≡ Some x) → xs ≡ ys
    -- what stands in one that grew by an item is that item, at the end, or was there before
    pub grown : (xs : List A) (new x : A) (place : ℕ) → slice_get (xs ++ new ∷ []) place ≡ Some x
        → (slice_get xs place ≡ Some x) ⊎ ((place ≡ length xs) × (x ≡ new))
