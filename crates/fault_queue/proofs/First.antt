-- The first item that a test passes is the one that `find` gives, where the test computes.
use Rattle.std.proofs.Common.{◌≡◌, ◌∙◌, ℕ, ◌+◌, ◌<◌, Bool, true, false, List, [], ◌∷◌, ◌++◌, length, take, find, Some, None, All, refl, sym, ap, arith}
use Rattle.std.specs.Prelude.{slice_index_or, slice_get}
use Rattle.fault_queue.specs.InsideQueues.{blank, raise_in, raises_in}
use Rattle.std.specs.List.{position_or_len}
use Rattle.std.proofs.lemmas.List.{get_or-take, get_or_default, get_or-map, length-map, length-take-le, take_more}
use Rattle.std.proofs.lemmas.List.Elements.{All-push}
use Rattle.std.proofs.lemmas.List.Sums.{position_or_len_is}
use Rattle.std.proofs.lemmas.List.Folds.{find_at}
use Rattle.std.proofs.lemmas.Option.{slice_get-get_or, slice_get_within, slice_get_past, get_or_from_slice_get}
use Rattle.page_base.specs.declared.keys.Raise.{Raise}
use Rattle.fault_queue.specs.Queues.{IsFirst, Computes}

fails : (answers : Raise → Bool → Type 0) (passes : Raise → Bool) (xs : List Raise) → Computes answers passes xs → (k : ℕ) (d : Raise) → k < length xs → answers (slice_index_or xs k d) false → passes (slice_index_or xs k d) ≡ false
fails answers passes xs computes k d within answer = sym (computes (slice_index_or xs k d) false (k, within, get_or_default xs k (slice_index_or xs k d) d within) answer)

pub find-first : (answers : Raise → Bool → Type 0) (passes : Raise → Bool) (xs : List Raise) (x : Raise) → Computes answers passes xs → IsFirst answers xs x → find passes xs ≡ Some x
find-first answers passes xs x computes f =
    let within : f.place < length xs = slice_get_within xs f.place x f.is in
    let here : slice_index_or xs f.place x ≡ x = get_or_from_slice_get xs f.place x x f.is in
    let passed : passes (slice_index_or xs f.place x) ≡ true = rw here (sym (computes x true (f.place, within, here) f.passes)) in
    let before : (k : ℕ) → k < f.place → passes (slice_index_or xs k x) ≡ false = λ k lt. fails answers passes xs computes k x (omega arith) (rw (get_or-take f.place xs k x lt) at (f.before k x (rw (length-take-le f.place xs (omega arith)) lt))) in
    let place : position_or_len passes xs ≡ f.place = position_or_len_is passes xs f.place x (omega arith) before (λ _. passed) in
    find_at passes xs ∙ (ap (slice_get xs) place ∙ f.is)

pub find-nothing : (answers : Raise → Bool → Type 0) (passes : Raise → Bool) (xs : List Raise) → Computes answers passes xs → All (λ (x : Raise). answers x false) xs → find passes xs ≡ None
find-nothing answers passes [] computes none = refl
find-nothing answers passes (x ∷ xs) computes none =
    let place : position_or_len passes (x ∷ xs) ≡ length (x ∷ xs) = position_or_len_is passes (x ∷ xs) (length (x ∷ xs)) x (omega arith) (λ k lt. fails answers passes (x ∷ xs) computes k x lt (none k x lt)) (λ lt. absurd (omega arith)) in
    find_at passes (x ∷ xs) ∙ slice_get_past (x ∷ xs) _ (omega (arith, place))

-- where the items before a place fail and the one there passes, it is the first
pub first_at : (answers : Raise → Bool → Type 0) (xs : List Raise) (i : ℕ) (d r : Raise) → All (λ (x : Raise). answers x false) (take i xs) → i < length xs
    → slice_index_or xs i d ≡ r → answers r true → IsFirst answers xs r
first_at answers xs i d r before within is passes = record { place = i; is = slice_get-get_or xs i d within ∙ ap Some is; passes = passes; before = before }

-- one item more fails
pub all_more : (P : Raise → Type 0) (xs : List Raise) (i : ℕ) (d r : Raise) → i < length xs → slice_index_or xs i d ≡ r → All P (take i xs) → P r → All P (take (i + 1) xs)
all_more P xs i d r within is before here =
    let more : take (i + 1) xs ≡ take i xs ++ r ∷ [] = take_more xs i d within ∙ ap (λ x. take i xs ++ x ∷ []) is in
    rw more (All-push P (take i xs) r before here)

-- the raise at a place of the order is that of the slot there
pub raise_at : (slots : List Raise) (order : List ℕ) (place slot : ℕ) → slice_get order place ≡ Some slot → (place < length (raises_in slots order)) × (slice_index_or (raises_in slots order) place blank ≡ raise_in slots slot)
raise_at slots order place slot is =
    let within : place < length order = slice_get_within order place slot is in
    let here : slice_index_or order place 0 ≡ slot = get_or_from_slice_get order place slot 0 is in
    (omega (arith, within, length-map order (raise_in slots)), get_or-map (raise_in slots) order place 0 blank within ∙ ap (raise_in slots) here)
