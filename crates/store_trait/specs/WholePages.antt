-- The law of the trait for lanes in memory: each page that they tell is whole.
use Rattle.std.specs.Prelude.{◌≡◌, ℕ, ◌+◌, ◌*◌, ◌/◌, ◌≤◌, List, length, Option, Some, None}
use Rattle.std.proofs.Common.{cond, inl, inr, sym, subst, ◌∙◌, arith, zero-add}
use Rattle.std.specs.Option.{IfSome}
use Rattle.std.proofs.lemmas.Bool.{cases_lt, cases_Bool, cond-true, cond-false, and_left, le-ltb}
use Rattle.std.proofs.lemmas.List.{places, get_or_past}
use Rattle.std.proofs.lemmas.List.FromFn.{length-map-range_with_len, get_or-map-range_with_len}
use Rattle.std.proofs.Math.Nat.{add-sub_cancel_left}
use Rattle.page_base.specs.Lanes.{Origin, has_page, told_at}
use Rattle.store_trait.specs.Memory.{page_bytes, told_by, memory_told}
use Rattle.store_trait.specs.InsideMemory.{ReachesEach}

pub length-told_by : (o : Origin) (f : ℕ → List ℕ) → length (told_by o f) ≡ o.pages
length-told_by o f = length-map-range_with_len (λ p. cond (has_page o p) (Some (f p)) None) 0 o.pages

pub told_at-told_by : (o : Origin) (f : ℕ → List ℕ) (p : ℕ) → told_at (told_by o f) p ≡ cond (has_page o p) (Some (f p)) None
told_at-told_by o f p = elim (cases_lt p o.pages) [
  | inl below ↦ get_or-map-range_with_len (λ q. cond (has_page o q) (Some (f q)) None) 0 o.pages p p None below (zero-add p)
  | inr above ↦ get_or_past (told_by o f) p None (omega (arith, length-told_by o f)) ∙ sym (cond-false (has_page o p) (Some (f p)) None (and_left _ _ (le-ltb p o.pages above)))
]

pub length-page_of : (size row : ℕ) (xs : List ℕ) → row * size + size ≤ length xs → length (page_bytes size xs row) ≡ size
length-page_of size row xs fits = rw (add-sub_cancel_left (row * size) size) (grind (arith, places))

-- each page that a lane in memory tells is whole
pub memory_pages_whole : (o : Origin) (kept : List ℕ) → ReachesEach o kept → (p : ℕ) → IfSome (told_at (memory_told o kept) p) (λ bytes. length bytes ≡ o.page_size)
memory_pages_whole o kept reaches p =
    let bytes_of : ℕ → List ℕ = λ q. page_bytes o.page_size kept (q / o.stripes) in
    let P : Option (List ℕ) → Type 0 = λ t. IfSome t (λ bytes. length bytes ≡ o.page_size) in
    subst P (sym (told_at-told_by o bytes_of p)) (elim (cases_Bool (has_page o p)) [
      | inl its ↦ subst P (sym (cond-true (has_page o p) (Some (bytes_of p)) None its)) (length-page_of o.page_size (p / o.stripes) kept (reaches p its))
      | inr other ↦ subst P (sym (cond-false (has_page o p) (Some (bytes_of p)) None other)) tt
    ])
