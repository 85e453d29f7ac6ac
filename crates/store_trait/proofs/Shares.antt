-- The pages of one stripe, copied one after another.
use Rattle.std.proofs.Common.{◌≡◌, inl, inr, ℕ, ◌+◌, ◌*◌, ◌-◌, ◌/◌, ◌%◌, ◌<◌, ◌≤◌, true, List, [], ◌++◌, length, refl, sym, ap, ◌∙◌, arith, rules, length-append}
use Rattle.std.proofs.lemmas.Bool.{cases_order, cases_lt, and_parts, ltb-true}
use Rattle.std.proofs.lemmas.List.{places, same_lists}
use Rattle.std.proofs.lemmas.Nat.{div-add-mod', mod_below}
use Rattle.std.proofs.Math.Nat.{add-sub_cancel_left, add-mod, add-mod_right, add-div_right, mod-eq_of_lt}
use Rattle.page_base.specs.Lanes.{has_page}
use Rattle.store_trait.specs.Memory.{page_bytes, memory_origin}
use Rattle.store_trait.specs.InsideMemory.{TakesShare}
use Rattle.store_trait.specs.WholePages.{length-page_of}
use Rattle.store_trait.proofs.Rows.{rows_apart, stripe_is}

-- of numbers with one residue, the next is n further on
next_of_residue : (n p q : ℕ) → p % n ≡ q % n → q ≤ p → p < q + n → p ≡ q
next_of_residue n p q e low high = elim (cases_order (q / n) (p / n)) [
  | inl same ↦ omega (arith, div-add-mod' p n, div-add-mod' q n, ap (λ (x : ℕ). x * n) same)
  | inr (inl lt) ↦ omega (arith, div-add-mod' p n, div-add-mod' q n, rows_apart (q / n) (p / n) n lt)
  | inr (inr gt) ↦ omega (arith, div-add-mod' p n, div-add-mod' q n, rows_apart (p / n) (q / n) n gt)
]

-- a page below the end of a list stays where more is appended
pub page_of-append : (size row : ℕ) (xs ys : List ℕ) → row * size + size ≤ length xs → page_bytes size (xs ++ ys) row ≡ page_bytes size xs row
page_of-append size row xs ys fits = rw (add-sub_cancel_left (row * size) size) (same_lists _ _ (search (rules, places)) (λ k d h. grind (arith, places)))

-- what is appended is the page behind
pub page_of-appended : (size row : ℕ) (xs ys : List ℕ) → length xs ≡ row * size → length ys ≡ size → page_bytes size (xs ++ ys) row ≡ ys
page_of-appended size row xs ys e f = rw (add-sub_cancel_left (row * size) size) (same_lists _ _ (search (rules, places)) (λ k d h. grind (arith, places)))

pub no_share : (size n first : ℕ) (bytes : List ℕ) → first < n → TakesShare size first n first bytes []
no_share size n first bytes h = record {
  reaches = λ p lt e. absurd (omega (arith, mod_small p n (omega arith)));
  same = λ p lt e. absurd (omega (arith, mod_small p n (omega arith)));
}
  where
    mod_small : (p n : ℕ) → p < n → p % n ≡ p
    mod_small p n lt = mod-eq_of_lt lt

module _ (size n first page : ℕ) (bytes own : List ℕ) (some : 0 < n) (residue : page % n ≡ first) (len : length own ≡ page / n * size) (fits : page * size + size ≤ length bytes) (share : TakesShare size page n first bytes own) where
  pub share_more : TakesShare size (page + n) n first bytes (own ++ page_bytes size bytes page)
  share_more = record {
    reaches = λ p lt e. elim (cases_lt p page) [
      | inl below ↦ omega (arith, share.reaches p below e, length-append own (page_bytes size bytes page))
      | inr above ↦ rw (next_of_residue n p page (e ∙ sym residue) above lt) (omega (arith, length-page_of size page bytes fits, length-append own (page_bytes size bytes page)))
    ];
    same = λ p lt e. elim (cases_lt p page) [
      | inl below ↦ page_of-append size (p / n) own _ (share.reaches p below e) ∙ share.same p below e
      | inr above ↦ rw (next_of_residue n p page (e ∙ sym residue) above lt) (page_of-appended size (page / n) own _ len (length-page_of size page bytes fits))
    ];
  }

  pub share_len : length (own ++ page_bytes size bytes page) ≡ (page + n) / n * size
  share_len = rw add-div_right (omega (arith, length-page_of size page bytes fits, length-append own (page_bytes size bytes page)))

-- the first page of a stripe
pub residue_of_stripe : (n r s p : ℕ) → 0 < n → s < n → (r + p) % n ≡ s → p % n ≡ (s + n - r % n) % n
residue_of_stripe n r s p some below e =
    let both : (r % n + p % n) % n ≡ s = sym (add-mod r p n) ∙ e in
    elim (cases_lt (r % n + p % n) n) [
      | inl low ↦
          let sum : r % n + p % n ≡ s = sym (mod-eq_of_lt low) ∙ both in
          sym (ap (λ (x : ℕ). x % n) (shift sum) ∙ add-mod_right (p % n) n ∙ mod-eq_of_lt (mod_below p n some))
      | inr high ↦
          let sum : r % n + p % n ≡ s + n = wraps (r % n + p % n) high (omega (arith, mod_below r n some, mod_below p n some)) both in
          sym (ap (λ (x : ℕ). x % n) (back sum) ∙ mod-eq_of_lt (mod_below p n some))
    ]
  where
    shift : r % n + p % n ≡ s → s + n - r % n ≡ p % n + n
    shift sum = omega arith

    back : r % n + p % n ≡ s + n → s + n - r % n ≡ p % n
    back sum = omega arith

    wraps : (x : ℕ) → n ≤ x → x < n + n → x % n ≡ s → x ≡ s + n
    wraps x high top e' =
        let f : (x - n) + n ≡ x = omega arith in
        let g : (x - n) % n ≡ x % n = sym (add-mod_right (x - n) n) ∙ ap (λ (y : ℕ). y % n) f in
        let h : (x - n) % n ≡ x - n = mod-eq_of_lt (omega arith) in
        omega arith

pub has_residue : (region pages size n s p : ℕ) → s < n → has_page (memory_origin region pages size n s) p ≡ true → p % n ≡ (s + n - region % n) % n
has_residue region pages size n s p below has =
    residue_of_stripe n region s p (omega arith) below (stripe_is (memory_origin region pages size n s) p refl has)

pub below_of : (region pages size n s p : ℕ) → has_page (memory_origin region pages size n s) p ≡ true → p < pages
below_of region pages size n s p has = ltb-true p pages (and_parts _ _ has).0
