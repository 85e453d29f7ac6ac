-- Pages of one size lie apart, and a page that is written leaves the others as they were.
use Rattle.std.proofs.Common.{◌≡◌, ◌≢◌, ◌⊎◌, inl, inr, ℕ, ◌+◌, ◌*◌, ◌/◌, ◌%◌, ◌<◌, ◌≤◌, true, List, length, take, drop, Some, sym, ap, ◌∙◌, arith, rules}
use Rattle.std.specs.Option.{is_some}
use Rattle.std.proofs.lemmas.Bool.{cases_order, cases_lt, and_parts, eqb-true}
use Rattle.std.proofs.lemmas.List.{places, same_lists}
use Rattle.std.proofs.lemmas.Nat.{div-add-mod', mul-le, mod_below}
use Rattle.std.proofs.Math.Nat.{add-sub_cancel_left, div-one}
use Rattle.page_base.specs.ListSeen.{spliced}
use Rattle.page_base.specs.Lanes.{Origin, has_page, told_at}
use Rattle.store_trait.specs.Lanes.{ChangesOnly, retold}
use Rattle.store_trait.specs.Memory.{page_bytes, memory_told}
use Rattle.store_trait.proofs.Told.{told_of_page, same_told_at}
use Rattle.store_trait.specs.WholePages.{length-told_by}

-- a range apart from the one that was written is as before
range_spliced : (xs new : List ℕ) (a b n : ℕ) → length new ≡ n → a + n ≤ length xs → (b + n ≤ a) ⊎ (a + n ≤ b) → take n (drop b (spliced xs a new)) ≡ take n (drop b xs)
range_spliced xs new a b n e fits apart = same_lists _ _ (search (rules, places)) (λ k d h. grind (arith, places))

-- two rows of n lie apart
pub rows_apart : (i j n : ℕ) → i < j → i * n + n ≤ j * n
rows_apart i j n h = omega (arith, mul-le (i + 1) n j n (omega arith) (omega arith))

-- of two numbers with one quotient and one residue behind r, neither is the greater
none_below : (n r p q : ℕ) → 0 < n → (r + p) % n ≡ (r + q) % n → p / n ≡ q / n → q ≤ p
none_below n r p q some residue row = elim (cases_lt p q) [
  | inr le ↦ le
  | inl lt ↦ absurd (elim (cases_lt ((r + p) / n) ((r + q) / n)) [
    | inl below ↦
        let far : (r + p) / n * n + n ≤ (r + q) / n * n = rows_apart ((r + p) / n) ((r + q) / n) n below in
        omega (arith, div-add-mod' (r + p) n, div-add-mod' (r + q) n, div-add-mod' p n, div-add-mod' q n, ap (λ (x : ℕ). x * n) row, mod_below q n some)
    | inr above ↦
        let near : (r + q) / n * n ≤ (r + p) / n * n = mul-le ((r + q) / n) n ((r + p) / n) n above (omega arith) in
        omega (arith, div-add-mod' (r + p) n, div-add-mod' (r + q) n)
  ])
]

pub page_of-spliced_other : (n i j : ℕ) (xs new : List ℕ) → length new ≡ n → i * n + n ≤ length xs → i ≢ j → page_bytes n (spliced xs (i * n) new) j ≡ page_bytes n xs j
page_of-spliced_other n i j xs new e fits apart = rw (add-sub_cancel_left (j * n) n) (range_spliced xs new (i * n) (j * n) n e fits (elim (cases_order i j) [
  | inl same ↦ absurd (apart same)
  | inr (inl lt) ↦ inr (rows_apart i j n lt)
  | inr (inr gt) ↦ inl (rows_apart j i n gt)
]))

pub page_of-spliced_same : (n i : ℕ) (xs new : List ℕ) → length new ≡ n → i * n + n ≤ length xs → page_bytes n (spliced xs (i * n) new) i ≡ new
page_of-spliced_same n i xs new e fits = same_lists _ _ (search (rules, places)) (λ k d h. grind (arith, places))

-- the stripe of a page that goes round alone
pub stripe_is : (o : Origin) (p : ℕ) → o.group ≡ 1 → has_page o p ≡ true → (o.region + p) % o.stripes ≡ o.stripe
stripe_is o p one has =
    let whole : p / o.group ≡ p = ap (λ (g : ℕ). p / g) one ∙ div-one p in
    ap (λ (x : ℕ). (o.region + x) % o.stripes) (sym whole) ∙ eqb-true _ _ (and_parts _ _ has).1

-- two pages of one lane in one row are one
pub same_page : (o : Origin) (p q : ℕ) → 0 < o.stripes → o.group ≡ 1 → has_page o p ≡ true → has_page o q ≡ true → p / o.stripes ≡ q / o.stripes → p ≡ q
same_page o p q some one has_p has_q row =
    let residue : (o.region + p) % o.stripes ≡ (o.region + q) % o.stripes = stripe_is o p one has_p ∙ sym (stripe_is o q one has_q) in
    let a : q ≤ p = none_below o.stripes o.region p q some residue row in
    let b : p ≤ q = none_below o.stripes o.region q p some (sym residue) (sym row) in
    omega arith

-- a lane in memory, one page of which is written
module _ (o : Origin) (kept bytes : List ℕ) (p : ℕ) (some : 0 < o.stripes) (one : o.group ≡ 1) (len : length bytes ≡ o.page_size) (fits : p / o.stripes * o.page_size + o.page_size ≤ length kept) (has : has_page o p ≡ true) where
  pub memory_changes : (now : List ℕ) → now ≡ spliced kept (p / o.stripes * o.page_size) bytes → ChangesOnly p (memory_told o kept) (memory_told o now)
  memory_changes now e = record {
    as_many = length-told_by o (λ q. page_bytes o.page_size now (q / o.stripes)) ∙ sym (length-told_by o (λ q. page_bytes o.page_size kept (q / o.stripes)));
    others = λ q apart. same_told_at o (λ k. page_bytes o.page_size now (k / o.stripes)) (λ k. page_bytes o.page_size kept (k / o.stripes)) q (λ has_q.
        ap (λ (xs : List ℕ). page_bytes o.page_size xs (q / o.stripes)) e
        ∙ page_of-spliced_other o.page_size (p / o.stripes) (q / o.stripes) kept bytes len fits (λ row. apart (sym (same_page o p q some one has has_q row))));
    stays_told = ap is_some (told_of_page o (λ q. page_bytes o.page_size now (q / o.stripes)) p has) ∙ sym (ap is_some (told_of_page o (λ q. page_bytes o.page_size kept (q / o.stripes)) p has));
  }

  pub memory_written : (now : List ℕ) → now ≡ spliced kept (p / o.stripes * o.page_size) bytes → told_at (memory_told o now) p ≡ retold (told_at (memory_told o kept) p) bytes
  memory_written now e =
      told_of_page o (λ q. page_bytes o.page_size now (q / o.stripes)) p has
      ∙ ap Some (ap (λ (xs : List ℕ). page_bytes o.page_size xs (p / o.stripes)) e ∙ page_of-spliced_same o.page_size (p / o.stripes) kept bytes len fits)
      ∙ sym (ap (λ t. retold t bytes) (told_of_page o (λ q. page_bytes o.page_size kept (q / o.stripes)) p has))
