-- Files dealt round the stripes: which file lies at each place of a share.
use Rattle.std.proofs.Common.{◌≡◌, inl, inr, ℕ, zero, suc, ◌+◌, ◌-◌, ◌*◌, ◌/◌, ◌%◌, ◌<◌, ◌≤◌, Bool, cond, List, [], ◌∷◌, map, length, slice_get, Some, refl, sym, ap, ◌∙◌, arith}
use Rattle.std.specs.Prelude.{◌==◌}
use Rattle.std.proofs.lemmas.Bool.{cases_Bool, cases_lt, eqb-true, eqb-false}
use Rattle.std.proofs.lemmas.List.{length-map}
use Rattle.std.proofs.lemmas.Nat.{div-add-mod', mod_below, mod-mul-add}
use Rattle.std.proofs.Math.Nat.{add-mod, add-mod_right, mod-eq_of_lt}
use Rattle.page_base.specs.declared.layout.Layout.{Layout}
use Rattle.file_store.specs.Parts.{PartSeen}
use Rattle.sparse_store.specs.InsideLaneFiles.{first_file, file_number, AreLaneFiles}
use Rattle.sparse_store.specs.InsideSplits.{room_of}
use Rattle.sparse_store.specs.InsideStores.{AreFiles}
use Rattle.sparse_store.specs.Splits.{dealt_from, dealt_to}
use Rattle.sparse_store.specs.declared.meta.Meta.{Meta}
use Rattle.sparse_store.proofs.LaneFiles.{one_file}
use Rattle.sparse_store.proofs.PartLists.{inside_of, got_map}

pub there : {X : Type 0} (xs : List X) (i : ℕ) → i < length xs → (x : X) × (slice_get xs i ≡ Some x)
there [] i below = absurd (omega (arith, below))
there (x ∷ xs) zero below = (x, refl)
there (x ∷ xs) (suc i) below = there xs i (omega (arith, below))

-- ---- the place of a file

-- which number of a round the stripe's files have
place_in_round : (n r s p : ℕ) → 0 < n → s < n → (r + p) % n ≡ s → p % n ≡ (s + n - r % n) % n
place_in_round n r s p some below e =
    let both : (r % n + p % n) % n ≡ s = sym (add-mod r p n) ∙ e in
    elim (cases_lt (r % n + p % n) n) [
      | inl low ↦
          let sum : r % n + p % n ≡ s = sym (mod-eq_of_lt low) ∙ both in
          sym (ap (λ (x : ℕ). x % n) (shift sum) ∙ add-mod_right (p % n) n ∙ mod-eq_of_lt (mod_below p n some))
      | inr high ↦
          let sum : r % n + p % n ≡ s + n = wraps (r % n + p % n) high (omega (arith, mod_below r n some, mod_below p n some)) both in
          sym (ap (λ (x : ℕ). x % n) (back sum) ∙ mod-eq_of_lt (mod_below p n some))
    ]
  where
    shift : r % n + p % n ≡ s → s + n - r % n ≡ p % n + n
    shift sum = omega arith

    back : r % n + p % n ≡ s + n → s + n - r % n ≡ p % n
    back sum = omega arith

    wraps : (x : ℕ) → n ≤ x → x < n + n → x % n ≡ s → x ≡ s + n
    wraps x high top e' =
        let f : (x - n) + n ≡ x = omega arith in
        let g : (x - n) % n ≡ x % n = sym (add-mod_right (x - n) n) ∙ ap (λ (y : ℕ). y % n) f in
        let h : (x - n) % n ≡ x - n = mod-eq_of_lt (omega arith) in
        omega arith

module _ (n r s : ℕ) (some : 0 < n) where
  -- no file between two of the stripe's is
  no_way : (k d : ℕ) → d < n → (r + k + d) % n ≡ s → (r + k) % n ≡ s → d ≡ 0
  no_way k d below of its =
      let at_zero : (r + k + 0) % n ≡ s = ap (λ (a : ℕ). a % n) (let e : r + k + 0 ≡ r + k = omega arith in e) ∙ its in
      one_file n (r + k) d 0 some (of ∙ sym at_zero) (div_small d below ∙ sym (div_small 0 some))
    where
      div_small : (a : ℕ) → a < n → a / n ≡ 0
      div_small a h = elim (cases_lt 0 (a / n)) [
        | inl more ↦ absurd (omega (arith, h, div-add-mod' a n, at_least (a / n) more))
        | inr none ↦ omega (arith, none)
      ]
        where
          at_least : (q : ℕ) → 0 < q → n ≤ q * n
          at_least zero more = absurd (omega (arith, more))
          at_least (suc q) more = omega arith

module _ {P : Type 0} (n r s : ℕ) (some : 0 < n) where
  -- whether a file goes to the stripe
  pub goes : (k : ℕ) (x : P) (xs : List P) → (r + k) % n ≡ s → dealt_from n r s k (x ∷ xs) ≡ x ∷ dealt_from n r s (k + 1) xs
  goes k x xs of = elim (cases_Bool ((r + k) % n == s)) [
    | inl its ↦ ap (λ (b : Bool). cond b (x ∷ dealt_from n r s (k + 1) xs) (dealt_from n r s (k + 1) xs)) its
    | inr other ↦ absurd (eqb-false ((r + k) % n) s other of)
  ]

  pub passes : (k : ℕ) (x : P) (xs : List P) → ((r + k) % n ≡ s → ⊥) → dealt_from n r s k (x ∷ xs) ≡ dealt_from n r s (k + 1) xs
  passes k x xs not_of = elim (cases_Bool ((r + k) % n == s)) [
    | inl its ↦ absurd (not_of (eqb-true ((r + k) % n) s its))
    | inr other ↦ ap (λ (b : Bool). cond b (x ∷ dealt_from n r s (k + 1) xs) (dealt_from n r s (k + 1) xs)) other
  ]

  -- the next file of the stripe lies d files on
  pub dealt_at : (k d : ℕ) (xs : List P) (j : ℕ) → d < n → (r + k + d) % n ≡ s → slice_get (dealt_from n r s k xs) j ≡ slice_get xs (j * n + d)
  dealt_at k d [] j below of = refl
  dealt_at k d (x ∷ xs) j below of = elim (cases_Bool ((r + k) % n == s)) [
    | inl its ↦ ap (λ (ys : List P). slice_get ys j) (goes k x xs (eqb-true ((r + k) % n) s its)) ∙ taken j (no_way n r s some k d below of (eqb-true ((r + k) % n) s its)) (λ i next. dealt_at (k + 1) (n - 1) xs i (omega (arith, some)) next)
    | inr other ↦ ap (λ (ys : List P). slice_get ys j) (passes k x xs (eqb-false ((r + k) % n) s other)) ∙ passed d below of (eqb-false ((r + k) % n) s other) (λ e small next. dealt_at (k + 1) e xs j small next)
  ]
    where
      round : (r + (k + 1) + (n - 1)) % n ≡ (r + k) % n
      round = ap (λ (a : ℕ). a % n) (let e : r + (k + 1) + (n - 1) ≡ r + k + n = omega (arith, some) in e) ∙ add-mod_right (r + k) n

      taken : (j : ℕ) → d ≡ 0 → ((i : ℕ) → (r + (k + 1) + (n - 1)) % n ≡ s → slice_get (dealt_from n r s (k + 1) xs) i ≡ slice_get xs (i * n + (n - 1))) → slice_get (x ∷ dealt_from n r s (k + 1) xs) j ≡ slice_get (x ∷ xs) (j * n + d)
      taken zero none rest = ap (slice_get (x ∷ xs)) (let e : 0 ≡ 0 * n + d = omega (arith, none) in e)
      taken (suc i) none rest =
          let of_next : (r + (k + 1) + (n - 1)) % n ≡ s = round ∙ ap (λ (a : ℕ). a % n) (let e : r + k ≡ r + k + d = omega (arith, none) in e) ∙ of in
          rest i of_next
          ∙ ap (slice_get (x ∷ xs)) (let e : suc (i * n + (n - 1)) ≡ suc i * n + d = omega (arith, none, some) in e)

      passed : (d : ℕ) → d < n → (r + k + d) % n ≡ s → ((r + k) % n ≡ s → ⊥) → ((e : ℕ) → e < n → (r + (k + 1) + e) % n ≡ s → slice_get (dealt_from n r s (k + 1) xs) j ≡ slice_get xs (j * n + e)) → slice_get (dealt_from n r s (k + 1) xs) j ≡ slice_get (x ∷ xs) (j * n + d)
      passed zero below of not_of rest = absurd (not_of (ap (λ (a : ℕ). a % n) (let e : r + k ≡ r + k + 0 = omega arith in e) ∙ of))
      passed (suc d) below of not_of rest =
          rest d (omega (arith, below)) (ap (λ (a : ℕ). a % n) (let e : r + (k + 1) + d ≡ r + k + suc d = omega arith in e) ∙ of)
          ∙ ap (slice_get (x ∷ xs)) (let e : suc (j * n + d) ≡ j * n + suc d = omega arith in e)

-- ---- the first file of a stripe

module _ (n r s : ℕ) (some : 0 < n) (below : s < n) where
  pub first_below : first_file n r s < n
  first_below = mod_below (s + n - r % n) n some

  pub first_of : (r + first_file n r s) % n ≡ s
  first_of =
      let q = s + n - r % n in
      let small : r % n < n = mod_below r n some in
      let same : q % n % n ≡ q % n = mod-eq_of_lt (mod_below q n some) in
      let whole : r + q ≡ (r / n + 1) * n + s = omega (arith, div-add-mod' r n, small) in
      add-mod r (q % n) n
      ∙ ap (λ (a : ℕ). (r % n + a) % n) same
      ∙ sym (add-mod r q n)
      ∙ ap (λ (a : ℕ). a % n) whole
      ∙ mod-mul-add (r / n + 1) n s below

  -- a file of the stripe has its place among the stripe's
  pub number_is : (number : ℕ) → (r + number) % n ≡ s → number ≡ file_number n r s (number / n)
  number_is number of = omega (arith, div-add-mod' number n, place_in_round n r s number some below of)

  module _ {P : Type 0} (xs : List P) where
    pub dealt_here : (place : ℕ) → slice_get (dealt_to n r s xs) place ≡ slice_get xs (file_number n r s place)
    dealt_here place = dealt_at n r s some 0 (first_file n r s) xs place first_below (ap (λ (a : ℕ). a % n) (let e : r + 0 + first_file n r s ≡ r + first_file n r s = omega arith in e) ∙ first_of)

    pub few_dealt : length (dealt_to n r s xs) ≤ room_of (length xs) n
    few_dealt = elim (cases_lt (length xs / n + 1) (length (dealt_to n r s xs))) [
      | inr few ↦ few
      | inl more ↦
          let place = length xs / n + 1 in
          let last = there (dealt_to n r s xs) place more in
          let inside : file_number n r s place < length xs = inside_of xs (file_number n r s place) last.0 (sym (dealt_here place) ∙ last.1) in
          absurd (omega (arith, inside, div-add-mod' (length xs) n, mod_below (length xs) n some))
    ]

-- ---- the files of a lane

module _ {P : Type 0} (seen : P → PartSeen) (dir : List ℕ) (m : Meta) (layout : Layout) (region stripe : ℕ) (below : stripe < layout.stripes) (xs : List P) (files : AreFiles seen dir m xs) where
  some_stripe : 0 < layout.stripes
  some_stripe = omega (arith, below)

  pub are_lane_files : AreLaneFiles dir m layout region stripe (map seen (dealt_to layout.stripes region stripe xs))
  are_lane_files = record {
    stripe_below = below;
    all = λ number inside of.
        let n = layout.stripes in
        let at = there xs number (omega (arith, inside, files.count)) in
        let here : slice_get (dealt_to n region stripe xs) (number / n) ≡ Some at.0 = dealt_here n region stripe some_stripe below xs (number / n) ∙ ap (slice_get xs) (sym (number_is n region stripe some_stripe below number of)) ∙ at.1 in
        omega (arith, inside_of (dealt_to n region stripe xs) (number / n) at.0 here, length-map (dealt_to n region stripe xs) seen);
    below = λ place inside.
        let n = layout.stripes in
        let at = there (dealt_to n region stripe xs) place (omega (arith, inside, length-map (dealt_to n region stripe xs) seen)) in
        omega (arith, inside_of xs (file_number n region stripe place) at.0 (sym (dealt_here n region stripe some_stripe below xs place) ∙ at.1), files.count);
    names = λ place p got.
        let n = layout.stripes in
        let at = got_map seen (dealt_to n region stripe xs) place p got in
        ap (λ (q : PartSeen). q.name) at.2
        ∙ files.names (file_number n region stripe place) at.0 (sym (dealt_here n region stripe some_stripe below xs place) ∙ at.1);
  }

-- what is seen of the parts is dealt as they are
pub dealt_map : {P Q : Type 0} (f : P → Q) (n r s k : ℕ) (xs : List P) → dealt_from n r s k (map f xs) ≡ map f (dealt_from n r s k xs)
dealt_map f n r s k [] = refl
dealt_map {P} {Q} f n r s k (x ∷ xs) = elim (cases_Bool ((r + k) % n == s)) [
  | inl its ↦
      ap (λ (b : Bool). cond b (f x ∷ dealt_from n r s (k + 1) (map f xs)) (dealt_from n r s (k + 1) (map f xs))) its
      ∙ ap (λ (ys : List Q). f x ∷ ys) (dealt_map f n r s (k + 1) xs)
      ∙ sym (ap (λ (b : Bool). map f (cond b (x ∷ dealt_from n r s (k + 1) xs) (dealt_from n r s (k + 1) xs))) its)
  | inr other ↦
      ap (λ (b : Bool). cond b (f x ∷ dealt_from n r s (k + 1) (map f xs)) (dealt_from n r s (k + 1) (map f xs))) other
      ∙ dealt_map f n r s (k + 1) xs
      ∙ sym (ap (λ (b : Bool). map f (cond b (x ∷ dealt_from n r s (k + 1) xs) (dealt_from n r s (k + 1) xs))) other)
]
