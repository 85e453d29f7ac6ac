-- A region has a present entry where it has a resident page.
use Rattle.std.proofs.Common.{Bool, List, Option, [], ap, arith, cond, false, get_or, inl, inr, nat_lt, refl, sym, true, zero, suc, ℕ, ◌+◌, ◌<◌, ◌==◌, ◌∙◌, ◌∷◌, ◌≡◌}
use Rattle.std.proofs.lemmas.Bool.{cases_Bool, cases_lt, eq-eqb, eqb-true, or_cases, or_left, or_right}
use Rattle.std.proofs.lemmas.Bool.Decides.{nat_tests}
use Rattle.std.proofs.lemmas.List.Sums.{sum_by-cons}
use Rattle.std.specs.List.{count_by, list_any}
use Rattle.std.specs.Option.{is_some}
use Rattle.page_base.specs.Pages.{same}
use Rattle.page_base.specs.declared.keys.Key.{Key}
use Rattle.soft_mmu.specs.declared.entry.PageEntry.{PageEntry}
use Rattle.soft_mmu.specs.declared.entry.PageEntry.TheVariants.{Absent, Present}
use Rattle.soft_mmu.specs.Entries.{table_entry, is_present, region_entries}
use Rattle.page_buffer.specs.Buffers.{BufferSeen}
use Rattle.page_model.specs.Residents.{is_in}
use Rattle.stripe_core.specs.Parts.{Table}
use Rattle.stripe_core.specs.InsideParts.{ReadOut}
use Rattle.stripe_core.specs.InsideTied.{Tied, frame_in}
use Rattle.stripe_core.proofs.Keys.{same-true, same_self}

named_present : (e : PageEntry) → is_some (frame_in e) ≡ is_present e
named_present Absent = refl
named_present (Present protected dirty frame) = refl

one_more : (x : PageEntry) (xs : List PageEntry) → count_by is_present (x ∷ xs) ≡ cond (is_present x) 1 0 + count_by is_present xs
one_more x xs = sum_by-cons (λ (y : PageEntry). cond (is_present y) 1 0) x xs

count_some : (es : List PageEntry) (page : ℕ) → is_present (get_or es page Absent) ≡ true → 0 < count_by is_present es
count_some [] page e = absurd cc
count_some (x ∷ xs) zero e = let here : ◌≡◌ {A = ℕ} (cond (is_present x) 1 0) 1 = ap (λ b. cond b 1 0) e in let more = one_more x xs in omega (arith, here, more)
count_some (x ∷ xs) (suc page) e = let rest = count_some xs page e in let more = one_more x xs in omega (arith, rest, more)

some_counted : (es : List PageEntry) → 0 < count_by is_present es → (page : ℕ) × (is_present (get_or es page Absent) ≡ true)
some_counted [] lt = absurd (omega (arith, lt))
some_counted (x ∷ xs) lt = elim (cases_Bool (is_present x)) [
  | inl t ↦ (0, t)
  | inr f ↦
      let none : ◌≡◌ {A = ℕ} (cond (is_present x) 1 0) 0 = ap (λ b. cond b 1 0) f in
      let more = one_more x xs in
      let later = some_counted xs (omega (arith, lt, none, more)) in
      (suc later.0, later.1)
]

abbrev pub of_region : ℕ → Key → Bool
of_region r k = k.region == r

-- a key of the region is among these
region_in : (ks : List Key) (k : Key) (r : ℕ) → k.region ≡ r → is_in k ks ≡ true → list_any (of_region r) ks ≡ true
region_in [] k r at e = absurd cc
region_in (x ∷ xs) k r at e = elim (or_cases (same x k) (is_in k xs) e) [
  | inl t ↦ let here : of_region r x ≡ true = eq-eqb x.region r (ap (λ (i : Key). i.region) (same-true x k t) ∙ at) in or_left (of_region r x) (list_any (of_region r) xs) here
  | inr later ↦ or_right (of_region r x) (list_any (of_region r) xs) (region_in xs k r at later)
]

in_region : (ks : List Key) (r : ℕ) → list_any (of_region r) ks ≡ true → (k : Key) × ((k.region ≡ r) × (is_in k ks ≡ true))
in_region [] r e = absurd cc
in_region (x ∷ xs) r e = elim (or_cases (of_region r x) (list_any (of_region r) xs) e) [
  | inl t ↦ (x, (eqb-true x.region r t, or_left (same x x) (is_in x xs) (same_self x)))
  | inr later ↦ let k = in_region xs r later in (k.0, (k.1.0, or_right (same x k.0) (is_in k.0 xs) k.1.1))
]

pub present_any : (t : Table) (b : BufferSeen) (outs : List (Option ReadOut)) (r : ℕ) → Tied t b outs → nat_lt 0 (count_by is_present (region_entries t r)) ≡ list_any (of_region r) b.residents
present_any t b outs r tied = elim (cases_Bool (list_any (of_region r) b.residents)) [
  | inl there ↦
      let k = in_region b.residents r there in
      let named : is_some (frame_in (table_entry t k.0)) ≡ true = sym (tied.residents k.0) ∙ k.1.1 in
      let present : is_present (get_or (region_entries t r) k.0.page Absent) ≡ true = ap (λ n. is_present (get_or (region_entries t n) k.0.page Absent)) (sym k.1.0) ∙ (sym (named_present (table_entry t k.0)) ∙ named) in
      let lt = count_some (region_entries t r) k.0.page present in
      lt_true (count_by is_present (region_entries t r)) lt ∙ sym there
  | inr gone ↦
      none_lt (count_by is_present (region_entries t r)) (λ lt.
      let found = some_counted (region_entries t r) lt in
      let k : Key = record { region = r; page = found.0 } in
      let named : is_some (frame_in (table_entry t k)) ≡ true = named_present (table_entry t k) ∙ found.1 in
      let here : list_any (of_region r) b.residents ≡ true = region_in b.residents k r refl (tied.residents k ∙ named) in
      let no : true ≡ false = sym here ∙ gone in cc)
      ∙ sym gone
]
  where
    lt_true : (n : ℕ) → 0 < n → nat_lt 0 n ≡ true
    lt_true n lt = grind (arith, nat_tests)

    none_lt : (n : ℕ) → (0 < n → ⊥) → nat_lt 0 n ≡ false
    none_lt n never = elim (cases_lt 0 n) [
      | inl lt ↦ absurd (never lt)
      | inr most ↦ grind (arith, nat_tests)
    ]
