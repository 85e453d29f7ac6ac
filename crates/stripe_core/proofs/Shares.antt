-- Where the number of an own page stands, and how many there are.
use Rattle.std.proofs.Common.{Bool, List, ◌∷◌, ℕ, zero, suc, true, false, cond, arith, refl, sym, ap, ◌∙◌, ◌≡◌, ◌⊎◌, inl, inr, ◌<◌, ◌≤◌, ◌+◌, ◌*◌, ◌/◌, ◌%◌, ◌-◌, ◌==◌, get_or, set, length, replicate, nat_lt}
use Rattle.std.proofs.Math.Nat.{div-le_self, mul-le-mul_right, le-mul_of_pos_right, mod-eq_of_lt, add-mod_right, add-mod-mod, mod-add-mod}
use Rattle.std.proofs.lemmas.Nat.{div-add-mod', mod_below, same_from_place, row_fits, le-div}
use Rattle.std.proofs.lemmas.Bool.{cases_eq, cases_lt, cond-true, cond-false, eq-eqb, eqb-true, ne_eqb, lt-ltb}
use Rattle.std.proofs.lemmas.List.{get_or-set_other, get_or-set_same}
use Rattle.stripe_core.specs.declared.read_faults.Share.{Share}
use Rattle.stripe_core.specs.InsideReadFaults.{in_last_turn, in_share, listed, number_at, own_below, place_in, spread}

-- ---- numbers

-- the place is no higher than the page
pub place_le : (s : Share) (page : ℕ) → place_in s page ≤ page
place_le s page =
    let blocks = mul-le-mul_right {m = page / s.group / s.stripes} {n = page / s.group} s.group (div-le_self (page / s.group) s.stripes) in
    let whole = div-add-mod' page s.group in
    omega (arith, blocks, whole)

-- where a whole own block is left of the last turn, it ends below the pages
pub own_block_le : (pages group stripes : ℕ) → 1 ≤ group → 1 ≤ stripes → 1 ≤ pages / group % stripes → pages / group / stripes * group + group ≤ pages
own_block_le pages group stripes some_page some_block behind =
    let blocks = div-add-mod' (pages / group) stripes in
    let most = le-mul_of_pos_right {m = stripes} (pages / group / stripes) (omega arith) in
    let fewer : pages / group / stripes < pages / group = omega (arith, blocks, most) in
    let fits = row_fits (pages / group / stripes) group (pages / group) group fewer (omega arith) in
    let whole = div-add-mod' pages group in
    omega (arith, fits, whole)

div_le_div : (m n k : ℕ) → 0 < k → m ≤ n → m / k ≤ n / k
div_le_div m n k pos le = let whole = div-add-mod' m k in le-div (m / k) n k pos (omega (arith, whole))

-- an own page below these has a place among their own ones
pub place_below : (s : Share) (page pages : ℕ) → in_share s page ≡ true → page < pages → place_in s page < own_below s pages
place_below s page pages own lt =
    let g = s.group in
    let k = s.stripes in
    let p : ℕ = page / g in
    let n : ℕ = pages / g in
    let some_page : 0 < g = omega (arith, s.some_page) in
    let some_block : 0 < k = omega (arith, s.some_block) in
    let first = eqb-true (p % k) s.first own in
    let rest = mod_below page g some_page in
    let whole_page = div-add-mod' page g in
    let whole_pages = div-add-mod' pages g in
    let blocks_le = div_le_div page pages g some_page (omega arith) in
    elim (cases_lt p n) [
      | inr over ↦
          let one : p ≡ n = omega (arith, blocks_le, over) in
          let here : n % k ≡ s.first = rw (← one) first in
          let last : in_last_turn s (n % k) (pages % g) ≡ pages % g = cond-true ((n % k) == s.first) _ _ (eq-eqb (n % k) s.first here) in
          let less : page % g < pages % g = let products : p * g ≡ n * g = ap (λ x. x * g) one in omega (arith, whole_page, whole_pages, products, lt) in
          let turns : p / k * g ≡ n / k * g = ap (λ x. x / k * g) one in
          omega (arith, turns, last, less)
      | inl fewer ↦
          let turns_le : p / k ≤ n / k = div_le_div p n k some_block (omega (arith, fewer)) in
          elim (cases_lt (p / k) (n / k)) [
            | inl below ↦ let fits = row_fits (p / k) g (n / k) g below (omega arith) in omega (arith, fits, rest)
            | inr over ↦
                let one : p / k ≡ n / k = omega (arith, turns_le, over) in
                let p_is = div-add-mod' p k in
                let n_is = div-add-mod' n k in
                let products : p / k * k ≡ n / k * k = ap (λ x. x * k) one in
                let behind : s.first < n % k = omega (arith, p_is, n_is, products, fewer, first) in
                let last : in_last_turn s (n % k) (pages % g) ≡ g = cond-false ((n % k) == s.first) _ _ (ne_eqb (n % k) s.first (λ e. omega (arith, e, behind))) ∙ cond-true (nat_lt s.first (n % k)) _ _ (lt-ltb s.first (n % k) behind) in
                let turns : p / k * g ≡ n / k * g = ap (λ x. x * g) one in
                omega (arith, turns, last, rest)
          ]
    ]

-- two own pages of one place are one
pub same_place : (s : Share) (page other : ℕ) → in_share s page ≡ true → in_share s other ≡ true → place_in s page ≡ place_in s other → page ≡ other
same_place s page other own also e =
    let g = s.group in
    let k = s.stripes in
    let some_page : 0 < g = omega (arith, s.some_page) in
    let parts = same_from_place (page / g / k) (page % g) (other / g / k) (other % g) g (mod_below page g some_page) (mod_below other g some_page) e in
    let turn : page / g % k ≡ other / g % k = eqb-true (page / g % k) s.first own ∙ sym (eqb-true (other / g % k) s.first also) in
    let block : page / g ≡ other / g = sym (div-add-mod' (page / g) k) ∙ (ap (λ x. x * k + page / g % k) parts.0 ∙ (ap (λ x. other / g / k * k + x) turn ∙ div-add-mod' (other / g) k)) in
    sym (div-add-mod' page g) ∙ (ap (λ x. x * g + page % g) block ∙ (ap (λ x. other / g * g + x) parts.1 ∙ div-add-mod' other g))

-- ---- which pages are own

-- the block of a stripe in each turn, where the first block of a region is that of stripe `region % stripes`
pub turned : (stripes number region block first : ℕ) → number < stripes
    → ((number < region % stripes) × (first ≡ stripes - region % stripes + number)) ⊎ ((region % stripes ≤ number) × (first ≡ number - region % stripes))
    → ((block % stripes) == first) ≡ (((region + block) % stripes) == number)
turned stripes number region block first few first_is =
    let k = stripes in
    let x : ℕ = block % k in
    let y : ℕ = region % k in
    let x_lt : x < k = mod_below block k (omega (arith, few)) in
    let y_lt : y < k = mod_below region k (omega (arith, few)) in
    let sum : (region + block) % k ≡ (y + x) % k = sym (add-mod-mod y block k ∙ mod-add-mod region k block) in
    let turn : ((y + x < k) × ((region + block) % k ≡ y + x)) ⊎ ((k ≤ y + x) × ((region + block) % k ≡ y + x - k)) =
    elim (cases_lt (y + x) k) [
      | inl lt ↦ inl (lt, sum ∙ mod-eq_of_lt lt)
      | inr le ↦
          let back : y + x - k + k ≡ y + x = omega (arith, le) in
          inr (le, sum ∙ (ap (λ n. n % k) (sym back) ∙ (add-mod_right (y + x - k) k ∙ mod-eq_of_lt (omega (arith, x_lt, y_lt, le)))))
    ] in
    elim (cases_eq x first) [
      | inl e ↦ eq-eqb x first e ∙ sym (eq-eqb ((region + block) % k) number (met first_is turn e))
      | inr ne ↦ ne_eqb x first ne ∙ sym (ne_eqb ((region + block) % k) number (λ e. ne (found first_is turn e)))
    ]
  where
    x_below : block % stripes < stripes
    x_below = mod_below block stripes (omega (arith, few))

    y_below : region % stripes < stripes
    y_below = mod_below region stripes (omega (arith, few))

    met : ((number < region % stripes) × (first ≡ stripes - region % stripes + number)) ⊎ ((region % stripes ≤ number) × (first ≡ number - region % stripes))
        → ((region % stripes + block % stripes < stripes) × ((region + block) % stripes ≡ region % stripes + block % stripes)) ⊎ ((stripes ≤ region % stripes + block % stripes) × ((region + block) % stripes ≡ region % stripes + block % stripes - stripes))
        → block % stripes ≡ first → (region + block) % stripes ≡ number
    met (inl a) (inl b) e = omega (arith, few, x_below, y_below, a.0, a.1, b.0, b.1, e)
    met (inl a) (inr b) e = omega (arith, few, x_below, y_below, a.0, a.1, b.0, b.1, e)
    met (inr a) (inl b) e = omega (arith, few, x_below, y_below, a.0, a.1, b.0, b.1, e)
    met (inr a) (inr b) e = omega (arith, few, x_below, y_below, a.0, a.1, b.0, b.1, e)

    found : ((number < region % stripes) × (first ≡ stripes - region % stripes + number)) ⊎ ((region % stripes ≤ number) × (first ≡ number - region % stripes))
        → ((region % stripes + block % stripes < stripes) × ((region + block) % stripes ≡ region % stripes + block % stripes)) ⊎ ((stripes ≤ region % stripes + block % stripes) × ((region + block) % stripes ≡ region % stripes + block % stripes - stripes))
        → (region + block) % stripes ≡ number → block % stripes ≡ first
    found (inl a) (inl b) e = omega (arith, few, x_below, y_below, a.0, a.1, b.0, b.1, e)
    found (inl a) (inr b) e = omega (arith, few, x_below, y_below, a.0, a.1, b.0, b.1, e)
    found (inr a) (inl b) e = omega (arith, few, x_below, y_below, a.0, a.1, b.0, b.1, e)
    found (inr a) (inr b) e = omega (arith, few, x_below, y_below, a.0, a.1, b.0, b.1, e)

-- ---- lists

pub listed_length : (f : ℕ → ℕ) (n : ℕ) → length (listed f n) ≡ n
listed_length f zero = refl
listed_length f (suc n) = ap suc (listed_length (λ i. f (suc i)) n)

pub listed_at : (f : ℕ → ℕ) (n i : ℕ) → i < n → get_or (listed f n) i 0 ≡ f i
listed_at f zero i lt = absurd (omega arith)
listed_at f (suc n) zero lt = refl
listed_at f (suc n) (suc i) lt = listed_at (λ j. f (suc j)) n i (omega arith)

listed_same : (f h : ℕ → ℕ) (n : ℕ) → ((i : ℕ) → f i ≡ h i) → listed f n ≡ listed h n
listed_same f h zero same = refl
listed_same f h (suc n) same = ap (λ x. x ∷ listed (λ i. f (suc i)) n) (same 0) ∙ ap (λ xs. h 0 ∷ xs) (listed_same (λ i. f (suc i)) (λ i. h (suc i)) n (λ i. same (suc i)))

listed_set : (f h : ℕ → ℕ) (n i x : ℕ) → h i ≡ x → ((j : ℕ) → (j ≡ i → ⊥) → h j ≡ f j) → listed h n ≡ set (listed f n) i x
listed_set f h zero i x here there = refl
listed_set f h (suc n) zero x here there =
    ap (λ y. y ∷ listed (λ j. h (suc j)) n) here ∙ ap (λ ys. x ∷ ys) (listed_same (λ j. h (suc j)) (λ j. f (suc j)) n (λ j. there (suc j) (λ e. omega (arith, e))))
listed_set f h (suc n) (suc i) x here there =
    ap (λ y. y ∷ listed (λ j. h (suc j)) n) (there 0 (λ e. omega (arith, e)))
    ∙ ap (λ ys. f 0 ∷ ys) (listed_set (λ j. f (suc j)) (λ j. h (suc j)) n i x here (λ j ne. there (suc j) (λ e. ne (omega (arith, e)))))

-- ---- the numbers

no_number : (s : Share) (n page : ℕ) → number_at s (replicate n 0) page ≡ 0
no_number s n page = go (in_share s page)
  where
    none : (m i : ℕ) → (let no : ℕ = 0 in get_or (replicate m no) i no ≡ no)
    none zero i = refl
    none (suc m) zero = refl
    none (suc m) (suc i) = none m i

    go : (b : Bool) → (let no : ℕ = 0 in cond b (get_or (replicate n no) (place_in s page) no) no ≡ no)
    go true = none n (place_in s page)
    go false = refl

zeros : (f : ℕ → ℕ) (n : ℕ) → ((i : ℕ) → f i ≡ 0) → listed f n ≡ replicate n 0
zeros f zero none = refl
zeros f (suc n) none = ap (λ x. x ∷ listed (λ i. f (suc i)) n) (none 0) ∙ ap (λ xs. 0 ∷ xs) (zeros (λ i. f (suc i)) n (λ i. none (suc i)))

pub spread_zeros : (s : Share) (n pages : ℕ) → spread s (replicate n 0) pages ≡ replicate pages 0
spread_zeros s n pages = zeros (number_at s (replicate n 0)) pages (no_number s n)

-- an own page of these has its place among the numbers of their own pages
pub place_within : (s : Share) (own : List ℕ) (pages page : ℕ) → length own ≡ own_below s pages → in_share s page ≡ true → page < length (spread s own pages) → (place_in s page < length own) × (page < pages)
place_within s own pages page all mine within =
    let lt : page < pages = rw (listed_length (number_at s own) pages) at within in
    (rw all (place_below s page pages mine lt), lt)

pub spread_at : (s : Share) (own : List ℕ) (pages page : ℕ) → in_share s page ≡ true → page < pages → get_or (spread s own pages) page 0 ≡ get_or own (place_in s page) 0
spread_at s own pages page mine lt = listed_at (number_at s own) pages page lt ∙ cond-true (in_share s page) _ _ mine

pub spread_set : (s : Share) (own : List ℕ) (pages page x : ℕ) → in_share s page ≡ true → place_in s page < length own
    → spread s (set own (place_in s page) x) pages ≡ set (spread s own pages) page x
spread_set s own pages page x mine lt =
    listed_set (number_at s own) (number_at s (set own (place_in s page) x)) pages page x
    (cond-true (in_share s page) _ _ mine ∙ get_or-set_same own (place_in s page) x 0 lt)
    (λ j ne. elsewhere j ne (in_share s j) refl)
  where
    elsewhere : (j : ℕ) → (j ≡ page → ⊥) → (b : Bool) → in_share s j ≡ b → number_at s (set own (place_in s page) x) j ≡ number_at s own j
    elsewhere j ne true also = cond-true (in_share s j) _ _ also ∙ (get_or-set_other own (place_in s page) (place_in s j) x 0 (λ e. ne (same_place s j page also mine e)) ∙ sym (cond-true (in_share s j) _ _ also))
    elsewhere j ne false other = cond-false (in_share s j) _ _ other ∙ sym (cond-false (in_share s j) _ _ other)
