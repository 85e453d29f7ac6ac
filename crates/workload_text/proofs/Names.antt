-- Regions and scripts by name.
use Rattle.std.proofs.Common.{◌≡◌, ℕ, zero, suc, ◌<◌, ◌+◌, Bool, true, false, cond, ◌⊎◌, inl, inr, List, [], ◌∷◌, ◌++◌, length, get_or, Option, Some, refl, sym, arith}
use Rattle.std.specs.List.{list_any, Contains}
use Rattle.std.specs.Str.{bytes_eq}
use Rattle.std.proofs.lemmas.Bool.{or_cases, or_parts, both_ways, cases_Bool}
use Rattle.std.proofs.lemmas.Slice.Eq.{bytes_eq-Decides}
use Rattle.workload_text.specs.Line.{TextLine, says, silent, map_line, script_line, load_line, store_line, prefetch_line, flush_line, unmap_line}
use Rattle.workload_text.specs.Grammar.{Said, Region, after_text, is_name, region_from, region_by_name, name_at, MayName, AllowedText}

-- ---- the first region of a name

first_or_later : (b : Bool) (n : ℕ) (o : Option ℕ) (r : ℕ) → cond b (Some n) o ≡ Some r → ((b ≡ true) × (n ≡ r)) ⊎ ((b ≡ false) × (o ≡ Some r))
first_or_later true n o r h = inl (refl, cc h)
first_or_later false n o r h = inr (refl, h)

pub region_from-Some : (n : ℕ) (gs : List Region) (name : List ℕ) (r : ℕ) → region_from n gs name ≡ Some r → (k : ℕ) × (r ≡ n + k) × (k < length gs) × (name_at gs k ≡ name)
region_from-Some n [] name r h = absurd (cc h)
region_from-Some n (g ∷ gs) name r h =
    elim (first_or_later (bytes_eq g.name name) n (region_from (n + 1) gs name) r h) [
      | inl here ↦ (0, omega (arith, here.1), omega arith, (bytes_eq-Decides g.name name).0 here.0)
      | inr there ↦ let k = region_from-Some (n + 1) gs name r there.1 in (suc k.0, omega (arith, k.1), omega (arith, k.2), k.3)
    ]

pub region_of-below : (s : Said) (name : List ℕ) (r : ℕ) → region_by_name s name ≡ Some r → r < length s.regions
region_of-below s name r h = let k = region_from-Some 0 s.regions name r h in omega (arith, k.1, k.2)

-- ---- names that are spelt as names

abbrev pub AllNamed : List Region → Type 0
AllNamed [] = Unit {0}
AllNamed (g ∷ gs) = (is_name g.name ≡ true) × AllNamed gs

named_at : (gs : List Region) (r : ℕ) → AllNamed gs → r < length gs → is_name (name_at gs r) ≡ true
named_at [] r n h = absurd (omega arith)
named_at (g ∷ gs) zero n h = n.0
named_at (g ∷ gs) (suc r) n h = named_at gs r n.1 (omega arith)

pub region_named : (s : Said) (r : ℕ) → AllNamed s.regions → MayName s r → is_name (name_at s.regions r) ≡ true
region_named s r n h = named_at s.regions r n (region_of-below s (name_at s.regions r) r h)

named_more : (gs : List Region) (g : Region) → AllNamed gs → is_name g.name ≡ true → AllNamed (gs ++ g ∷ [])
named_more [] g n h = (h, tt)
named_more (x ∷ gs) g n h = (n.0, named_more gs g n.1 h)

pub still_named : (s : Said) (t : TextLine) → AllNamed s.regions → AllowedText s t → AllNamed (after_text s t).regions
still_named s (silent text) n h = n
still_named s (says (map_line name backing size w)) n h = named_more s.regions (record { name = name; size = size; writable = w }) n h.named
still_named s (says (script_line name)) n h = n
still_named s (says (load_line r off len)) n h = n
still_named s (says (store_line r off bytes)) n h = n
still_named s (says (prefetch_line r off len)) n h = n
still_named s (says flush_line) n h = n
still_named s (says (unmap_line r)) n h = n

-- ---- names that were used

not_at : (name : List ℕ) (names : List (List ℕ)) (k : ℕ) → list_any (bytes_eq name) names ≡ false → k < length names → get_or names k name ≡ name → ⊥
not_at name [] k h lt e = omega arith
not_at name (x ∷ xs) zero h lt e =
    both_ways (bytes_eq name x) (or_parts (bytes_eq name x) (list_any (bytes_eq name) xs) h).0 ((bytes_eq-Decides name x).1 (sym e))
not_at name (x ∷ xs) (suc k) h lt e = not_at name xs k (or_parts (bytes_eq name x) (list_any (bytes_eq name) xs) h).1 (omega arith) e

pub not_among : (name : List ℕ) (names : List (List ℕ)) → list_any (bytes_eq name) names ≡ false → ¬ Contains names name
not_among name names h = λ c. not_at name names c.0 h c.1 c.2

pub among : (name : List ℕ) (names : List (List ℕ)) → list_any (bytes_eq name) names ≡ true → Contains names name
among name [] h = absurd (cc h)
among name (x ∷ xs) h =
    elim (or_cases (bytes_eq name x) (list_any (bytes_eq name) xs) h) [
      | inl here ↦ (0, omega arith, sym ((bytes_eq-Decides name x).0 here))
      | inr there ↦ let c = among name xs there in (suc c.0, omega (arith, c.1), c.2)
    ]

pub among_false : (name : List ℕ) (names : List (List ℕ)) → ¬ Contains names name → list_any (bytes_eq name) names ≡ false
among_false name names h =
    elim (cases_Bool (list_any (bytes_eq name) names)) [ inl t ↦ absurd (h (among name names t)) | inr f ↦ f ]
