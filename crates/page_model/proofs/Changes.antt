-- What a change of one page or one region leaves of a core's lists.
use Rattle.std.proofs.Common.{Bool, List, None, Option, Some, [], ap, cond, false, inl, inr, length, map, not, refl, slice_get, slice_set, subst, suc, sym, true, zero, ℕ, ◌==◌, ◌∙◌, ◌∷◌, ◌≡◌, ◌⊎◌}
use Rattle.std.proofs.lemmas.Bool.{cases_eq, ne_eqb, or_parts}
use Rattle.std.specs.List.{AllByRecursion, list_any}
use Rattle.histories.specs.Histories.{History}
use Rattle.page_base.specs.Pages.{same}
use Rattle.page_base.specs.declared.keys.Key.{Key}
use Rattle.page_model.specs.declared.entry.Entry.{Entry}
use Rattle.page_model.specs.Core.{RegionSeen, Resident}
use Rattle.page_model.specs.Entries.{region_of}
use Rattle.page_model.specs.Residents.{without}
use Rattle.page_model.specs.Setups.{Setup}
use Rattle.page_model.specs.Stands.{RegionStands}
use Rattle.page_model.specs.Steps.{on_page, on_region, put_back, without_page}
use Rattle.page_model.proofs.Untouched.{region_same, untouched}

-- ---- one page

pub on_page_keys : (k : Key) (f : Resident → Resident) (rs : List Resident) → ((r : Resident) → (f r).key ≡ r.key) → map (λ (r : Resident). r.key) (on_page k f rs) ≡ map (λ (r : Resident). r.key) rs
on_page_keys k f [] e = refl
on_page_keys k f (r ∷ rs) e = go (same r.key k) (on_page_keys k f rs e)
  where
    go : (b : Bool) → map (λ (x : Resident). x.key) (on_page k f rs) ≡ map (λ (x : Resident). x.key) rs → (cond b (f r) r).key ∷ map (λ (x : Resident). x.key) (on_page k f rs) ≡ r.key ∷ map (λ (x : Resident). x.key) rs
    go true ih = rw (e r, ih) refl
    go false ih = ap (λ ks. r.key ∷ ks) ih

pub without_keys : (k : Key) (rs : List Resident) → map (λ (r : Resident). r.key) (without_page k rs) ≡ without k (map (λ (r : Resident). r.key) rs)
without_keys k [] = refl
without_keys k (r ∷ rs) = go (not (same r.key k)) (without_keys k rs)
  where
    go : (b : Bool) → map (λ (x : Resident). x.key) (without_page k rs) ≡ without k (map (λ (x : Resident). x.key) rs) → map (λ (x : Resident). x.key) (cond b (r ∷ without_page k rs) (without_page k rs)) ≡ cond b (r.key ∷ without k (map (λ (x : Resident). x.key) rs)) (without k (map (λ (x : Resident). x.key) rs))
    go true ih = ap (λ ks. r.key ∷ ks) ih
    go false ih = ih

-- no member passes
pub all_fail : {A : Type 0} (p : A → Bool) (xs : List A) → list_any p xs ≡ false → AllByRecursion (λ x. p x ≡ false) xs
all_fail p [] e = tt
all_fail p (x ∷ xs) e = let q = or_parts (p x) (list_any p xs) e in (q.0, all_fail p xs q.1)

-- ---- one region

pub slice_set_same : {A : Type 0} (xs : List A) (i : ℕ) (x v : A) → slice_get xs i ≡ Some x → slice_get (slice_set xs i v) i ≡ Some v
slice_set_same [] i x v e = absurd cc
slice_set_same (y ∷ ys) zero x v e = refl
slice_set_same (y ∷ ys) (suc i) x v e = slice_set_same ys i x v e

pub slice_set_other : {A : Type 0} (xs : List A) (i j : ℕ) (v : A) → (j ≡ i → ⊥) → slice_get (slice_set xs i v) j ≡ slice_get xs j
slice_set_other [] i j v ne = refl
slice_set_other (y ∷ ys) zero zero v ne = absurd (ne refl)
slice_set_other (y ∷ ys) zero (suc j) v ne = refl
slice_set_other (y ∷ ys) (suc i) zero v ne = refl
slice_set_other (y ∷ ys) (suc i) (suc j) v ne = slice_set_other ys i j v (λ e. ne (ap suc e))

pub slice_set_length : {A : Type 0} (xs : List A) (i : ℕ) (v : A) → length (slice_set xs i v) ≡ length xs
slice_set_length [] i v = refl
slice_set_length (y ∷ ys) zero v = refl
slice_set_length (y ∷ ys) (suc i) v = ap suc (slice_set_length ys i v)

-- what is seen of region q after a change of region r: the changed region, or another as it was
pub record Here (gs : List RegionSeen) (r : ℕ) (change : RegionSeen → RegionSeen) (q : ℕ) (g : RegionSeen) : Type 0 where
  pub same_region : q ≡ r
  pub old : RegionSeen
  pub was : slice_get gs r ≡ Some old
  pub now : g ≡ change old

pub changed_region : (gs : List RegionSeen) (r : ℕ) (change : RegionSeen → RegionSeen) (q : ℕ) (g : RegionSeen) → slice_get (on_region r change gs) q ≡ Some g → Here gs r change q g ⊎ (((r == q) ≡ false) × (slice_get gs q ≡ Some g))
changed_region gs r change q g e = go (slice_get gs r) refl e
  where
    go : (o : Option RegionSeen) → slice_get gs r ≡ o → slice_get (put_back gs r change o) q ≡ Some g → Here gs r change q g ⊎ (((r == q) ≡ false) × (slice_get gs q ≡ Some g))
    go None was is = inr (ne_eqb r q (λ rq. let none_there : slice_get gs q ≡ None = rw rq at was in absurd cc), is)
    go (Some x) was is = elim (cases_eq q r) [
      | inl qr ↦
          let here : slice_get (slice_set gs r (change x)) q ≡ Some (change x) = rw qr (slice_set_same gs r x (change x) was) in
          inl (record { same_region = qr; old = x; was = was; now = cc })
      | inr ne ↦ inr (ne_eqb r q (λ rq. ne (sym rq)), sym (slice_set_other gs r q (change x) ne) ∙ is)
    ]

pub on_region_length : (gs : List RegionSeen) (r : ℕ) (change : RegionSeen → RegionSeen) → length (on_region r change gs) ≡ length gs
on_region_length gs r change = go (slice_get gs r)
  where
    go : (o : Option RegionSeen) → length (put_back gs r change o) ≡ length gs
    go None = refl
    go (Some x) = slice_set_length gs r (change x)

-- the regions after an entry that changes one region of the core and is of that region alone
pub regions_after : (s : Setup) (h : History Entry) (o : ℕ) (e : Entry) (r : ℕ) (change : RegionSeen → RegionSeen) (gs : List RegionSeen)
    → region_of e ≡ r
    → ((q : ℕ) (g : RegionSeen) → slice_get gs q ≡ Some g → RegionStands s h q g)
    → ((g : RegionSeen) → slice_get gs r ≡ Some g → RegionStands s ((o, e) ∷ h) r (change g))
    → (q : ℕ) (g : RegionSeen) → slice_get (on_region r change gs) q ≡ Some g → RegionStands s ((o, e) ∷ h) q g
regions_after s h o e r change gs is old here q g found = elim (changed_region gs r change q g found) [
  | inl x ↦
      let P : ℕ → RegionSeen → Type 0 = λ i y. RegionStands s ((o, e) ∷ h) i y in
      subst (λ i. P i g) (sym x.same_region) (subst (λ y. P r y) (sym x.now) (here x.old x.was))
  | inr x ↦
      let other : (region_of e == q) ≡ false = rw is x.0 in
      region_same s h ((o, e) ∷ h) q g (untouched s h o e q other) (old q g x.1)
]
