-- What stays since a read or a write started.
use Rattle.std.proofs.Common.{Bool, None, Some, [], ap, arith, cond, false, inl, inr, length, not, refl, subst, suc, sym, true, ℕ, ◌<◌, ◌==◌, ◌||◌, ◌∙◌, ◌∷◌, ◌≡◌}
use Rattle.std.proofs.lemmas.Bool.{and_parts, cond-false, not-true}
use Rattle.histories.specs.Histories.{History}
use Rattle.page_base.specs.Pages.{same}
use Rattle.page_base.specs.declared.keys.Key.{Key}
use Rattle.page_model.specs.declared.entry.Entry.{Entry}
use Rattle.page_model.specs.declared.entry.Entry.TheVariants.{Filled, Opened, ReadFailed, StartRead, StartWrite, WriteFailed, Written}
use Rattle.page_model.specs.Bits.{is_protected, opened_at}
use Rattle.page_model.specs.Faults.{is_write, last_why}
use Rattle.page_model.specs.InFlight.{InFlight, in_flight}
use Rattle.page_model.specs.Legal.{IsLegal}
use Rattle.page_model.specs.Memory.{kept}
use Rattle.page_model.specs.Setups.{Setup, has_page}
use Rattle.page_model.specs.StoreFaults.{last_fault}
use Rattle.page_model.proofs.Flight.{when_end, when_start}
use Rattle.page_model.proofs.Keys.{other_region}
use Rattle.page_model.proofs.Untouched.{untouched}

-- the lane's region as it was before the start
pub record AsBefore (s : Setup) (h : History Entry) (r : ℕ) (t : InFlight) : Type 0 where
  pub keeps : (k : Key) → k.region ≡ r → kept s h k ≡ kept s t.before k
  pub fault : last_fault s h r ≡ last_fault s t.before r

here_before : (s : Setup) (h : History Entry) (r : ℕ) (x t : InFlight) → x.before ≡ h → x ≡ t → AsBefore s h r t
here_before s h r x t is e =
    let b : h ≡ t.before = sym is ∙ ap (λ (y : InFlight). y.before) e in
    record { keeps = λ k kr. ap (λ (g : History Entry). kept s g k) b; fault = ap (λ (g : History Entry). last_fault s g r) b }

elsewhere_before : (s : Setup) (h g : History Entry) (r : ℕ) (t : InFlight) → ((k : Key) → k.region ≡ r → kept s g k ≡ kept s h k) → last_fault s g r ≡ last_fault s h r → AsBefore s h r t → AsBefore s g r t
elsewhere_before s h g r t keeps fault a = record { keeps = λ k kr. keeps k kr ∙ a.keeps k kr; fault = fault ∙ a.fault }

pub as_before : (s : Setup) (h : History Entry) (r : ℕ) (t : InFlight) → in_flight h r ≡ Some t → AsBefore s h r t
as_before s [] r t e = absurd cc
as_before s ((o, StartRead k) ∷ h) r t e = elim (when_start (k.region == r) (record { before = h; owner = o; key = k; writes = false }) (in_flight h r) t e) [
  | inl q ↦ elsewhere_before s h ((o, StartRead k) ∷ h) r t (λ j jr. refl) refl (here_before s h r (record { before = h; owner = o; key = k; writes = false }) t refl q.1)
  | inr q ↦ elsewhere_before s h ((o, StartRead k) ∷ h) r t (λ j jr. refl) refl (as_before s h r t q.1)
]
as_before s ((o, StartWrite k why) ∷ h) r t e = elim (when_start (k.region == r) (record { before = h; owner = o; key = k; writes = true }) (in_flight h r) t e) [
  | inl q ↦ elsewhere_before s h ((o, StartWrite k why) ∷ h) r t (λ j jr. refl) refl (here_before s h r (record { before = h; owner = o; key = k; writes = true }) t refl q.1)
  | inr q ↦ elsewhere_before s h ((o, StartWrite k why) ∷ h) r t (λ j jr. refl) refl (as_before s h r t q.1)
]
as_before s ((o, Filled k) ∷ h) r t e = elsewhere_before s h ((o, Filled k) ∷ h) r t (λ j jr. refl) refl (as_before s h r t (when_end (k.region == r) (in_flight h r) t e).1)
as_before s ((o, ReadFailed k n) ∷ h) r t e =
    let q = when_end (k.region == r) (in_flight h r) t e in
    let u = untouched s h o (ReadFailed k n) r q.0 in
    elsewhere_before s h ((o, ReadFailed k n) ∷ h) r t u.keeps u.fault (as_before s h r t q.1)
as_before s ((o, WriteFailed k n) ∷ h) r t e =
    let q = when_end (k.region == r) (in_flight h r) t e in
    let u = untouched s h o (WriteFailed k n) r q.0 in
    elsewhere_before s h ((o, WriteFailed k n) ∷ h) r t u.keeps u.fault (as_before s h r t q.1)
as_before s ((o, Written k at bytes) ∷ h) r t e =
    let q = when_end (k.region == r) (in_flight h r) t e in
    let u = untouched s h o (Written k at bytes) r q.0 in
    elsewhere_before s h ((o, Written k at bytes) ∷ h) r t u.keeps u.fault (as_before s h r t q.1)
as_before s (x ∷ h) r t e = elsewhere_before s h (x ∷ h) r t (λ j jr. refl) refl (as_before s h r t e)

-- what is in flight is of a page of the stripe
pub flight_page : (s : Setup) (h : History Entry) (r : ℕ) (t : InFlight) → IsLegal s h → in_flight h r ≡ Some t → has_page s t.key ≡ true
flight_page s [] r t l e = absurd cc
flight_page s ((o, StartRead k) ∷ h) r t l e = elim (when_start (k.region == r) (record { before = h; owner = o; key = k; writes = false }) (in_flight h r) t e) [
  | inl q ↦ subst (λ (x : InFlight). has_page s x.key ≡ true) q.1 l.1
  | inr q ↦ flight_page s h r t l.0 q.1
]
flight_page s ((o, StartWrite k why) ∷ h) r t l e = elim (when_start (k.region == r) (record { before = h; owner = o; key = k; writes = true }) (in_flight h r) t e) [
  | inl q ↦ subst (λ (x : InFlight). has_page s x.key ≡ true) q.1 l.1
  | inr q ↦ flight_page s h r t l.0 q.1
]
flight_page s ((o, Filled k) ∷ h) r t l e = flight_page s h r t l.0 (when_end (k.region == r) (in_flight h r) t e).1
flight_page s ((o, ReadFailed k n) ∷ h) r t l e = flight_page s h r t l.0 (when_end (k.region == r) (in_flight h r) t e).1
flight_page s ((o, Written k at bytes) ∷ h) r t l e = flight_page s h r t l.0 (when_end (k.region == r) (in_flight h r) t e).1
flight_page s ((o, WriteFailed k n) ∷ h) r t l e = flight_page s h r t l.0 (when_end (k.region == r) (in_flight h r) t e).1
flight_page s (x ∷ h) r t l e = flight_page s h r t l.0 e

-- the opening of a page lies in the history
pub opened_below : (h : History Entry) (k : Key) (c : ℕ) → opened_at h k ≡ Some c → c < length h
opened_below [] k c e = absurd cc
opened_below ((o, Filled j) ∷ h) k c e = go (same j k) (is_write (last_why h k)) (opened_below h k c) e
  where
    go : (b w : Bool) → (opened_at h k ≡ Some c → c < length h) → cond b (cond w (Some (length h)) None) (opened_at h k) ≡ Some c → c < suc (length h)
    go true true ih f = let is : length h ≡ c = cc in omega arith
    go true false ih f = absurd cc
    go false w ih f = omega (arith, ih f)
opened_below ((o, Opened j) ∷ h) k c e = go (same j k) (opened_below h k c) e
  where
    go : (b : Bool) → (opened_at h k ≡ Some c → c < length h) → cond b (Some (length h)) (opened_at h k) ≡ Some c → c < suc (length h)
    go true ih f = let is : length h ≡ c = cc in omega arith
    go false ih f = omega (arith, ih f)
opened_below (x ∷ h) k c e = omega (arith, opened_below h k c e)

-- a page that is protected while it is written wasn't opened since the start
pub protected_since : (s : Setup) (h : History Entry) (k : Key) (t : InFlight) → IsLegal s h → in_flight h k.region ≡ Some t → t.key ≡ k → t.writes ≡ true → is_protected h k ≡ true → opened_at h k ≡ opened_at t.before k
protected_since s [] k t l e tk w p = absurd cc
protected_since s ((o, StartRead j) ∷ h) k t l e tk w p = elim (when_start (j.region == k.region) (record { before = h; owner = o; key = j; writes = false }) (in_flight h k.region) t e) [
  | inl q ↦ let f : false ≡ t.writes = ap (λ (x : InFlight). x.writes) q.1 in absurd cc
  | inr q ↦ protected_since s h k t l.0 q.1 tk w p
]
protected_since s ((o, StartWrite j why) ∷ h) k t l e tk w p = elim (when_start (j.region == k.region) (record { before = h; owner = o; key = j; writes = true }) (in_flight h k.region) t e) [
  | inl q ↦ ap (λ (x : InFlight). opened_at x.before k) q.1
  | inr q ↦
      let n : same j k ≡ false = other_region j k q.0 in
      protected_since s h k t l.0 q.1 tk w (sym (ap (λ b. b || is_protected h k) n) ∙ p)
]
protected_since s ((o, Filled j) ∷ h) k t l e tk w p =
    let q = when_end (j.region == k.region) (in_flight h k.region) t e in
    let n : same j k ≡ false = other_region j k q.0 in
    cond-false (same j k) (cond (is_write (last_why h k)) (Some (length h)) None) (opened_at h k) n ∙ protected_since s h k t l.0 q.1 tk w (sym (cond-false (same j k) (not (is_write (last_why h k))) (is_protected h k) n) ∙ p)
protected_since s ((o, Opened j) ∷ h) k t l e tk w p =
    let q = and_parts (not (same j k)) (is_protected h k) p in
    cond-false (same j k) (Some (length h)) (opened_at h k) (not-true (same j k) q.0) ∙ protected_since s h k t l.0 e tk w q.1
protected_since s ((o, ReadFailed j n) ∷ h) k t l e tk w p = protected_since s h k t l.0 (when_end (j.region == k.region) (in_flight h k.region) t e).1 tk w p
protected_since s ((o, WriteFailed j n) ∷ h) k t l e tk w p = protected_since s h k t l.0 (when_end (j.region == k.region) (in_flight h k.region) t e).1 tk w p
protected_since s ((o, Written j at bytes) ∷ h) k t l e tk w p = protected_since s h k t l.0 (when_end (j.region == k.region) (in_flight h k.region) t e).1 tk w p
protected_since s (x ∷ h) k t l e tk w p = protected_since s h k t l.0 e tk w p
