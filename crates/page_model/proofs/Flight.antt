-- What is known of I/O in flight.
use Rattle.std.proofs.Common.{Bool, None, Option, Some, [], ap, arith, cond, false, inl, inr, length, refl, subst, true, ℕ, ◌&&◌, ◌<◌, ◌==◌, ◌∷◌, ◌≡◌, ◌⊎◌}
use Rattle.std.proofs.lemmas.Bool.{and_parts, eqb-true}
use Rattle.std.specs.Bool.{beq}
use Rattle.histories.specs.Histories.{History}
use Rattle.page_base.specs.Pages.{same}
use Rattle.page_base.specs.declared.keys.Key.{Key}
use Rattle.page_model.specs.declared.entry.Entry.{Entry}
use Rattle.page_model.specs.declared.entry.Entry.TheVariants.{Filled, ReadFailed, StartRead, StartWrite, WriteFailed, Written}
use Rattle.page_model.specs.InFlight.{InFlight, before_of, before_start, in_flight, is_own}
use Rattle.page_model.proofs.Keys.{same-true}

pub when_start : (b : Bool) (x : InFlight) (y : Option InFlight) (t : InFlight) → cond b (Some x) y ≡ Some t → ((b ≡ true) × (x ≡ t)) ⊎ ((b ≡ false) × (y ≡ Some t))
when_start true x y t e = inl (refl, cc)
when_start false x y t e = inr (refl, e)

pub when_end : (b : Bool) (y : Option InFlight) (t : InFlight) → cond b None y ≡ Some t → (b ≡ false) × (y ≡ Some t)
when_end true y t e = absurd cc
when_end false y t e = (refl, e)

-- the start stands in the history
pub started_before : (h : History Entry) (r : ℕ) (t : InFlight) → in_flight h r ≡ Some t → length t.before < length h
started_before [] r t e = absurd cc
started_before ((o, StartRead k) ∷ h) r t e = elim (when_start (k.region == r) (record { before = h; owner = o; key = k; writes = false }) (in_flight h r) t e) [
  | inl p ↦ omega (arith, ap (λ (x : InFlight). length x.before) p.1)
  | inr p ↦ omega (arith, started_before h r t p.1)
]
started_before ((o, StartWrite k why) ∷ h) r t e = elim (when_start (k.region == r) (record { before = h; owner = o; key = k; writes = true }) (in_flight h r) t e) [
  | inl p ↦ omega (arith, ap (λ (x : InFlight). length x.before) p.1)
  | inr p ↦ omega (arith, started_before h r t p.1)
]
started_before ((o, Filled k) ∷ h) r t e = omega (arith, started_before h r t (when_end (k.region == r) (in_flight h r) t e).1)
started_before ((o, ReadFailed k n) ∷ h) r t e = omega (arith, started_before h r t (when_end (k.region == r) (in_flight h r) t e).1)
started_before ((o, Written k at bytes) ∷ h) r t e = omega (arith, started_before h r t (when_end (k.region == r) (in_flight h r) t e).1)
started_before ((o, WriteFailed k n) ∷ h) r t e = omega (arith, started_before h r t (when_end (k.region == r) (in_flight h r) t e).1)
started_before (x ∷ h) r t e = omega (arith, started_before h r t e)

-- what an end knows of the I/O that it ends
pub record Own (f : Option InFlight) (o : ℕ) (k : Key) (writes : Bool) : Type 0 where
  pub started : InFlight
  pub is : f ≡ Some started
  pub owner : started.owner ≡ o
  pub key : started.key ≡ k
  pub kind : started.writes ≡ writes

beq-true : (a b : Bool) → beq a b ≡ true → a ≡ b
beq-true true true e = refl
beq-true false false e = refl
beq-true true false e = absurd cc
beq-true false true e = absurd cc

pub own : (f : Option InFlight) (o : ℕ) (k : Key) (writes : Bool) → is_own f o k writes ≡ true → Own f o k writes
own None o k writes e = absurd cc
own (Some t) o k writes e =
    let p = and_parts (t.owner == o) (same t.key k && beq t.writes writes) e in
    let q = and_parts (same t.key k) (beq t.writes writes) p.1 in
    record { started = t; is = refl; owner = eqb-true t.owner o p.0; key = same-true t.key k q.0; kind = beq-true t.writes writes q.1 }

pub before_is : (h : History Entry) (r : ℕ) (t : InFlight) → in_flight h r ≡ Some t → before_start h r ≡ t.before
before_is h r t e = ap before_of e

pub at_key : (h : History Entry) (j k : Key) (t : InFlight) → j ≡ k → in_flight h j.region ≡ Some t → in_flight h k.region ≡ Some t
at_key h j k t e is = subst (λ (x : Key). in_flight h x.region ≡ Some t) e is
