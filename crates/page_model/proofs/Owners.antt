-- I/O in flight is in flight in its owner's calls.
use Rattle.std.proofs.Common.{Bool, List, None, Option, Some, [], ap, cond, false, inl, inr, is_none, refl, true, ℕ, ◌==◌, ◌∙◌, ◌∷◌, ◌≡◌}
use Rattle.std.proofs.lemmas.Bool.{cond-true, cond_both, eq-eqb}
use Rattle.histories.specs.Histories.{History, by, calls_of}
use Rattle.page_model.specs.declared.entry.Entry.{Entry}
use Rattle.page_model.specs.declared.entry.Entry.TheVariants.{Filled, ReadFailed, StartRead, StartWrite, WriteFailed, Written}
use Rattle.page_model.specs.InFlight.{InFlight, in_flight, is_home}
use Rattle.page_model.specs.Laws.{IdleLaneIsHome}
use Rattle.page_model.proofs.Flight.{when_end, when_start}

-- the entry may be among the owner's calls or not
either_way : (o p : ℕ) (e : Entry) (h : History Entry) (r : ℕ) → is_home ((p, e) ∷ by p (calls_of p h)) r ≡ false → is_home (by p (calls_of p h)) r ≡ false → is_home (by p (cond (o == p) (e ∷ calls_of p h) (calls_of p h))) r ≡ false
either_way o p e h r with_it without_it = cond_both (o == p) (e ∷ calls_of p h) (calls_of p h) (λ (x : List Entry). is_home (by p x) r ≡ false) (λ t. with_it) (λ n. without_it)

home_else : (b : Bool) (x y : Option InFlight) → b ≡ false → is_none y ≡ false → is_none (cond b x y) ≡ false
home_else b x y e n = rw e n

own_start : (o p : ℕ) (e : Entry) (h : History Entry) (r : ℕ) → o ≡ p → is_home ((p, e) ∷ by p (calls_of p h)) r ≡ false → is_home (by p (cond (o == p) (e ∷ calls_of p h) (calls_of p h))) r ≡ false
own_start o p e h r is home = ap (λ (x : List Entry). is_home (by p x) r) (cond-true (o == p) (e ∷ calls_of p h) (calls_of p h) (eq-eqb o p is)) ∙ home

owner_in_flight : (h : History Entry) (r : ℕ) (t : InFlight) → in_flight h r ≡ Some t → is_home (by t.owner (calls_of t.owner h)) r ≡ false
owner_in_flight [] r t e = absurd cc
owner_in_flight ((o, StartRead k) ∷ h) r t e = elim (when_start (k.region == r) (record { before = h; owner = o; key = k; writes = false }) (in_flight h r) t e) [
  | inl q ↦ own_start o t.owner (StartRead k) h r (ap (λ (x : InFlight). x.owner) q.1) (ap is_none (cond-true (k.region == r) (Some (record { before = by t.owner (calls_of t.owner h); owner = t.owner; key = k; writes = false })) (in_flight (by t.owner (calls_of t.owner h)) r) q.0))
  | inr q ↦
      let ih = owner_in_flight h r t q.1 in
      either_way o t.owner (StartRead k) h r (home_else (k.region == r) (Some (record { before = by t.owner (calls_of t.owner h); owner = t.owner; key = k; writes = false })) (in_flight (by t.owner (calls_of t.owner h)) r) q.0 ih) ih
]
owner_in_flight ((o, StartWrite k why) ∷ h) r t e = elim (when_start (k.region == r) (record { before = h; owner = o; key = k; writes = true }) (in_flight h r) t e) [
  | inl q ↦ own_start o t.owner (StartWrite k why) h r (ap (λ (x : InFlight). x.owner) q.1) (ap is_none (cond-true (k.region == r) (Some (record { before = by t.owner (calls_of t.owner h); owner = t.owner; key = k; writes = true })) (in_flight (by t.owner (calls_of t.owner h)) r) q.0))
  | inr q ↦
      let ih = owner_in_flight h r t q.1 in
      either_way o t.owner (StartWrite k why) h r (home_else (k.region == r) (Some (record { before = by t.owner (calls_of t.owner h); owner = t.owner; key = k; writes = true })) (in_flight (by t.owner (calls_of t.owner h)) r) q.0 ih) ih
]
owner_in_flight ((o, Filled k) ∷ h) r t e =
    let q = when_end (k.region == r) (in_flight h r) t e in let ih = owner_in_flight h r t q.1 in
    either_way o t.owner (Filled k) h r (home_else (k.region == r) None (in_flight (by t.owner (calls_of t.owner h)) r) q.0 ih) ih
owner_in_flight ((o, ReadFailed k n) ∷ h) r t e =
    let q = when_end (k.region == r) (in_flight h r) t e in let ih = owner_in_flight h r t q.1 in
    either_way o t.owner (ReadFailed k n) h r (home_else (k.region == r) None (in_flight (by t.owner (calls_of t.owner h)) r) q.0 ih) ih
owner_in_flight ((o, WriteFailed k n) ∷ h) r t e =
    let q = when_end (k.region == r) (in_flight h r) t e in let ih = owner_in_flight h r t q.1 in
    either_way o t.owner (WriteFailed k n) h r (home_else (k.region == r) None (in_flight (by t.owner (calls_of t.owner h)) r) q.0 ih) ih
owner_in_flight ((o, Written k at bytes) ∷ h) r t e =
    let q = when_end (k.region == r) (in_flight h r) t e in let ih = owner_in_flight h r t q.1 in
    either_way o t.owner (Written k at bytes) h r (home_else (k.region == r) None (in_flight (by t.owner (calls_of t.owner h)) r) q.0 ih) ih
owner_in_flight ((o, x) ∷ h) r t e = let ih = owner_in_flight h r t e in either_way o t.owner x h r ih ih

pub idle_home : IdleLaneIsHome
idle_home h r idle = go (in_flight h r) refl
  where
    go : (f : Option InFlight) → in_flight h r ≡ f → is_none f ≡ true
    go None e = refl
    go (Some t) e = let a : is_home (by t.owner (calls_of t.owner h)) r ≡ false = owner_in_flight h r t e in let b : is_home (by t.owner (calls_of t.owner h)) r ≡ true = idle t.owner in absurd cc
