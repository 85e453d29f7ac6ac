-- A page that is being read, or waits to be read, is not resident.
use Rattle.std.proofs.Common.{Bool, List, None, Option, Some, [], ap, cond, false, inl, inr, length, nat_le, not, refl, subst, sym, true, ℕ, ◌&&◌, ◌++◌, ◌==◌, ◌||◌, ◌∷◌, ◌≡◌, ◌⊎◌}
use Rattle.std.proofs.lemmas.Bool.{and_from, and_parts, not-true, or_parts}
use Rattle.std.specs.List.{list_any}
use Rattle.histories.specs.Histories.{History}
use Rattle.page_base.specs.Pages.{same}
use Rattle.page_base.specs.declared.keys.Key.{Key}
use Rattle.page_base.specs.declared.keys.Raise.{Raise}
use Rattle.page_base.specs.declared.keys.Why.{Why}
use Rattle.page_base.specs.declared.keys.Why.TheVariants.{Ahead, Protected, Read, Write}
use Rattle.page_model.specs.declared.entry.Entry.{Entry}
use Rattle.page_model.specs.declared.entry.Entry.TheVariants.{Dropped, Evicted, Filled, Hint, Opened, Raised, ReadFailed, StartRead, StartWrite, WriteFailed, Written}
use Rattle.page_model.specs.Closings.{is_closing}
use Rattle.page_model.specs.Faults.{is_pending, is_protected_why, pending, served}
use Rattle.page_model.specs.InFlight.{InFlight, in_flight, is_own, is_read_of, is_reading}
use Rattle.page_model.specs.Laws.{waits_for}
use Rattle.page_model.specs.Legal.{IsLegal, MayRaiseFor}
use Rattle.page_model.specs.Residents.{is_in, is_resident, residents, without}
use Rattle.page_model.specs.Serving.{is_servable, next_of}
use Rattle.page_model.specs.Setups.{Setup}
use Rattle.page_model.proofs.Flight.{own}
use Rattle.page_model.proofs.Keys.{other_region, same-true, same_self}
use Rattle.page_model.proofs.Lists.{any_filter, any_grows, any_last, any_none, found_any}
use Rattle.page_model.proofs.Nexts.{read_served}
use Rattle.page_model.specs.declared.entry.HintAnswer.TheVariants as answer
use Rattle.page_model.specs.declared.seen.Next.TheVariants as serve

abbrev pub is_awaited : History Entry → Key → Bool
is_awaited h k = list_any (waits_for k) (pending h)

pub record Apart (reading waiting pend resident : Bool) : Type 0 where
  pub read_absent : reading ≡ true → resident ≡ true → ⊥
  pub wait_absent : waiting ≡ true → resident ≡ true → ⊥
  pub not_both : pend ≡ true → reading ≡ true → ⊥

reading_ended : (b : Bool) (y : Option InFlight) (k : Key) → is_read_of (cond b None y) k ≡ true → (b ≡ false) × (is_read_of y k ≡ true)
reading_ended true y k e = absurd cc
reading_ended false y k e = (refl, e)

reading_started : (b : Bool) (x : InFlight) (y : Option InFlight) (k : Key) → is_read_of (cond b (Some x) y) k ≡ true → ((same x.key k ≡ true) × (x.writes ≡ false)) ⊎ (is_read_of y k ≡ true)
reading_started true x y k e = let p = and_parts (same x.key k) (not x.writes) e in inl (p.0, not-true x.writes p.1)
reading_started false x y k e = inr e

-- what is left of the raises stood there before, and is of another page
still_waiting : (j k : Key) (ps : List Raise) → list_any (waits_for k) (served j ps) ≡ true → list_any (waits_for k) ps ≡ true
still_waiting j k ps e = any_grows (λ p. not (same p.key j) && waits_for k p) (waits_for k) ps (λ p f. (and_parts (not (same p.key j)) (waits_for k p) f).1) (any_filter (λ p. not (same p.key j)) (waits_for k) ps e)

still_pending : (j k : Key) (ps : List Raise) → list_any (λ p. same p.key k) (served j ps) ≡ true → list_any (λ p. same p.key k) ps ≡ true
still_pending j k ps e = any_grows (λ p. not (same p.key j) && same p.key k) (λ p. same p.key k) ps (λ p f. (and_parts (not (same p.key j)) (same p.key k) f).1) (any_filter (λ p. not (same p.key j)) (λ p. same p.key k) ps e)

pub served_is_gone : (j k : Key) (ps : List Raise) → same j k ≡ true → list_any (λ p. same p.key k) (served j ps) ≡ true → ⊥
served_is_gone j k ps jk e = any_none (λ p. not (same p.key j) && same p.key k) ps (λ p f.
    let q = and_parts (not (same p.key j)) (same p.key k) f in
    let one : p.key ≡ k = same-true p.key k q.1 in
    let two : j ≡ k = same-true j k jk in
    let is : same p.key j ≡ true = rw (one, two) (same_self k) in
    absurd cc) (any_filter (λ p. not (same p.key j)) (λ p. same p.key k) ps e)

absent_by : (s : Setup) (h : History Entry) (k : Key) (why : Why) → MayRaiseFor s h k why → is_protected_why why ≡ false → is_resident h k ≡ false
absent_by s h k Read f e = f
absent_by s h k Ahead f e = f
absent_by s h k Write f e = f.0
absent_by s h k Protected f e = absurd cc

-- the answer Raised comes where none of the others applies
pub hint_raised : (a b c d : Bool) → answer.Raised ≡ cond a answer.Closed (cond b answer.Present (cond c answer.Pending (cond d answer.Full answer.Raised))) → (a ≡ false) × (b ≡ false) × (c ≡ false) × (d ≡ false)
hint_raised true b c d e = absurd cc
hint_raised false true c d e = absurd cc
hint_raised false false true d e = absurd cc
hint_raised false false false true e = absurd cc
hint_raised false false false false e = (refl, refl, refl, refl)

-- a raise is appended of a page that is absent, or for an Opened
apart_raised : (s : Setup) (h : History Entry) (j k : Key) (why : Why) → Apart (is_reading h k) (is_awaited h k) (is_pending h k) (is_resident h k) → (is_protected_why why ≡ false → is_resident h j ≡ false) → is_reading h j ≡ false
    → Apart (is_reading h k) (list_any (waits_for k) (pending h ++ record { key = j; why = why } ∷ [])) (list_any (λ p. same p.key k) (pending h ++ record { key = j; why = why } ∷ [])) (is_resident h k)
apart_raised s h j k why a absent idle = record {
  read_absent = a.read_absent;
  wait_absent = λ w r. elim (any_last (waits_for k) (pending h) (record { key = j; why = why }) w) [
    | inl old ↦ a.wait_absent old r
    | inr here ↦
        let q = and_parts (not (is_protected_why why)) (same j k) here in
        let jk : j ≡ k = same-true j k q.1 in
        let gone : is_resident h k ≡ false = rw (← jk) (absent (not-true (is_protected_why why) q.0)) in
        absurd cc
  ];
  not_both = λ p r. elim (any_last (λ p. same p.key k) (pending h) (record { key = j; why = why }) p) [
    | inl old ↦ a.not_both old r
    | inr here ↦
        let jk : j ≡ k = same-true j k here in
        let none : is_reading h k ≡ false = rw (← jk) idle in
        absurd cc
  ];
}

-- a raise is taken off
apart_served : (h : History Entry) (j k : Key) → Apart (is_reading h k) (is_awaited h k) (is_pending h k) (is_resident h k) → Apart (is_reading h k) (list_any (waits_for k) (served j (pending h))) (list_any (λ p. same p.key k) (served j (pending h))) (is_resident h k)
apart_served h j k a = record {
  read_absent = a.read_absent;
  wait_absent = λ w r. a.wait_absent (still_waiting j k (pending h) w) r;
  not_both = λ p r. a.not_both (still_pending j k (pending h) p) r;
}

-- the lane comes home
apart_ended : (h : History Entry) (b : Bool) (k : Key) → Apart (is_reading h k) (is_awaited h k) (is_pending h k) (is_resident h k) → Apart (is_read_of (cond b None (in_flight h k.region)) k) (is_awaited h k) (is_pending h k) (is_resident h k)
apart_ended h b k a = record {
  read_absent = λ r i. a.read_absent (reading_ended b (in_flight h k.region) k r).1 i;
  wait_absent = a.wait_absent;
  not_both = λ p r. a.not_both p (reading_ended b (in_flight h k.region) k r).1;
}

-- a read comes next_of for a raise that waits
pub read_waits : (s : Setup) (h : History Entry) (k : Key) → next_of s h ≡ serve.Read k → is_awaited h k ≡ true
read_waits s h k e =
    let x = read_served s h k e in
    found_any (is_servable s h) (waits_for k) (pending h) x.0.raise x.0.found (and_from (not (is_protected_why x.0.raise.why)) (same x.0.raise.key k) (ap not x.1) (rw (x.0.key) (same_self k)))

-- what a Filled knows: its page was being read
pub filled_was_reading : (h : History Entry) (o : ℕ) (j : Key) → is_own (in_flight h j.region) o j false ≡ true → is_reading h j ≡ true
filled_was_reading h o j e =
    let mine = own (in_flight h j.region) o j false e in
    subst (λ (f : Option InFlight). is_read_of f j ≡ true) (sym mine.is) (and_from (same mine.started.key j) (not mine.started.writes) (rw (mine.key) (same_self j)) (ap not mine.kind))

pub apart : (s : Setup) (h : History Entry) (k : Key) → IsLegal s h → Apart (is_reading h k) (is_awaited h k) (is_pending h k) (is_resident h k)
apart s [] k l = record { read_absent = λ x y. cc; wait_absent = λ x y. cc; not_both = λ x y. cc }
apart s ((o, Raised j why) ∷ h) k l = apart_raised s h j k why (apart s h k l.0) (λ e. absent_by s h j why l.2.fits e) l.2.not_reading
apart s ((o, Hint j answer.Raised) ∷ h) k l =
    let q = hint_raised (is_closing h j.region) (is_resident h j) (is_pending h j || is_reading h j) (nat_le s.faults (length (pending h))) l.2 in
    apart_raised s h j k Ahead (apart s h k l.0) (λ e. q.1) (or_parts (is_pending h j) (is_reading h j) q.2).1
apart s ((o, StartRead j) ∷ h) k l =
    let a = apart s h k l.0 in
    let t : InFlight = record { before = h; owner = o; key = j; writes = false } in
    record {
      read_absent = λ r i. elim (reading_started (j.region == k.region) t (in_flight h k.region) k r) [
        | inl here ↦
            let jk : j ≡ k = same-true j k here.0 in
            let w : is_awaited h k ≡ true = subst (λ (x : Key). is_awaited h x ≡ true) jk (read_waits s h j l.2.1) in
            a.wait_absent w i
        | inr old ↦ a.read_absent old i
      ];
      wait_absent = λ w i. a.wait_absent (still_waiting j k (pending h) w) i;
      not_both = λ p r. elim (reading_started (j.region == k.region) t (in_flight h k.region) k r) [
        | inl here ↦ served_is_gone j k (pending h) here.0 p
        | inr old ↦ a.not_both (still_pending j k (pending h) p) old
      ];
    }
apart s ((o, StartWrite j why) ∷ h) k l =
    let a = apart s h k l.0 in
    let t : InFlight = record { before = h; owner = o; key = j; writes = true } in
    let old : is_reading ((o, StartWrite j why) ∷ h) k ≡ true → is_reading h k ≡ true = λ r. elim (reading_started (j.region == k.region) t (in_flight h k.region) k r) [ inl here ↦ absurd (cc (here.1)) | inr y ↦ y ] in
    record { read_absent = λ r i. a.read_absent (old r) i; wait_absent = a.wait_absent; not_both = λ p r. a.not_both p (old r) }
apart s ((o, Filled j) ∷ h) k l =
    let a = apart s h k l.0 in
    let was : is_reading h j ≡ true = filled_was_reading h o j l.2 in
    record {
      read_absent = λ r i.
          let q = reading_ended (j.region == k.region) (in_flight h k.region) k r in
          elim (any_last (λ x. same x k) (residents h) j i) [ inl old ↦ a.read_absent q.1 old | inr here ↦ absurd (cc (here, other_region j k q.0)) ];
      wait_absent = λ w i. elim (any_last (λ x. same x k) (residents h) j i) [
        | inl old ↦ a.wait_absent w old
        | inr here ↦
            let jk : j ≡ k = same-true j k here in
            let r : is_reading h k ≡ true = subst (λ (x : Key). is_reading h x ≡ true) jk was in
            a.not_both (any_grows (waits_for k) (λ p. same p.key k) (pending h) (λ p f. (and_parts (not (is_protected_why p.why)) (same p.key k) f).1) w) r
      ];
      not_both = λ p r. a.not_both p (reading_ended (j.region == k.region) (in_flight h k.region) k r).1;
    }
apart s ((o, ReadFailed j n) ∷ h) k l = apart_ended h (j.region == k.region) k (apart s h k l.0)
apart s ((o, Written j at bytes) ∷ h) k l = apart_ended h (j.region == k.region) k (apart s h k l.0)
apart s ((o, WriteFailed j n) ∷ h) k l = apart_ended h (j.region == k.region) k (apart s h k l.0)
apart s ((o, Opened j) ∷ h) k l = apart_served h j k (apart s h k l.0)
apart s ((o, Dropped j) ∷ h) k l = apart_served h j k (apart s h k l.0)
apart s ((o, Evicted j why) ∷ h) k l =
    let a = apart s h k l.0 in
    let old : is_in k (without j (residents h)) ≡ true → is_in k (residents h) ≡ true = λ i. any_grows (λ x. not (same x j) && same x k) (λ x. same x k) (residents h) (λ x f. (and_parts (not (same x j)) (same x k) f).1) (any_filter (λ x. not (same x j)) (λ x. same x k) (residents h) i) in
    record { read_absent = λ r i. a.read_absent r (old i); wait_absent = λ w i. a.wait_absent w (old i); not_both = a.not_both }
apart s (e ∷ h) k l = apart s h k l.0
