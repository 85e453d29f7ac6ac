-- Nothing is left of an unmapped region, and a closing one goes ahead.
use Rattle.std.proofs.Common.{Bool, List, None, Option, Some, [], ap, cond, false, filter, find, inl, inr, is_none, not, refl, subst, sym, true, ℕ, ◌&&◌, ◌++◌, ◌==◌, ◌∙◌, ◌∷◌, ◌≡◌}
use Rattle.std.proofs.lemmas.Bool.{and_from, and_parts, cases_Bool, cond-false, eq-eqb, eqb-true, false_from_ne_true, not-true, or_cases, or_left, or_right}
use Rattle.std.specs.List.{list_any}
use Rattle.histories.specs.Histories.{History}
use Rattle.page_base.specs.Pages.{same}
use Rattle.page_base.specs.declared.keys.Key.{Key}
use Rattle.page_base.specs.declared.keys.Raise.{Raise}
use Rattle.page_base.specs.declared.keys.Why.TheVariants.{Ahead}
use Rattle.page_model.specs.declared.entry.Entry.{Entry}
use Rattle.page_model.specs.declared.entry.Entry.TheVariants.{Closing, Dropped, Evicted, Filled, Hint, Opened, Raised, ReadFailed, StartRead, StartWrite, Unmapped, WriteFailed, Written}
use Rattle.page_model.specs.Closings.{is_closing, is_quiet, is_unmapped}
use Rattle.page_model.specs.Faults.{is_pending, is_protected_why, pending}
use Rattle.page_model.specs.InFlight.{InFlight, in_flight, is_home, is_own}
use Rattle.page_model.specs.Laws.{ClosingGoesAhead, ClosingsStay, UnmappedIsEmptied}
use Rattle.page_model.specs.Legal.{IsLegal}
use Rattle.page_model.specs.Residents.{is_resident, oldest_of, residents}
use Rattle.page_model.specs.Serving.{chosen, is_servable, is_stale, waits_for_room}
use Rattle.page_model.specs.Setups.{Setup}
use Rattle.page_model.proofs.Closings.{nothing_after_closing}
use Rattle.page_model.proofs.Flight.{own}
use Rattle.page_model.proofs.Keys.{same-true}
use Rattle.page_model.proofs.Kept.{absent_clean}
use Rattle.page_model.proofs.Lists.{any_filter, any_grows, any_last}
use Rattle.page_model.proofs.Members.{is_there, some_found}
use Rattle.page_model.specs.declared.entry.HintAnswer.TheVariants as answer

-- ---- closing stays

closing_later : (later g : History Entry) (r : ℕ) → is_closing g r ≡ true → is_closing (later ++ g) r ≡ true
closing_later [] g r e = e
closing_later ((o, Closing q) ∷ later) g r e = or_right (q == r) (is_closing (later ++ g) r) (closing_later later g r e)
closing_later (x ∷ later) g r e = closing_later later g r e

unmapped_later : (later g : History Entry) (r : ℕ) → is_unmapped g r ≡ true → is_unmapped (later ++ g) r ≡ true
unmapped_later [] g r e = e
unmapped_later ((o, Unmapped q) ∷ later) g r e = or_right (q == r) (is_unmapped (later ++ g) r) (unmapped_later later g r e)
unmapped_later (x ∷ later) g r e = unmapped_later later g r e

pub closings_stay : ClosingsStay
closings_stay = record {
  closing = λ g h r p e. subst (λ (w : History Entry). is_closing w r ≡ true) (sym p.1) (closing_later p.0 g r e);
  unmapped = λ g h r p e. subst (λ (w : History Entry). is_unmapped w r ≡ true) (sym p.1) (unmapped_later p.0 g r e);
}

-- ---- nothing is left

none_filter : {A : Type 0} (r p : A → Bool) (xs : List A) → list_any p xs ≡ false → list_any p (filter r xs) ≡ false
none_filter r p xs e = false_from_ne_true (list_any p (filter r xs)) (λ t. let y = any_grows (λ x. r x && p x) p xs (λ x f. (and_parts (r x) (p x) f).1) (any_filter r p xs t) in cc)

none_last : {A : Type 0} (p : A → Bool) (xs : List A) (y : A) → list_any p xs ≡ false → p y ≡ false → list_any p (xs ++ y ∷ []) ≡ false
none_last p xs y e n = false_from_ne_true (list_any p (xs ++ y ∷ [])) (λ t. elim (any_last p xs y t) [ inl old ↦ cc | inr here ↦ cc ])

abbrev pages_left : History Entry → ℕ → Bool
pages_left h r = list_any (λ (k : Key). k.region == r) (residents h)

abbrev faults_left : History Entry → ℕ → Bool
faults_left h r = list_any (λ (p : Raise). p.key.region == r) (pending h)

-- a page of the region isn't resident
absent_of : (h : History Entry) (r : ℕ) (k : Key) → pages_left h r ≡ false → k.region ≡ r → is_resident h k ≡ false
absent_of h r k e kr = false_from_ne_true (is_resident h k) (λ t. let y : pages_left h r ≡ true = any_grows (λ (j : Key). same j k) (λ (j : Key). j.region == r) (residents h) (λ j jk. eq-eqb j.region r (ap (λ (x : Key). x.region) (same-true j k jk) ∙ kr)) t in cc)

idle_of : (h : History Entry) (r : ℕ) (k : Key) → faults_left h r ≡ false → k.region ≡ r → is_pending h k ≡ false
idle_of h r k e kr = false_from_ne_true (is_pending h k) (λ t. let y : faults_left h r ≡ true = any_grows (λ (p : Raise). same p.key k) (λ (p : Raise). p.key.region == r) (pending h) (λ p pk. eq-eqb p.key.region r (ap (λ (x : Key). x.region) (same-true p.key k pk) ∙ kr)) t in cc)

-- a resident page is of another region
elsewhere_of : (h : History Entry) (r : ℕ) (k : Key) → pages_left h r ≡ false → is_resident h k ≡ true → (k.region == r) ≡ false
elsewhere_of h r k e there = false_from_ne_true (k.region == r) (λ t. let n = absent_of h r k e (eqb-true k.region r t) in cc)

-- what ends is of a region whose lane is out
out_of : (h : History Entry) (o r : ℕ) (k : Key) (w : Bool) → is_home h r ≡ true → is_own (in_flight h k.region) o k w ≡ true → (k.region == r) ≡ false
out_of h o r k w home e = false_from_ne_true (k.region == r) (λ t.
    let mine = own (in_flight h k.region) o k w e in
    let out : is_home h k.region ≡ false = ap is_none mine.is in
    let here : is_home h k.region ≡ true = subst (λ (x : ℕ). is_home h x ≡ true) (sym (eqb-true k.region r t)) home in
    cc)

home_ended : (b : Bool) (x : Option InFlight) → is_none x ≡ true → is_none (cond b None x) ≡ true
home_ended true x e = refl
home_ended false x e = e

record Left (closes some_page some_fault is_in : Bool) : Type 0 where
  closing : closes ≡ true
  pages : some_page ≡ false
  faults : some_fault ≡ false
  home : is_in ≡ true

abbrev left_of : History Entry → ℕ → Type 0
left_of h r = Left (is_closing h r) (pages_left h r) (faults_left h r) (is_home h r)

none_left : (s : Setup) (h : History Entry) (r : ℕ) → IsLegal s h → is_unmapped h r ≡ true → left_of h r
none_left s [] r l e = absurd cc
none_left s ((o, Unmapped q) ∷ h) r l e = elim (or_cases (q == r) (is_unmapped h r) e) [
  | inl here ↦
      let qr : q ≡ r = eqb-true q r here in
      let quiet : is_quiet h r ≡ true = subst (λ (x : ℕ). is_quiet h x ≡ true) qr l.2.quiet in
      let a = and_parts (not (pages_left h r) && not (faults_left h r)) (is_home h r) quiet in
      let b = and_parts (not (pages_left h r)) (not (faults_left h r)) a.0 in
      record {
        closing = subst (λ (x : ℕ). is_closing h x ≡ true) qr l.2.closing;
        pages = not-true (pages_left h r) b.0;
        faults = not-true (faults_left h r) b.1;
        home = a.1;
      }
  | inr there ↦ none_left s h r l.0 there
]
none_left s ((o, Closing q) ∷ h) r l e =
    let n = none_left s h r l.0 e in
    record { closing = or_right (q == r) (is_closing h r) n.closing; pages = n.pages; faults = n.faults; home = n.home }
none_left s ((o, Raised k why) ∷ h) r l e =
    let n = none_left s h r l.0 e in
    let other = nothing_after_closing s h o (Raised k why) r l.2 n.closing in
    record { closing = n.closing; pages = n.pages; faults = none_last (λ (p : Raise). p.key.region == r) (pending h) (record { key = k; why = why }) n.faults other; home = n.home }
none_left s ((o, Hint k answer.Raised) ∷ h) r l e =
    let n = none_left s h r l.0 e in
    let other = nothing_after_closing s h o (Hint k answer.Raised) r l.2 n.closing in
    record { closing = n.closing; pages = n.pages; faults = none_last (λ (p : Raise). p.key.region == r) (pending h) (record { key = k; why = Ahead }) n.faults other; home = n.home }
none_left s ((o, StartRead k) ∷ h) r l e =
    let n = none_left s h r l.0 e in
    let other = nothing_after_closing s h o (StartRead k) r l.2 n.closing in
    record {
      closing = n.closing;
      pages = n.pages;
      faults = none_filter (λ (p : Raise). not (same p.key k)) (λ (p : Raise). p.key.region == r) (pending h) n.faults;
      home = ap is_none (cond-false (k.region == r) (Some (record { before = h; owner = o; key = k; writes = false })) (in_flight h r) other) ∙ n.home;
    }
none_left s ((o, Opened k) ∷ h) r l e =
    let n = none_left s h r l.0 e in
    record { closing = n.closing; pages = n.pages; faults = none_filter (λ (p : Raise). not (same p.key k)) (λ (p : Raise). p.key.region == r) (pending h) n.faults; home = n.home }
none_left s ((o, Dropped k) ∷ h) r l e =
    let n = none_left s h r l.0 e in
    record { closing = n.closing; pages = n.pages; faults = none_filter (λ (p : Raise). not (same p.key k)) (λ (p : Raise). p.key.region == r) (pending h) n.faults; home = n.home }
none_left s ((o, StartWrite k why) ∷ h) r l e =
    let n = none_left s h r l.0 e in
    let other = elsewhere_of h r k n.pages l.2.resident in
    record {
      closing = n.closing;
      pages = n.pages;
      faults = n.faults;
      home = ap is_none (cond-false (k.region == r) (Some (record { before = h; owner = o; key = k; writes = true })) (in_flight h r) other) ∙ n.home;
    }
none_left s ((o, Filled k) ∷ h) r l e =
    let n = none_left s h r l.0 e in
    let other = out_of h o r k false n.home l.2 in
    record {
      closing = n.closing;
      pages = none_last (λ (j : Key). j.region == r) (residents h) k n.pages other;
      faults = n.faults;
      home = home_ended (k.region == r) (in_flight h r) n.home;
    }
none_left s ((o, ReadFailed k m) ∷ h) r l e =
    let n = none_left s h r l.0 e in
    record { closing = n.closing; pages = n.pages; faults = n.faults; home = home_ended (k.region == r) (in_flight h r) n.home }
none_left s ((o, WriteFailed k m) ∷ h) r l e =
    let n = none_left s h r l.0 e in
    record { closing = n.closing; pages = n.pages; faults = n.faults; home = home_ended (k.region == r) (in_flight h r) n.home }
none_left s ((o, Written k at bytes) ∷ h) r l e =
    let n = none_left s h r l.0 e in
    record { closing = n.closing; pages = n.pages; faults = n.faults; home = home_ended (k.region == r) (in_flight h r) n.home }
none_left s ((o, Evicted k why) ∷ h) r l e =
    let n = none_left s h r l.0 e in
    record { closing = n.closing; pages = none_filter (λ (j : Key). not (same j k)) (λ (j : Key). j.region == r) (residents h) n.pages; faults = n.faults; home = n.home }
none_left s (x ∷ h) r l e = none_left s h r l.0 e

pub unmapped_emptied : UnmappedIsEmptied
unmapped_emptied s h r l e =
    let n = none_left s h r l e in
    record {
      closing = n.closing;
      quiet = and_from (not (pages_left h r) && not (faults_left h r)) (is_home h r) (and_from (not (pages_left h r)) (not (faults_left h r)) (ap not n.pages) (ap not n.faults)) n.home;
      home = n.home;
      absent = λ k kr. absent_of h r k n.pages kr;
      clean = λ k kr. absent_clean s h k l (absent_of h r k n.pages kr);
      idle = λ k kr. idle_of h r k n.faults kr;
    }

-- ---- a closing region goes ahead

pub closing_ahead : ClosingGoesAhead
closing_ahead s h r closing home busy = elim (cases_Bool (pages_left h r)) [
  | inl page ↦ inl (is_there (oldest_of h r) (some_found (λ (k : Key). k.region == r) (residents h) ∙ page))
  | inr no_page ↦ elim (cases_Bool (faults_left h r)) [
    | inl fault ↦
        let stale : list_any (is_stale h) (pending h) ≡ true = any_grows (λ (p : Raise). p.key.region == r) (is_stale h) (pending h)
        (λ p of. or_left (is_closing h p.key.region) (is_protected_why p.why && not (is_resident h p.key)) (subst (λ (x : ℕ). is_closing h x ≡ true) (sym (eqb-true p.key.region r of)) closing)) fault in
        let x = is_there (find (is_stale h) (pending h)) (some_found (is_stale h) (pending h) ∙ stale) in
        inr (x.0.key, ap (λ (o : Option Raise). chosen o (find (is_servable s h) (pending h)) (list_any (waits_for_room h) (pending h))) x.1)
    | inr no_fault ↦
        let quiet : is_quiet h r ≡ true = and_from (not (pages_left h r) && not (faults_left h r)) (is_home h r) (and_from (not (pages_left h r)) (not (faults_left h r)) (ap not no_page) (ap not no_fault)) home in
        absurd cc
  ]
]
