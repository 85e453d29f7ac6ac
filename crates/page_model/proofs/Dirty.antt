-- A dirty page was raised for a store.
use Rattle.std.proofs.Common.{Bool, None, Option, Some, [], cond, false, inl, inr, is_some, length, not, refl, subst, true, ℕ, ◌&&◌, ◌||◌, ◌∷◌, ◌≡◌}
use Rattle.std.proofs.lemmas.Bool.{and_from, and_parts, false_from_ne_true, or_cases, or_left, or_right}
use Rattle.std.specs.List.{list_any}
use Rattle.histories.specs.Histories.{History}
use Rattle.page_base.specs.Pages.{same}
use Rattle.page_base.specs.declared.keys.Key.{Key}
use Rattle.page_base.specs.declared.keys.Why.{Why}
use Rattle.page_base.specs.declared.keys.Why.TheVariants.{Ahead, Protected, Read, Write}
use Rattle.page_model.specs.declared.entry.Entry.{Entry}
use Rattle.page_model.specs.declared.entry.Entry.TheVariants.{Dropped, Filled, Hint, Opened, Raised, StartRead}
use Rattle.page_model.specs.Bits.{is_dirty, is_some_and, opened_at, written_since}
use Rattle.page_model.specs.Faults.{is_protected_why, is_write, last_why, pending}
use Rattle.page_model.specs.Laws.{DirtyIsRaised, asks_open, raises_for_store}
use Rattle.page_model.specs.Legal.{IsLegal, MayRaiseFor}
use Rattle.page_model.specs.Serving.{is_servable}
use Rattle.page_model.specs.Setups.{Setup, is_writable}
use Rattle.page_model.proofs.Keys.{same-true, same_self}
use Rattle.page_model.proofs.Lists.{any_last, found_any}
use Rattle.page_model.proofs.Nexts.{open_served}
use Rattle.page_model.proofs.Serving.{still_asks}
use Rattle.page_model.specs.declared.entry.HintAnswer.TheVariants as answer

abbrev is_raised : History Entry → Key → Bool
is_raised h k = list_any (raises_for_store k) h

-- the last why is that of a raise
why_raised : (h : History Entry) (k : Key) → is_write (last_why h k) ≡ true → is_raised h k ≡ true
why_raised [] k e = absurd cc
why_raised ((o, Raised j why) ∷ h) k e = go (same j k) (λ f. why_raised h k f) e
  where
    go : (b : Bool) → (is_write (last_why h k) ≡ true → is_raised h k ≡ true) → is_write (cond b why (last_why h k)) ≡ true → ((b && (is_write why || is_protected_why why)) || is_raised h k) ≡ true
    go true ih f = or_left (is_write why || is_protected_why why) (is_raised h k) (or_left (is_write why) (is_protected_why why) f)
    go false ih f = ih f
why_raised ((o, Hint j answer.Raised) ∷ h) k e = go (same j k) (λ f. why_raised h k f) e
  where
    go : (b : Bool) → (is_write (last_why h k) ≡ true → is_raised h k ≡ true) → is_write (cond b Ahead (last_why h k)) ≡ true → is_raised h k ≡ true
    go true ih f = absurd cc
    go false ih f = ih f
why_raised (x ∷ h) k e = why_raised h k e

-- so is each fault that waits to be opened
asked_raised : (h : History Entry) (k : Key) → list_any (asks_open k) (pending h) ≡ true → is_raised h k ≡ true
asked_raised [] k e = absurd cc
asked_raised ((o, Raised j why) ∷ h) k e = elim (any_last (asks_open k) (pending h) (record { key = j; why = why }) e) [
  | inl old ↦ or_right (same j k && (is_write why || is_protected_why why)) (is_raised h k) (asked_raised h k old)
  | inr here ↦
      let q = and_parts (is_protected_why why) (same j k) here in
      or_left (same j k && (is_write why || is_protected_why why)) (is_raised h k) (and_from (same j k) (is_write why || is_protected_why why) q.1 (or_right (is_write why) (is_protected_why why) q.0))
]
asked_raised ((o, Hint j answer.Raised) ∷ h) k e = elim (any_last (asks_open k) (pending h) (record { key = j; why = Ahead }) e) [
  | inl old ↦ asked_raised h k old
  | inr here ↦ absurd cc
]
asked_raised ((o, StartRead j) ∷ h) k e = asked_raised h k (still_asks j k (pending h) e)
asked_raised ((o, Opened j) ∷ h) k e = asked_raised h k (still_asks j k (pending h) e)
asked_raised ((o, Dropped j) ∷ h) k e = asked_raised h k (still_asks j k (pending h) e)
asked_raised (x ∷ h) k e = asked_raised h k e

opened_raised : (s : Setup) (h : History Entry) (k : Key) → IsLegal s h → is_some (opened_at h k) ≡ true → is_raised h k ≡ true
opened_raised s [] k l e = absurd cc
opened_raised s ((o, Filled j) ∷ h) k l e = go (same j k) (is_write (last_why h k)) refl (opened_raised s h k l.0) e
  where
    go : (b w : Bool) → is_write (last_why h k) ≡ w → (is_some (opened_at h k) ≡ true → is_raised h k ≡ true) → is_some (cond b (cond w (Some (length h)) None) (opened_at h k)) ≡ true → is_raised h k ≡ true
    go true true is ih f = why_raised h k is
    go true false is ih f = absurd cc
    go false w is ih f = ih f
opened_raised s ((o, Opened j) ∷ h) k l e = go (same j k) refl (opened_raised s h k l.0) e
  where
    opening : is_raised h j ≡ true
    opening = let x = open_served s h j l.2 in
        asked_raised h j (found_any (is_servable s h) (asks_open j) (pending h) x.0.raise x.0.found (and_from (is_protected_why x.0.raise.why) (same x.0.raise.key j) x.1 (rw (x.0.key) (same_self j))))

    go : (b : Bool) → same j k ≡ b → (is_some (opened_at h k) ≡ true → is_raised h k ≡ true) → is_some (cond b (Some (length h)) (opened_at h k)) ≡ true → is_raised h k ≡ true
    go true is ih f = subst (λ (x : Key). is_raised h x ≡ true) (same-true j k is) opening
    go false is ih f = ih f
opened_raised s ((o, Raised j why) ∷ h) k l e = or_right (same j k && (is_write why || is_protected_why why)) (is_raised h k) (opened_raised s h k l.0 e)
opened_raised s (x ∷ h) k l e = opened_raised s h k l.0 e

some_place : (y : Option ℕ) (f : ℕ → Bool) → is_some_and f y ≡ true → is_some y ≡ true
some_place None f e = absurd cc
some_place (Some n) f e = refl

dirty_raised : (s : Setup) (h : History Entry) (k : Key) → IsLegal s h → is_dirty h k ≡ true → is_raised h k ≡ true
dirty_raised s h k l d = opened_raised s h k l (some_place (opened_at h k) (λ place. not (written_since h k place)) d)

raise_writable : (s : Setup) (h : History Entry) (k : Key) (why : Why) → MayRaiseFor s h k why → (is_write why || is_protected_why why) ≡ true → is_writable s k.region ≡ true
raise_writable s h k Read f e = absurd cc
raise_writable s h k Ahead f e = absurd cc
raise_writable s h k Write f e = f.1
raise_writable s h k Protected f e = f.2

raised_writable : (s : Setup) (h : History Entry) (k : Key) → IsLegal s h → is_raised h k ≡ true → is_writable s k.region ≡ true
raised_writable s [] k l e = absurd cc
raised_writable s ((o, Raised j why) ∷ h) k l e = elim (or_cases (same j k && (is_write why || is_protected_why why)) (is_raised h k) e) [
  | inl here ↦
      let q = and_parts (same j k) (is_write why || is_protected_why why) here in
      subst (λ (x : Key). is_writable s x.region ≡ true) (same-true j k q.0) (raise_writable s h j why l.2.fits q.1)
  | inr there ↦ raised_writable s h k l.0 there
]
raised_writable s (x ∷ h) k l e = raised_writable s h k l.0 e

pub dirty_is_raised : DirtyIsRaised
dirty_is_raised = record {
  raised = dirty_raised;
  read_only = λ s h k l no. false_from_ne_true (is_dirty h k) (λ d. let yes : is_writable s k.region ≡ true = raised_writable s h k l (dirty_raised s h k l d) in cc);
}
