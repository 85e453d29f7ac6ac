-- The faults that wait: without those of one page or with one more, where one wasn't raised, and how many there are.
use Rattle.std.proofs.Common.{Bool, List, None, Option, Some, [], ap, arith, cond, false, find, inl, inr, length, not, refl, sym, true, ◌++◌, ◌∙◌, ◌∷◌, ◌≡◌, ◌<◌, ◌≤◌, ◌||◌, subst, ◌≢◌}
use Rattle.std.proofs.lemmas.Bool.{cases_Bool, cond-true, cond-false, leb-true}
use Rattle.page_base.specs.Pages.{same}
use Rattle.page_base.specs.declared.keys.Key.{Key}
use Rattle.page_base.specs.declared.keys.Raise.{Raise}
use Rattle.page_model.specs.Faults.{served, is_waiting}
use Rattle.serial_pager.proofs.Pages.{same-true}
use Rattle.page_model.specs.Core.{Core, is_full, is_pending, is_reading, place_passes, reads}
use Rattle.page_model.specs.Setups.{has_page}
use Rattle.stripe_core.specs.Answers.{raise_answer}
use Rattle.stripe_core.specs.declared.answers.Raise.TheVariants as raise
use Rattle.serial_pager.specs.Rests.{IsAtRest}
use Rattle.serial_pager.proofs.ModelLaws.{Laws}

abbrev pub raise_in : List Raise → Key → Option Raise
raise_in ps k = find (λ (p : Raise). same p.key k) ps

pub served_other : (j : Key) (ps : List Raise) (k : Key) → (j ≡ k → ⊥) → raise_in (served j ps) k ≡ raise_in ps k
served_other j [] k ne = refl
served_other j (p ∷ ps) k ne = go (same p.key j) refl (served_other j ps k ne)
  where
    go : (b : Bool) → same p.key j ≡ b → raise_in (served j ps) k ≡ raise_in ps k → raise_in (cond (not b) (p ∷ served j ps) (served j ps)) k ≡ raise_in (p ∷ ps) k
    go true is ih = ih ∙ sym (elim (cases_Bool (same p.key k)) [
      | inl t ↦ absurd (ne (sym (same-true p.key j is) ∙ same-true p.key k t))
      | inr n ↦ cond-false (same p.key k) (Some p) (raise_in ps k) n
    ])
    go false is ih = ap (λ o. cond (same p.key k) (Some p) o) ih

pub served_here : (k : Key) (ps : List Raise) → raise_in (served k ps) k ≡ None
served_here k [] = refl
served_here k (p ∷ ps) = go (same p.key k) refl (served_here k ps)
  where
    go : (b : Bool) → same p.key k ≡ b → raise_in (served k ps) k ≡ None → raise_in (cond (not b) (p ∷ served k ps) (served k ps)) k ≡ None
    go true is ih = ih
    go false is ih = cond-false (same p.key k) (Some p) (raise_in (served k ps) k) is ∙ ih

pub served_most : (k : Key) (ps : List Raise) → length (served k ps) ≤ length ps
served_most k [] = omega arith
served_most k (p ∷ ps) = go (not (same p.key k)) (served_most k ps)
  where
    go : (b : Bool) → length (served k ps) ≤ length ps → length (cond b (p ∷ served k ps) (served k ps)) ≤ length (p ∷ ps)
    go true ih = omega arith
    go false ih = omega arith

-- a fault less, at least
pub served_fewer : (k : Key) (ps : List Raise) → is_waiting k ps ≡ true → length (served k ps) < length ps
served_fewer k [] e = absurd cc
served_fewer k (p ∷ ps) e = go (same p.key k) (served_most k ps) (served_fewer k ps) e
  where
    go : (b : Bool) → length (served k ps) ≤ length ps → (is_waiting k ps ≡ true → length (served k ps) < length ps) → (b || is_waiting k ps) ≡ true → length (cond (not b) (p ∷ served k ps) (served k ps)) < length (p ∷ ps)
    go true most ih f = omega arith
    go false most ih f = let less = ih f in omega arith

pub raised_other : (ps : List Raise) (new : Raise) (k : Key) → same new.key k ≡ false → raise_in (ps ++ new ∷ []) k ≡ raise_in ps k
raised_other [] new k e = cond-false (same new.key k) (Some new) None e
raised_other (p ∷ ps) new k e = ap (λ o. cond (same p.key k) (Some p) o) (raised_other ps new k e)

pub raised_here : (ps : List Raise) (new : Raise) (k : Key) → is_waiting k ps ≡ false → same new.key k ≡ true → raise_in (ps ++ new ∷ []) k ≡ Some new
raised_here [] new k none e = cond-true (same new.key k) (Some new) None e
raised_here (p ∷ ps) new k none e = go (same p.key k) (raised_here ps new k) none
  where
    go : (b : Bool) → (is_waiting k ps ≡ false → same new.key k ≡ true → raise_in (ps ++ new ∷ []) k ≡ Some new) → (b || is_waiting k ps) ≡ false → cond b (Some p) (raise_in (ps ++ new ∷ []) k) ≡ Some new
    go true ih n = absurd cc
    go false ih n = ih n e

-- ---- where a fault wasn't raised, faults wait; and what one that was raised changes

-- while the lanes are home no page is being read
pub none_read : (laws : Laws) (c : Core) (k : Key) → IsAtRest c → has_page c.setup k ≡ true → is_reading c k ≡ false
none_read laws c k rest page =
    let here = (laws.knows.here c k.region (rest.home k.region (laws.pages.region c.setup k page))).1 in
    ap (place_passes (λ place. reads place k)) here.is ∙ ap (λ place. reads place k) here.home

waiting_one : (k : Key) (ps : List Raise) → is_waiting k ps ≡ true → 0 < length ps
waiting_one k [] e = absurd cc
waiting_one k (p ∷ ps) e = omega arith

pub unraised_waits : (laws : Laws) (c : Core) (k : Key) → IsAtRest c → has_page c.setup k ≡ true → raise_answer c k ≢ raise.Raised → 0 < length c.queue
unraised_waits laws c k rest page ne = at (is_pending c k) (is_full c) refl refl (subst (λ b. cond (is_pending c k || b) raise.Pending (cond (is_full c) raise.QueueFull raise.Raised) ≢ raise.Raised) (none_read laws c k rest page) ne)
  where
    at : (a b : Bool) → is_pending c k ≡ a → is_full c ≡ b → cond (a || false) raise.Pending (cond b raise.QueueFull raise.Raised) ≢ raise.Raised → 0 < length c.queue
    at true b p q f = waiting_one k c.queue p
    at false true p q f = let most = leb-true c.setup.faults (length c.queue) q in let some = rest.stands.fits.some_fault in omega (arith, most, some)
    at false false p q f = absurd (f refl)

-- a fault that was raised didn't wait before
pub raised_new : (c : Core) (k : Key) → raise_answer c k ≡ raise.Raised → is_pending c k ≡ false
raised_new c k e = at (is_pending c k) (is_reading c k) (is_full c) refl e
  where
    at : (a x b : Bool) → is_pending c k ≡ a → cond (a || x) raise.Pending (cond b raise.QueueFull raise.Raised) ≡ raise.Raised → is_pending c k ≡ false
    at true x b p f = absurd cc
    at false x b p f = p

-- ---- how many faults wait at the most

pub few_wait : (laws : Laws) (c : Core) → IsAtRest c → length c.queue ≤ 4096
few_wait laws c rest =
    let most : length c.queue ≤ c.setup.faults = subst (λ (ps : List Raise). length ps ≤ c.setup.faults) (sym rest.stands.queue) (laws.few c.setup rest.history rest.stands.legal) in
    let few = rest.bounded.few_faults in
    omega (arith, most, few)
