-- What is known of the pending faults and the residents of a legal history.
use Rattle.std.proofs.Common.{List, [], cond, false, length, nat_le, not, sym, true, ◌||◌, ◌∙◌, ◌∷◌, ◌≡◌}
use Rattle.std.proofs.lemmas.Bool.{cond-false, cond-true, false_from_ne_true, or_parts}
use Rattle.std.specs.List.{AllByRecursion, list_any}
use Rattle.histories.specs.Histories.{History}
use Rattle.page_base.specs.Pages.{same}
use Rattle.page_base.specs.declared.keys.Key.{Key}
use Rattle.page_base.specs.declared.keys.Raise.{Raise}
use Rattle.page_base.specs.declared.keys.Why.{Why}
use Rattle.page_base.specs.declared.keys.Why.TheVariants.{Ahead}
use Rattle.page_model.specs.declared.entry.Entry.{Entry}
use Rattle.page_model.specs.declared.entry.Entry.TheVariants.{Dropped, Evicted, Filled, Hint, Opened, Raised, StartRead}
use Rattle.page_model.specs.Closings.{is_closing}
use Rattle.page_model.specs.Faults.{is_pending, last_why, pending}
use Rattle.page_model.specs.InFlight.{is_reading}
use Rattle.page_model.specs.Legal.{IsLegal}
use Rattle.page_model.specs.Residents.{is_resident, residents}
use Rattle.page_model.specs.Setups.{Setup, has_page}
use Rattle.page_model.proofs.Keys.{same-true, same_self}
use Rattle.page_model.proofs.Members.{all_filter, all_push}
use Rattle.page_model.proofs.Raises.{hint_raised}
use Rattle.page_model.specs.declared.entry.HintAnswer.TheVariants as answer

pub same_sym : (a b : Key) → same a b ≡ false → same b a ≡ false
same_sym a b e = false_from_ne_true (same b a) (λ t. let ba : b ≡ a = same-true b a t in let ab : same a b ≡ true = rw ba (same_self a) in cc)

-- pending faults and residents are of pages of the stripe
pub pending_pages : (s : Setup) (h : History Entry) → IsLegal s h → AllByRecursion (λ (p : Raise). has_page s p.key ≡ true) (pending h)
pending_pages s [] l = tt
pending_pages s ((o, Raised k why) ∷ h) l = all_push (λ (p : Raise). has_page s p.key ≡ true) (pending h) (record { key = k; why = why }) (pending_pages s h l.0) l.1
pending_pages s ((o, Hint k answer.Raised) ∷ h) l = all_push (λ (p : Raise). has_page s p.key ≡ true) (pending h) (record { key = k; why = Ahead }) (pending_pages s h l.0) l.1
pending_pages s ((o, StartRead k) ∷ h) l = all_filter (λ (p : Raise). has_page s p.key ≡ true) (λ p. not (same p.key k)) (pending h) (pending_pages s h l.0)
pending_pages s ((o, Opened k) ∷ h) l = all_filter (λ (p : Raise). has_page s p.key ≡ true) (λ p. not (same p.key k)) (pending h) (pending_pages s h l.0)
pending_pages s ((o, Dropped k) ∷ h) l = all_filter (λ (p : Raise). has_page s p.key ≡ true) (λ p. not (same p.key k)) (pending h) (pending_pages s h l.0)
pending_pages s (e ∷ h) l = pending_pages s h l.0

pub resident_pages : (s : Setup) (h : History Entry) → IsLegal s h → AllByRecursion (λ (k : Key). has_page s k ≡ true) (residents h)
resident_pages s [] l = tt
resident_pages s ((o, Filled k) ∷ h) l = all_push (λ (j : Key). has_page s j ≡ true) (residents h) k (resident_pages s h l.0) l.1
resident_pages s ((o, Evicted k why) ∷ h) l = all_filter (λ (j : Key). has_page s j ≡ true) (λ j. not (same j k)) (residents h) (resident_pages s h l.0)
resident_pages s (e ∷ h) l = resident_pages s h l.0

-- ---- a pending fault has the why of its page's last raise

others_stay : (k : Key) (why : Why) (f : Key → Why) (ps : List Raise) → list_any (λ p. same p.key k) ps ≡ false → AllByRecursion (λ (p : Raise). p.why ≡ f p.key) ps → AllByRecursion (λ (p : Raise). p.why ≡ cond (same k p.key) why (f p.key)) ps
others_stay k why f [] n a = tt
others_stay k why f (p ∷ ps) n a =
    let q = or_parts (same p.key k) (list_any (λ x. same x.key k) ps) n in
    (a.0 ∙ sym (cond-false (same k p.key) why (f p.key) (same_sym p.key k q.0)), others_stay k why f ps q.1 a.1)

pub pending_whys : (s : Setup) (h : History Entry) → IsLegal s h → AllByRecursion (λ (p : Raise). p.why ≡ last_why h p.key) (pending h)
pending_whys s [] l = tt
pending_whys s ((o, Raised k why) ∷ h) l =
    all_push (λ (p : Raise). p.why ≡ cond (same k p.key) why (last_why h p.key)) (pending h) (record { key = k; why = why })
    (others_stay k why (last_why h) (pending h) l.2.not_pending (pending_whys s h l.0))
    (sym (cond-true (same k k) why (last_why h k) (same_self k)))
pending_whys s ((o, Hint k answer.Raised) ∷ h) l =
    let q = hint_raised (is_closing h k.region) (is_resident h k) (is_pending h k || is_reading h k) (nat_le s.faults (length (pending h))) l.2 in
    all_push (λ (p : Raise). p.why ≡ cond (same k p.key) Ahead (last_why h p.key)) (pending h) (record { key = k; why = Ahead })
    (others_stay k Ahead (last_why h) (pending h) (or_parts (is_pending h k) (is_reading h k) q.2).0 (pending_whys s h l.0))
    (sym (cond-true (same k k) Ahead (last_why h k) (same_self k)))
pending_whys s ((o, StartRead k) ∷ h) l = all_filter (λ (p : Raise). p.why ≡ last_why h p.key) (λ p. not (same p.key k)) (pending h) (pending_whys s h l.0)
pending_whys s ((o, Opened k) ∷ h) l = all_filter (λ (p : Raise). p.why ≡ last_why h p.key) (λ p. not (same p.key k)) (pending h) (pending_whys s h l.0)
pending_whys s ((o, Dropped k) ∷ h) l = all_filter (λ (p : Raise). p.why ≡ last_why h p.key) (λ p. not (same p.key k)) (pending h) (pending_whys s h l.0)
pending_whys s (e ∷ h) l = pending_whys s h l.0
