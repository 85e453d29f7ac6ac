-- How many faults wait at the most.
use Rattle.std.proofs.Common.{List, [], arith, length, length-append, nat_le, not, ◌∷◌, ◌≤◌, ◌||◌}
use Rattle.std.proofs.lemmas.Bool.{leb-false, ltb-true}
use Rattle.page_base.specs.Pages.{same}
use Rattle.page_base.specs.declared.keys.Key.{Key}
use Rattle.page_base.specs.declared.keys.Raise.{Raise}
use Rattle.page_base.specs.declared.keys.Why.TheVariants.{Ahead}
use Rattle.page_model.specs.declared.entry.Entry.TheVariants.{Dropped, Hint, Opened, Raised, StartRead}
use Rattle.page_model.specs.declared.entry.HintAnswer.TheVariants as answer
use Rattle.page_model.specs.Closings.{is_closing}
use Rattle.page_model.specs.Faults.{is_pending, pending, served}
use Rattle.page_model.specs.InFlight.{is_reading}
use Rattle.page_model.specs.Laws.{FewArePending}
use Rattle.page_model.specs.Residents.{is_resident}
use Rattle.page_model.proofs.Quota.{filter_shorter}
use Rattle.page_model.proofs.Raises.{hint_raised}

served_most : (k : Key) (ps : List Raise) → length (served k ps) ≤ length ps
served_most k ps = filter_shorter (λ (p : Raise). not (same p.key k)) ps

pub few_pending : FewArePending
few_pending s [] l = omega arith
few_pending s ((o, Raised k why) ∷ h) l = let less = ltb-true (length (pending h)) s.faults l.2.room in omega (arith, less, length-append (pending h) (record { key = k; why = why } ∷ []))
few_pending s ((o, Hint k answer.Raised) ∷ h) l =
    let q = hint_raised (is_closing h k.region) (is_resident h k) (is_pending h k || is_reading h k) (nat_le s.faults (length (pending h))) l.2 in
    let less = leb-false s.faults (length (pending h)) q.3 in
    omega (arith, less, length-append (pending h) (record { key = k; why = Ahead } ∷ []))
few_pending s ((o, StartRead k) ∷ h) l = let most = few_pending s h l.0 in let less = served_most k (pending h) in omega (arith, most, less)
few_pending s ((o, Opened k) ∷ h) l = let most = few_pending s h l.0 in let less = served_most k (pending h) in omega (arith, most, less)
few_pending s ((o, Dropped k) ∷ h) l = let most = few_pending s h l.0 in let less = served_most k (pending h) in omega (arith, most, less)
few_pending s (e ∷ h) l = few_pending s h l.0
