-- What a closing region rules out.
use Rattle.std.proofs.Common.{false, length, nat_le, refl, true, ℕ, ◌==◌, ◌||◌, ◌≡◌}
use Rattle.std.proofs.lemmas.Bool.{eqb-true, false_from_ne_true}
use Rattle.histories.specs.Histories.{History}
use Rattle.page_base.specs.declared.keys.Key.{Key}
use Rattle.page_model.specs.declared.entry.Entry.{Entry}
use Rattle.page_model.specs.declared.entry.Entry.TheVariants.{Hint, Load, Opened, Raised, Save, StartRead}
use Rattle.page_model.specs.Closings.{is_closing}
use Rattle.page_model.specs.Faults.{is_pending, pending}
use Rattle.page_model.specs.InFlight.{is_reading}
use Rattle.page_model.specs.Laws.{NothingAfterClosing}
use Rattle.page_model.specs.Residents.{is_resident}
use Rattle.page_model.proofs.Nexts.{open_served, read_served, served_open_region}
use Rattle.page_model.proofs.Raises.{hint_raised}
use Rattle.page_model.specs.declared.entry.HintAnswer.TheVariants as answer

other : (h : History Entry) (k : Key) (r : ℕ) → is_closing h k.region ≡ false → is_closing h r ≡ true → (k.region == r) ≡ false
other h k r n c = false_from_ne_true (k.region == r) (λ t. let kr : k.region ≡ r = eqb-true k.region r t in let y : is_closing h k.region ≡ true = rw kr c in cc)

pub nothing_after_closing : NothingAfterClosing
nothing_after_closing s h o (Load k place bytes) r m c = other h k r m.0.not_closing c
nothing_after_closing s h o (Save k place bytes) r m c = other h k r m.0.not_closing c
nothing_after_closing s h o (Raised k why) r m c = other h k r m.not_closing c
nothing_after_closing s h o (Hint k answer.Raised) r m c = other h k r (hint_raised (is_closing h k.region) (is_resident h k) (is_pending h k || is_reading h k) (nat_le s.faults (length (pending h))) m).0 c
nothing_after_closing s h o (Opened k) r m c = other h k r (served_open_region s h k (open_served s h k m).0) c
nothing_after_closing s h o (StartRead k) r m c = other h k r (served_open_region s h k (read_served s h k m.1).0) c
nothing_after_closing s h o e r m c = refl
