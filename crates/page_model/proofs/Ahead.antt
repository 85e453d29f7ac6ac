-- Something is next while the lanes of the regions are home; and what is known of the choice.
use Rattle.std.proofs.Common.{None, Option, Some, ap, is_none, refl, subst, true, ℕ, ◌<◌, ◌≡◌}
use Rattle.std.proofs.lemmas.Bool.{false_from_ne_true}
use Rattle.histories.specs.Histories.{History}
use Rattle.page_model.specs.declared.entry.Entry.{Entry}
use Rattle.page_model.specs.InFlight.{InFlight, in_flight, is_home, is_reading}
use Rattle.page_model.specs.Laws.{ChosenKnows, SomethingIsNext, WaitingIsAbsent}
use Rattle.page_model.specs.Legal.{IsLegal}
use Rattle.page_model.specs.Residents.{is_resident}
use Rattle.page_model.specs.Setups.{Setup, regions}
use Rattle.page_model.proofs.Nexts.{chosen_drop, chosen_open, chosen_read}
use Rattle.page_model.proofs.Prefixes.{page_region}
use Rattle.page_model.proofs.Raises.{apart}
use Rattle.page_model.proofs.Serving.{something_is_next}
use Rattle.page_model.proofs.Since.{flight_page}
use Rattle.page_model.proofs.Untouched.{flight_region}

-- what isn't one of the stripe's regions has nothing in flight
home_everywhere : (s : Setup) (h : History Entry) → IsLegal s h → ((r : ℕ) → r < regions s → is_home h r ≡ true) → (r : ℕ) → is_home h r ≡ true
home_everywhere s h l home r = go (in_flight h r) refl
  where
    go : (o : Option InFlight) → in_flight h r ≡ o → is_home h r ≡ true
    go None e = ap is_none e
    go (Some t) e = home r (subst (λ (x : ℕ). x < regions s) (flight_region h r t e) (page_region s t.key (flight_page s h r t l e)))

pub something_ahead : SomethingIsNext
something_ahead s h fits l home some = something_is_next s h fits l (home_everywhere s h l home) some

pub chosen_knows : ChosenKnows
chosen_knows = record { drop = chosen_drop; open_ = chosen_open; read = chosen_read }

pub waiting_absent : WaitingIsAbsent
waiting_absent = record {
  reading = λ s h k l e. false_from_ne_true (is_resident h k) (λ t. (apart s h k l).read_absent e t);
  waiting = λ s h k l e. false_from_ne_true (is_resident h k) (λ t. (apart s h k l).wait_absent e t);
  not_both = λ s h k l e. false_from_ne_true (is_reading h k) (λ t. (apart s h k l).not_both e t);
}
