-- The laws of whole trips, as a statement.
use Rattle.std.specs.Prelude.{ℕ, ◌≡◌, true, List, ◌++◌}
use Rattle.histories.specs.Histories.{History, calls_of}
use Rattle.page_model.specs.declared.entry.Entry.{Entry}
use Rattle.locked_stripe.specs.declared.answers.Served.{Served}
use Rattle.locked_stripe.specs.declared.answers.Back.{Back}
use Rattle.locked_stripe.specs.Answers.{served_entries, back_entries}
use Rattle.locked_stripe.specs.Calls.{AllHome}
use Rattle.locked_stripe.specs.WholeTrips.{trips_are_whole}

-- Whole trips after whole trips are whole; what a service makes is whole, and what making room makes; and where each caller's
-- trips are whole, every lane is home.
pub record WholeTripsAddUp : Type 0 where
  pub both : (later own : List Entry) → trips_are_whole later ≡ true → trips_are_whole own ≡ true → trips_are_whole (later ++ own) ≡ true
  pub served : (s : Served) → trips_are_whole (served_entries s) ≡ true
  pub back : (at : ℕ) (bytes : List ℕ) (b : Back) → trips_are_whole (back_entries at bytes b) ≡ true
  pub home : (h : History Entry) → ((o : ℕ) → trips_are_whole (calls_of o h) ≡ true) → AllHome h
