-- The laws of histories on which the lock's rule rests.
use Rattle.histories.specs.Relations.{CallsOfBoth, CallsOfOne, GoesOnIsOrder, ShorterGoesOn, SameCallsAreOthers}

pub record HistoryLaws (E : Type 0) : Type 0 where
  pub calls_of_both : CallsOfBoth E
  pub calls_of_one : CallsOfOne E
  pub goes_on : GoesOnIsOrder E
  pub shorter : ShorterGoesOn E
  pub same_calls : SameCallsAreOthers E
