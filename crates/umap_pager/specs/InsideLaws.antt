-- The laws that this crate's lemmas are given, as one argument.
use Rattle.histories.specs.Relations.{GoesOnIsOrder, GrowingAddsUp, NewStays, AloneIsOwn}
use Rattle.page_model.specs.declared.entry.Entry.{Entry}
use Rattle.locked_stripe.specs.TripLaws.{WholeTripsAddUp}

pub record WentLaws : Type 0 where
  pub order : GoesOnIsOrder Entry
  pub adds : GrowingAddsUp Entry
  pub stays : NewStays Entry
  pub alone : AloneIsOwn Entry
  pub whole : WholeTripsAddUp
