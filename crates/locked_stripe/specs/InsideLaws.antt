-- The laws that this crate's lemmas are given, as one argument.
use Rattle.histories.specs.Relations.{GoesOnIsOrder, GrowingAddsUp, GrownKnows, NewStays, AloneIsOwn}
use Rattle.page_base.specs.Laws.{SameIsEqual}
use Rattle.page_model.specs.declared.entry.Entry.{Entry}
use Rattle.page_model.specs.Laws.{SomethingIsNext, ReadFaultIsNew}
use Rattle.locked_stripe.specs.TripLaws.{WholeTripsAddUp}

pub record PagerLaws : Type 0 where
  pub order : GoesOnIsOrder Entry
  pub adds : GrowingAddsUp Entry
  pub grown : GrownKnows Entry
  pub stays : NewStays Entry
  pub alone : AloneIsOwn Entry
  pub keys : SameIsEqual
  pub next : SomethingIsNext
  pub read_fault : ReadFaultIsNew
  pub whole : WholeTripsAddUp
