-- The laws of histories that the lemmas are given, as the function `model_laws` has them.
use Rattle.page_model.specs.Laws.{PagesAreOfStripe, SomethingIsNext, FewArePending, PendingHasLastWhy, ChosenKnows, WaitingIsAbsent}
use Rattle.page_model.specs.Readers.{ServiceKnows, ReadersAgree, PagesShow, FlushKnows}

abbrev pub Laws : Type 0
Laws = record {
  knows : ServiceKnows;
  agree : ReadersAgree;
  show : PagesShow;
  pages : PagesAreOfStripe;
  next : SomethingIsNext;
  few : FewArePending;
  whys : PendingHasLastWhy;
  chosen : ChosenKnows;
  waiting : WaitingIsAbsent;
  flush : FlushKnows;
}
