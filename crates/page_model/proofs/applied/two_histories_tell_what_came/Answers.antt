use Rattle.std.proofs.Common.{[], ap, append-nil, sym, ◌∙◌}
use Rattle.histories.specs.Histories.{History, calls_of}
use Rattle.page_model.specs.declared.entry.Entry.{Entry}
use Rattle.page_model.specs.Examples.{history_of, a_failed_read}
use Rattle.page_model.proofs.applied.two_histories_tell_what_came.Goals as goal

pub returns : goal.returns
returns c = record {
  own = λ own g. sym g.own_are ∙ ap (λ (h : History Entry). calls_of 1 h) (c.one_later.ensures g.later (history_of (a_failed_read 2)) (history_of (a_failed_read 1)) (sym g.is));
  all = λ h own g alone. c.alone_is_own.ensures.own 1 [] h own g alone ∙ append-nil _;
}
