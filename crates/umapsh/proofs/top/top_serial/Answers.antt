use Rattle.umapsh.proofs.Rightly.{rightly}
use Rattle.umapsh.proofs.top.top_serial.Goals as goal

pub returns-clause-right : goal.returns-clause-right
returns-clause-right g c =
    rightly c.refusals_are_right.ensures (λ bytes r e. (c.text_is_refused_at_its_first_bad_line.ensures bytes r).0 e) _ c.answer-status.result _ _ c.answer-status.ensures.says
