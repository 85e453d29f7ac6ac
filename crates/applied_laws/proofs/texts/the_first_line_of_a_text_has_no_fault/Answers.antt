use Rattle.std.proofs.Common.{◌∷◌}
use Rattle.applied_laws.proofs.texts.the_first_line_of_a_text_has_no_fault.Goals as goal

pub returns : goal.returns
returns c = λ b t ts k is. (c.accepted_is_free.ensures b (t ∷ ts) is).0 k
