use Rattle.flat_lines.proofs.Lines as law
use Rattle.flat_lines.proofs.laws.lines_are_flat.Goals as goal

pub returns : goal.returns
returns c = law.lines_are_flat c.same_is_equal.ensures c.pieces_cover.ensures
