use Rattle.flat_lines.proofs.Owners as law
use Rattle.flat_lines.proofs.laws.owners_are_flat.Goals as goal

pub returns : goal.returns
returns c = law.owners_are_flat c.owners_in_turn.ensures c.lines_are_flat.ensures c.bytes_by_pages.ensures
