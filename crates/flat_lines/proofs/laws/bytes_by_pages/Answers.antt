use Rattle.flat_lines.proofs.Whole as law
use Rattle.flat_lines.proofs.laws.bytes_by_pages.Goals as goal

pub returns : goal.returns
returns c = law.bytes_by_pages c.pages_lie_apart.ensures
