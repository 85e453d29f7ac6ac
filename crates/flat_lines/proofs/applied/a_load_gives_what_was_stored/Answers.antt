use Rattle.flat_lines.proofs.Worked as worked
use Rattle.flat_lines.proofs.applied.a_load_gives_what_was_stored.Goals as goal

pub returns : goal.returns
returns c = worked.what_was_stored c.lines_are_flat.ensures c.bytes_by_pages.ensures
