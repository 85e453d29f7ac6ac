use Rattle.script_run.proofs.DidLines as law
use Rattle.script_run.proofs.laws.journals_are_flat.Goals as goal

pub returns : goal.returns
returns c = law.journals_are_flat c.pieces_cover.ensures c.calls_of_one.ensures c.owners_are_flat.ensures
