use Rattle.script_run.proofs.FromJournals as law
use Rattle.script_run.proofs.laws.from_journals.Goals as goal

pub returns : goal.returns
returns g c = law.from_journals (record {
  pieces = c.pieces_follow.ensures;
  clean = c.clean_is_kept.ensures;
  raised = c.dirty_is_raised.ensures;
  counted = c.faults_are_counted.ensures;
  emptied = c.unmapped_is_emptied.ensures;
  bytes = c.bytes_by_pages.ensures;
  flat = c.journals_are_flat.ensures;
}) g.J.Journal.has_noted
