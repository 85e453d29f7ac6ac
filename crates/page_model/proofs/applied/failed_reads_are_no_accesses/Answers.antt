use Rattle.std.proofs.Common.{append-nil, ◌∙◌}
use Rattle.page_model.specs.Entries.{accesses_of}
use Rattle.page_model.specs.Examples.{history_of, reads_fail_twice}
use Rattle.page_model.proofs.applied.failed_reads_are_no_accesses.Goals as goal

pub returns : goal.returns
returns c = λ later. c.accesses_of_both.ensures 1 later (history_of reads_fail_twice) ∙ append-nil (accesses_of 1 later)
