use Rattle.std.proofs.Common.{arith, refl}
use Rattle.page_model.specs.Examples.{history_of, page, a_failed_read, reads_fail_twice}
use Rattle.page_model.proofs.applied.the_second_failed_read_is_new.Goals as goal

pub returns : goal.returns
returns c = c.read_fault_is_new.ensures (history_of (a_failed_read 1)) (history_of reads_fail_twice) (page 0) (history_of (a_failed_read 2), refl) (λ e. omega (arith, e))
