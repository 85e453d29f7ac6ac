use Rattle.std.proofs.Common.{arith, refl}
use Rattle.workload_text.specs.Reading.{is_line_feed}
use Rattle.workload_text.proofs.Splits.{part_ends, part_last}
use Rattle.workload_text.proofs.cut.next_line.Goals as goal

pub returns-in-Some-clause-parts : goal.returns-in-Some-clause-parts
returns-in-Some-clause-parts c =
    let m = c.in-Some.ensures in
    part_ends is_line_feed c.args.text.now c.in-Some.end _ m.0.high m.1 (λ j below. m.0.before j (omega arith) below) refl

pub returns-in-None-clause-parts : goal.returns-in-None-clause-parts
returns-in-None-clause-parts c = part_last is_line_feed c.args.text.now (λ j below. c.in-None.ensures j (omega arith) below)
