use Rattle.std.proofs.Common.{arith, ◌∙◌, refl, ap}
use Rattle.workload_text.specs.Reading.{is_space}
use Rattle.workload_text.specs.InsideCuts.{fields_left}
use Rattle.workload_text.proofs.Splits.{part_ends, part_last}
use Rattle.workload_text.proofs.cut.next_field.Goals as goal

pub returns-in-Some : goal.returns-in-Some
returns-in-Some c =
    let m = c.in-Some.ensures in
    ap fields_left c.in_ok-text.was ∙ part_ends is_space c.in_ok-text.text.now c.in-Some.end _ m.0.high m.1 (λ j below. m.0.before j (omega arith) below) refl

pub returns-in-None : goal.returns-in-None
returns-in-None c =
    ap fields_left c.in_ok-text.was ∙ part_last is_space c.in_ok-text.text.now (λ j below. c.in-None.ensures j (omega arith) below)
