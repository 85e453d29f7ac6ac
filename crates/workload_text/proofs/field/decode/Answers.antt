use Rattle.std.proofs.Common.{arith}
use Rattle.workload_text.proofs.HexSteps.{hex_pairs-step}
use Rattle.workload_text.proofs.field.decode.Goals as goal

pub bytes-preserved : goal.bytes-preserved
bytes-preserved c =
    hex_pairs-step c.args.field.now c.bytes.out c.bytes.i c.hex_digit_value.result c.hex_digit_value-in-bytes.result (omega arith) (omega arith) c.hex_digit_value.ensures.value c.hex_digit_value-in-bytes.ensures.value c.bytes.invariant
