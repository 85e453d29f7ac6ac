use Rattle.std.proofs.Common.{◌≡◌, ◌++◌, ◌*◌, take, drop}
use Rattle.workload_text.specs.Reading.{hex_pairs}
use Rattle.workload_text.proofs.field.decode.Given as goal

abbrev pub invariant-bytes : goal.invariant-bytes
invariant-bytes l = hex_pairs l.field ≡ take l.i l.out ++ hex_pairs (drop (2 * l.i) l.field)
