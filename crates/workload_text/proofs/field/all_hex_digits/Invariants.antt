use Rattle.std.proofs.Common.{◌≡◌, ◌&&◌, drop}
use Rattle.std.specs.List.{list_all}
use Rattle.workload_text.specs.Reading.{is_hex_digit}
use Rattle.workload_text.proofs.field.all_hex_digits.Given as goal

abbrev pub invariant-loop-c : goal.invariant-loop-c
invariant-loop-c l = list_all is_hex_digit l.field ≡ l.all && list_all is_hex_digit (drop l.c-index l.field)
