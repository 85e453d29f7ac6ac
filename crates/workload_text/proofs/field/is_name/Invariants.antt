use Rattle.std.proofs.Common.{◌≡◌, drop}
use Rattle.std.specs.List.{list_all}
use Rattle.workload_text.specs.Grammar.{is_name_byte}
use Rattle.workload_text.proofs.field.is_name.Given as goal

abbrev pub invariant-loop-c : goal.invariant-loop-c
invariant-loop-c l = list_all is_name_byte l.field ≡ list_all is_name_byte (drop l.c-index l.field)
