use Rattle.std.proofs.Common.{◌≡◌, map, string_bytes, drop}
use Rattle.call_words.specs.Variables.{first_value_of}
use Rattle.call_words.proofs.variables.first_value_of.Given as goal

abbrev pub invariant-loop-var : goal.invariant-loop-var
invariant-loop-var l = first_value_of l.name (map string_bytes l.vars) ≡ first_value_of l.name (map string_bytes (drop l.var-index l.vars))
