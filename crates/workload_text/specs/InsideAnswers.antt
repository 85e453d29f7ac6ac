-- What the body of `parse` answers for a line.
use Rattle.std.specs.Prelude.{ℕ}
use Rattle.workload_text.specs.declared.refusal.TextFault.{TextFault}
use Rattle.workload_text.specs.declared.refusal.TextFault.TheVariants.{Refused, OutOfMemory}
use Rattle.workload_text.specs.declared.refusal.LineFault.{LineFault}
use Rattle.workload_text.specs.declared.refusal.LineFault.TheVariants as line

-- the fault of a text, by that of its line of this number
abbrev pub text_fault_at : ℕ → LineFault → TextFault
text_fault_at n (line.Refused kind) = Refused n kind
text_fault_at n line.OutOfMemory = OutOfMemory
