use Rattle.script_run.proofs.InMemory.{memory_text}
use Rattle.script_run.proofs.laws.memory_runs_are_serial.Goals as goal

pub returns : goal.returns
returns c = λ layout lines stripes ends e fit all f. memory_text layout lines stripes ends e fit all f
