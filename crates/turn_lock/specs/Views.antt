-- What is read off a pass's turn.
use Rattle.std.specs.Prelude.{Bool, true, false}
use Rattle.turn_lock.specs.declared.view.Turn.{Turn}
use Rattle.turn_lock.specs.declared.view.Turn.TheVariants.{Out, Waits, Inside}

abbrev pub is_inside : Turn → Bool
is_inside Out = false
is_inside (Waits n) = false
is_inside (Inside n) = true
