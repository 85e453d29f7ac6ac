use Rattle.std.proofs.Common.{◌≡◌}
use Rattle.std.specs.List.{slice_get}
use Rattle.page_buffer.proofs.buffer.PageBuffer.nth.Given as goal

abbrev pub invariant-loop : goal.invariant-loop
invariant-loop l = record { here : l.at ≡ slice_get l.self-inside.order.order l.counter }
