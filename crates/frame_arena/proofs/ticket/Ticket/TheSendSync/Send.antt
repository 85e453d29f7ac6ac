-- A right to a lifetime names no thread.
use Rattle.std.proofs.Common.{ℕ, List, [], ◌∷◌, drop}
use base.Shift.{Keyless}
use denote.Param.Send.{IsSend, owning_send}
use Rattle.frame_arena.specs.InsideOwnership.{first_right}
use Rattle.frame_arena.specs.contracts.ticket.Ticket as Ticket

keyless : (names : List ℕ) → Keyless (first_right names)
keyless [] = tt
keyless (a ∷ rest) = tt

pub send : IsSend Ticket.the_row
send = owning_send Ticket.the_type tt (λ ticket. keyless (drop ticket.number ticket.names)) (λ _ _ _. tt)
