-- Rights to lifetimes name no thread.
use Rattle.std.proofs.Common.{ℕ, List, [], ◌∷◌, drop}
use base.Shift.{Keyless}
use denote.Param.Send.{IsSend, owning_send}
use Rattle.frame_arena.specs.InsideOwnership.{rights}
use Rattle.frame_arena.specs.contracts.book.Book as Book

keyless : (names : List ℕ) → Keyless (rights names)
keyless [] = tt
keyless (a ∷ rest) = (tt, keyless rest)

pub send : IsSend Book.the_row
send = owning_send Book.the_type tt (λ book. keyless (drop book.next book.names)) (λ _ _ _. tt)
