-- A list may go to another thread where its shelf may, and so may a job that adds to it.
use denote.RattleType.{RattleType}
use denote.Ref.{NamedLft}
use denote.Param.Send.{IsSend, IsSync, sendable}
use Rattle.std.proofs.Crossing.{crosses}
use Rattle.turn_lock.specs.Crossing.{pass_field_send, lock_sync}
use Rattle.locked_list.specs.declared.list.Shelf.{Ghosts}
use Rattle.locked_list.specs.contracts.list.Lines as lines
use Rattle.locked_list.specs.contracts.adder.Adder as adder

lines_send : (S : RattleType) (g : Ghosts S.Denot) → IsSend S → IsSend (lines.the_row S g)
lines_send S g s = search (sendable, crosses) depth 20

pub adder_send : (a : NamedLft) (S R : RattleType) (g : Ghosts S.Denot) → IsSend S → IsSync R → IsSend (adder.the_row a S R g)
adder_send a S R g s y =
    let l : IsSend (lines.the_row S g) = lines_send S g s in
    search (sendable, crosses, pass_field_send, lock_sync) depth 40
