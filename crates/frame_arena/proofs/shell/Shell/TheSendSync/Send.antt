-- What a shell awaits and gives names no thread.
use Rattle.std.proofs.Common.{ℕ, List, length}
use base.Shift.{Keyless}
use denote.Array.{Array}
use denote.Builtin.{u8}
use denote.Param.Send.{IsSend, array_send, sendable}
use denote.RawPtr.{Ptr}
use Rattle.std.proofs.Crossing.{crosses}
use Rattle.std_alloc.proofs.SendSync as send_sync
use Rattle.frame_arena.specs.InsideOwnership.{lies}
use Rattle.frame_arena.specs.contracts.shell.Shell as Shell
use Rattle.frame_arena.specs.contracts.shell.Shell.TheInside as Fields

byte_send : IsSend u8
byte_send = search sendable

lies_keyless : (place : Ptr) (bytes : List ℕ) → Keyless (lies place bytes)
lies_keyless place bytes = send_sync.lies (Array u8 (length bytes)) (array_send u8 (length bytes) byte_send) place bytes

fields_send : IsSend Fields.the_row
fields_send = search (sendable, crosses) depth 20

pub send : IsSend Shell.the_row
send = record {
  owned = λ span words. ((λ _. tt), λ bytes. ((tt, lies_keyless span.start bytes), λ shell. (tt, fields_send.owned shell words)));
  leaving = λ _ _ _. tt;
}
