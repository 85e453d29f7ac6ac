use Rattle.std.proofs.Common.{◌≤◌, ◌≡◌}
use Rattle.std.specs.Prelude.{vec_capacity, vec_len}
use Rattle.frame_arena.proofs.Cutting.{IsCut}
use Rattle.frame_arena.proofs.arena.FrameArena.new.Given as goal

abbrev pub invariant-loop-number : goal.invariant-loop-number
invariant-loop-number l = record {
  cut : IsCut l.whole l.book.names l.at l.rest.place l.rest.bytes l.book.next l.slots.items l.frames l.size l.number;
  slots_room : l.frames ≤ vec_capacity l.slots;
  hints_room : l.frames ≤ vec_capacity l.hints;
  hints : vec_len l.hints ≡ l.number;
}
