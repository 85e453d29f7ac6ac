use Rattle.std.proofs.Common.{◌≡◌, ◌+◌, ◌*◌, length}
use denote.RawPtr.{block_ptr}
use Rattle.frame_arena.specs.InsideArenas.{IsFull}
use Rattle.frame_arena.proofs.arena.FrameArena.free.Given as goal

abbrev pub invariant-loop : goal.invariant-loop
invariant-loop l = record {
  full : IsFull l.fn.self.arena 0 l.slots.items;
  size : length l.slots.items + l.counter ≡ l.frames;
  place : l.bytes.place ≡ block_ptr l.fn.self.arena.block (l.fn.self.arena.start + length l.slots.items * l.fn.self.arena.page_size);
  many : length l.bytes.bytes ≡ l.counter * l.fn.self.arena.page_size;
}
