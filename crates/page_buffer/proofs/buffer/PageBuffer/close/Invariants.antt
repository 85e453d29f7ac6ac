use Rattle.std.proofs.Common.{◌≡◌, ◌+◌, length, All}
use Rattle.frame_arena.specs.Frames.{home}
use Rattle.page_buffer.specs.declared.frame.Frame.{Frame}
use Rattle.page_buffer.proofs.buffer.PageBuffer.close.Given as goal

abbrev pub invariant-loop : goal.invariant-loop
invariant-loop l = record {
  home : home l.arena + length l.frames.items ≡ l.arena.frames;
  counted : l.counter + length l.frames.items ≡ l.end;
  mine : All (λ (f : Frame). f.page.arena ≡ l.arena.arena) l.frames.items;
}
