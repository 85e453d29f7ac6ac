use Rattle.std.proofs.Common.{◌≡◌, ◌≤◌, ◌+◌, length, All, replicate}
use Rattle.std.specs.Prelude.{vec_capacity}
use Rattle.frame_arena.specs.Frames.{home}
use Rattle.page_buffer.specs.declared.frame.Frame.{Frame}
use Rattle.page_buffer.specs.Frames.{Free}
use Rattle.page_buffer.specs.Insides.{frames_seen}
use Rattle.page_buffer.proofs.New.{AreFirst}
use Rattle.page_buffer.proofs.buffer.PageBuffer.new.Given as goal

abbrev pub invariant-loop-frame : goal.invariant-loop-frame
invariant-loop-frame l = record {
  all : l.arena.frames ≡ l.quota;
  size : l.arena.arena.page_size ≡ l.page_size;
  home : home l.arena + l.frame ≡ l.quota;
  taken : length l.frames.items ≡ l.frame;
  mine : All (λ (f : Frame). f.page.arena ≡ l.arena.arena) l.frames.items;
  seen : frames_seen l.frames.items ≡ replicate l.frame Free;
  list : AreFirst l.free.items l.frame;
  room : l.quota ≤ vec_capacity l.frames;
  free_room : l.quota ≤ vec_capacity l.free;
}
