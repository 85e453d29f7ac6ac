use Rattle.std.proofs.Common.{◌∙◌, ap, refl, List, ℕ, length-set}
use Rattle.frame_arena.specs.Frames as arena_frame
use Rattle.std.specs.Prelude.{slice_index_or}
use Rattle.page_buffer.specs.Frames.{FrameSeen, Free, Resident, page_of, with_bytes}
use Rattle.page_buffer.specs.Insides.{frames_seen}
use Rattle.page_buffer.proofs.Residents.{residents_same}
use Rattle.page_buffer.proofs.Rooms.{resident_room, room_mine, sound_written, frames_seen-written}
use Rattle.page_buffer.proofs.buffer.PageBuffer.bytes_mut.Goals as goal

pub invariant_of-self-lent : goal.invariant_of-self-lent
invariant_of-self-lent c =
    λ w.
    let frames = c.self.inside.frames.items in
    let f = c.args.frame in
    let room = c.index_mut.result.now in
    let r = resident_room frames f room (rw (← c.self.view_is) at c.requires.resident) c.index_mut.ensures.value in (
      sound_written c.self.inside.arena frames c.self.inside.order c.self.inside.free.items c.self.inside.resident f room (record room { page = arena_frame.with_bytes room.page w }) c.self.invariant.0 r r.used refl,
      rw (length-set frames f _) c.self.invariant.1,
    )

pub returns : goal.returns
returns c =
    let frames = c.self.inside.frames.items in
    let f = c.args.frame in
    let room = c.index_mut.result.now in
    let r = resident_room frames f room (rw (← c.self.view_is) at c.requires.resident) c.index_mut.ensures.value in
    let mine = room_mine c.self.inside.arena frames f room c.self.invariant.0.rooms r.place in
    let order = c.self.inside.order.order in
    let same = λ (w : List ℕ). residents_same (frames_seen frames) order f (Resident r.key room.page.bytes) (with_bytes (slice_index_or (frames_seen frames) f Free) w) r.holds (ap (λ (x : FrameSeen). page_of (with_bytes x w)) r.holds.is) in (
      (refl, λ w. rw (← c.self.view_is, frames_seen-written frames f room w r, same w)),
      record {
        writes_back = tt;
        bytes = rw (← c.self.view_is, r.holds.is) c.bytes_mut.ensures.bytes;
        size = rw (← c.self.view_is) (c.bytes_mut.ensures.size ∙ ap (λ a. a.page_size) mine);
      },
    )
