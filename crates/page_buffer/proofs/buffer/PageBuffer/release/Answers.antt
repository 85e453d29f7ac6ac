use Rattle.std.proofs.Common.{◌≡◌, refl, ap, arith, length-set}
use Rattle.std.specs.Prelude.{slice_index_or}
use Rattle.std.proofs.lemmas.List.{map-set, length-map}
use Rattle.page_buffer.specs.Frames.{Free, page_of}
use Rattle.page_buffer.specs.Insides.{frame_seen, frames_seen}
use Rattle.page_buffer.proofs.Sound.{placed_once}
use Rattle.page_buffer.proofs.Residents.{residents_released}
use Rattle.page_buffer.proofs.Rooms.{resident_room, sound_released, room_on_list, member_so}
use Rattle.page_buffer.proofs.buffer.PageBuffer.release.Goals as goal

pub remove-requires : goal.remove-requires
remove-requires c =
    let frames = c.self.inside.frames.items in
    let f = c.args.frame in
    let s = c.self.invariant.0 in
    let r = resident_room frames f c.index_mut-room.result.now (rw (← c.self.view_is) at c.requires.resident) c.index_mut-room.ensures.value in
    record { member = member_so c.self.inside.order f (placed_once (frames_seen frames) c.self.inside.order.order f _ s.pages r.holds refl) }

pub push_reserved-requires : goal.push_reserved-requires
push_reserved-requires c =
    let frames = c.self.inside.frames.items in
    let r = resident_room frames c.args.frame c.index_mut-room.result.now (rw (← c.self.view_is) at c.requires.resident) c.index_mut-room.ensures.value in
    let fewer = room_on_list (frames_seen frames) c.self.inside.free.items c.args.frame _ c.self.invariant.0.list r.holds refl in
    omega (arith, length-map frames frame_seen)

pub invariant_of-self : goal.invariant_of-self
invariant_of-self c =
    let frames = c.self.inside.frames.items in
    let f = c.args.frame in
    let r = resident_room frames f c.index_mut-room.result.now (rw (← c.self.view_is) at c.requires.resident) c.index_mut-room.ensures.value in
    let sound = sound_released c.self.inside.arena frames c.self.inside.order c.self.inside.free.items c.self.inside.resident f c.index_mut-room.result.now c.self.invariant.0 r in
    (rw (c.push_reserved.ensures.items, c.remove.ensures.left_out) sound, rw (length-set frames f _, c.push_reserved.ensures.capacity) c.self.invariant.1)

pub returns : goal.returns
returns c =
    let frames = c.self.inside.frames.items in
    let f = c.args.frame in
    let s = c.self.invariant.0 in
    let order = c.self.inside.order.order in
    let r = resident_room frames f c.index_mut-room.result.now (rw (← c.self.view_is) at c.requires.resident) c.index_mut-room.ensures.value in
    let left = residents_released (frames_seen frames) order f r.key _ s.pages r.holds in
    let page : page_of (slice_index_or (frames_seen frames) f Free) ≡ r.key = ap page_of r.holds.is in
    record { released = rw (← c.self.view_is, page, map-set frame_seen frames f _, c.remove.ensures.left_out, left) }
