use Rattle.std.proofs.Common.{refl, arith, length-set}
use Rattle.std.proofs.lemmas.List.{map-set, length-map}
use Rattle.page_buffer.specs.Frames.{Free, Reserved}
use Rattle.page_buffer.specs.Insides.{frame_seen, frames_seen}
use Rattle.page_buffer.proofs.Sound.{not_placed}
use Rattle.page_buffer.proofs.Residents.{residents_kept}
use Rattle.page_buffer.proofs.Rooms.{reserved_room, sound_unreserved, room_on_list}
use Rattle.page_buffer.proofs.buffer.PageBuffer.unreserve.Goals as goal

pub push_reserved-requires : goal.push_reserved-requires
push_reserved-requires c =
    let frames = c.self.inside.frames.items in
    let r = reserved_room frames c.args.frame c.index_mut-room.result.now (rw (← c.self.view_is) at c.requires.reserved) c.index_mut-room.ensures.value in
    let fewer = room_on_list (frames_seen frames) c.self.inside.free.items c.args.frame _ c.self.invariant.0.list r.holds refl in
    omega (arith, length-map frames frame_seen)

pub invariant_of-self : goal.invariant_of-self
invariant_of-self c =
    let frames = c.self.inside.frames.items in
    let f = c.args.frame in
    let r = reserved_room frames f c.index_mut-room.result.now (rw (← c.self.view_is) at c.requires.reserved) c.index_mut-room.ensures.value in
    let sound = sound_unreserved c.self.inside.arena frames c.self.inside.order c.self.inside.free.items c.self.inside.resident f c.index_mut-room.result.now c.self.invariant.0 r in
    (rw c.push_reserved.ensures.items sound, rw (length-set frames f _, c.push_reserved.ensures.capacity) c.self.invariant.1)

pub returns : goal.returns
returns c =
    let frames = c.self.inside.frames.items in
    let f = c.args.frame in
    let r = reserved_room frames f c.index_mut-room.result.now (rw (← c.self.view_is) at c.requires.reserved) c.index_mut-room.ensures.value in
    let order = c.self.inside.order.order in
    let none = not_placed (frames_seen frames) order f (Reserved r.key) c.self.invariant.0.pages r.holds refl in
    record { free = rw (← c.self.view_is, map-set frame_seen frames f _, residents_kept (frames_seen frames) order f Free none) }
