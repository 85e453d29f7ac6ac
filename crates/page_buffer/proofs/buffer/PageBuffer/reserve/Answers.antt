use Rattle.std.proofs.Common.{◌≡◌, ◌++◌, ◌∷◌, [], false, refl, length-set}
use Rattle.std.specs.List.{list_any}
use Rattle.std.proofs.lemmas.List.{map-set, length-map}
use Rattle.page_buffer.specs.Frames.{Free, Reserved, is_for}
use Rattle.page_buffer.specs.Insides.{frame_seen, frames_seen}
use Rattle.page_buffer.proofs.Sound.{last_held, not_placed}
use Rattle.page_buffer.proofs.Residents.{residents_kept}
use Rattle.page_buffer.proofs.Rooms.{sound_reserved}
use Rattle.page_buffer.proofs.buffer.PageBuffer.reserve.Goals as goal

pub invariant_of-self : goal.invariant_of-self
invariant_of-self c =
    let frames = c.self.inside.frames.items in
    let f = c.unwrap-frame.result in
    let list : c.self.inside.free.items ≡ c.pop.new.self.items ++ f ∷ [] = rw c.unwrap-frame.ensures at c.pop.ensures.items in
    let sound = rw list at c.self.invariant.0 in
    let held = last_held (frames_seen frames) c.pop.new.self.items f sound.list in
    let fresh : list_any (is_for c.args.key) (frames_seen frames) ≡ false = rw (← c.self.view_is) at c.requires.fresh in
    let changed = sound_reserved c.self.inside.arena frames c.self.inside.order c.pop.new.self.items c.self.inside.resident f c.index_mut-room.result.now c.args.key sound (record { within = rw (length-map frames frame_seen) at held.within; is = c.index_mut-room.ensures.value }) fresh in
    (changed, rw (length-set frames f _, c.pop.ensures.capacity) c.self.invariant.1)

pub returns-clause-within : goal.returns-clause-within
returns-clause-within c =
    let sound = rw (rw c.unwrap-frame.ensures at c.pop.ensures.items) at c.self.invariant.0 in
    let held = last_held (frames_seen c.self.inside.frames.items) c.pop.new.self.items c.unwrap-frame.result sound.list in
    rw (← c.self.view_is) held.within

pub returns-clause-free : goal.returns-clause-free
returns-clause-free c =
    let sound = rw (rw c.unwrap-frame.ensures at c.pop.ensures.items) at c.self.invariant.0 in
    let held = last_held (frames_seen c.self.inside.frames.items) c.pop.new.self.items c.unwrap-frame.result sound.list in
    rw (← c.self.view_is) held.is

pub returns-clause-reserved : goal.returns-clause-reserved
returns-clause-reserved c =
    let frames = c.self.inside.frames.items in
    let f = c.unwrap-frame.result in
    let sound = rw (rw c.unwrap-frame.ensures at c.pop.ensures.items) at c.self.invariant.0 in
    let held = last_held (frames_seen frames) c.pop.new.self.items f sound.list in
    let order = c.self.inside.order.order in
    let none = not_placed (frames_seen frames) order f Free sound.pages held refl in
    rw (← c.self.view_is, map-set frame_seen frames f _, residents_kept (frames_seen frames) order f (Reserved c.args.key) none)
