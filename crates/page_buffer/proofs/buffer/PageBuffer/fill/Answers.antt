use Rattle.std.proofs.Common.{◌≡◌, ◌∙◌, refl, sym, ap, arith, length, length-set}
use Rattle.std.specs.Prelude.{slice_index_or}
use Rattle.std.proofs.lemmas.List.{map-set, length-map}
use Rattle.page_buffer.specs.Frames.{Free, page_of, refilled, is_resident}
use Rattle.page_buffer.specs.Insides.{frame_seen, frames_seen}
use Rattle.page_buffer.proofs.Counts.{count_by-misses}
use Rattle.page_buffer.proofs.Sound.{not_placed}
use Rattle.page_buffer.proofs.Residents.{residents_filled, refilled-whole}
use Rattle.page_buffer.proofs.Rooms.{reserved_room, sound_filled, room_mine, member_not}
use Rattle.page_buffer.proofs.buffer.PageBuffer.fill.Goals as goal

pub push_back-requires-clause-fresh : goal.push_back-requires-clause-fresh
push_back-requires-clause-fresh c =
    let frames = c.self.inside.frames.items in
    let f = c.args.frame in
    let s = c.self.invariant.0 in
    let r = reserved_room frames f c.index_mut-room.result.now (rw (← c.self.view_is) at c.requires.reserved) c.index_mut-room.ensures.value in
    member_not c.self.inside.order f (not_placed (frames_seen frames) c.self.inside.order.order f _ s.pages r.holds refl)

pub overflow_add-self : goal.overflow_add-self
overflow_add-self c =
    let frames = c.self.inside.frames.items in
    let f = c.args.frame in
    let s = c.self.invariant.0 in
    let r = reserved_room frames f c.index_mut-room.result.now (rw (← c.self.view_is) at c.requires.reserved) c.index_mut-room.ensures.value in
    let fewer = count_by-misses is_resident (frames_seen frames) f Free r.holds.within (ap is_resident r.holds.is) in
    let counted = s.counted in
    let residents = s.pages.residents in
    let few = s.few in
    omega (arith, length-map frames frame_seen)

pub invariant_of-self : goal.invariant_of-self
invariant_of-self c =
    let frames = c.self.inside.frames.items in
    let f = c.args.frame in
    let r = reserved_room frames f c.index_mut-room.result.now (rw (← c.self.view_is) at c.requires.reserved) c.index_mut-room.ensures.value in
    let key : c.in-Reserved.key ≡ r.key = cc (c.in-Reserved.is, r.used) in
    let sound = sound_filled c.self.inside.arena frames c.self.inside.order c.self.inside.free.items c.self.inside.resident f c.index_mut-room.result.now _ c.args.clean c.self.invariant.0 c.whole.ensures.whole.groups r refl refl in
    (rw (c.push_back.ensures.appended, key) sound, rw (length-set frames f _) c.self.invariant.1)

pub returns : goal.returns
returns c =
    let frames = c.self.inside.frames.items in
    let f = c.args.frame in
    let s = c.self.invariant.0 in
    let room = c.index_mut-room.result.now in
    let r = reserved_room frames f room (rw (← c.self.view_is) at c.requires.reserved) c.index_mut-room.ensures.value in
    let key : c.in-Reserved.key ≡ r.key = cc (c.in-Reserved.is, r.used) in
    let page : page_of (slice_index_or (frames_seen frames) f Free) ≡ c.in-Reserved.key = ap page_of r.holds.is ∙ sym key in
    let mine = room_mine c.self.inside.arena frames f room s.rooms r.place in
    let one_page : length c.args.bytes.now ≡ c.self.inside.arena.arena.page_size = rw (← c.self.view_is) at c.requires.page in
    let size : length c.args.bytes.now ≡ length room.page.bytes = one_page ∙ (ap (λ a. a.page_size) (sym mine) ∙ (sym c.bytes_mut.ensures.size ∙ ap length c.bytes_mut.ensures.bytes)) in
    let bytes : refilled room.page.bytes c.copy_from_slice.new.self ≡ c.args.bytes.now = ap (refilled room.page.bytes) c.copy_from_slice.ensures.after ∙ refilled-whole room.page.bytes c.args.bytes.now size in
    let order = residents_filled (frames_seen frames) c.self.inside.order.order f r.key c.args.bytes.now r.holds in
    record { filled = rw (← c.self.view_is, page, map-set frame_seen frames f _, c.push_back.ensures.appended, bytes, key, order) }
