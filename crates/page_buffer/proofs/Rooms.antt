-- The same of the frames as they lie in memory: what a frame's room holds, and a buffer whose one room changes.
use Rattle.std.proofs.Common.{◌≡◌, ℕ, ◌+◌, ◌-◌, ◌<◌, ◌≤◌, Bool, true, false, List, [], ◌∷◌, ◌++◌, ◌==◌, length, ◌⊎◌, inl, inr, refl, sym, ap, ◌∙◌, arith, length-set, get_or-set_same, get_or-set_other, length-append}
use Rattle.std.specs.Prelude.{count_by, slice_index_or, slice_set}
use Rattle.std.specs.List.{list_any}
use Rattle.std.proofs.lemmas.List.{map-set, length-map, get_or-map, get_or_past}
use Rattle.std.proofs.lemmas.List.Elements.{All-get_or, All-from_get_or}
use Rattle.std.proofs.lemmas.Bool.{cases_eq, cases_lt, eqb-true, false_from_ne_true}
use Rattle.page_base.specs.declared.keys.Key.{Key}
use Rattle.frame_arena.specs.Frames.{ArenaSeen}
use Rattle.frame_arena.specs.Frames as arena_frame
use Rattle.index_lists.specs.Lists.{without}
use Rattle.index_lists.specs.Orders.{OrderSeen, group_of, is_member, appended, left_out}
use Rattle.page_buffer.specs.Frames.{FrameSeen, with_bytes, page_of, refilled, Free, Reserved, Resident, is_free, is_reserved, is_resident, is_for}
use Rattle.page_buffer.specs.declared.frame.Use.{Use}
use Rattle.page_buffer.specs.declared.frame.Use.TheVariants as in_use
use Rattle.page_buffer.specs.declared.frame.Frame.{Frame}
use Rattle.page_buffer.specs.Insides.{seen_as, key_in, frame_seen, frames_seen, HasAll, IsOrdered, IsLinked, IsListed, IsSound}
use Rattle.page_buffer.proofs.Counts.{one, count_by-cons, count_by-push, count_by-without, count_by-without_le, count_by-misses, length-without, list_any-none, list_any-some}
use Rattle.page_buffer.proofs.Sound.{Holds, placed_in, placed_once, not_placed, last_held, listed_popped, listed_pushed, listed_kept, ordered_reserved, ordered_unreserved, ordered_filled, ordered_written, ordered_released}

-- the room of frame f
pub record IsRoom (frames : List Frame) (f : ℕ) (room : Frame) : Type 0 where
  pub within : f < length frames
  pub is : room ≡ slice_index_or frames f room

pub holds : (frames : List Frame) (f : ℕ) (room : Frame) → IsRoom frames f room → Holds (frames_seen frames) f (frame_seen room)
holds frames f room r = record {
  within = rw (length-map frames frame_seen) r.within;
  is = get_or-map frame_seen frames f room Free r.within ∙ ap frame_seen (sym r.is);
}

-- the room of a frame that passes a test which no free frame passes
pub room_of : (test : FrameSeen → Bool) (frames : List Frame) (f : ℕ) (room : Frame) → test Free ≡ false → test (slice_index_or (frames_seen frames) f Free) ≡ true → room ≡ slice_index_or frames f room → IsRoom frames f room × (test (frame_seen room) ≡ true)
room_of test frames f room fails passes is = by_place (cases_lt f (length frames))
  where
    by_place : (f < length frames) ⊎ (length frames ≤ f) → IsRoom frames f room × (test (frame_seen room) ≡ true)
    by_place (inl within) =
        let r : IsRoom frames f room = record { within = within; is = is } in
        let same = holds frames f room r in
        (r, rw same.is at passes)
    by_place (inr past) =
        let free : slice_index_or (frames_seen frames) f Free ≡ Free = get_or_past (frames_seen frames) f Free (rw (length-map frames frame_seen) past) in
        let passes' : test Free ≡ true = rw free at passes in
        absurd (cc (fails, passes'))

-- its bytes are one page of the arena
pub room_mine : (arena : ArenaSeen) (frames : List Frame) (f : ℕ) (room : Frame) → HasAll arena frames → IsRoom frames f room → room.page.arena ≡ arena.arena
room_mine arena frames f room all r = ap (λ (x : Frame). x.page.arena) r.is ∙ All-get_or (λ (x : Frame). x.page.arena ≡ arena.arena) frames f room r.within all.mine

-- ---- the order

pub member_not : (o : OrderSeen) (f : ℕ) → placed_in f o.order ≡ 0 → is_member o f ≡ false
member_not o f none = list_any-none (λ other. other == f) o.order none

pub member_so : (o : OrderSeen) (f : ℕ) → placed_in f o.order ≡ 1 → is_member o f ≡ true
member_so o f there = list_any-some (λ other. other == f) o.order (omega arith)

-- the page of a frame that stays for its page, or isn't in the order
page_kept : (frames : List FrameSeen) (f : ℕ) (x y : FrameSeen) (n : ℕ) → Holds frames f x → page_of y ≡ page_of x → key_in (slice_set frames f y) n ≡ key_in frames n
page_kept frames f x y n at same_page = by_number (cases_eq n f)
  where
    by_number : (n ≡ f) ⊎ (n ≡ f → ⊥) → key_in (slice_set frames f y) n ≡ key_in frames n
    by_number (inl e) = ap (key_in (slice_set frames f y)) e ∙ (ap page_of (get_or-set_same frames f y Free at.within) ∙ (same_page ∙ (sym (ap page_of at.is) ∙ ap (key_in frames) (sym e))))
    by_number (inr differs) = ap page_of (get_or-set_other frames f n y Free differs)

linked_same : (frames : List FrameSeen) (o : OrderSeen) (f : ℕ) (x y : FrameSeen) → IsLinked frames o → Holds frames f x → page_of y ≡ page_of x → IsLinked (slice_set frames f y) o
linked_same frames o f x y l at same_page = record {
  numbers = l.numbers ∙ sym (length-set frames f y);
  region = λ n there. l.region n there ∙ ap (λ (k : Key). k.region) (sym (page_kept frames f x y n at same_page));
}

linked_apart : (frames : List FrameSeen) (o : OrderSeen) (f : ℕ) (y : FrameSeen) → IsLinked frames o → placed_in f o.order ≡ 0 → IsLinked (slice_set frames f y) o
linked_apart frames o f y l none = record {
  numbers = l.numbers ∙ sym (length-set frames f y);
  region =
      λ n there.
      l.region n there ∙ ap (λ (x : FrameSeen). (page_of x).region) (sym (get_or-set_other frames f n y Free (λ e. (let was : placed_in n o.order ≡ placed_in f o.order = ap (λ m. placed_in m o.order) e in absurd (omega arith)))));
}

linked_filled : (frames : List FrameSeen) (o : OrderSeen) (f : ℕ) (key : Key) (bytes : List ℕ) (clean : Bool) → IsLinked frames o → Holds frames f (Reserved key) → length o.group ≡ o.numbers
    → IsLinked (slice_set frames f (Resident key bytes)) (appended o key.region f clean)
linked_filled frames o f key bytes clean l at sized = record {
  numbers = l.numbers ∙ sym (length-set frames f (Resident key bytes));
  region = λ n there. by_number n there (cases_eq n f);
}
  where
    by_number : (n : ℕ) → 1 ≤ placed_in n (o.order ++ f ∷ []) → (n ≡ f) ⊎ (n ≡ f → ⊥) → group_of (appended o key.region f clean) n ≡ (key_in (slice_set frames f (Resident key bytes)) n).region
    by_number n there (inl e) =
        let within : f < length o.group = (let a = at.within in let m = l.numbers in omega arith) in
        ap (group_of (appended o key.region f clean)) e
        ∙ (get_or-set_same o.group f key.region 0 within
        ∙ sym (ap (λ m. (key_in (slice_set frames f (Resident key bytes)) m).region) e ∙ ap (λ (x : FrameSeen). (page_of x).region) (get_or-set_same frames f (Resident key bytes) Free at.within)))
    by_number n there (inr differs) =
        let push = count_by-push (λ other. other == n) o.order f in
        let other : one (f == n) ≡ 0 = ap one (false_from_ne_true (f == n) (λ e. differs (sym (eqb-true f n e)))) in
        get_or-set_other o.group f n key.region 0 differs
        ∙ (l.region n (omega arith) ∙ ap (λ (x : FrameSeen). (page_of x).region) (sym (get_or-set_other frames f n (Resident key bytes) Free differs)))

linked_released : (frames : List FrameSeen) (o : OrderSeen) (f : ℕ) → IsLinked frames o → IsLinked (slice_set frames f Free) (left_out o f)
linked_released frames o f l = record {
  numbers = l.numbers ∙ sym (length-set frames f Free);
  region = λ n there. by_number n there (cases_eq n f);
}
  where
    by_number : (n : ℕ) → 1 ≤ placed_in n (without f o.order) → (n ≡ f) ⊎ (n ≡ f → ⊥) → group_of o n ≡ (key_in (slice_set frames f Free) n).region
    by_number n there (inl e) =
        let none = count_by-without (λ other. other == f) o.order in
        let same : placed_in n (without f o.order) ≡ placed_in f (without f o.order) = ap (λ m. placed_in m (without f o.order)) e in
        absurd (omega arith)
    by_number n there (inr differs) =
        let less = count_by-without_le (λ other. other == f) (λ other. other == n) o.order in
        l.region n (omega arith) ∙ ap (λ (x : FrameSeen). (page_of x).region) (sym (get_or-set_other frames f n Free Free differs))

-- ---- one room changes

pub sound_set : (arena : ArenaSeen) (frames : List Frame) (o after : OrderSeen) (free left : List ℕ) (resident then f : ℕ) (room new : Frame)
    → IsSound arena frames o free resident → IsRoom frames f room → new.page.arena ≡ room.page.arena → IsLinked (slice_set (frames_seen frames) f (frame_seen new)) after
    → IsOrdered (slice_set (frames_seen frames) f (frame_seen new)) after.order → then ≡ length after.order → IsListed (slice_set (frames_seen frames) f (frame_seen new)) left
    → IsSound arena (slice_set frames f new) after left then
sound_set arena frames o after free left resident then f room new s r same linked pages counted listed = record {
  few = rw (length-set frames f new) s.few;
  rooms = record {
    out = s.rooms.out;
    many = length-set frames f new ∙ s.rooms.many;
    mine = All-from_get_or (λ (x : Frame). x.page.arena ≡ arena.arena) (slice_set frames f new) room (λ i lt. mine i (rw (length-set frames f new) at lt) (cases_eq i f));
  };
  linked = rw (map-set frame_seen frames f new) linked;
  pages = rw (map-set frame_seen frames f new) pages;
  counted = counted;
  list = rw (map-set frame_seen frames f new) listed;
}
  where
    mine : (i : ℕ) → i < length frames → (i ≡ f) ⊎ (i ≡ f → ⊥) → (slice_index_or (slice_set frames f new) i room).page.arena ≡ arena.arena
    mine i lt (inl e) = ap (λ (x : Frame). x.page.arena) (ap (λ j. slice_index_or (slice_set frames f new) j room) e ∙ get_or-set_same frames f new room r.within) ∙ (same ∙ room_mine arena frames f room s.rooms r)
    mine i lt (inr differs) = ap (λ (x : Frame). x.page.arena) (get_or-set_other frames f i new room differs) ∙ All-get_or (λ (x : Frame). x.page.arena ≡ arena.arena) frames i room lt s.rooms.mine

-- there is room on the free list for a frame that isn't free
pub room_on_list : (frames : List FrameSeen) (free : List ℕ) (f : ℕ) (x : FrameSeen) → IsListed frames free → Holds frames f x → is_free x ≡ false → length free < length frames
room_on_list frames free f x s at other = let fewer = count_by-misses is_free frames f Free at.within (rw at.is other) in let frees = s.frees in omega arith

-- the room of a reserved frame, and of a resident page
pub record IsReservedRoom (frames : List Frame) (f : ℕ) (room : Frame) : Type 0 where
  pub place : IsRoom frames f room
  pub key : Key
  pub used : room.used ≡ in_use.Reserved key
  pub holds : Holds (frames_seen frames) f (Reserved key)

pub record IsResidentRoom (frames : List Frame) (f : ℕ) (room : Frame) : Type 0 where
  pub place : IsRoom frames f room
  pub key : Key
  pub used : room.used ≡ in_use.Resident key
  pub holds : Holds (frames_seen frames) f (Resident key room.page.bytes)

reserved_used : (u : Use) (bytes : List ℕ) → is_reserved (seen_as u bytes) ≡ true → (key : Key) × (u ≡ in_use.Reserved key)
reserved_used in_use.Free bytes e = cc
reserved_used (in_use.Reserved key) bytes e = (key, refl)
reserved_used (in_use.Resident key) bytes e = cc

resident_used : (u : Use) (bytes : List ℕ) → is_resident (seen_as u bytes) ≡ true → (key : Key) × (u ≡ in_use.Resident key)
resident_used in_use.Free bytes e = cc
resident_used (in_use.Reserved key) bytes e = cc
resident_used (in_use.Resident key) bytes e = (key, refl)

pub reserved_room : (frames : List Frame) (f : ℕ) (room : Frame) → is_reserved (slice_index_or (frames_seen frames) f Free) ≡ true → room ≡ slice_index_or frames f room → IsReservedRoom frames f room
reserved_room frames f room passes is =
    let r = room_of is_reserved frames f room refl passes is in
    let which = reserved_used room.used room.page.bytes r.1 in
    let at = holds frames f room r.0 in
    record { place = r.0; key = which.0; used = which.1; holds = record { within = at.within; is = at.is ∙ ap (λ (u : Use). seen_as u room.page.bytes) which.1 } }

pub resident_room : (frames : List Frame) (f : ℕ) (room : Frame) → is_resident (slice_index_or (frames_seen frames) f Free) ≡ true → room ≡ slice_index_or frames f room → IsResidentRoom frames f room
resident_room frames f room passes is =
    let r = room_of is_resident frames f room refl passes is in
    let which = resident_used room.used room.page.bytes r.1 in
    let at = holds frames f room r.0 in
    record { place = r.0; key = which.0; used = which.1; holds = record { within = at.within; is = at.is ∙ ap (λ (u : Use). seen_as u room.page.bytes) which.1 } }

-- ---- the changes

pub sound_reserved : (arena : ArenaSeen) (frames : List Frame) (o : OrderSeen) (free : List ℕ) (resident f : ℕ) (room : Frame) (key : Key)
    → IsSound arena frames o (free ++ f ∷ []) resident → IsRoom frames f room → list_any (is_for key) (frames_seen frames) ≡ false
    → IsSound arena (slice_set frames f (record room { used = in_use.Reserved key })) o free resident
sound_reserved arena frames o free resident f room key s r fresh =
    let held = last_held (frames_seen frames) free f s.list in
    sound_set arena frames o o _ free resident resident f room _ s r refl (linked_apart (frames_seen frames) o f _ s.linked (not_placed (frames_seen frames) o.order f Free s.pages held refl))
    (ordered_reserved (frames_seen frames) o.order f key s.pages (last_held (frames_seen frames) free f s.list) fresh) s.counted
    (listed_popped (frames_seen frames) free f (Reserved key) s.list refl)

pub sound_unreserved : (arena : ArenaSeen) (frames : List Frame) (o : OrderSeen) (free : List ℕ) (resident f : ℕ) (room : Frame)
    → IsSound arena frames o free resident → IsReservedRoom frames f room
    → IsSound arena (slice_set frames f (record room { used = in_use.Free })) o (free ++ f ∷ []) resident
sound_unreserved arena frames o free resident f room s r =
    sound_set arena frames o o free _ resident resident f room _ s r.place refl (linked_apart (frames_seen frames) o f _ s.linked (not_placed (frames_seen frames) o.order f _ s.pages r.holds refl))
    (ordered_unreserved (frames_seen frames) o.order f r.key s.pages r.holds) s.counted
    (listed_pushed (frames_seen frames) free f (Reserved r.key) s.list r.holds refl)

pub sound_filled : (arena : ArenaSeen) (frames : List Frame) (o : OrderSeen) (free : List ℕ) (resident f : ℕ) (room new : Frame) (clean : Bool)
    → IsSound arena frames o free resident → length o.group ≡ o.numbers → (r : IsReservedRoom frames f room) → new.used ≡ in_use.Resident r.key → new.page.arena ≡ room.page.arena
    → IsSound arena (slice_set frames f new) (appended o r.key.region f clean) free (resident + 1)
sound_filled arena frames o free resident f room new clean s sized r used same =
    let seen : frame_seen new ≡ Resident r.key new.page.bytes = ap (λ (u : Use). seen_as u new.page.bytes) used in
    sound_set arena frames o (appended o r.key.region f clean) free free resident (resident + 1) f room new s r.place same
    (rw seen (linked_filled (frames_seen frames) o f r.key new.page.bytes clean s.linked r.holds sized))
    (rw seen (ordered_filled (frames_seen frames) o.order f r.key new.page.bytes s.pages r.holds))
    (rw (length-append o.order (f ∷ [])) (let was = s.counted in omega arith))
    (rw seen (listed_kept (frames_seen frames) free f (Reserved r.key) (Resident r.key new.page.bytes) s.list r.holds refl refl))

pub sound_written : (arena : ArenaSeen) (frames : List Frame) (o : OrderSeen) (free : List ℕ) (resident f : ℕ) (room new : Frame)
    → IsSound arena frames o free resident → (r : IsResidentRoom frames f room) → new.used ≡ in_use.Resident r.key → new.page.arena ≡ room.page.arena
    → IsSound arena (slice_set frames f new) o free resident
sound_written arena frames o free resident f room new s r used same =
    let seen : frame_seen new ≡ Resident r.key new.page.bytes = ap (λ (u : Use). seen_as u new.page.bytes) used in
    sound_set arena frames o o free free resident resident f room new s r.place same (rw seen (linked_same (frames_seen frames) o f _ (Resident r.key new.page.bytes) s.linked r.holds refl))
    (rw seen (ordered_written (frames_seen frames) o.order f r.key room.page.bytes new.page.bytes s.pages r.holds)) s.counted
    (rw seen (listed_kept (frames_seen frames) free f (Resident r.key room.page.bytes) (Resident r.key new.page.bytes) s.list r.holds refl refl))

pub sound_released : (arena : ArenaSeen) (frames : List Frame) (o : OrderSeen) (free : List ℕ) (resident f : ℕ) (room : Frame)
    → IsSound arena frames o free resident → IsResidentRoom frames f room
    → IsSound arena (slice_set frames f (record room { used = in_use.Free })) (left_out o f) (free ++ f ∷ []) (resident - 1)
sound_released arena frames o free resident f room s r =
    let there = placed_once (frames_seen frames) o.order f (Resident r.key room.page.bytes) s.pages r.holds refl in
    let fewer = length-without (λ other. other == f) o.order in
    sound_set arena frames o (left_out o f) free _ resident (resident - 1) f room _ s r.place refl (linked_released (frames_seen frames) o f s.linked)
    (ordered_released (frames_seen frames) o.order f r.key room.page.bytes s.pages r.holds)
    (let was = s.counted in omega arith)
    (listed_pushed (frames_seen frames) free f (Resident r.key room.page.bytes) s.list r.holds refl)

-- free, reserved and resident frames are all frames
pub frames-together : (frames : List FrameSeen) → count_by is_free frames + count_by is_reserved frames + count_by is_resident frames ≡ length frames
frames-together [] = refl
frames-together (x ∷ xs) =
    let f = count_by-cons is_free x xs in
    let r = count_by-cons is_reserved x xs in
    let p = count_by-cons is_resident x xs in
    let rest = frames-together xs in
    let here : one (is_free x) + one (is_reserved x) + one (is_resident x) ≡ 1 = one_of x in
    omega arith
  where
    one_of : (x : FrameSeen) → one (is_free x) + one (is_reserved x) + one (is_resident x) ≡ 1
    one_of Free = omega arith
    one_of (Reserved key) = omega arith
    one_of (Resident key bytes) = omega arith

-- what is seen where the bytes of a resident page are written over
pub frames_seen-written : (frames : List Frame) (f : ℕ) (room : Frame) (w : List ℕ) → IsResidentRoom frames f room
    → frames_seen (slice_set frames f (record room { page = arena_frame.with_bytes room.page w })) ≡ slice_set (frames_seen frames) f (with_bytes (slice_index_or (frames_seen frames) f Free) w)
frames_seen-written frames f room w r =
    let resident : seen_as room.used (refilled room.page.bytes w) ≡ Resident r.key (refilled room.page.bytes w) = ap (λ (u : Use). seen_as u (refilled room.page.bytes w)) r.used in
    let before : with_bytes (Resident r.key room.page.bytes) w ≡ with_bytes (slice_index_or (frames_seen frames) f Free) w = ap (λ (x : FrameSeen). with_bytes x w) (sym r.holds.is) in
    map-set frame_seen frames f _ ∙ ap (λ (x : FrameSeen). slice_set (frames_seen frames) f x) (resident ∙ before)
