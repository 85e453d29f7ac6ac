-- Making room: where a read waits for it, no frame is free, and the pick is the oldest page.
use Rattle.std.proofs.Common.{Bool, List, None, Option, Some, [], ap, arith, cond, false, find, length, nat_lt, not, refl, subst, sym, true, ℕ, ◌&&◌, ◌∙◌, ◌∷◌, ◌≡◌, ◌<◌, ◌==◌, ◌≤◌, ◌||◌}
use Rattle.std.proofs.lemmas.Bool.{and_parts, cond-true, cond-false, eq-eqb, false_from_ne_true, ltb-false, or_right}
use Rattle.std.specs.List.{AllByRecursion, list_any}
use Rattle.std.specs.Option.{option_map}
use Rattle.histories.specs.Histories.{History}
use Rattle.page_base.specs.Pages.{same}
use Rattle.page_base.specs.declared.keys.Key.{Key}
use Rattle.page_base.specs.declared.keys.Raise.{Raise}
use Rattle.page_model.specs.declared.entry.Entry.{Entry}
use Rattle.page_model.specs.declared.seen.Next.TheVariants as serve
use Rattle.page_model.specs.declared.seen.Pick.{Pick}
use Rattle.page_model.specs.Core.{Core, Resident, can_leave, is_guarded, is_home, is_servable, is_stale, is_writing, free_frames, next, pick, pick_of, place_passes, waits_for_room, writes}
use Rattle.page_model.specs.Events.{IsPicked}
use Rattle.page_model.specs.Faults.{is_protected_why, pending}
use Rattle.page_model.specs.Serving.{chosen, next_of}
use Rattle.page_model.specs.Setups.{has_page, regions}
use Rattle.page_model.specs.Stands.{StandsFor}
use Rattle.page_model.specs.InFlight as flight
use Rattle.page_model.specs.Readers.{picked}
use Rattle.serial_pager.specs.Rests.{IsAtRest}
use Rattle.serial_pager.specs.InsideServices.{Picks}
use Rattle.serial_pager.proofs.Pages.{same_self, page_in}
use Rattle.serial_pager.proofs.Lists.{any_none, none_passes}
use Rattle.serial_pager.proofs.ModelLaws.{Laws}

cond_room : (b : Bool) → cond b serve.Room serve.Nothing ≡ serve.Room → b ≡ true
cond_room true e = refl
cond_room false e = absurd cc

not_served : (b : Bool) (j : Key) → cond b (serve.Open j) (serve.Read j) ≡ serve.Room → ⊥
not_served true j e = cc
not_served false j e = cc

pub chosen_room : (a b : Option Raise) (w : Bool) → chosen a b w ≡ serve.Room → (a ≡ None) × (b ≡ None) × (w ≡ true)
chosen_room (Some p) b w e = absurd cc
chosen_room None (Some p) w e = absurd (not_served (is_protected_why p.why) p.key e)
chosen_room None None w e = (refl, refl, cond_room w e)

pub not-true : (b : Bool) → not b ≡ true → b ≡ false
not-true true e = absurd cc
not-true false e = refl

-- where a read waits for room, no frame is free
pub none_free : (c : Core) → next c ≡ serve.Room → nat_lt 0 (free_frames c) ≡ false
none_free c e =
    let n = chosen_room (find (is_stale c) c.queue) (find (is_servable c) c.queue) (list_any (waits_for_room c) c.queue) e in
    false_from_ne_true (nat_lt 0 (free_frames c)) (λ free. any_none (λ p. not (is_servable c p) && waits_for_room c p) c.queue (λ p both.
    let parts = and_parts (not (is_servable c p)) (waits_for_room c p) both in
    let reads = and_parts (not (is_protected_why p.why)) (is_home c p.key.region) parts.1 in
    let ready : (nat_lt 0 (free_frames c) && is_home c p.key.region) ≡ true = rw (free, reads.1) refl in
    let served_now : is_servable c p ≡ true = cond-false (is_protected_why p.why) (is_guarded c p.key) (nat_lt 0 (free_frames c) && is_home c p.key.region) (not-true (is_protected_why p.why) reads.0) ∙ ready in
    let not_now : is_servable c p ≡ false = not-true (is_servable c p) parts.0 in
    cc) (none_passes (is_servable c) (waits_for_room c) c.queue n.1 n.2))

-- the oldest page
pub record Oldest (c : Core) (k : Key) : Type 0 where
  pub page : Resident
  pub rest : List Resident
  pub pages : c.pages ≡ page ∷ rest
  pub key : page.key ≡ k
  pub there : page_in c.pages k ≡ Some page

-- a page may leave, since every lane is home
pub idle_page : (laws : Laws) (c : Core) → IsAtRest c → (k : Key) → has_page c.setup k ≡ true → is_writing c k ≡ false
idle_page laws c rest k page =
    let here = (laws.knows.here c k.region (rest.home k.region (laws.pages.region c.setup k page))).1 in
    ap (place_passes (λ place. writes place k)) here.is ∙ ap (λ place. writes place k) here.home

leaves : (laws : Laws) (c : Core) → IsAtRest c → (r : Resident) → has_page c.setup r.key ≡ true → can_leave c r ≡ true
leaves laws c rest r page = rw (idle_page laws c rest r.key page, rest.home r.key.region (laws.pages.region c.setup r.key page)) (or_right (not r.dirty) true refl)

-- the pick is the oldest page, since every lane is home
pub oldest_picked : (laws : Laws) (c : Core) (k : Key) → IsAtRest c → IsPicked c k → Oldest c k
oldest_picked laws c k rest p = at c.pages refl p.picked
  where
    first : (b : Bool) (r : Resident) (o : Option Resident) → b ≡ true → option_map (λ (x : Pick). x.key) (option_map pick_of (cond b (Some r) o)) ≡ Some k → r.key ≡ k
    first true r o is e = cc
    first false r o is e = absurd cc

    at : (rs : List Resident) → c.pages ≡ rs → option_map (λ (x : Pick). x.key) (option_map pick_of (find (can_leave c) rs)) ≡ Some k → Oldest c k
    at [] is e = absurd cc
    at (r ∷ rs) is e =
        let pages : AllByRecursion (λ (x : Resident). has_page c.setup x.key ≡ true) (r ∷ rs) = subst (λ (xs : List Resident). AllByRecursion (λ (x : Resident). has_page c.setup x.key ≡ true) xs) is (laws.show.held rest.history c rest.stands) in
        let key : r.key ≡ k = first (can_leave c r) r (find (can_leave c) rs) (leaves laws c rest r pages.0) e in
        let here : same r.key k ≡ true = rw key (same_self k) in
        record {
          page = r;
          rest = rs;
          pages = is;
          key = key;
          there = ap (λ xs. page_in xs k) is ∙ cond-true (same r.key k) (Some r) (page_in rs k) here;
        }

not_less : (n : ℕ) → nat_lt 0 n ≡ false → (n == 0) ≡ true
not_less n e = let low : n ≤ 0 = ltb-false 0 n e in eq-eqb n 0 (omega (arith, low))

pub picks_now : (c : Core) (p : Pick) → next c ≡ serve.Room → pick c ≡ Some p → Picks c p.key
picks_now c p room is = record {
  room = room;
  picked = record { pressure = ap (λ b. c.evicting || b) (not_less (free_frames c) (none_free c room)) ∙ or_right c.evicting true refl; picked = ap (option_map (λ (x : Pick). x.key)) is };
}

home_everywhere : (laws : Laws) (c : Core) (h : History Entry) → StandsFor h c → ((r : ℕ) → r < regions c.setup → is_home c r ≡ true) → (r : ℕ) → r < regions c.setup → flight.is_home h r ≡ true
home_everywhere laws c h st home r within = let reads = laws.agree.regions h c r st within in sym reads.home ∙ home r within

-- there is one
pub some_pick : (laws : Laws) (c : Core) → IsAtRest c → next c ≡ serve.Room → 0 < length c.queue → pick c ≡ None → ⊥
some_pick laws c rest room waits none =
    let h = rest.history in
    let reads = laws.agree.stripe h c rest.stands in
    let next_h : next_of c.setup h ≡ serve.Room = sym reads.next ∙ room in
    let some : 0 < length (pending h) = subst (λ (ps : List Raise). 0 < length ps) rest.stands.queue waits in
    let ahead = laws.next c.setup h rest.stands.fits rest.stands.legal (home_everywhere laws c h rest.stands rest.home) some in
    let found_is = (ahead.room next_h).1 in
    let pick_h : pick c ≡ Some (picked h found_is.0) = reads.pick ∙ ap (option_map (picked h)) found_is.1 in
    cc

-- while faults wait there is something to do
pub something_next : (laws : Laws) (c : Core) → IsAtRest c → 0 < length c.queue → next c ≡ serve.Nothing → ⊥
something_next laws c rest waits none =
    let h = rest.history in
    let reads = laws.agree.stripe h c rest.stands in
    let next_h : next_of c.setup h ≡ serve.Nothing = sym reads.next ∙ none in
    let some : 0 < length (pending h) = subst (λ (ps : List Raise). 0 < length ps) rest.stands.queue waits in
    (laws.next c.setup h rest.stands.fits rest.stands.legal (home_everywhere laws c h rest.stands rest.home) some).something next_h
