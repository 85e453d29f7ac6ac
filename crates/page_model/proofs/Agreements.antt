-- The readers of a core answer what the history says.
use Rattle.std.proofs.Common.{Bool, List, None, Option, Some, [], ap, arith, cond, false, filter, find, inl, inr, is_none, is_some, length, map, nat_le, nat_lt, not, option_map, refl, subst, sym, true, ℕ, ◌&&◌, ◌+◌, ◌-◌, ◌<◌, ◌==◌, ◌||◌, ◌∙◌, ◌∷◌, ◌≡◌}
use Rattle.std.proofs.lemmas.Bool.{and_left, or_left, or_right}
use Rattle.std.proofs.lemmas.List.{length-map}
use Rattle.std.proofs.lemmas.Option.{slice_get_cases}
use Rattle.std.specs.Bool.{OnTrue}
use Rattle.std.specs.List.{AllByRecursion, list_any, range_with_len}
use Rattle.histories.specs.Histories.{History}
use Rattle.page_base.specs.KeyOrder.{is_past, least}
use Rattle.page_base.specs.Pages.{same}
use Rattle.page_base.specs.declared.keys.Key.{Key}
use Rattle.page_base.specs.declared.keys.Raise.{Raise}
use Rattle.page_model.specs.declared.entry.Entry.{Entry}
use Rattle.page_model.specs.Bits.{is_dirty, is_protected}
use Rattle.page_model.specs.Closings.{is_clear, is_closing, is_quiet, is_unmapped}
use Rattle.page_model.specs.Core.{Core, Home, LanePlace, Reading, RegionSeen, Resident, Writing, closes, dirties, fault_at, is_full, is_guarded, is_home_place, is_present, is_read_place, page_at, pick_of, place_passes, protects, region_at, unmaps}
use Rattle.page_model.specs.Evictions.{can_leave, has_pressure, is_evicting, next_dirty, pick}
use Rattle.page_model.specs.Faults.{is_pending, is_protected_why, is_waiting, pending}
use Rattle.page_model.specs.InFlight.{in_flight, is_a_read, is_home, is_read_of, is_reading, is_write_of, is_writing}
use Rattle.page_model.specs.Memory.{flat}
use Rattle.page_model.specs.Readers.{IsAsSaid, ReadersAgree, picked}
use Rattle.page_model.specs.Residents.{free_frames, is_in, is_resident, oldest_of, reads_out, residents}
use Rattle.page_model.specs.Serving.{chosen, first_answer, hint_answer, is_servable, is_stale, next_of, waits_for_room}
use Rattle.page_model.specs.Setups.{Setup, has_page, is_told, quota, regions}
use Rattle.page_model.specs.Stands.{PageStands, PlaceStands, StandsFor}
use Rattle.page_model.specs.StoreFaults.{read_fault}
use Rattle.page_model.proofs.Counting.{count_zip}
use Rattle.page_model.proofs.Keys.{same-true, same_self}
use Rattle.page_model.proofs.Known.{pending_pages, resident_pages}
use Rattle.page_model.proofs.Lists.{find_passes}
use Rattle.page_model.proofs.Members.{all_both, all_found, all_unmap, all_weaker, any_map, any_same, filter_same, find_same, some_found}
use Rattle.page_model.proofs.Prefixes.{page_region}
use Rattle.page_model.proofs.Quota.{reads_in}
use Rattle.page_model.specs.Core as core

-- ---- pages

pub held_pages : (h : History Entry) (c : Core) → StandsFor h c → AllByRecursion (λ (r : Resident). has_page c.setup r.key ≡ true) c.pages
held_pages h c st = all_unmap (λ (k : Key). has_page c.setup k ≡ true) (λ (r : Resident). r.key) c.pages (subst (λ ks. AllByRecursion (λ (k : Key). has_page c.setup k ≡ true) ks) (sym st.order) (resident_pages c.setup h st.legal))

pub present_is : (h : History Entry) (c : Core) (k : Key) → StandsFor h c → is_present c k ≡ is_resident h k
present_is h c k st = some_found (λ (r : Resident). same r.key k) c.pages ∙ (sym (any_map (λ j. same j k) (λ (r : Resident). r.key) c.pages) ∙ ap (is_in k) st.order)

pub page_seen : (h : History Entry) (c : Core) (k : Key) (r : Resident) → StandsFor h c → page_at c k ≡ Some r → IsAsSaid c.setup h k r
page_seen h c k r st e =
    let is : r.key ≡ k = same-true r.key k (find_passes (λ (x : Resident). same x.key k) c.pages r e) in
    let a = all_found (PageStands c.setup h) (λ (x : Resident). same x.key k) c.pages r e st.pages in
    record {
      key = is;
      protected = a.0 ∙ ap (is_protected h) is;
      dirty = a.1 ∙ ap (is_dirty h) is;
      bytes = subst (λ (x : Key). OnTrue (is_told c.setup x) (r.bytes ≡ flat c.setup h x)) is a.2;
    }

pub guarded_is : (h : History Entry) (c : Core) (k : Key) → StandsFor h c → is_guarded c k ≡ (is_resident h k && is_protected h k)
guarded_is h c k st = go (page_at c k) refl
  where
    go : (o : Option Resident) → page_at c k ≡ o → protects o ≡ (is_resident h k && is_protected h k)
    go None e = sym (and_left (is_resident h k) (is_protected h k) (sym (present_is h c k st) ∙ ap is_some e))
    go (Some r) e = (page_seen h c k r st e).protected ∙ ap (λ b. b && is_protected h k) (sym (ap is_some e) ∙ present_is h c k st)

pub dirty_is : (h : History Entry) (c : Core) (k : Key) → StandsFor h c → core.is_dirty c k ≡ (is_resident h k && is_dirty h k)
dirty_is h c k st = go (page_at c k) refl
  where
    go : (o : Option Resident) → page_at c k ≡ o → dirties o ≡ (is_resident h k && is_dirty h k)
    go None e = sym (and_left (is_resident h k) (is_dirty h k) (sym (present_is h c k st) ∙ ap is_some e))
    go (Some r) e = (page_seen h c k r st e).dirty ∙ ap (λ b. b && is_dirty h k) (sym (ap is_some e) ∙ present_is h c k st)

-- ---- regions

pub region_there : (h : History Entry) (c : Core) (r : ℕ) → StandsFor h c → r < regions c.setup → (g : RegionSeen) × (region_at c r ≡ Some g)
region_there h c r st lt = elim (slice_get_cases c.regions r).1 [
  | inl x ↦ (x.0, x.2)
  | inr x ↦ absurd (omega (arith, x.0, st.count))
]

home_place_is : (s : Setup) (h : History Entry) (r : ℕ) (place : LanePlace) → PlaceStands s h r place → is_home_place place ≡ is_home h r
home_place_is s h r (Home lane) st = sym (ap is_none st.0)
home_place_is s h r (Reading k at why) st = sym (ap is_none st.0.is)
home_place_is s h r (Writing k at) st = sym (ap is_none st.is)

pub read_place_is : (s : Setup) (h : History Entry) (r : ℕ) (place : LanePlace) → PlaceStands s h r place → is_read_place place ≡ is_a_read (in_flight h r)
read_place_is s h r (Home lane) st = sym (ap is_a_read st.0)
read_place_is s h r (Reading k at why) st = sym (ap is_a_read st.0.is)
read_place_is s h r (Writing k at) st = sym (ap is_a_read st.is)

and_true : (b : Bool) → b ≡ (b && true)
and_true true = refl
and_true false = refl

and_false : (b : Bool) → false ≡ (b && false)
and_false true = refl
and_false false = refl

reads_is : (s : Setup) (h : History Entry) (r : ℕ) (place : LanePlace) (k : Key) → PlaceStands s h r place → core.reads place k ≡ is_read_of (in_flight h r) k
reads_is s h r (Home lane) k st = sym (ap (λ t. is_read_of t k) st.0)
reads_is s h r (Reading j at why) k st = and_true (same j k) ∙ sym (ap (λ t. is_read_of t k) st.0.is)
reads_is s h r (Writing j at) k st = and_false (same j k) ∙ sym (ap (λ t. is_read_of t k) st.is)

writes_is : (s : Setup) (h : History Entry) (r : ℕ) (place : LanePlace) (k : Key) → PlaceStands s h r place → core.writes place k ≡ is_write_of (in_flight h r) k
writes_is s h r (Home lane) k st = sym (ap (λ t. is_write_of t k) st.0)
writes_is s h r (Reading j at why) k st = and_false (same j k) ∙ sym (ap (λ t. is_write_of t k) st.0.is)
writes_is s h r (Writing j at) k st = and_true (same j k) ∙ sym (ap (λ t. is_write_of t k) st.is)

module _ (h : History Entry) (c : Core) (r : ℕ) (st : StandsFor h c) (lt : r < regions c.setup) where
  pub home_is : core.is_home c r ≡ is_home h r
  home_is = let x = region_there h c r st lt in ap (place_passes is_home_place) x.1 ∙ home_place_is c.setup h r x.0.place (st.regions r x.0 x.1).place

  pub closing_is : core.is_closing c r ≡ is_closing h r
  closing_is = let x = region_there h c r st lt in ap closes x.1 ∙ (st.regions r x.0 x.1).closing

  pub unmapped_is : core.is_unmapped c r ≡ is_unmapped h r
  unmapped_is = let x = region_there h c r st lt in ap unmaps x.1 ∙ (st.regions r x.0 x.1).unmapped

module _ (h : History Entry) (c : Core) (k : Key) (st : StandsFor h c) (lt : k.region < regions c.setup) where
  pub reading_is : core.is_reading c k ≡ is_reading h k
  reading_is = let x = region_there h c k.region st lt in ap (place_passes (λ place. core.reads place k)) x.1 ∙ reads_is c.setup h k.region x.0.place k (st.regions k.region x.0 x.1).place

  pub writing_is : core.is_writing c k ≡ is_writing h k
  writing_is = let x = region_there h c k.region st lt in ap (place_passes (λ place. core.writes place k)) x.1 ∙ writes_is c.setup h k.region x.0.place k (st.regions k.region x.0 x.1).place

  pub read_fault_is : core.read_fault c k ≡ read_fault h k
  read_fault_is = let x = region_there h c k.region st lt in ap (λ o. fault_at o k.page) x.1 ∙ (st.regions k.region x.0 x.1).read_faults k.page

pub pending_is : (h : History Entry) (c : Core) (k : Key) → StandsFor h c → core.is_pending c k ≡ is_pending h k
pending_is h c k st = ap (is_waiting k) st.queue

pub hint_is : (h : History Entry) (c : Core) (k : Key) → StandsFor h c → k.region < regions c.setup → core.hint_answer c k ≡ hint_answer c.setup h k
hint_is h c k st lt =
    let closing : core.is_closing c k.region ≡ is_closing h k.region = closing_is h c k.region st lt in
    let present : is_present c k ≡ is_resident h k = present_is h c k st in
    let waits : (core.is_pending c k || core.is_reading c k) ≡ (is_pending h k || is_reading h k) = ap (λ b. b || core.is_reading c k) (pending_is h c k st) ∙ ap (λ b. is_pending h k || b) (reading_is h c k st lt) in
    let full : is_full c ≡ nat_le c.setup.faults (length (pending h)) = ap (λ (q : List Raise). nat_le c.setup.faults (length q)) st.queue in
    ap (λ b. first_answer b (is_present c k) (core.is_pending c k || core.is_reading c k) (is_full c)) closing
    ∙ (ap (λ b. first_answer (is_closing h k.region) b (core.is_pending c k || core.is_reading c k) (is_full c)) present
    ∙ (ap (λ b. first_answer (is_closing h k.region) (is_resident h k) b (is_full c)) waits
    ∙ ap (λ b. first_answer (is_closing h k.region) (is_resident h k) (is_pending h k || is_reading h k) b) full))

-- ---- the stripe

pub held_length : (h : History Entry) (c : Core) → StandsFor h c → length c.pages ≡ length (residents h)
held_length h c st = sym (length-map c.pages (λ (r : Resident). r.key)) ∙ ap (λ (ks : List Key). length ks) st.order

pub reads_out_is : (h : History Entry) (c : Core) → StandsFor h c → core.reads_out c ≡ reads_out c.setup h
reads_out_is h c st =
    count_zip (λ (g : RegionSeen). is_read_place g.place) (reads_in h) c.regions 0 (λ j g e. let z : j ≡ 0 + j = omega arith in read_place_is c.setup h j g.place (st.regions j g e).place ∙ ap (reads_in h) z)
    ∙ ap (λ n. length (filter (reads_in h) (range_with_len 0 n))) st.count

pub free_is : (h : History Entry) (c : Core) → StandsFor h c → core.free_frames c ≡ free_frames c.setup h
free_is h c st =
    ap (λ n. quota c.setup - n - core.reads_out c) (held_length h c st) ∙ ap (λ n. quota c.setup - length (residents h) - n) (reads_out_is h c st)

pub pressure_is : (h : History Entry) (c : Core) → StandsFor h c → core.has_pressure c ≡ has_pressure c.setup h
pressure_is h c st = ap (λ b. b || core.free_frames c == 0) st.evicting ∙ ap (λ n. is_evicting c.setup h || n == 0) (free_is h c st)

stale_is : (h : History Entry) (c : Core) (p : Raise) → StandsFor h c → has_page c.setup p.key ≡ true → core.is_stale c p ≡ is_stale h p
stale_is h c p st page =
    ap (λ b. b || is_protected_why p.why && not (is_present c p.key)) (closing_is h c p.key.region st (page_region c.setup p.key page))
    ∙ ap (λ b. is_closing h p.key.region || is_protected_why p.why && not b) (present_is h c p.key st)

servable_is : (h : History Entry) (c : Core) (p : Raise) → StandsFor h c → has_page c.setup p.key ≡ true → core.is_servable c p ≡ is_servable c.setup h p
servable_is h c p st page =
    ap (λ b. cond (is_protected_why p.why) b (nat_lt 0 (core.free_frames c) && core.is_home c p.key.region)) (guarded_is h c p.key st)
    ∙ (ap (λ n. cond (is_protected_why p.why) (is_resident h p.key && is_protected h p.key) (nat_lt 0 n && core.is_home c p.key.region)) (free_is h c st)
    ∙ ap (λ b. cond (is_protected_why p.why) (is_resident h p.key && is_protected h p.key) (nat_lt 0 (free_frames c.setup h) && b)) (home_is h c p.key.region st (page_region c.setup p.key page)))

waits_is : (h : History Entry) (c : Core) (p : Raise) → StandsFor h c → has_page c.setup p.key ≡ true → core.waits_for_room c p ≡ waits_for_room h p
waits_is h c p st page = ap (λ b. not (is_protected_why p.why) && b) (home_is h c p.key.region st (page_region c.setup p.key page))

pub queue_pages : (h : History Entry) (c : Core) → StandsFor h c → AllByRecursion (λ (p : Raise). has_page c.setup p.key ≡ true) c.queue
queue_pages h c st = subst (λ (q : List Raise). AllByRecursion (λ (p : Raise). has_page c.setup p.key ≡ true) q) (sym st.queue) (pending_pages c.setup h st.legal)

pub next_is : (h : History Entry) (c : Core) → StandsFor h c → core.next c ≡ next_of c.setup h
next_is h c st =
    let all = queue_pages h c st in
    let P : Raise → Type 0 = λ p. has_page c.setup p.key ≡ true in
    let stale : find (core.is_stale c) c.queue ≡ find (is_stale h) c.queue = find_same (core.is_stale c) (is_stale h) c.queue (all_weaker P (λ p. core.is_stale c p ≡ is_stale h p) c.queue (λ p page. stale_is h c p st page) all) in
    let servable : find (core.is_servable c) c.queue ≡ find (is_servable c.setup h) c.queue = find_same (core.is_servable c) (is_servable c.setup h) c.queue (all_weaker P (λ p. core.is_servable c p ≡ is_servable c.setup h p) c.queue (λ p page. servable_is h c p st page) all) in
    let waits : list_any (core.waits_for_room c) c.queue ≡ list_any (waits_for_room h) c.queue = any_same (core.waits_for_room c) (waits_for_room h) c.queue (all_weaker P (λ p. core.waits_for_room c p ≡ waits_for_room h p) c.queue (λ p page. waits_is h c p st page) all) in
    ap (λ x. chosen x (find (core.is_servable c) c.queue) (list_any (core.waits_for_room c) c.queue)) stale
    ∙ (ap (λ x. chosen (find (is_stale h) c.queue) x (list_any (core.waits_for_room c) c.queue)) servable
    ∙ (ap (λ x. chosen (find (is_stale h) c.queue) (find (is_servable c.setup h) c.queue) x) waits
    ∙ ap (λ (q : List Raise). chosen (find (is_stale h) q) (find (is_servable c.setup h) q) (list_any (waits_for_room h) q)) st.queue))

-- ---- picks

pick_one : (h : History Entry) (r : Resident) (b : Bool) (x : Option Resident) (y : Option Key) → r.dirty ≡ is_dirty h r.key → option_map pick_of x ≡ option_map (picked h) y → option_map pick_of (cond b (Some r) x) ≡ option_map (picked h) (cond b (Some r.key) y)
pick_one h r true x y d e = ap (λ v. Some (record { key = r.key; dirty = v })) d
pick_one h r false x y d e = e

-- tests that agree pick out the same page, with its dirty bit
picks_are : (s : Setup) (h : History Entry) (p : Resident → Bool) (q : Key → Bool) (rs : List Resident) → AllByRecursion (PageStands s h) rs → AllByRecursion (λ (r : Resident). p r ≡ q r.key) rs → option_map pick_of (find p rs) ≡ option_map (picked h) (find q (map (λ (r : Resident). r.key) rs))
picks_are s h p q [] a b = refl
picks_are s h p q (r ∷ rs) a b =
    ap (λ t. option_map pick_of (cond t (Some r) (find p rs))) b.0
    ∙ pick_one h r (q r.key) (find p rs) (find q (map (λ (x : Resident). x.key) rs)) a.0.1 (picks_are s h p q rs a.1 b.1)

leave_is : (h : History Entry) (c : Core) (r : Resident) → StandsFor h c → has_page c.setup r.key ≡ true → PageStands c.setup h r → core.can_leave c r ≡ can_leave h r.key
leave_is h c r st page p =
    let lt = page_region c.setup r.key page in
    ap (λ b. not b && (not r.dirty || core.is_home c r.key.region)) (writing_is h c r.key st lt)
    ∙ (ap (λ b. not (is_writing h r.key) && (not b || core.is_home c r.key.region)) p.1
    ∙ ap (λ b. not (is_writing h r.key) && (not (is_dirty h r.key) || b)) (home_is h c r.key.region st lt))

pub pick_is : (h : History Entry) (c : Core) → StandsFor h c → core.pick c ≡ option_map (picked h) (pick h)
pick_is h c st =
    picks_are c.setup h (core.can_leave c) (can_leave h) c.pages st.pages
    (all_both (λ (r : Resident). has_page c.setup r.key ≡ true) (PageStands c.setup h) (λ (r : Resident). core.can_leave c r ≡ can_leave h r.key) c.pages (λ r page p. leave_is h c r st page p) (held_pages h c st) st.pages)
    ∙ ap (λ (ks : List Key). option_map (picked h) (find (can_leave h) ks)) st.order

-- ---- the next dirty page

all_among : (all ks : List Key) → ((k : Key) → is_in k ks ≡ true → is_in k all ≡ true) → AllByRecursion (λ (k : Key). is_in k all ≡ true) ks
all_among all [] among = tt
all_among all (k ∷ ks) among = (among k (or_left (same k k) (is_in k ks) (same_self k)), all_among all ks (λ j e. among j (or_right (same k j) (is_in j ks) e)))

pub next_dirty_is : (h : History Entry) (c : Core) (after : Option Key) → StandsFor h c → core.next_dirty c after ≡ next_dirty h after
next_dirty_is h c after st =
    let P : Key → Bool = λ k. core.is_dirty c k && is_past after k in
    let Q : Key → Bool = λ k. is_dirty h k && is_past after k in
    let all = all_weaker (λ (k : Key). is_resident h k ≡ true) (λ k. P k ≡ Q k) (residents h) (λ k there. ap (λ b. b && is_past after k) (dirty_is h c k st ∙ ap (λ b. b && is_dirty h k) there)) (all_among (residents h) (residents h) (λ k e. e)) in
    ap least (ap (filter P) st.order ∙ filter_same P Q (residents h) all)

pub oldest_is : (h : History Entry) (c : Core) (r : ℕ) → StandsFor h c → core.oldest_of c r ≡ option_map (picked h) (oldest_of h r)
oldest_is h c r st =
    picks_are c.setup h (λ (p : Resident). p.key.region == r) (λ (k : Key). k.region == r) c.pages st.pages (all_weaker (PageStands c.setup h) (λ (p : Resident). (p.key.region == r) ≡ (p.key.region == r)) c.pages (λ p x. refl) st.pages)
    ∙ ap (λ (ks : List Key). option_map (picked h) (find (λ k. k.region == r) ks)) st.order

pub quiet_is : (h : History Entry) (c : Core) (r : ℕ) → StandsFor h c → r < regions c.setup → core.is_quiet c r ≡ is_quiet h r
quiet_is h c r st lt =
    ap (λ (ks : List Key). is_clear ks c.queue r && core.is_home c r) st.order
    ∙ (ap (λ (q : List Raise). is_clear (residents h) q r && core.is_home c r) st.queue
    ∙ ap (λ b. is_clear (residents h) (pending h) r && b) (home_is h c r st lt))

pub readers_agree : ReadersAgree
readers_agree = record {
  pages = λ h c k st page.
      let lt = page_region c.setup k page in
      record {
        present = present_is h c k st;
        guarded = guarded_is h c k st;
        dirty = dirty_is h c k st;
        pending = pending_is h c k st;
        reading = reading_is h c k st lt;
        writing = writing_is h c k st lt;
        read_fault = read_fault_is h c k st lt;
        hint_answer = hint_is h c k st lt;
      };
  regions = λ h c r st lt. record { home = home_is h c r st lt; closing = closing_is h c r st lt; unmapped = unmapped_is h c r st lt; quiet = quiet_is h c r st lt; oldest_of = oldest_is h c r st };
  stripe = λ h c st. record { resident = held_length h c st; free_frames = free_is h c st; pressure = pressure_is h c st; next = next_is h c st; pick = pick_is h c st; next_dirty = λ after. next_dirty_is h c after st };
}
