-- The events of a read: its start, its fill, its failure.
use Rattle.std.proofs.Common.{Bool, List, None, Option, Some, [], ap, arith, cond, false, find, inl, inr, is_some, length, max, min, nat_lt, not, refl, slice_get, slice_index, slice_set, subst, sym, true, ℕ, ◌&&◌, ◌++◌, ◌+◌, ◌-◌, ◌<◌, ◌==◌, ◌^◌, ◌||◌, ◌∙◌, ◌∷◌, ◌≡◌, ◌≤◌}
use Rattle.std.proofs.lemmas.Bool.{OnTrue_from, and_from, and_left, and_parts, cases_eq, cases_lt, cond-false, cond-true, eq-eqb, false_from_ne_true, lt-ltb, ltb-true, ne_eqb, or_left, or_right}
use Rattle.std.proofs.lemmas.List.{get_or-set_other, get_or-set_same, map-append}
use Rattle.std.specs.Bool.{OnTrue, beq}
use Rattle.std.specs.List.{AllByRecursion}
use Rattle.histories.specs.Histories.{History}
use Rattle.page_base.specs.Lanes.{LaneSeen, told_at}
use Rattle.page_base.specs.Pages.{same, stripe_of}
use Rattle.page_base.specs.declared.keys.Key.{Key}
use Rattle.page_base.specs.declared.keys.Raise.{Raise}
use Rattle.page_base.specs.declared.keys.RegionShape.{RegionShape}
use Rattle.page_base.specs.declared.keys.Why.{Why}
use Rattle.page_model.specs.declared.entry.Entry.{Entry}
use Rattle.page_model.specs.declared.entry.Entry.TheVariants.{Filled, ReadFailed, StartRead}
use Rattle.page_model.specs.Bits.{is_protected, is_some_and, opened_at, written_since}
use Rattle.page_model.specs.Core.{Core, Home, LanePlace, Reading, Resident, Writing, why_of_place, why_or_read, why_out, why_pending}
use Rattle.page_model.specs.Events.{FilledStands, ReadFailedStands, StartReadStands}
use Rattle.page_model.specs.Faults.{is_pending, is_waiting, is_write, last_why, pending, served}
use Rattle.page_model.specs.InFlight.{InFlight, MayEnd, in_flight, is_own, is_read_of, is_reading}
use Rattle.page_model.specs.Legal.{IsLegal}
use Rattle.page_model.specs.Memory.{flat, kept}
use Rattle.page_model.specs.Readers.{IsReadOut, ReadyToRead}
use Rattle.page_model.specs.Residents.{is_resident}
use Rattle.page_model.specs.Serving.{is_servable, next_of}
use Rattle.page_model.specs.Setups.{Setup, has_page, is_page_of, is_told, pages_of}
use Rattle.page_model.specs.Stands.{HomeLane, PageStands, PlaceStands, StandsFor, page_key}
use Rattle.page_model.specs.Steps.{filled_page, placed, read_missed}
use Rattle.page_model.specs.StoreFaults.{last_fault, read_fault}
use Rattle.page_model.specs.Tallies.{counted}
use Rattle.page_model.specs.Trips.{IsOpenRead, IsOpenWrite, SameLane, Trip}
use Rattle.page_model.proofs.Agreements.{free_is, held_length, home_is, next_is, pending_is, present_is, region_there}
use Rattle.page_model.proofs.Bits.{written_below}
use Rattle.page_model.proofs.Changes.{all_fail, on_region_length, regions_after, slice_set_length}
use Rattle.page_model.proofs.Kept.{absent_kept}
use Rattle.page_model.proofs.Keys.{same-true, same_self}
use Rattle.page_model.proofs.Known.{pending_pages, pending_whys, same_sym}
use Rattle.page_model.proofs.Lists.{find_passes, found_any}
use Rattle.page_model.proofs.Members.{all_both, all_found, all_push, is_there, some_found}
use Rattle.page_model.proofs.Nexts.{read_room, read_served}
use Rattle.page_model.proofs.Prefixes.{page_region}
use Rattle.page_model.proofs.Raises.{apart, read_waits}
use Rattle.page_model.proofs.Since.{as_before, flight_page}
use Rattle.page_model.specs.Core as core
use Rattle.page_model.specs.declared.seen.Next.TheVariants as serve

-- ---- what a read that starts knows

pub read_ready : (h : History Entry) (c : Core) (k : Key) → StandsFor h c → core.next c ≡ serve.Read k → ReadyToRead h c k
read_ready h c k st e =
    let is : next_of c.setup h ≡ serve.Read k = sym (next_is h c st) ∙ e in
    let x = read_served c.setup h k is in
    let page : has_page c.setup k ≡ true = rw (← x.0.key) (all_found (λ (p : Raise). has_page c.setup p.key ≡ true) (is_servable c.setup h) (pending h) x.0.raise x.0.found (pending_pages c.setup h st.legal)) in
    let room = read_room c.setup h k is in
    let absent : is_resident h k ≡ false = false_from_ne_true (is_resident h k) (λ r. (apart c.setup h k st.legal).wait_absent (read_waits c.setup h k is) r) in
    let waits : is_pending h k ≡ true = found_any (is_servable c.setup h) (λ (p : Raise). same p.key k) (pending h) x.0.raise x.0.found (rw (x.0.key) (same_self k)) in
    record {
      page = page;
      absent = present_is h c k st ∙ absent;
      pending = pending_is h c k st ∙ waits;
      free = rw (free_is h c st) (room.0);
      home = home_is h c k.region st (page_region c.setup k page) ∙ room.1;
    }

-- the why of the page's pending fault is that of its last raise
why_found : (f : Key → Why) (k : Key) (q : List Raise) → AllByRecursion (λ (p : Raise). p.why ≡ f p.key) q → is_waiting k q ≡ true → why_or_read (find (λ (p : Raise). same p.key k) q) ≡ f k
why_found f k q a w =
    let x = is_there (find (λ (p : Raise). same p.key k) q) (some_found (λ (p : Raise). same p.key k) q ∙ w) in
    let why : x.0.why ≡ f x.0.key = all_found (λ (p : Raise). p.why ≡ f p.key) (λ (p : Raise). same p.key k) q x.0 x.1 a in
    let key : x.0.key ≡ k = same-true x.0.key k (find_passes (λ (p : Raise). same p.key k) q x.0 x.1) in
    ap why_or_read x.1 ∙ (why ∙ ap f key)

pub start_read_stands : StartReadStands
start_read_stands h o c k st e =
    let is : next_of c.setup h ≡ serve.Read k = sym (next_is h c st) ∙ e in
    let ready = read_ready h c k st e in
    let room = read_room c.setup h k is in
    let whys : AllByRecursion (λ (p : Raise). p.why ≡ last_why h p.key) c.queue = subst (λ (q : List Raise). AllByRecursion (λ (p : Raise). p.why ≡ last_why h p.key) q) (sym st.queue) (pending_whys c.setup h st.legal) in
    record {
      fits = st.fits;
      legal = (st.legal, ready.page, (room.1, is));
      order = st.order;
      pages = st.pages;
      queue = ap (served k) st.queue;
      count = on_region_length c.regions k.region (placed (Reading k c.events (why_pending c k))) ∙ st.count;
      regions = regions_after c.setup h o (StartRead k) k.region (placed (Reading k c.events (why_pending c k))) c.regions refl st.regions (λ g f.
          let was = st.regions k.region g f in
          record {
            place = (
              record { before = h; owner = o; is = cond-true (k.region == k.region) (Some (record { before = h; owner = o; key = k; writes = false })) (in_flight h k.region) (eq-eqb k.region k.region refl); at_is = st.events },
              why_found (last_why h) k c.queue whys ready.pending,
            );
            closing = was.closing;
            unmapped = was.unmapped;
            read_faults = was.read_faults;
            sized = was.sized;
          });
      evicting = st.evicting;
      counts = st.counts;
      events = omega (arith, st.events);
    }

-- ---- what the end of a read knows

-- the region of an open read is out for it
reading_place : (s : Setup) (h : History Entry) (r : ℕ) (place : LanePlace) (before : History Entry) (o : ℕ) (k : Key) → PlaceStands s h r place → in_flight h r ≡ Some (record { before = before; owner = o; key = k; writes = false })
    → (at : ℕ) × (why : Why) × (place ≡ Reading k at why) × (at ≡ length before) × (why ≡ last_why h k)
reading_place s h r (Home lane) before o k st e = (let wrong : ⊥ = let none_out = st.0 in cc in absurd wrong)
reading_place s h r (Reading j at why) before o k st e =
    let mine : InFlight = record { before = st.0.before; owner = st.0.owner; key = j; writes = false } in
    let its : InFlight = record { before = before; owner = o; key = k; writes = false } in
    let one : mine ≡ its = let is = st.0.is in cc in
    let jk : j ≡ k = ap (λ (x : InFlight). x.key) one in
    (at, why, ap (λ (x : Key). Reading x at why) jk, st.0.at_is ∙ ap (λ (x : InFlight). length x.before) one, st.1 ∙ ap (last_why h) jk)
reading_place s h r (Writing j at) before o k st e =
    let mine : InFlight = record { before = st.before; owner = st.owner; key = j; writes = true } in
    let its : InFlight = record { before = before; owner = o; key = k; writes = false } in
    let one : mine ≡ its = let is = st.is in cc in
    let no : true ≡ false = ap (λ (x : InFlight). x.writes) one in
    let wrong : ⊥ = cc in
    absurd wrong

pub read_out : (h : History Entry) (o : ℕ) (c : Core) (t : Trip) → StandsFor h c → IsOpenRead c.setup h o t → IsReadOut c t
read_out h o c t st is_open =
    let page = flight_page c.setup h t.key.region (record { before = is_open.before; owner = o; key = t.key; writes = false }) st.legal is_open.is in
    let x = region_there h c t.key.region st (page_region c.setup t.key page) in
    let place = reading_place c.setup h t.key.region x.0.place is_open.before o t.key (st.regions t.key.region x.0 x.1).place is_open.is in
    let reading : is_reading h t.key ≡ true = ap (λ f. is_read_of f t.key) is_open.is ∙ and_from (same t.key t.key) true (same_self t.key) refl in
    let absent : is_resident h t.key ≡ false = false_from_ne_true (is_resident h t.key) (λ r. (apart c.setup h t.key st.legal).read_absent reading r) in
    record {
      page = page;
      absent = present_is h c t.key st ∙ absent;
      region = x.0;
      is = x.1;
      why = place.1;
      out = place.2 ∙ ap (λ n. Reading t.key n place.1) (place.3 ∙ sym is_open.at_is);
    }

why_out_is : (h : History Entry) (o : ℕ) (c : Core) (t : Trip) → StandsFor h c → IsOpenRead c.setup h o t → why_out c t.key ≡ last_why h t.key
why_out_is h o c t st is_open =
    let page = flight_page c.setup h t.key.region (record { before = is_open.before; owner = o; key = t.key; writes = false }) st.legal is_open.is in
    let x = region_there h c t.key.region st (page_region c.setup t.key page) in
    let place = reading_place c.setup h t.key.region x.0.place is_open.before o t.key (st.regions t.key.region x.0 x.1).place is_open.is in
    ap why_of_place x.1 ∙ (ap (λ p. why_of_place (Some (record x.0 { place = p }))) place.2 ∙ place.4)

may_end : (h : History Entry) (o : ℕ) (k : Key) (writes : Bool) (before : History Entry) → in_flight h k.region ≡ Some (record { before = before; owner = o; key = k; writes = writes }) → beq writes writes ≡ true → MayEnd h o k writes
may_end h o k writes before e b = ap (λ t. is_own t o k writes) e ∙ and_from (o == o) (same k k && beq writes writes) (eq-eqb o o refl) (and_from (same k k) (beq writes writes) (same_self k) b)

pub read_may_end : (h : History Entry) (o : ℕ) (s : Setup) (t : Trip) → IsOpenRead s h o t → MayEnd h o t.key false
read_may_end h o s t is_open = may_end h o t.key false is_open.before is_open.is refl

pub write_may_end : (h : History Entry) (o : ℕ) (s : Setup) (t : Trip) → IsOpenWrite s h o t → MayEnd h o t.key true
write_may_end h o s t is_open = may_end h o t.key true is_open.before is_open.is refl

-- a lane that comes home as it was taken
same_home : (s : Setup) (h g : History Entry) (r : ℕ) (taken lane : LaneSeen) → HomeLane s g r taken → SameLane taken lane → ((k : Key) → k.region ≡ r → kept s h k ≡ kept s g k) → last_fault s h r ≤ lane.count → HomeLane s h r lane
same_home s h g r taken lane was l keeps count = record {
  origin = was.origin ∙ ap Some (sym l.origin);
  told = λ p page told. ap (λ x. is_some (told_at x p)) l.told ∙ was.told p page told;
  kept = λ p bytes page told e. ap (λ x. told_at x p) l.told ∙ was.kept p bytes page told (sym (keeps (page_key r p) refl) ∙ e);
  count = count;
}

-- ---- a fill

filled_dirty : (b w : Bool) (n : ℕ) (y : Option ℕ) (f : ℕ → Bool) → b ≡ true → f n ≡ false → w ≡ is_some_and (λ c. not (f c)) (cond b (cond w (Some n) None) y)
filled_dirty b true n y f e fresh = rw e (sym (ap not fresh))
filled_dirty b false n y f e fresh = rw e refl

-- the page that was read
page_filled : (s : Setup) (h : History Entry) (o : ℕ) (k : Key) (why : Why) (bytes : List ℕ) → IsLegal s h → why ≡ last_why h k → OnTrue (is_told s k) (bytes ≡ flat s h k) → PageStands s ((o, Filled k) ∷ h) (filled_page k why bytes)
page_filled s h o k why bytes l w b = (
  ap (λ x. not (is_write x)) w ∙ sym (cond-true (same k k) (not (is_write (last_why h k))) (is_protected h k) (same_self k)),
  ap is_write w ∙ filled_dirty (same k k) (is_write (last_why h k)) (length h) (opened_at h k) (written_since h k) (same_self k) (written_below s h k (length h) l (omega arith)),
  b,
)

-- a page that was there before
page_before : (s : Setup) (h : History Entry) (o : ℕ) (k : Key) (r : Resident) → PageStands s h r → same r.key k ≡ false → PageStands s ((o, Filled k) ∷ h) r
page_before s h o k r p n =
    let m : same k r.key ≡ false = same_sym r.key k n in (
      p.0 ∙ sym (cond-false (same k r.key) (not (is_write (last_why h r.key))) (is_protected h r.key) m),
      p.1 ∙ sym (ap (is_some_and (λ c. not (written_since h r.key c))) (cond-false (same k r.key) (cond (is_write (last_why h r.key)) (Some (length h)) None) (opened_at h r.key) m)),
      p.2,
    )

pub filled_stands : FilledStands
filled_stands h o c t bytes lane st is_open lane_same holds =
    let k : Key = t.key in
    let flight : InFlight = record { before = is_open.before; owner = o; key = k; writes = false } in
    let page = flight_page c.setup h k.region flight st.legal is_open.is in
    let known = read_out h o c t st is_open in
    let gone : is_resident h k ≡ false = sym (present_is h c k st) ∙ known.absent in
    let since = as_before c.setup h k.region flight is_open.is in
    let others : AllByRecursion (λ (r : Resident). same r.key k ≡ false) c.pages =
    all_fail (λ (r : Resident). same r.key k) c.pages (sym (some_found (λ (r : Resident). same r.key k) c.pages) ∙ known.absent) in
    let carried : OnTrue (is_told c.setup k) (bytes ≡ flat c.setup h k) = OnTrue_from (is_told c.setup k) (bytes ≡ flat c.setup h k) (λ told.
    holds (flat c.setup h k) (is_open.taken.kept k.page (flat c.setup h k) page told (sym (since.keeps k refl) ∙ absent_kept c.setup h k st.fits st.legal page told gone))) in
    record {
      fits = st.fits;
      legal = (st.legal, page, read_may_end h o c.setup t is_open);
      order = map-append (λ (r : Resident). r.key) c.pages (filled_page k (why_out c k) bytes ∷ []) ∙ ap (λ (ks : List Key). ks ++ k ∷ []) st.order;
      pages = all_push (PageStands c.setup ((o, Filled k) ∷ h)) c.pages (filled_page k (why_out c k) bytes)
          (all_both (PageStands c.setup h) (λ (r : Resident). same r.key k ≡ false) (PageStands c.setup ((o, Filled k) ∷ h)) c.pages (λ r p n. page_before c.setup h o k r p n) st.pages others)
          (page_filled c.setup h o k (why_out c k) bytes st.legal (why_out_is h o c t st is_open) carried);
      queue = st.queue;
      count = on_region_length c.regions k.region (placed (Home lane)) ∙ st.count;
      regions = regions_after c.setup h o (Filled k) k.region (placed (Home lane)) c.regions refl st.regions (λ g f.
          let was = st.regions k.region g f in
          record {
            place = (
              cond-true (k.region == k.region) None (in_flight h k.region) (eq-eqb k.region k.region refl),
              same_home c.setup ((o, Filled k) ∷ h) is_open.before k.region t.taken lane is_open.taken lane_same since.keeps (let le = lane_same.count in let was_count = is_open.taken.count in omega (arith, since.fault)),
            );
            closing = was.closing;
            unmapped = was.unmapped;
            read_faults = was.read_faults;
            sized = was.sized;
          });
      evicting = rw (held_length h c st, st.evicting) refl;
      counts = ap (counted (Filled k)) st.counts;
      events = omega (arith, st.events);
    }

-- ---- a failed read

-- a count that rose is above every earlier fault, or at its end
pub counts_rise : (last before now : ℕ) → last ≤ before → min (before + 1) (2 ^ 64 - 1) ≤ now → now < 2 ^ 64 → (nat_lt last now || now == 18446744073709551615) ≡ true
counts_rise last before now le rose small = elim (cases_lt last now) [
  | inl lt ↦ or_left (nat_lt last now) (now == 18446744073709551615) (lt-ltb last now lt)
  | inr ge ↦ or_right (nat_lt last now) (now == 18446744073709551615) (eq-eqb now 18446744073709551615 (omega arith))
]

pub max_below : (n x m : ℕ) → n ≤ m → x ≤ m → max n x ≤ m
max_below n x m a b = omega arith

-- the number of the page's last failed read
fault_set : (xs : List ℕ) (i n p : ℕ) (k : Key) (f : ℕ → ℕ) → i < length xs → k.page ≡ i → ((p : ℕ) → slice_index xs p ≡ f p) → slice_index (slice_set xs i n) p ≡ cond ((k.page == p) && (k.region == k.region)) n (f p)
fault_set xs i n p k f lt ki is = elim (cases_eq i p) [
  | inl e ↦
      let t : ((k.page == p) && (k.region == k.region)) ≡ true = and_from (k.page == p) (k.region == k.region) (eq-eqb k.page p (ki ∙ e)) (eq-eqb k.region k.region refl) in
      let here : slice_index (slice_set xs i n) p ≡ n = rw (← e) (get_or-set_same xs i n 0 lt) in
      here ∙ sym (cond-true ((k.page == p) && (k.region == k.region)) n (f p) t)
  | inr ne ↦
      let t : ((k.page == p) && (k.region == k.region)) ≡ false = and_left (k.page == p) (k.region == k.region) (ne_eqb k.page p (λ e. ne (sym ki ∙ e))) in
      let there : slice_index (slice_set xs i n) p ≡ slice_index xs p = get_or-set_other xs i p n 0 (λ e. ne (sym e)) in
      there ∙ (is p ∙ sym (cond-false ((k.page == p) && (k.region == k.region)) n (f p) t))
]

-- a page of the stripe is one of its region's pages
page_within : (s : Setup) (k : Key) → has_page s k ≡ true → k.page < pages_of (slice_get s.shapes k.region)
page_within s k e = go (slice_get s.shapes k.region) e
  where
    go : (o : Option RegionShape) → is_page_of s o k ≡ true → k.page < pages_of o
    go None f = absurd cc
    go (Some shape) f = ltb-true k.page shape.pages (and_parts (nat_lt k.page shape.pages) (stripe_of s.stripes shape.group k.region k.page == s.number) f).0

pub read_failed_stands : ReadFailedStands
read_failed_stands h o c t lane st is_open lane_same rose small =
    let k : Key = t.key in
    let flight : InFlight = record { before = is_open.before; owner = o; key = k; writes = false } in
    let page = flight_page c.setup h k.region flight st.legal is_open.is in
    let since = as_before c.setup h k.region flight is_open.is in
    let last : last_fault c.setup h k.region ≤ t.taken.count = let le = is_open.taken.count in omega (arith, since.fault) in
    record {
      fits = st.fits;
      legal = (st.legal, page, (read_may_end h o c.setup t is_open, counts_rise (last_fault c.setup h k.region) t.taken.count lane.count last rose small));
      order = st.order;
      pages = st.pages;
      queue = st.queue;
      count = on_region_length c.regions k.region (read_missed k lane lane.count) ∙ st.count;
      regions = regions_after c.setup h o (ReadFailed k lane.count) k.region (read_missed k lane lane.count) c.regions refl st.regions (λ g f.
          let was = st.regions k.region g f in
          let within : k.page < length g.read_faults = rw (was.sized) (page_within c.setup k page) in
          let newest : last_fault c.setup ((o, ReadFailed k lane.count) ∷ h) k.region ≡ max lane.count (last_fault c.setup h k.region) = cond-true (k.region == k.region) (max lane.count (last_fault c.setup h k.region)) (last_fault c.setup h k.region) (eq-eqb k.region k.region refl) in
          record {
            place = (
              cond-true (k.region == k.region) None (in_flight h k.region) (eq-eqb k.region k.region refl),
              same_home c.setup ((o, ReadFailed k lane.count) ∷ h) is_open.before k.region t.taken lane is_open.taken lane_same since.keeps (let le = lane_same.count in rw newest (max_below lane.count (last_fault c.setup h k.region) lane.count (omega arith) (omega arith))),
            );
            closing = was.closing;
            unmapped = was.unmapped;
            read_faults = λ p. fault_set g.read_faults k.page lane.count p k (λ x. read_fault h (page_key k.region x)) within refl was.read_faults;
            sized = slice_set_length g.read_faults k.page lane.count ∙ was.sized;
          });
      evicting = st.evicting;
      counts = ap (counted (ReadFailed k lane.count)) st.counts;
      events = omega (arith, st.events);
    }
