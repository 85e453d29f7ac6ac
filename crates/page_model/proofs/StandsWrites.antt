-- The events of a write: its start, its good end, its failure.
use Rattle.std.proofs.Common.{Bool, List, None, Option, Some, ap, arith, cond, false, inl, inr, is_some, length, max, nat_lt, not, refl, subst, sym, true, ℕ, ◌&&◌, ◌<◌, ◌==◌, ◌||◌, ◌∙◌, ◌∷◌, ◌≡◌, ◌≤◌}
use Rattle.std.proofs.lemmas.Bool.{and_from, and_left, and_parts, and_right, cases_Bool, cases_eq, cond-false, cond-true, eq-eqb, lt-ltb, ne_eqb, or_left, true_from_ne_false}
use Rattle.std.specs.List.{AllByRecursion}
use Rattle.histories.specs.Histories.{History}
use Rattle.page_base.specs.Lanes.{LaneSeen, told_at}
use Rattle.page_base.specs.Pages.{same}
use Rattle.page_base.specs.declared.keys.Key.{Key}
use Rattle.page_model.specs.declared.entry.Cause.{Cause}
use Rattle.page_model.specs.declared.entry.Cause.TheVariants.{Flush, Pressure, Unmap}
use Rattle.page_model.specs.declared.entry.Entry.{Entry}
use Rattle.page_model.specs.declared.entry.Entry.TheVariants.{StartWrite, WriteFailed, Written}
use Rattle.page_model.specs.Bits.{is_dirty, is_protected, is_some_and, opened_at, written_since}
use Rattle.page_model.specs.Core.{Core, Home, LanePlace, Reading, Resident, Writing}
use Rattle.page_model.specs.Events.{CanWriteFor, StartWriteStands, WriteFailedStands, WrittenStands}
use Rattle.page_model.specs.InFlight.{InFlight, before_of, before_start, in_flight}
use Rattle.page_model.specs.Legal.{IsLegal, MayWriteFor}
use Rattle.page_model.specs.Memory.{kept}
use Rattle.page_model.specs.Readers.{IsWriteOut}
use Rattle.page_model.specs.Residents.{is_resident}
use Rattle.page_model.specs.Setups.{Setup, regions}
use Rattle.page_model.specs.Stands.{HomeLane, PageStands, PlaceStands, StandsFor, page_key}
use Rattle.page_model.specs.Steps.{on_page, placed}
use Rattle.page_model.specs.StoreFaults.{last_fault}
use Rattle.page_model.specs.Tallies.{counted}
use Rattle.page_model.specs.Trips.{IsOpenWrite, OtherPages, Trip, WithPage}
use Rattle.page_model.proofs.Agreements.{closing_is, dirty_is, home_is, present_is, region_there}
use Rattle.page_model.proofs.Bits.{dirty_written, opened_since, writing_dirty}
use Rattle.page_model.proofs.Changes.{on_page_keys, on_region_length, regions_after}
use Rattle.page_model.proofs.Kept.{absent_clean}
use Rattle.page_model.proofs.Keys.{same-true, same_comm, same_self}
use Rattle.page_model.proofs.Known.{same_sym}
use Rattle.page_model.proofs.Members.{all_map}
use Rattle.page_model.proofs.Prefixes.{page_region}
use Rattle.page_model.proofs.Since.{AsBefore, as_before, flight_page, opened_below, protected_since}
use Rattle.page_model.proofs.StandsPages.{is_pick, present_page}
use Rattle.page_model.proofs.StandsReads.{counts_rise, max_below, write_may_end}

-- ---- a write starts

write_for : (h : History Entry) (c : Core) (k : Key) (why : Cause) → StandsFor h c → k.region < regions c.setup → CanWriteFor c k why → MayWriteFor c.setup h k why
write_for h c k Pressure st lt f = is_pick h c k st f
write_for h c k Unmap st lt f = sym (closing_is h c k.region st lt) ∙ f
write_for h c k Flush st lt f = f

page_guarded : (s : Setup) (h : History Entry) (o : ℕ) (k : Key) (why : Cause) (r : Resident) → PageStands s h r → PageStands s ((o, StartWrite k why) ∷ h) (cond (same r.key k) (record r { protected = true }) r)
page_guarded s h o k why r p = go (same r.key k) refl
  where
    go : (b : Bool) → same r.key k ≡ b → PageStands s ((o, StartWrite k why) ∷ h) (cond b (record r { protected = true }) r)
    go true e = (sym (or_left (same k r.key) (is_protected h r.key) (same_comm k r.key ∙ e)), p.1, p.2)
    go false e = (p.0 ∙ sym (ap (λ b. b || is_protected h r.key) (same_sym r.key k e)), p.1, p.2)

pub start_write_stands : StartWriteStands
start_write_stands h o c k why st can =
    let both = and_parts (is_resident h k) (is_dirty h k) (sym (dirty_is h c k st) ∙ can.dirty) in
    let page = present_page h c k st (present_is h c k st ∙ both.0) in
    let lt = page_region c.setup k page in
    record {
      fits = st.fits;
      legal = (
        st.legal,
        page,
        record {
          home = sym (home_is h c k.region st lt) ∙ can.home;
          resident = both.0;
          dirty = both.1;
          fits = write_for h c k why st lt can.fits;
        },
      );
      order = on_page_keys k (λ r. record r { protected = true }) c.pages (λ r. refl) ∙ st.order;
      pages = all_map (PageStands c.setup h) (PageStands c.setup ((o, StartWrite k why) ∷ h)) (λ (r : Resident). cond (same r.key k) (record r { protected = true }) r) c.pages (λ r p. page_guarded c.setup h o k why r p) st.pages;
      queue = st.queue;
      count = on_region_length c.regions k.region (placed (Writing k c.events)) ∙ st.count;
      regions = regions_after c.setup h o (StartWrite k why) k.region (placed (Writing k c.events)) c.regions refl st.regions (λ g f.
          let was = st.regions k.region g f in
          record {
            place = record { before = h; owner = o; is = cond-true (k.region == k.region) (Some (record { before = h; owner = o; key = k; writes = true })) (in_flight h k.region) (eq-eqb k.region k.region refl); at_is = st.events };
            closing = was.closing;
            unmapped = was.unmapped;
            read_faults = was.read_faults;
            sized = was.sized;
          });
      evicting = st.evicting;
      counts = st.counts;
      events = omega (arith, st.events);
    }

-- ---- what the end of a write knows

writing_place : (s : Setup) (h : History Entry) (r : ℕ) (place : LanePlace) (before : History Entry) (o : ℕ) (k : Key) → PlaceStands s h r place → in_flight h r ≡ Some (record { before = before; owner = o; key = k; writes = true })
    → (at : ℕ) × (place ≡ Writing k at) × (at ≡ length before)
writing_place s h r (Home lane) before o k st e = (let wrong : ⊥ = let none_out = st.0 in cc in absurd wrong)
writing_place s h r (Reading j at why) before o k st e =
    let mine : InFlight = record { before = st.0.before; owner = st.0.owner; key = j; writes = false } in
    let its : InFlight = record { before = before; owner = o; key = k; writes = true } in
    let one : mine ≡ its = let is = st.0.is in cc in
    let no : false ≡ true = ap (λ (x : InFlight). x.writes) one in
    let wrong : ⊥ = cc in
    absurd wrong
writing_place s h r (Writing j at) before o k st e =
    let mine : InFlight = record { before = st.before; owner = st.owner; key = j; writes = true } in
    let its : InFlight = record { before = before; owner = o; key = k; writes = true } in
    let one : mine ≡ its = let is = st.is in cc in
    (at, ap (λ (x : Key). Writing x at) (ap (λ (x : InFlight). x.key) one), st.at_is ∙ ap (λ (x : InFlight). length x.before) one)

-- a page that is being written is resident
pub written_resident : (s : Setup) (h : History Entry) (k : Key) → IsLegal s h → is_dirty h k ≡ true → is_resident h k ≡ true
written_resident s h k l d = true_from_ne_false (is_resident h k) (λ n. let clean : is_dirty h k ≡ false = absent_clean s h k l n in cc)

pub write_out : (h : History Entry) (o : ℕ) (c : Core) (t : Trip) → StandsFor h c → IsOpenWrite c.setup h o t → IsWriteOut c t
write_out h o c t st is_open =
    let flight : InFlight = record { before = is_open.before; owner = o; key = t.key; writes = true } in
    let page = flight_page c.setup h t.key.region flight st.legal is_open.is in
    let x = region_there h c t.key.region st (page_region c.setup t.key page) in
    let place = writing_place c.setup h t.key.region x.0.place is_open.before o t.key (st.regions t.key.region x.0 x.1).place is_open.is in
    let dirty : is_dirty h t.key ≡ true = writing_dirty c.setup h t.key flight st.legal is_open.is refl refl in
    let resident = written_resident c.setup h t.key st.legal dirty in
    record {
      page = page;
      dirty = dirty_is h c t.key st ∙ and_from (is_resident h t.key) (is_dirty h t.key) resident dirty;
      region = x.0;
      is = x.1;
      out = place.1 ∙ ap (λ n. Writing t.key n) (place.2 ∙ sym is_open.at_is);
    }

-- ---- a good end

-- a page that was opened below the start of the write is clean
clean_by : (f : ℕ → Bool) (y : Option ℕ) (at : ℕ) → ((c : ℕ) → y ≡ Some c → c < at) → is_some_and (λ c. not (nat_lt c at || f c)) y ≡ false
clean_by f None at below = refl
clean_by f (Some c) at below = ap not (or_left (nat_lt c at) (f c) (lt-ltb c at (below c refl)))

written_bit : (s : Setup) (h : History Entry) (o : ℕ) (k : Key) (before : History Entry) (bytes : List ℕ) → IsLegal s h → in_flight h k.region ≡ Some (record { before = before; owner = o; key = k; writes = true })
    → is_dirty ((o, Written k (length before) bytes) ∷ h) k ≡ (is_dirty h k && not (is_protected h k))
written_bit s h o k before bytes l e =
    let flight : InFlight = record { before = before; owner = o; key = k; writes = true } in
    let dirty : is_dirty h k ≡ true = writing_dirty s h k flight l e refl refl in
    let mine : is_dirty ((o, Written k (length before) bytes) ∷ h) k ≡ is_some_and (λ c. not (nat_lt c (length before) || written_since h k c)) (opened_at h k) =
    ap (λ b. is_some_and (λ c. not (b && nat_lt c (length before) || written_since h k c)) (opened_at h k)) (same_self k) in
    mine ∙ elim (cases_Bool (is_protected h k)) [
      | inl p ↦
          let since : opened_at h k ≡ opened_at before k = protected_since s h k flight l e refl refl p in
          clean_by (written_since h k) (opened_at h k) (length before) (λ c is. opened_below before k c (sym since ∙ is)) ∙ sym (ap (λ b. is_dirty h k && not b) p ∙ and_right (is_dirty h k) false refl)
      | inr n ↦
          let later = opened_since s h k flight l e refl refl n in
          dirty_written true (written_since h k) (opened_at h k) (length before) (λ x. later) dirty ∙ sym (ap (λ b. is_dirty h k && not b) n ∙ and_from (is_dirty h k) true dirty refl)
    ]

other_written : (b : Bool) (f : ℕ → Bool) (y : Option ℕ) (at : ℕ) → b ≡ false → is_some_and (λ c. not (f c)) y ≡ is_some_and (λ c. not (b && nat_lt c at || f c)) y
other_written b f y at e = rw e refl

page_written : (s : Setup) (h : History Entry) (o : ℕ) (k : Key) (before : History Entry) (bytes : List ℕ) (r : Resident) → IsLegal s h → in_flight h k.region ≡ Some (record { before = before; owner = o; key = k; writes = true })
    → PageStands s h r → PageStands s ((o, Written k (length before) bytes) ∷ h) (cond (same r.key k) (record r { dirty = r.dirty && not r.protected }) r)
page_written s h o k before bytes r l f p = go (same r.key k) refl
  where
    go : (b : Bool) → same r.key k ≡ b → PageStands s ((o, Written k (length before) bytes) ∷ h) (cond b (record r { dirty = r.dirty && not r.protected }) r)
    go true e =
        let rk : r.key ≡ k = same-true r.key k e in
        let bit : (is_dirty h r.key && not (is_protected h r.key)) ≡ is_dirty ((o, Written k (length before) bytes) ∷ h) r.key =
        subst (λ (j : Key). (is_dirty h j && not (is_protected h j)) ≡ is_dirty ((o, Written k (length before) bytes) ∷ h) j) (sym rk) (sym (written_bit s h o k before bytes l f)) in
        (p.0, ap (λ b. b && not r.protected) p.1 ∙ (ap (λ b. is_dirty h r.key && not b) p.0 ∙ bit), p.2)
    go false e =
        let n : same k r.key ≡ false = same_sym r.key k e in
        (p.0, p.1 ∙ other_written (same k r.key) (written_since h r.key) (opened_at h r.key) (length before) n, p.2)

-- the lane that comes home from a good write
written_home : (s : Setup) (h : History Entry) (o : ℕ) (k : Key) (at : ℕ) (bytes : List ℕ) (before : History Entry) (taken lane : LaneSeen) → HomeLane s before k.region taken → WithPage k.page bytes taken lane
    → AsBefore s h k.region (record { before = before; owner = o; key = k; writes = true }) → HomeLane s ((o, Written k at bytes) ∷ h) k.region lane
written_home s h o k at bytes before taken lane was l since = record {
  origin = was.origin ∙ ap Some (sym l.origin);
  told = λ p page told. elim (cases_eq p k.page) [
    | inl e ↦
        let t : is_some (told_at taken.told k.page) ≡ true = rw (← e) (was.told p page told) in
        let w : told_at lane.told p ≡ Some bytes = rw e (l.page t) in
        ap is_some w
    | inr ne ↦ ap is_some (l.others p ne) ∙ was.told p page told
  ];
  kept = λ p b page told e. elim (cases_eq p k.page) [
    | inl pk ↦
        let t : is_some (told_at taken.told k.page) ≡ true = rw (← pk) (was.told p page told) in
        let w : told_at lane.told p ≡ Some bytes = rw pk (l.page t) in
        let is : same k (page_key k.region p) ≡ true = and_from (k.page == p) (k.region == k.region) (eq-eqb k.page p (sym pk)) (eq-eqb k.region k.region refl) in
        w ∙ (sym (cond-true (same k (page_key k.region p)) (Some bytes) (kept s h (page_key k.region p)) is) ∙ e)
    | inr ne ↦
        let n : same k (page_key k.region p) ≡ false = and_left (k.page == p) (k.region == k.region) (ne_eqb k.page p (λ x. ne (sym x))) in
        l.others p ne ∙ was.kept p b page told (sym (since.keeps (page_key k.region p) refl) ∙ (sym (cond-false (same k (page_key k.region p)) (Some bytes) (kept s h (page_key k.region p)) n) ∙ e))
  ];
  count = let le = was.count in let up = l.count in omega (arith, since.fault);
}

pub written_stands : WrittenStands
written_stands h o c t bytes lane st is_open taken with_page =
    let k : Key = t.key in
    let flight : InFlight = record { before = is_open.before; owner = o; key = k; writes = true } in
    let page = flight_page c.setup h k.region flight st.legal is_open.is in
    let since = as_before c.setup h k.region flight is_open.is in
    let at_before : before_start h k.region ≡ is_open.before = ap before_of is_open.is in
    let P : ℕ → Type 0 = λ n. AllByRecursion (PageStands c.setup ((o, Written k n bytes) ∷ h)) (on_page k (λ r. record r { dirty = r.dirty && not r.protected }) c.pages) in
    record {
      fits = st.fits;
      legal = (
        st.legal,
        page,
        record {
          ends = write_may_end h o c.setup t is_open;
          place = is_open.at_is ∙ ap (λ (g : History Entry). length g) (sym at_before);
          taken = taken;
        },
      );
      order = on_page_keys k (λ r. record r { dirty = r.dirty && not r.protected }) c.pages (λ r. refl) ∙ st.order;
      pages = subst P (sym is_open.at_is) (all_map (PageStands c.setup h) (PageStands c.setup ((o, Written k (length is_open.before) bytes) ∷ h)) (λ (r : Resident). cond (same r.key k) (record r { dirty = r.dirty && not r.protected }) r) c.pages (λ r p. page_written c.setup h o k is_open.before bytes r st.legal is_open.is p) st.pages);
      queue = st.queue;
      count = on_region_length c.regions k.region (placed (Home lane)) ∙ st.count;
      regions = regions_after c.setup h o (Written k t.at bytes) k.region (placed (Home lane)) c.regions refl st.regions (λ g f.
          let was = st.regions k.region g f in
          record {
            place = (cond-true (k.region == k.region) None (in_flight h k.region) (eq-eqb k.region k.region refl), written_home c.setup h o k t.at bytes is_open.before t.taken lane is_open.taken with_page since);
            closing = was.closing;
            unmapped = was.unmapped;
            read_faults = was.read_faults;
            sized = was.sized;
          });
      evicting = st.evicting;
      counts = ap (counted (Written k t.at bytes)) st.counts;
      events = omega (arith, st.events);
    }

-- ---- a failed write

-- the lane that comes home from a failed write
spoilt_home : (s : Setup) (h : History Entry) (o : ℕ) (k : Key) (before : History Entry) (taken lane : LaneSeen) → HomeLane s before k.region taken → OtherPages k.page taken lane → taken.count ≤ lane.count
    → AsBefore s h k.region (record { before = before; owner = o; key = k; writes = true }) → HomeLane s ((o, WriteFailed k lane.count) ∷ h) k.region lane
spoilt_home s h o k before taken lane was l le since = record {
  origin = was.origin ∙ ap Some (sym l.origin);
  told = λ p page told. elim (cases_eq p k.page) [
    | inl e ↦
        let t : is_some (told_at taken.told k.page) ≡ true = rw (← e) (was.told p page told) in
        rw e (l.page t)
    | inr ne ↦ ap is_some (l.others p ne) ∙ was.told p page told
  ];
  kept = λ p b page told e. elim (cases_eq p k.page) [
    | inl pk ↦
        let is : same k (page_key k.region p) ≡ true = and_from (k.page == p) (k.region == k.region) (eq-eqb k.page p (sym pk)) (eq-eqb k.region k.region refl) in
        let unknown : kept s ((o, WriteFailed k lane.count) ∷ h) (page_key k.region p) ≡ None = cond-true (same k (page_key k.region p)) None (kept s h (page_key k.region p)) is in
        absurd cc
    | inr ne ↦
        let n : same k (page_key k.region p) ≡ false = and_left (k.page == p) (k.region == k.region) (ne_eqb k.page p (λ x. ne (sym x))) in
        l.others p ne ∙ was.kept p b page told (sym (since.keeps (page_key k.region p) refl) ∙ (sym (cond-false (same k (page_key k.region p)) None (kept s h (page_key k.region p)) n) ∙ e))
  ];
  count =
      let newest : last_fault s ((o, WriteFailed k lane.count) ∷ h) k.region ≡ max lane.count (last_fault s h k.region) = cond-true (k.region == k.region) (max lane.count (last_fault s h k.region)) (last_fault s h k.region) (eq-eqb k.region k.region refl) in
      let below = was.count in
      rw newest (max_below lane.count (last_fault s h k.region) lane.count (omega arith) (omega (arith, since.fault)));
}

pub write_failed_stands : WriteFailedStands
write_failed_stands h o c t lane st is_open others rose small =
    let k : Key = t.key in
    let flight : InFlight = record { before = is_open.before; owner = o; key = k; writes = true } in
    let page = flight_page c.setup h k.region flight st.legal is_open.is in
    let since = as_before c.setup h k.region flight is_open.is in
    let last : last_fault c.setup h k.region ≤ t.taken.count = let le = is_open.taken.count in omega (arith, since.fault) in
    record {
      fits = st.fits;
      legal = (st.legal, page, (write_may_end h o c.setup t is_open, counts_rise (last_fault c.setup h k.region) t.taken.count lane.count last rose small));
      order = st.order;
      pages = st.pages;
      queue = st.queue;
      count = on_region_length c.regions k.region (placed (Home lane)) ∙ st.count;
      regions = regions_after c.setup h o (WriteFailed k lane.count) k.region (placed (Home lane)) c.regions refl st.regions (λ g f.
          let was = st.regions k.region g f in
          record {
            place = (cond-true (k.region == k.region) None (in_flight h k.region) (eq-eqb k.region k.region refl), spoilt_home c.setup h o k is_open.before t.taken lane is_open.taken others others.count since);
            closing = was.closing;
            unmapped = was.unmapped;
            read_faults = was.read_faults;
            sized = was.sized;
          });
      evicting = st.evicting;
      counts = ap (counted (WriteFailed k lane.count)) st.counts;
      events = omega (arith, st.events);
    }
