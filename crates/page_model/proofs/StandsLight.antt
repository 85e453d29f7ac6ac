-- The events that change no page's bits and no lane: a stripe that is made, a load, a fault raised or dropped, a hint, and
-- the closing and unmapping of a region.
use Rattle.std.proofs.Common.{List, Some, [], ap, arith, false, find, is_some, length, nat_le, nat_lt, option_map, refl, replicate, slice_get, slice_index, slice_range, subst, suc, sym, true, zero, ℕ, ◌++◌, ◌+◌, ◌<◌, ◌==◌, ◌||◌, ◌∙◌, ◌∷◌, ◌≡◌}
use Rattle.std.proofs.lemmas.Bool.{OnTrue_at, OnTrue_from, and_parts, cond-false, eq-eqb, false_from_ne_true, le-leb, leb-false, lt-ltb, or_left, or_parts}
use Rattle.std.proofs.lemmas.List.{length-replicate}
use Rattle.std.specs.List.{AllByRecursion, list_any}
use Rattle.histories.specs.Histories.{History}
use Rattle.page_base.specs.Lanes.{LaneSeen}
use Rattle.page_base.specs.Pages.{same}
use Rattle.page_base.specs.declared.keys.Key.{Key}
use Rattle.page_base.specs.declared.keys.Raise.{Raise}
use Rattle.page_base.specs.declared.keys.RegionShape.{RegionShape}
use Rattle.page_base.specs.declared.keys.Why.{Why}
use Rattle.page_base.specs.declared.keys.Why.TheVariants.{Ahead, Protected, Read, Write}
use Rattle.page_model.specs.declared.entry.Entry.{Entry}
use Rattle.page_model.specs.declared.entry.Entry.TheVariants.{Closing, Dropped, Hint, Load, Raised, Unmapped}
use Rattle.page_model.specs.declared.entry.HintAnswer.{HintAnswer}
use Rattle.page_model.specs.Bits.{is_protected}
use Rattle.page_model.specs.Closings.{is_closing, is_unmapped}
use Rattle.page_model.specs.Core.{Core, RegionSeen, is_full}
use Rattle.page_model.specs.Events.{CanRaiseFor, ClosingStands, DropRaiseStands, FreshStands, HintStands, LoadStands, RaiseStands, UnmappedStands}
use Rattle.page_model.specs.Evictions.{is_evicting}
use Rattle.page_model.specs.Faults.{is_pending, last_why, pending, served}
use Rattle.page_model.specs.InFlight.{in_flight, is_read_of, is_reading}
use Rattle.page_model.specs.Legal.{MayRaiseFor}
use Rattle.page_model.specs.Memory.{LoadsLatest, flat}
use Rattle.page_model.specs.Residents.{is_resident, residents}
use Rattle.page_model.specs.Serving.{hint_answer, is_servable, is_stale, next_of, waits_for_room}
use Rattle.page_model.specs.Setups.{Setup, count_by, first_count, has_page, is_told, pages_of, regions, told_in}
use Rattle.page_model.specs.Stands.{PageStands, RegionStands, StandsFor}
use Rattle.page_model.specs.Steps.{fresh_region, fresh_regions, hinted}
use Rattle.page_model.specs.Tallies.{counts_of}
use Rattle.page_model.proofs.Agreements.{closing_is, guarded_is, hint_is, next_is, page_seen, pending_is, present_is, quiet_is, reading_is, unmapped_is}
use Rattle.page_model.proofs.Changes.{on_region_length, regions_after}
use Rattle.page_model.proofs.Keys.{same-true}
use Rattle.page_model.proofs.Known.{pending_pages}
use Rattle.page_model.proofs.Members.{all_found}
use Rattle.page_model.proofs.Nexts.{chosen_drop}
use Rattle.page_model.proofs.Prefixes.{page_region}
use Rattle.page_model.proofs.Raises.{hint_raised}
use Rattle.page_model.proofs.Untouched.{SameRegion, place_same, region_same, unmoved}
use Rattle.page_model.specs.declared.entry.HintAnswer.TheVariants as answer
use Rattle.page_model.specs.Core as core
use Rattle.page_model.specs.declared.seen.Next.TheVariants as serve
use Rattle.page_model.specs.Steps as step

-- ---- a stripe that has just been made

-- a fresh region is made of its shape and its lane
fresh_at : (shapes : List RegionShape) (lanes : List LaneSeen) (r : ℕ) (g : RegionSeen) → slice_get (fresh_regions shapes lanes) r ≡ Some g
    → (shape : RegionShape) × (lane : LaneSeen) × (slice_get shapes r ≡ Some shape) × (slice_get lanes r ≡ Some lane) × (g ≡ fresh_region shape lane)
fresh_at [] lanes r g e = absurd cc
fresh_at (shape ∷ shapes) [] r g e = absurd cc
fresh_at (shape ∷ shapes) (lane ∷ lanes) zero g e = (shape, lane, refl, refl, cc)
fresh_at (shape ∷ shapes) (lane ∷ lanes) (suc r) g e = fresh_at shapes lanes r g e

fresh_length : (shapes : List RegionShape) (lanes : List LaneSeen) → length lanes ≡ length shapes → length (fresh_regions shapes lanes) ≡ length shapes
fresh_length [] lanes e = refl
fresh_length (shape ∷ shapes) [] e = absurd (omega arith)
fresh_length (shape ∷ shapes) (lane ∷ lanes) e = ap suc (fresh_length shapes lanes (omega arith))

no_fault : (n p : ℕ) → slice_index (replicate n 0) p ≡ 0
no_fault zero p = refl
no_fault (suc n) zero = refl
no_fault (suc n) (suc p) = no_fault n p

fresh_stands_at : (s : Setup) (r : ℕ) (shape : RegionShape) (lane : LaneSeen) → slice_get s.shapes r ≡ Some shape → slice_get s.lanes r ≡ Some lane → RegionStands s [] r (fresh_region shape lane)
fresh_stands_at s r shape lane shape_is lane_is = record {
  place = (
    refl,
    record {
      origin = ap (option_map (λ (l : LaneSeen). l.origin)) lane_is;
      told = λ p page told. ap (λ o. is_some (told_in o p)) (sym lane_is) ∙ told;
      kept = λ p bytes page told e. ap (λ o. told_in o p) (sym lane_is) ∙ e;
      count = let same_count : first_count s r ≡ lane.count = ap count_by lane_is in omega arith;
    },
  );
  closing = refl;
  unmapped = refl;
  read_faults = λ p. no_fault shape.pages p;
  sized = length-replicate shape.pages 0 ∙ sym (ap pages_of shape_is);
}

pub fresh_stands : FreshStands
fresh_stands s fits = record {
  fits = fits;
  legal = tt;
  order = refl;
  pages = tt;
  queue = refl;
  count = fresh_length s.shapes s.lanes fits.lanes;
  regions = λ r g e. let x = fresh_at s.shapes s.lanes r g e in subst (RegionStands s [] r) (sym x.4) (fresh_stands_at s r x.0 x.1 x.2 x.3);
  evicting = refl;
  counts = refl;
  events = refl;
}

-- ---- a load

pub load_stands : LoadStands
load_stands h o c k place bytes st can =
    let lt = page_region c.setup k can.in_page.page in
    let seen = page_seen h c k can.there st can.is in
    let resident : is_resident h k ≡ true = sym (present_is h c k st) ∙ ap is_some can.is in
    let gives : LoadsLatest c.setup h k place bytes = OnTrue_from (is_told c.setup k) (bytes ≡ slice_range (flat c.setup h k) place (place + length bytes)) (λ t. can.gives ∙ ap (λ (b : List ℕ). slice_range b place (place + length bytes)) (OnTrue_at t seen.bytes)) in
    record {
      fits = st.fits;
      legal = (
        st.legal,
        can.in_page.page,
        (
          record {
            some = lt-ltb 0 (length bytes) can.in_page.some;
            inside = le-leb (place + length bytes) c.setup.page_size can.in_page.inside;
            resident = resident;
            not_closing = sym (closing_is h c k.region st lt) ∙ can.not_closing;
          },
          gives,
        ),
      );
      order = st.order;
      pages = st.pages;
      queue = st.queue;
      count = st.count;
      regions = λ r g e. region_same c.setup h ((o, Load k place bytes) ∷ h) r g (unmoved c.setup h o (Load k place bytes) r refl) (st.regions r g e);
      evicting = st.evicting;
      counts = st.counts;
      events = omega (arith, st.events);
    }

-- ---- a fault is raised

raise_for : (h : History Entry) (c : Core) (k : Key) (why : Why) → StandsFor h c → CanRaiseFor c k why → MayRaiseFor c.setup h k why
raise_for h c k Read st f = sym (present_is h c k st) ∙ f
raise_for h c k Ahead st f = sym (present_is h c k st) ∙ f
raise_for h c k Write st f = (sym (present_is h c k st) ∙ f.0, f.1)
raise_for h c k Protected st f = let both = and_parts (is_resident h k) (is_protected h k) (sym (guarded_is h c k st) ∙ f.0) in (both.0, both.1, f.1)

-- a page that isn't being read is another than the one that is
not_read_other : (h : History Entry) (k j : Key) (r : ℕ) → is_reading h k ≡ false → j.region ≡ r → is_read_of (in_flight h r) j ≡ true → same k j ≡ false
not_read_other h k j r n jr x = false_from_ne_true (same k j) (λ t.
    let kj : k ≡ j = same-true k j t in
    let read : is_read_of (in_flight h j.region) j ≡ true = ap (λ (i : ℕ). is_read_of (in_flight h i) j) jr ∙ x in
    let none_read : is_read_of (in_flight h j.region) j ≡ false = subst (λ (y : Key). is_reading h y ≡ false) kj n in
    cc)

room_is : (h : History Entry) (c : Core) → StandsFor h c → is_full c ≡ false → nat_lt (length (pending h)) c.setup.faults ≡ true
room_is h c st n =
    let below : length c.queue < c.setup.faults = leb-false c.setup.faults (length c.queue) n in
    lt-ltb (length (pending h)) c.setup.faults (subst (λ (q : List Raise). length q < c.setup.faults) st.queue below)

pub raise_stands : RaiseStands
raise_stands h o c k why st can =
    let lt = page_region c.setup k can.page in
    let idle : is_reading h k ≡ false = sym (reading_is h c k st lt) ∙ can.not_reading in
    record {
      fits = st.fits;
      legal = (
        st.legal,
        can.page,
        record {
          not_closing = sym (closing_is h c k.region st lt) ∙ can.not_closing;
          not_pending = sym (pending_is h c k st) ∙ can.not_pending;
          not_reading = idle;
          room = room_is h c st can.room;
          fits = raise_for h c k why st can.fits;
        },
      );
      order = st.order;
      pages = st.pages;
      queue = ap (λ (q : List Raise). q ++ record { key = k; why = why } ∷ []) st.queue;
      count = st.count;
      regions = λ r g e. region_same c.setup h ((o, Raised k why) ∷ h) r g (record { flight = refl; why = λ j jr x. cond-false (same k j) why (last_why h j) (not_read_other h k j r idle jr x); keeps = λ j jr. refl; fault = refl; closing = refl; unmapped = refl; read_faults = λ p. refl }) (st.regions r g e);
      evicting = st.evicting;
      counts = st.counts;
      events = omega (arith, st.events);
    }

-- ---- a hint

-- the four answers that raise nothing
hint_light : (h : History Entry) (o : ℕ) (c : Core) (k : Key) (a : HintAnswer) → StandsFor h c → has_page c.setup k ≡ true → a ≡ hint_answer c.setup h k
    → ((r : ℕ) → SameRegion c.setup h ((o, Hint k a) ∷ h) r) → AllByRecursion (PageStands c.setup ((o, Hint k a) ∷ h)) c.pages
    → pending ((o, Hint k a) ∷ h) ≡ pending h → residents ((o, Hint k a) ∷ h) ≡ residents h → is_evicting c.setup ((o, Hint k a) ∷ h) ≡ is_evicting c.setup h → counts_of ((o, Hint k a) ∷ h) ≡ counts_of h
    → StandsFor ((o, Hint k a) ∷ h) (step.load c)
hint_light h o c k a st page is regions pages queue order evicting counts = record {
  fits = st.fits;
  legal = (st.legal, page, is);
  order = st.order ∙ sym order;
  pages = pages;
  queue = st.queue ∙ sym queue;
  count = st.count;
  regions = λ r g e. region_same c.setup h ((o, Hint k a) ∷ h) r g (regions r) (st.regions r g e);
  evicting = st.evicting ∙ sym evicting;
  counts = st.counts ∙ sym counts;
  events = omega (arith, st.events);
}

hint_by : (h : History Entry) (o : ℕ) (c : Core) (k : Key) (a : HintAnswer) → StandsFor h c → has_page c.setup k ≡ true → a ≡ hint_answer c.setup h k → StandsFor ((o, Hint k a) ∷ h) (hinted c k a)
hint_by h o c k answer.Raised st page is =
    let q = hint_raised (is_closing h k.region) (is_resident h k) (is_pending h k || is_reading h k) (nat_le c.setup.faults (length (pending h))) is in
    let idle : is_reading h k ≡ false = (or_parts (is_pending h k) (is_reading h k) q.2).1 in
    record {
      fits = st.fits;
      legal = (st.legal, page, is);
      order = st.order;
      pages = st.pages;
      queue = ap (λ (ps : List Raise). ps ++ record { key = k; why = Ahead } ∷ []) st.queue;
      count = st.count;
      regions = λ r g e. region_same c.setup h ((o, Hint k answer.Raised) ∷ h) r g (record { flight = refl; why = λ j jr x. cond-false (same k j) Ahead (last_why h j) (not_read_other h k j r idle jr x); keeps = λ j jr. refl; fault = refl; closing = refl; unmapped = refl; read_faults = λ p. refl }) (st.regions r g e);
      evicting = st.evicting;
      counts = st.counts;
      events = omega (arith, st.events);
    }
hint_by h o c k answer.Present st page is = hint_light h o c k answer.Present st page is (λ r. unmoved c.setup h o (Hint k answer.Present) r refl) st.pages refl refl refl refl
hint_by h o c k answer.Pending st page is = hint_light h o c k answer.Pending st page is (λ r. unmoved c.setup h o (Hint k answer.Pending) r refl) st.pages refl refl refl refl
hint_by h o c k answer.Full st page is = hint_light h o c k answer.Full st page is (λ r. unmoved c.setup h o (Hint k answer.Full) r refl) st.pages refl refl refl refl
hint_by h o c k answer.Closed st page is = hint_light h o c k answer.Closed st page is (λ r. unmoved c.setup h o (Hint k answer.Closed) r refl) st.pages refl refl refl refl

pub hint_stands : HintStands
hint_stands h o c k st page = hint_by h o c k (core.hint_answer c k) st page (hint_is h c k st (page_region c.setup k page))

-- ---- a fault is dropped

pub drop_raise_stands : DropRaiseStands
drop_raise_stands h o c k st e =
    let is : next_of c.setup h ≡ serve.Drop k = sym (next_is h c st) ∙ e in
    let x = chosen_drop (find (is_stale h) (pending h)) (find (is_servable c.setup h) (pending h)) (list_any (waits_for_room h) (pending h)) k is in
    let page : has_page c.setup k ≡ true = rw (← x.2) (all_found (λ (p : Raise). has_page c.setup p.key ≡ true) (is_stale h) (pending h) x.0 x.1 (pending_pages c.setup h st.legal)) in
    record {
      fits = st.fits;
      legal = (st.legal, page, is);
      order = st.order;
      pages = st.pages;
      queue = ap (served k) st.queue;
      count = st.count;
      regions = λ r g f. region_same c.setup h ((o, Dropped k) ∷ h) r g (unmoved c.setup h o (Dropped k) r refl) (st.regions r g f);
      evicting = st.evicting;
      counts = st.counts;
      events = omega (arith, st.events);
    }

-- ---- a region is closing, and unmapped

pub closing_stands : ClosingStands
closing_stands h o c r st lt n = record {
  fits = st.fits;
  legal = (st.legal, lt-ltb r (regions c.setup) lt, sym (closing_is h c r st lt) ∙ n);
  order = st.order;
  pages = st.pages;
  queue = st.queue;
  count = on_region_length c.regions r (λ g. record g { closing = true }) ∙ st.count;
  regions = regions_after c.setup h o (Closing r) r (λ g. record g { closing = true }) c.regions refl st.regions (λ g e.
      let was = st.regions r g e in
      record {
        place = place_same c.setup h ((o, Closing r) ∷ h) r g.place refl (λ j jr x. refl) (λ j jr. refl) refl was.place;
        closing = sym (or_left (r == r) (is_closing h r) (eq-eqb r r refl));
        unmapped = was.unmapped;
        read_faults = was.read_faults;
        sized = was.sized;
      });
  evicting = st.evicting;
  counts = st.counts;
  events = omega (arith, st.events);
}

pub unmapped_stands : UnmappedStands
unmapped_stands h o c r st can = record {
  fits = st.fits;
  legal = (
    st.legal,
    lt-ltb r (regions c.setup) can.region,
    record {
      closing = sym (closing_is h c r st can.region) ∙ can.closing;
      first = sym (unmapped_is h c r st can.region) ∙ can.first;
      quiet = sym (quiet_is h c r st can.region) ∙ can.quiet;
    },
  );
  order = st.order;
  pages = st.pages;
  queue = st.queue;
  count = on_region_length c.regions r (λ g. record g { unmapped = true }) ∙ st.count;
  regions = regions_after c.setup h o (Unmapped r) r (λ g. record g { unmapped = true }) c.regions refl st.regions (λ g e.
      let was = st.regions r g e in
      record {
        place = place_same c.setup h ((o, Unmapped r) ∷ h) r g.place refl (λ j jr x. refl) (λ j jr. refl) refl was.place;
        closing = was.closing;
        unmapped = sym (or_left (r == r) (is_unmapped h r) (eq-eqb r r refl));
        read_faults = was.read_faults;
        sized = was.sized;
      });
  evicting = st.evicting;
  counts = st.counts;
  events = omega (arith, st.events);
}
