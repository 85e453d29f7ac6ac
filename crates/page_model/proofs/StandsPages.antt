-- The events that change a page and no lane: a store, an opening, an eviction.
use Rattle.std.proofs.Common.{Bool, List, None, Option, Some, ap, arith, cond, false, length, map, not, option_map, refl, subst, sym, true, ℕ, ◌&&◌, ◌+◌, ◌<◌, ◌∙◌, ◌∷◌, ◌≡◌, ◌≤◌}
use Rattle.std.proofs.lemmas.Bool.{OnTrue_at, OnTrue_from, and_left, le-leb, lt-ltb}
use Rattle.std.proofs.lemmas.List.{length-map}
use Rattle.histories.specs.Histories.{History}
use Rattle.page_base.specs.ListSeen.{spliced}
use Rattle.page_base.specs.Pages.{same}
use Rattle.page_base.specs.declared.keys.Key.{Key}
use Rattle.page_model.specs.declared.entry.Cause.{Cause}
use Rattle.page_model.specs.declared.entry.Cause.TheVariants.{Flush, Pressure, Unmap}
use Rattle.page_model.specs.declared.entry.Entry.{Entry}
use Rattle.page_model.specs.declared.entry.Entry.TheVariants.{Evicted, Opened, Save}
use Rattle.page_model.specs.declared.seen.Pick.{Pick}
use Rattle.page_model.specs.Bits.{is_dirty, is_protected, is_some_and, opened_at, written_since}
use Rattle.page_model.specs.Core.{Core, Resident, is_present, page_at}
use Rattle.page_model.specs.Events.{CanEvictFor, EvictStands, IsPicked, OpenPageStands, SaveStands}
use Rattle.page_model.specs.Evictions.{pick}
use Rattle.page_model.specs.Faults.{served}
use Rattle.page_model.specs.Legal.{IsLegal, IsPick, MayEvictFor}
use Rattle.page_model.specs.Memory.{flat}
use Rattle.page_model.specs.Readers.{picked}
use Rattle.page_model.specs.Residents.{is_resident, residents, without}
use Rattle.page_model.specs.Serving.{next_of}
use Rattle.page_model.specs.Setups.{Setup, has_page, is_told, regions}
use Rattle.page_model.specs.Stands.{PageStands, StandsFor}
use Rattle.page_model.specs.Steps.{without_page}
use Rattle.page_model.specs.Tallies.{counted}
use Rattle.page_model.proofs.Agreements.{closing_is, dirty_is, guarded_is, held_pages, next_is, page_seen, pick_is, present_is, pressure_is, writing_is}
use Rattle.page_model.proofs.Bits.{written_below}
use Rattle.page_model.proofs.Changes.{on_page_keys, without_keys}
use Rattle.page_model.proofs.Keys.{same-true, same_comm}
use Rattle.page_model.proofs.Known.{same_sym}
use Rattle.page_model.proofs.Members.{all_filter, all_found, all_map, is_there}
use Rattle.page_model.proofs.Memories.{flat_other, flat_saved}
use Rattle.page_model.proofs.Nexts.{open_page_is}
use Rattle.page_model.proofs.Prefixes.{page_region}
use Rattle.page_model.proofs.Untouched.{region_same, unmoved}
use Rattle.page_model.specs.declared.seen.Next.TheVariants as serve

-- a present page is one of the stripe's
pub present_page : (h : History Entry) (c : Core) (k : Key) → StandsFor h c → is_present c k ≡ true → has_page c.setup k ≡ true
present_page h c k st e =
    let x = is_there (page_at c k) e in
    subst (λ (j : Key). has_page c.setup j ≡ true) (page_seen h c k x.0 st x.1).key (all_found (λ (r : Resident). has_page c.setup r.key ≡ true) (λ (r : Resident). same r.key k) c.pages x.0 x.1 (held_pages h c st))

-- ---- a store

page_saved : (s : Setup) (h : History Entry) (o : ℕ) (k : Key) (place : ℕ) (bytes : List ℕ) (r : Resident) → place + length bytes ≤ s.page_size → PageStands s h r
    → PageStands s ((o, Save k place bytes) ∷ h) (cond (same r.key k) (record r { bytes = spliced r.bytes place bytes }) r)
page_saved s h o k place bytes r fits p = go (same r.key k) refl
  where
    go : (b : Bool) → same r.key k ≡ b → PageStands s ((o, Save k place bytes) ∷ h) (cond b (record r { bytes = spliced r.bytes place bytes }) r)
    go true e =
        let kr : k ≡ r.key = sym (same-true r.key k e) in
        let there : flat s ((o, Save k place bytes) ∷ h) r.key ≡ spliced (flat s h r.key) place bytes = subst (λ (j : Key). flat s ((o, Save k place bytes) ∷ h) j ≡ spliced (flat s h j) place bytes) kr (flat_saved s h o k place bytes fits) in
        (p.0, p.1, OnTrue_from (is_told s r.key) (spliced r.bytes place bytes ≡ flat s ((o, Save k place bytes) ∷ h) r.key) (λ t. ap (λ (b : List ℕ). spliced b place bytes) (OnTrue_at t p.2) ∙ sym there))
    go false e =
        let n : same k r.key ≡ false = same_sym r.key k e in
        (p.0, p.1, OnTrue_from (is_told s r.key) (r.bytes ≡ flat s ((o, Save k place bytes) ∷ h) r.key) (λ t. OnTrue_at t p.2 ∙ sym (flat_other s h o k r.key place bytes n)))

pub save_stands : SaveStands
save_stands h o c k place bytes st can =
    let lt = page_region c.setup k can.in_page.page in
    let resident : is_resident h k ≡ true = sym (present_is h c k st) ∙ can.present in
    let unprotected : is_protected h k ≡ false = sym (ap (λ b. b && is_protected h k) resident) ∙ (sym (guarded_is h c k st) ∙ can.unguarded) in
    record {
      fits = st.fits;
      legal = (
        st.legal,
        can.in_page.page,
        (
          record {
            some = lt-ltb 0 (length bytes) can.in_page.some;
            inside = le-leb (place + length bytes) c.setup.page_size can.in_page.inside;
            resident = resident;
            not_closing = sym (closing_is h c k.region st lt) ∙ can.not_closing;
          },
          record { writable = can.writable; unprotected = unprotected },
        ),
      );
      order = on_page_keys k (λ r. record r { bytes = spliced r.bytes place bytes }) c.pages (λ r. refl) ∙ st.order;
      pages = all_map (PageStands c.setup h) (PageStands c.setup ((o, Save k place bytes) ∷ h)) (λ (r : Resident). cond (same r.key k) (record r { bytes = spliced r.bytes place bytes }) r) c.pages (λ r p. page_saved c.setup h o k place bytes r can.in_page.inside p) st.pages;
      queue = st.queue;
      count = st.count;
      regions = λ r g e. region_same c.setup h ((o, Save k place bytes) ∷ h) r g (unmoved c.setup h o (Save k place bytes) r refl) (st.regions r g e);
      evicting = st.evicting;
      counts = st.counts;
      events = omega (arith, st.events);
    }

-- ---- an opening

opened_dirty : (b : Bool) (n : ℕ) (y : Option ℕ) (f : ℕ → Bool) → b ≡ true → f n ≡ false → true ≡ is_some_and (λ c. not (f c)) (cond b (Some n) y)
opened_dirty b n y f e fresh = rw e (sym (ap not fresh))

other_dirty : (b d : Bool) (x y : Option ℕ) (f : ℕ → Bool) → b ≡ false → d ≡ is_some_and f y → d ≡ is_some_and f (cond b x y)
other_dirty b d x y f e is = rw e is

page_opened : (s : Setup) (h : History Entry) (o : ℕ) (k : Key) (r : Resident) → IsLegal s h → PageStands s h r → PageStands s ((o, Opened k) ∷ h) (cond (same r.key k) (record r { protected = false; dirty = true }) r)
page_opened s h o k r l p = go (same r.key k) refl
  where
    go : (b : Bool) → same r.key k ≡ b → PageStands s ((o, Opened k) ∷ h) (cond b (record r { protected = false; dirty = true }) r)
    go true e =
        let t : same k r.key ≡ true = same_comm k r.key ∙ e in (
          sym (and_left (not (same k r.key)) (is_protected h r.key) (ap not t)),
          opened_dirty (same k r.key) (length h) (opened_at h r.key) (written_since h r.key) t (written_below s h r.key (length h) l (omega arith)),
          p.2,
        )
    go false e =
        let n : same k r.key ≡ false = same_sym r.key k e in (
          p.0 ∙ sym (ap (λ b. not b && is_protected h r.key) n),
          other_dirty (same k r.key) r.dirty (Some (length h)) (opened_at h r.key) (λ c. not (written_since h r.key c)) n p.1,
          p.2,
        )

pub open_page_stands : OpenPageStands
open_page_stands h o c k st e =
    let is : next_of c.setup h ≡ serve.Open k = sym (next_is h c st) ∙ e in
    let resident = (open_page_is c.setup h k is).0 in
    let page : has_page c.setup k ≡ true = present_page h c k st (present_is h c k st ∙ resident) in
    record {
      fits = st.fits;
      legal = (st.legal, page, is);
      order = on_page_keys k (λ r. record r { protected = false; dirty = true }) c.pages (λ r. refl) ∙ st.order;
      pages = all_map (PageStands c.setup h) (PageStands c.setup ((o, Opened k) ∷ h)) (λ (r : Resident). cond (same r.key k) (record r { protected = false; dirty = true }) r) c.pages (λ r p. page_opened c.setup h o k r st.legal p) st.pages;
      queue = ap (served k) st.queue;
      count = st.count;
      regions = λ r g f. region_same c.setup h ((o, Opened k) ∷ h) r g (unmoved c.setup h o (Opened k) r refl) (st.regions r g f);
      evicting = st.evicting;
      counts = st.counts;
      events = omega (arith, st.events);
    }

-- ---- an eviction

pick_by : (h : History Entry) (o : Option Key) (k : Key) → option_map (λ (p : Pick). p.key) (option_map (picked h) o) ≡ Some k → o ≡ Some k
pick_by h None k e = absurd cc
pick_by h (Some j) k e = e

pub is_pick : (h : History Entry) (c : Core) (k : Key) → StandsFor h c → IsPicked c k → IsPick c.setup h k
is_pick h c k st p = record {
  pressure = sym (pressure_is h c st) ∙ p.pressure;
  pick = pick_by h (pick h) k (sym (ap (option_map (λ (x : Pick). x.key)) (pick_is h c st)) ∙ p.picked);
}

evict_for : (h : History Entry) (c : Core) (k : Key) (why : Cause) → StandsFor h c → k.region < regions c.setup → CanEvictFor c k why → MayEvictFor c.setup h k why
evict_for h c k Pressure st lt f = is_pick h c k st f
evict_for h c k Unmap st lt f = sym (closing_is h c k.region st lt) ∙ f
evict_for h c k Flush st lt f = f

pub evict_stands : EvictStands
evict_stands h o c k why st can =
    let page = present_page h c k st can.present in
    let lt = page_region c.setup k page in
    let resident : is_resident h k ≡ true = sym (present_is h c k st) ∙ can.present in
    let clean : is_dirty h k ≡ false = sym (ap (λ b. b && is_dirty h k) resident) ∙ (sym (dirty_is h c k st) ∙ can.clean) in
    let order : map (λ (r : Resident). r.key) (without_page k c.pages) ≡ without k (residents h) = without_keys k c.pages ∙ ap (without k) st.order in
    let left : length (without_page k c.pages) ≡ length (without k (residents h)) = sym (length-map (without_page k c.pages) (λ (r : Resident). r.key)) ∙ ap (λ (ks : List Key). length ks) order in
    record {
      fits = st.fits;
      legal = (
        st.legal,
        page,
        record {
          resident = resident;
          clean = clean;
          not_writing = sym (writing_is h c k st lt) ∙ can.not_writing;
          fits = evict_for h c k why st lt can.fits;
        },
      );
      order = order;
      pages = all_filter (PageStands c.setup h) (λ (r : Resident). not (same r.key k)) c.pages st.pages;
      queue = st.queue;
      count = st.count;
      regions = λ r g f. region_same c.setup h ((o, Evicted k why) ∷ h) r g (unmoved c.setup h o (Evicted k why) r refl) (st.regions r g f);
      evicting = rw (left, st.evicting) refl;
      counts = ap (counted (Evicted k why)) st.counts;
      events = omega (arith, st.events);
    }
