-- What is known where a service or a trip may start, and of a trip that is out.
use Rattle.std.proofs.Common.{Bool, None, Option, Some, arith, false, find, length, option_map, refl, slice_get, subst, sym, true, ℕ, ◌+◌, ◌==◌, ◌∙◌, ◌≡◌, ◌≤◌}
use Rattle.std.proofs.lemmas.Bool.{and_from, cond-true, eq-eqb}
use Rattle.std.specs.List.{list_any}
use Rattle.histories.specs.Histories.{History, first}
use Rattle.page_base.specs.Lanes.{LaneSeen}
use Rattle.page_base.specs.Pages.{same}
use Rattle.page_base.specs.declared.keys.Key.{Key}
use Rattle.page_base.specs.declared.keys.Raise.{Raise}
use Rattle.page_base.specs.declared.keys.RegionShape.{RegionShape}
use Rattle.page_model.specs.declared.entry.Entry.{Entry}
use Rattle.page_model.specs.Bits.{is_protected}
use Rattle.page_model.specs.Core.{Core, Home, LanePlace, Reading, RegionSeen, Writing, is_home_place, place_passes, region_at}
use Rattle.page_model.specs.Faults.{is_pending, pending}
use Rattle.page_model.specs.InFlight.{in_flight}
use Rattle.page_model.specs.Readers.{IsHere, LaneHas, ReadyToOpen, ServiceKnows, StartsOpen}
use Rattle.page_model.specs.Residents.{is_resident, reads_out, residents}
use Rattle.page_model.specs.Serving.{is_servable, is_stale, next_of, waits_for_room}
use Rattle.page_model.specs.Setups.{Fits, IsLaneOf, Setup, has_page, is_page_of}
use Rattle.page_model.specs.Stands.{HomeLane, PlaceStands, StandsFor}
use Rattle.page_model.proofs.Agreements.{guarded_is, held_length, next_is, pending_is, present_is, queue_pages, reads_out_is}
use Rattle.page_model.proofs.Keys.{same-true, same_self}
use Rattle.page_model.proofs.Lists.{find_passes, found_any}
use Rattle.page_model.proofs.Members.{all_found, is_there, some_found}
use Rattle.page_model.proofs.Nexts.{chosen_drop, open_page_is, open_served}
use Rattle.page_model.proofs.Quota.{never_over}
use Rattle.page_model.proofs.StandsPages.{present_page}
use Rattle.page_model.proofs.StandsReads.{read_out, read_ready}
use Rattle.page_model.proofs.StandsWrites.{write_out}
use Rattle.page_model.specs.Core as core
use Rattle.page_model.specs.declared.seen.Next.TheVariants as serve

open_ready : (h : History Entry) (c : Core) (k : Key) → StandsFor h c → core.next c ≡ serve.Open k → ReadyToOpen c k
open_ready h c k st e =
    let is : next_of c.setup h ≡ serve.Open k = sym (next_is h c st) ∙ e in
    let both = open_page_is c.setup h k is in
    let x = open_served c.setup h k is in
    let waits : is_pending h k ≡ true = found_any (is_servable c.setup h) (λ (p : Raise). same p.key k) (pending h) x.0.raise x.0.found (rw (x.0.key) (same_self k)) in
    record {
      page = present_page h c k st (present_is h c k st ∙ both.0);
      guarded = guarded_is h c k st ∙ and_from (is_resident h k) (is_protected h k) both.0 both.1;
      pending = pending_is h c k st ∙ waits;
    }

drop_ready : (h : History Entry) (c : Core) (k : Key) → StandsFor h c → core.next c ≡ serve.Drop k → core.is_pending c k ≡ true
drop_ready h c k st e =
    let is : next_of c.setup h ≡ serve.Drop k = sym (next_is h c st) ∙ e in
    let x = chosen_drop (find (is_stale h) (pending h)) (find (is_servable c.setup h) (pending h)) (list_any (waits_for_room h) (pending h)) k is in
    pending_is h c k st ∙ found_any (is_stale h) (λ (p : Raise). same p.key k) (pending h) x.0 x.1 (rw (x.2) (same_self k))

-- a pending fault is of a page of the stripe
pending_page : (h : History Entry) (c : Core) (k : Key) → StandsFor h c → core.is_pending c k ≡ true → has_page c.setup k ≡ true
pending_page h c k st e =
    let test : Raise → Bool = λ p. same p.key k in
    let x = is_there (find test c.queue) (some_found test c.queue ∙ e) in
    let page : has_page c.setup x.0.key ≡ true = all_found (λ (p : Raise). has_page c.setup p.key ≡ true) test c.queue x.0 x.1 (queue_pages h c st) in
    subst (λ (j : Key). has_page c.setup j ≡ true) (same-true x.0.key k (find_passes test c.queue x.0 x.1)) page

home_at : (place : LanePlace) → is_home_place place ≡ true → (lane : LaneSeen) × (place ≡ Home lane)
home_at (Home lane) e = (lane, refl)
home_at (Reading k at why) e = absurd cc
home_at (Writing k at) e = absurd cc

here_at : (c : Core) (r : ℕ) → core.is_home c r ≡ true → (lane : LaneSeen) × IsHere c r lane
here_at c r e = go (region_at c r) refl e
  where
    go : (o : Option RegionSeen) → region_at c r ≡ o → place_passes is_home_place o ≡ true → (lane : LaneSeen) × IsHere c r lane
    go None is f = absurd cc
    go (Some g) is f = let x = home_at g.place f in (x.0, record { region = g; is = is; home = x.1 })

home_like : (h : History Entry) (c : Core) (r : ℕ) (lane : LaneSeen) → StandsFor h c → IsHere c r lane → HomeLane c.setup h r lane
home_like h c r lane st here =
    let there : PlaceStands c.setup h r (Home lane) = subst (PlaceStands c.setup h r) here.home (st.regions r here.region here.is).place in there.1

lane_has : (s : Setup) (h : History Entry) (k : Key) (lane : LaneSeen) → Fits s → has_page s k ≡ true → HomeLane s h k.region lane → LaneHas s k lane
lane_has s h k lane fits page st = go (slice_get s.shapes k.region) refl (slice_get s.lanes k.region) refl page st.origin
  where
    go : (o : Option RegionShape) → slice_get s.shapes k.region ≡ o → (l : Option LaneSeen) → slice_get s.lanes k.region ≡ l → is_page_of s o k ≡ true → option_map (λ (x : LaneSeen). x.origin) l ≡ Some lane.origin → LaneHas s k lane
    go None shape_is l lane_is e f = absurd cc
    go (Some shape) shape_is None lane_is e f = absurd cc
    go (Some shape) shape_is (Some first) lane_is e f =
        let of : IsLaneOf s k.region shape lane.origin = subst (IsLaneOf s k.region shape) (cc) (fits.lane_of k.region shape first shape_is lane_is) in
        record {
          page = rw (of.pages, of.stripes, of.group, of.region, of.stripe) e;
          page_size = of.page_size;
        }

within : (h : History Entry) (c : Core) → StandsFor h c → length c.pages + core.reads_out c ≤ core.frames_held c
within h c st =
    let held : length c.pages ≡ length (residents h) = held_length h c st in
    let out : core.reads_out c ≡ reads_out c.setup h = reads_out_is h c st in
    omega (arith, never_over c.setup h st.legal)

pub service_knows : ServiceKnows
service_knows = record { read = read_ready; open_ = open_ready; drop = drop_ready; present = present_page; pending = pending_page; here = here_at; like = home_like; lane_has = lane_has; within = within; read_out = read_out; write_out = write_out }

pub starts_open : StartsOpen
starts_open = record {
  read = λ h o c k lane st here. record {
    before = h;
    is = cond-true (k.region == k.region) (Some (record { before = h; owner = o; key = k; writes = false })) (in_flight h k.region) (eq-eqb k.region k.region refl);
    at_is = st.events;
    taken = home_like h c k.region lane st here;
  };
  write = λ h o c k why lane st here. record {
    before = h;
    is = cond-true (k.region == k.region) (Some (record { before = h; owner = o; key = k; writes = true })) (in_flight h k.region) (eq-eqb k.region k.region refl);
    at_is = st.events;
    taken = home_like h c k.region lane st here;
  };
}
