-- What an entry leaves of a region as it was.
use Rattle.std.proofs.Common.{Bool, None, Some, [], ap, false, inl, inr, max, refl, sym, true, ℕ, ◌==◌, ◌||◌, ◌∙◌, ◌∷◌, ◌≡◌}
use Rattle.std.proofs.lemmas.Bool.{and_from, cond-false, eqb-true}
use Rattle.histories.specs.Histories.{History}
use Rattle.page_base.specs.Lanes.{LaneSeen}
use Rattle.page_base.specs.Pages.{same}
use Rattle.page_base.specs.declared.keys.Key.{Key}
use Rattle.page_base.specs.declared.keys.Why.TheVariants.{Ahead}
use Rattle.page_model.specs.declared.entry.Entry.{Entry}
use Rattle.page_model.specs.declared.entry.Entry.TheVariants.{Closing, Dropped, Evicted, Filled, Hint, Load, Opened, Raised, ReadFailed, Save, StartRead, StartWrite, Unmapped, WriteFailed, Written}
use Rattle.page_model.specs.Closings.{is_closing, is_unmapped}
use Rattle.page_model.specs.Core.{Home, LanePlace, Reading, RegionSeen, Writing}
use Rattle.page_model.specs.Entries.{region_of}
use Rattle.page_model.specs.Faults.{last_why}
use Rattle.page_model.specs.InFlight.{InFlight, in_flight, is_read_of}
use Rattle.page_model.specs.Memory.{kept}
use Rattle.page_model.specs.Setups.{Setup}
use Rattle.page_model.specs.Stands.{HomeLane, IsOut, PlaceStands, RegionStands, page_key}
use Rattle.page_model.specs.StoreFaults.{last_fault, read_fault}
use Rattle.page_model.proofs.Flight.{when_end, when_start}
use Rattle.page_model.proofs.Keys.{elsewhere, same_self}
use Rattle.page_model.specs.declared.entry.HintAnswer.TheVariants as answer

-- what is in flight in a region is of a page of that region
pub flight_region : (h : History Entry) (r : ℕ) (t : InFlight) → in_flight h r ≡ Some t → t.key.region ≡ r
flight_region [] r t e = absurd cc
flight_region ((o, StartRead k) ∷ h) r t e = elim (when_start (k.region == r) (record { before = h; owner = o; key = k; writes = false }) (in_flight h r) t e) [
  | inl q ↦ ap (λ (x : InFlight). x.key.region) (sym q.1) ∙ eqb-true k.region r q.0
  | inr q ↦ flight_region h r t q.1
]
flight_region ((o, StartWrite k why) ∷ h) r t e = elim (when_start (k.region == r) (record { before = h; owner = o; key = k; writes = true }) (in_flight h r) t e) [
  | inl q ↦ ap (λ (x : InFlight). x.key.region) (sym q.1) ∙ eqb-true k.region r q.0
  | inr q ↦ flight_region h r t q.1
]
flight_region ((o, Filled k) ∷ h) r t e = flight_region h r t (when_end (k.region == r) (in_flight h r) t e).1
flight_region ((o, ReadFailed k n) ∷ h) r t e = flight_region h r t (when_end (k.region == r) (in_flight h r) t e).1
flight_region ((o, Written k at bytes) ∷ h) r t e = flight_region h r t (when_end (k.region == r) (in_flight h r) t e).1
flight_region ((o, WriteFailed k n) ∷ h) r t e = flight_region h r t (when_end (k.region == r) (in_flight h r) t e).1
flight_region (e ∷ h) r t is = flight_region h r t is

-- from h to g nothing of region r changed that a core shows of it
pub record SameRegion (s : Setup) (h g : History Entry) (r : ℕ) : Type 0 where
  pub flight : in_flight g r ≡ in_flight h r
  pub why : (k : Key) → k.region ≡ r → is_read_of (in_flight h r) k ≡ true → last_why g k ≡ last_why h k
  pub keeps : (k : Key) → k.region ≡ r → kept s g k ≡ kept s h k
  pub fault : last_fault s g r ≡ last_fault s h r
  pub closing : is_closing g r ≡ is_closing h r
  pub unmapped : is_unmapped g r ≡ is_unmapped h r
  pub read_faults : (p : ℕ) → read_fault g (page_key r p) ≡ read_fault h (page_key r p)

pub home_same : (s : Setup) (h g : History Entry) (r : ℕ) (lane : LaneSeen) → ((k : Key) → k.region ≡ r → kept s g k ≡ kept s h k) → last_fault s g r ≡ last_fault s h r → HomeLane s h r lane → HomeLane s g r lane
home_same s h g r lane keeps fault st = record {
  origin = st.origin;
  told = st.told;
  kept = λ p bytes page told e. st.kept p bytes page told (sym (keeps (page_key r p) refl) ∙ e);
  count = rw fault (st.count);
}

pub out_same : (h g : History Entry) (r : ℕ) (k : Key) (at : ℕ) (writes : Bool) → in_flight g r ≡ in_flight h r → IsOut h r k at writes → IsOut g r k at writes
out_same h g r k at writes e st = record { before = st.before; owner = st.owner; is = e ∙ st.is; at_is = st.at_is }

pub place_same : (s : Setup) (h g : History Entry) (r : ℕ) (place : LanePlace) → in_flight g r ≡ in_flight h r → ((k : Key) → k.region ≡ r → is_read_of (in_flight h r) k ≡ true → last_why g k ≡ last_why h k) → ((k : Key) → k.region ≡ r → kept s g k ≡ kept s h k) → last_fault s g r ≡ last_fault s h r
    → PlaceStands s h r place → PlaceStands s g r place
place_same s h g r (Home lane) flight why keeps fault st = (flight ∙ st.0, home_same s h g r lane keeps fault st.1)
place_same s h g r (Reading k at y) flight why keeps fault st =
    let read : is_read_of (in_flight h r) k ≡ true = ap (λ t. is_read_of t k) st.0.is ∙ and_from (same k k) true (same_self k) refl in
    let region : k.region ≡ r = flight_region h r (record { before = st.0.before; owner = st.0.owner; key = k; writes = false }) st.0.is in
    (out_same h g r k at false flight st.0, st.1 ∙ sym (why k region read))
place_same s h g r (Writing k at) flight why keeps fault st = out_same h g r k at true flight st

pub region_same : (s : Setup) (h g : History Entry) (r : ℕ) (x : RegionSeen) → SameRegion s h g r → RegionStands s h r x → RegionStands s g r x
region_same s h g r x e st = record {
  place = place_same s h g r x.place e.flight e.why e.keeps e.fault st.place;
  closing = st.closing ∙ sym e.closing;
  unmapped = st.unmapped ∙ sym e.unmapped;
  read_faults = λ p. st.read_faults p ∙ sym (e.read_faults p);
  sized = st.sized;
}

-- an entry of another region
pub untouched : (s : Setup) (h : History Entry) (o : ℕ) (e : Entry) (r : ℕ) → (region_of e == r) ≡ false → SameRegion s h ((o, e) ∷ h) r
untouched s h o (Raised k y) r n = record {
  flight = refl;
  why = λ j jr x. cond-false (same k j) y (last_why h j) (elsewhere k j r n jr);
  keeps = λ j jr. refl;
  fault = refl;
  closing = refl;
  unmapped = refl;
  read_faults = λ p. refl;
}
untouched s h o (Hint k answer.Raised) r n = record {
  flight = refl;
  why = λ j jr x. cond-false (same k j) Ahead (last_why h j) (elsewhere k j r n jr);
  keeps = λ j jr. refl;
  fault = refl;
  closing = refl;
  unmapped = refl;
  read_faults = λ p. refl;
}
untouched s h o (StartRead k) r n = record {
  flight = cond-false (k.region == r) (Some (record { before = h; owner = o; key = k; writes = false })) (in_flight h r) n;
  why = λ j jr x. refl;
  keeps = λ j jr. refl;
  fault = refl;
  closing = refl;
  unmapped = refl;
  read_faults = λ p. refl;
}
untouched s h o (StartWrite k y) r n = record {
  flight = cond-false (k.region == r) (Some (record { before = h; owner = o; key = k; writes = true })) (in_flight h r) n;
  why = λ j jr x. refl;
  keeps = λ j jr. refl;
  fault = refl;
  closing = refl;
  unmapped = refl;
  read_faults = λ p. refl;
}
untouched s h o (Filled k) r n = record {
  flight = cond-false (k.region == r) None (in_flight h r) n;
  why = λ j jr x. refl;
  keeps = λ j jr. refl;
  fault = refl;
  closing = refl;
  unmapped = refl;
  read_faults = λ p. refl;
}
untouched s h o (ReadFailed k m) r n = record {
  flight = cond-false (k.region == r) None (in_flight h r) n;
  why = λ j jr x. refl;
  keeps = λ j jr. refl;
  fault = cond-false (k.region == r) (max m (last_fault s h r)) (last_fault s h r) n;
  closing = refl;
  unmapped = refl;
  read_faults = λ p. cond-false (same k (page_key r p)) m (read_fault h (page_key r p)) (elsewhere k (page_key r p) r n refl);
}
untouched s h o (WriteFailed k m) r n = record {
  flight = cond-false (k.region == r) None (in_flight h r) n;
  why = λ j jr x. refl;
  keeps = λ j jr. cond-false (same k j) None (kept s h j) (elsewhere k j r n jr);
  fault = cond-false (k.region == r) (max m (last_fault s h r)) (last_fault s h r) n;
  closing = refl;
  unmapped = refl;
  read_faults = λ p. refl;
}
untouched s h o (Written k at bytes) r n = record {
  flight = cond-false (k.region == r) None (in_flight h r) n;
  why = λ j jr x. refl;
  keeps = λ j jr. cond-false (same k j) (Some bytes) (kept s h j) (elsewhere k j r n jr);
  fault = refl;
  closing = refl;
  unmapped = refl;
  read_faults = λ p. refl;
}
untouched s h o (Closing q) r n = record {
  flight = refl;
  why = λ j jr x. refl;
  keeps = λ j jr. refl;
  fault = refl;
  closing = ap (λ b. b || is_closing h r) n;
  unmapped = refl;
  read_faults = λ p. refl;
}
untouched s h o (Unmapped q) r n = record {
  flight = refl;
  why = λ j jr x. refl;
  keeps = λ j jr. refl;
  fault = refl;
  closing = refl;
  unmapped = ap (λ b. b || is_unmapped h r) n;
  read_faults = λ p. refl;
}
untouched s h o e r n = record { flight = refl; why = λ j jr x. refl; keeps = λ j jr. refl; fault = refl; closing = refl; unmapped = refl; read_faults = λ p. refl }

-- the entry may change what a core shows of its region
abbrev pub moves_region : Entry → Bool
moves_region (Load k place bytes) = false
moves_region (Save k place bytes) = false
moves_region (Opened k) = false
moves_region (Dropped k) = false
moves_region (Evicted k why) = false
moves_region (Hint k answer.Present) = false
moves_region (Hint k answer.Pending) = false
moves_region (Hint k answer.Full) = false
moves_region (Hint k answer.Closed) = false
moves_region e = true

-- an entry that changes nothing of any region
pub unmoved : (s : Setup) (h : History Entry) (o : ℕ) (e : Entry) (r : ℕ) → moves_region e ≡ false → SameRegion s h ((o, e) ∷ h) r
unmoved s h o (Raised k y) r n = absurd cc
unmoved s h o (Hint k answer.Raised) r n = absurd cc
unmoved s h o (StartRead k) r n = absurd cc
unmoved s h o (StartWrite k y) r n = absurd cc
unmoved s h o (Filled k) r n = absurd cc
unmoved s h o (ReadFailed k m) r n = absurd cc
unmoved s h o (WriteFailed k m) r n = absurd cc
unmoved s h o (Written k at bytes) r n = absurd cc
unmoved s h o (Closing q) r n = absurd cc
unmoved s h o (Unmapped q) r n = absurd cc
unmoved s h o e r n = record { flight = refl; why = λ j jr x. refl; keeps = λ j jr. refl; fault = refl; closing = refl; unmapped = refl; read_faults = λ p. refl }
