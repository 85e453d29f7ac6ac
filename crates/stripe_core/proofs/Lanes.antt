-- Where the regions' lanes are, as the core sees it.
use Rattle.std.proofs.Common.{Bool, List, None, Option, Some, [], ap, length, map, refl, set, slice_get, slice_set, suc, sym, true, ℕ, ◌∙◌, ◌∷◌, ◌≡◌}
use Rattle.std.proofs.lemmas.List.{map-set}
use Rattle.std.proofs.lemmas.Option.{get_or_from_slice_get, slice_get-map}
use Rattle.std.specs.Option.{option_map}
use Rattle.page_base.specs.Lanes.{LaneSeen}
use Rattle.page_base.specs.declared.keys.Key.{Key}
use Rattle.page_base.specs.declared.keys.Why.{Why}
use Rattle.page_model.specs.Core.{Core, LanePlace, RegionSeen, Home, Reading, Writing, is_home_place, place_passes}
use Rattle.page_model.specs.Core as core
use Rattle.page_model.specs.Steps.{on_region, put_back}
use Rattle.stripe_core.specs.declared.region.Lane.{Lane}
use Rattle.stripe_core.specs.declared.region.Lane.TheVariants as lane
use Rattle.stripe_core.specs.declared.region.Region.{Region}
use Rattle.stripe_core.specs.Parts.{place_of, region_seen}
use Rattle.stripe_core.specs.InsideParts.{read_of, reads_of}
use Rattle.stripe_core.specs.InsideTied.{read_at}
use Rattle.page_model.specs.Readers.{IsReadOut}
use Rattle.page_model.specs.Trips.{Trip}
use Rattle.stripe_core.proofs.Keys.{same-true, same_self}

-- the region whose lane's place passes
pub record Passing {S : Type 0} (seen : S → LaneSeen) (gs : List (Region S)) (r : ℕ) (test : LanePlace → Bool) : Type 0 where
  pub region : Region S
  pub is : slice_get gs r ≡ Some region
  pub passes : test (place_of seen region.lane) ≡ true

pub passing : {S : Type 0} (seen : S → LaneSeen) (gs : List (Region S)) (r : ℕ) (test : LanePlace → Bool) → place_passes test (slice_get (map (region_seen seen) gs) r) ≡ true → Passing seen gs r test
passing {S} seen gs r test e = go (slice_get gs r) refl (ap (place_passes test) (sym (slice_get-map (region_seen seen) gs r)) ∙ e)
  where
    go : (x : Option (Region S)) → slice_get gs r ≡ x → place_passes test (option_map (region_seen seen) x) ≡ true → Passing seen gs r test
    go None is f = absurd cc
    go (Some g) is f = record { region = g; is = is; passes = f }

pub home_lane : {S : Type 0} (seen : S → LaneSeen) (l : Lane S) → is_home_place (place_of seen l) ≡ true → (s : S) × (l ≡ lane.Home s)
home_lane seen (lane.Home s) e = (s, refl)
home_lane seen (lane.Reading key at why frame) e = absurd cc
home_lane seen (lane.Writing key at) e = absurd cc

pub record IsReadFor {S : Type 0} (l : Lane S) (k : Key) : Type 0 where
  pub at : ℕ
  pub why : Why
  pub frame : ℕ
  pub is : l ≡ lane.Reading k at why frame

pub reading_lane : {S : Type 0} (seen : S → LaneSeen) (l : Lane S) (k : Key) → core.reads (place_of seen l) k ≡ true → IsReadFor l k
reading_lane seen (lane.Home s) k e = absurd cc
reading_lane seen (lane.Reading key at why frame) k e = let same_page : key ≡ k = same-true key k e in record { at = at; why = why; frame = frame; is = ap (λ i. lane.Reading i at why frame) same_page }
reading_lane seen (lane.Writing key at) k e = absurd cc

-- ---- a lane changes its place

pub seen_at : {S : Type 0} (seen : S → LaneSeen) (gs : List (Region S)) (r : ℕ) (g : Region S) → slice_get gs r ≡ Some g → slice_get (map (region_seen seen) gs) r ≡ Some (region_seen seen g)
seen_at seen gs r g e = slice_get-map (region_seen seen) gs r ∙ ap (option_map (region_seen seen)) e

pub changed_seen : {S : Type 0} (seen : S → LaneSeen) (gs : List (Region S)) (r : ℕ) (g new : Region S) (change : RegionSeen → RegionSeen) → slice_get gs r ≡ Some g → region_seen seen new ≡ change (region_seen seen g)
    → map (region_seen seen) (slice_set gs r new) ≡ on_region r change (map (region_seen seen) gs)
changed_seen seen gs r g new change e is =
    map-set (region_seen seen) gs r new
    ∙ (ap (set (map (region_seen seen) gs) r) is ∙ sym (ap (put_back (map (region_seen seen) gs) r change) (seen_at seen gs r g e)))

pub reads_changed : {S : Type 0} (gs : List (Region S)) (r : ℕ) (new : Region S) → reads_of (slice_set gs r new) ≡ slice_set (reads_of gs) r (read_of new.lane)
reads_changed {S} gs r new = map-set (λ (g : Region S). read_of g.lane) gs r new

pub read_is : {S : Type 0} (gs : List (Region S)) (r : ℕ) (g : Region S) → slice_get gs r ≡ Some g → read_at (reads_of gs) r ≡ read_of g.lane
read_is {S} gs r g e = get_or_from_slice_get (reads_of gs) r (read_of g.lane) None (slice_get-map (λ (x : Region S). read_of x.lane) gs r ∙ ap (option_map (λ (x : Region S). read_of x.lane)) e)

pub reads_length : {S : Type 0} (gs : List (Region S)) → length (reads_of gs) ≡ length gs
reads_length [] = refl
reads_length (g ∷ gs) = ap suc (reads_length gs)

pub home_reads_none : {S : Type 0} (seen : S → LaneSeen) (l : Lane S) → is_home_place (place_of seen l) ≡ true → read_of l ≡ None
home_reads_none seen (lane.Home s) e = refl
home_reads_none seen (lane.Reading key at why frame) e = absurd cc
home_reads_none seen (lane.Writing key at) e = refl

pub is_read_out : (c : Core) (t : Trip) → IsReadOut c t → core.is_reading c t.key ≡ true
is_read_out c t out = ap (place_passes (λ place. core.reads place t.key)) out.is ∙ (ap (λ place. core.reads place t.key) out.out ∙ same_self t.key)
