-- How a pager is opened.
use Rattle.std.specs.Prelude.{ℕ, ◌^◌, ◌<◌, ◌≤◌, ◌≡◌, List, [], length, slice_get, Some}
use Rattle.histories.specs.Histories.{History}
use Rattle.page_base.specs.declared.keys.RegionShape.{RegionShape}
use Rattle.page_base.specs.declared.limits.TheConstants.{MOST_FAULTS}
use Rattle.page_base.specs.Lanes.{LaneSeen}
use Rattle.page_model.specs.declared.entry.Entry.{Entry}
use Rattle.page_model.specs.Setups.{Setup, IsLaneOf}
use Rattle.region_table.specs.Regions.{TableSeen, shapes_of}
use Rattle.turn_lock.specs.declared.lock.TheConstants.{MOST_SEATS}
use Rattle.turn_lock.specs.Seen.{LockSeen, PassSeen, first_pass}
use Rattle.locked_stripe.specs.declared.stripe_box.StripeBox.{StripeBox}
use Rattle.locked_stripe.specs.Terms.{locked_setup}
use Rattle.umap_pager.specs.declared.config.OpenFault.{OpenFault}
use Rattle.umap_pager.specs.declared.config.OpenFault.TheVariants.{OutOfMemory}
use Rattle.umap_pager.specs.declared.config.PagerConfig.{PagerConfig}
use Rattle.umap_pager.specs.Ended.{AreAtHome, rows_seen}
use Rattle.umap_pager.specs.Passes.{PassesSeen, FitTo}
use Rattle.umap_pager.specs.Shared.{SharedPager}

-- the setup of the stripe of this number, over these lanes
abbrev pub shared_setup : PagerConfig → TableSeen → ℕ → List LaneSeen → Setup
shared_setup c t s row = record {
  page_size = c.layout.page_size;
  stripes = c.layout.stripes;
  frames = c.layout.frames;
  number = s;
  faults = c.faults;
  high = c.high;
  low = c.low;
  shapes = shapes_of t;
  lanes = row;
}

-- the numbers are in their ranges; there are a journal and lanes for each stripe, one lane a region with the stripe's pages of it
pub record CanShare (c : PagerConfig) (t : TableSeen) (rows : List (List LaneSeen)) (given : ℕ) : Type 0 where
  pub page_size : t.page_size ≡ c.layout.page_size
  pub some_fault : 1 ≤ c.faults
  pub few_faults : c.faults ≤ MOST_FAULTS
  pub marks : c.low < c.high
  pub percent : c.high ≤ 100
  pub some_seat : 1 ≤ c.seats
  pub few_seats : c.seats ≤ MOST_SEATS
  pub some_holds : 2 ≤ c.holds
  pub few_holds : c.holds ≤ 2 ^ 40
  pub stripes : length rows ≡ c.layout.stripes
  pub journals : given ≡ c.layout.stripes
  pub count : (s : ℕ) (row : List LaneSeen) → slice_get rows s ≡ Some row → length row ≡ length t.regions
  pub lanes : (s r : ℕ) (row : List LaneSeen) (shape : RegionShape) (lane : LaneSeen) → slice_get rows s ≡ Some row → slice_get (shapes_of t) r ≡ Some shape → slice_get row r ≡ Some lane → IsLaneOf (shared_setup c t s row) r shape lane.origin

-- each of these journals has noted the history of no entry
abbrev pub HaveNotedNothing : {J : Type 0} → (J → History Entry → Type 0) → List J → Type 0
HaveNotedNothing {J} has_noted journals = (s : ℕ) (journal : J) → slice_get journals s ≡ Some journal → has_noted journal []

module _ {S J : Type 0} where
  -- the lock is over the stripe of this number, with these lanes and this journal, and its pass is its first one
  pub record IsNewLock (c : PagerConfig) (t : TableSeen) (s : ℕ) (row : List LaneSeen) (given : J) (lock : LockSeen (StripeBox S J)) (pass : PassSeen (StripeBox S J) Entry) : Type 0 where
    pub setup : locked_setup lock ≡ shared_setup c t s row
    pub journal : lock.origin.noted.value.journal ≡ given
    pub seats : lock.seats ≡ c.seats
    pub holds : lock.holds ≡ c.holds
    pub first : pass ≡ first_pass lock

  -- the pager has these locks, and the passes are their first ones
  pub record OpensShared (c : PagerConfig) (t : TableSeen) (rows : List (List LaneSeen)) (journals : List J) (pager : SharedPager S J) (p : PassesSeen (StripeBox S J)) : Type 0 where
    pub layout : pager.layout ≡ c.layout
    pub table : pager.table ≡ t
    pub stripes : length pager.locks ≡ c.layout.stripes
    pub fit : FitTo pager p
    pub each : (s : ℕ) (row : List LaneSeen) (journal : J) (lock : LockSeen (StripeBox S J)) (pass : PassSeen (StripeBox S J) Entry) → slice_get rows s ≡ Some row → slice_get journals s ≡ Some journal
        → slice_get pager.locks s ≡ Some lock → slice_get p.passes s ≡ Some pass → IsNewLock c t s row journal lock pass

-- There is no pager: the lanes come back and tell of their pages what they told, and the journals have noted nothing.
pub record GivesBack {J M : Type 0} (has_noted : J → History Entry → Type 0) (made_with : J → M) (c : PagerConfig) (t : TableSeen) (rows : List (List LaneSeen)) (given : List J) (back : List (List LaneSeen)) (noted : List J) : Type 0 where
  pub lanes : length back ≡ length rows
  pub journals : length noted ≡ length given
  pub home : (s : ℕ) (row own : List LaneSeen) → slice_get rows s ≡ Some row → slice_get back s ≡ Some own → AreAtHome (shared_setup c t s row) [] own
  pub nothing : HaveNotedNothing has_noted noted
  pub made : (s : ℕ) (journal own : J) → slice_get given s ≡ Some journal → slice_get noted s ≡ Some own → made_with own ≡ made_with journal

-- the lanes and the journals of a refused opening
abbrev pub BackFrom : {S J M : Type 0} → (J → History Entry → Type 0) → (J → M) → (S → LaneSeen) → PagerConfig → TableSeen → List (List LaneSeen) → List J → OpenFault S J → Type 0
BackFrom has_noted made_with seen c t rows given (OutOfMemory lanes journals) = GivesBack has_noted made_with c t rows given (rows_seen seen lanes.stripes.items) journals.items
