-- Where a lane's pages lie, and what a read and a write do to what the lane tells.
use Rattle.std.specs.Prelude.{◌≡◌, ◌≢◌, ℕ, ◌*◌, ◌/◌, ◌<◌, true, List, length, Option, Some, None, is_some, IfSome, Result}
use Rattle.page_base.specs.Lanes.{Origin, LaneSeen, has_page, told_at}
use Rattle.store_trait.specs.Causes.{HasCause}
use Rattle.store_trait.specs.declared.store.StoreFault.{StoreFault}

-- n bytes are one page, and byte `off` of the region is where a page of this lane begins
pub record IsPlace (o : Origin) (n off : ℕ) : Type 0 where
  pub some : 0 < o.page_size
  pub one_page : n ≡ o.page_size
  pub whole : off ≡ off / o.page_size * o.page_size
  pub of_lane : has_page o (off / o.page_size) ≡ true

-- these are the page's bytes, where the lane tells them
abbrev pub IsPageOf : List (Option (List ℕ)) → ℕ → List ℕ → Type 0
IsPageOf told page bytes = IfSome (told_at told page) (λ kept. bytes ≡ kept)

-- no page but this one changed, and it is told exactly where it was told before
pub record ChangesOnly (page : ℕ) (old new : List (Option (List ℕ))) : Type 0 where
  pub as_many : length new ≡ length old
  pub others : (q : ℕ) → q ≢ page → told_at new q ≡ told_at old q
  pub stays_told : is_some (told_at new page) ≡ is_some (told_at old page)

-- what is told of a page after these bytes were written to it: the bytes, where the page is told at all
abbrev pub retold : Option (List ℕ) → List ℕ → Option (List ℕ)
retold None bytes = None
retold (Some kept) bytes = Some bytes

-- the page tells these bytes now, where it was told before
abbrev pub TakesPage : (old new : LaneSeen) (page : ℕ) → List ℕ → Type 0
TakesPage old new page bytes = told_at new.told page ≡ retold (told_at old.told page) bytes

-- the page of the lane that begins at byte `off` of the region
abbrev pub page_number_at : LaneSeen → (off : ℕ) → ℕ
page_number_at lane off = off / lane.origin.page_size

-- a read at this byte gave the page's bytes, a write there gave it these bytes, and no page but this one changed
abbrev pub GivesPageAt : LaneSeen → (off : ℕ) → List ℕ → Type 0
GivesPageAt lane off bytes = IsPageOf lane.told (page_number_at lane off) bytes

abbrev pub TakesPageAt : (old new : LaneSeen) (off : ℕ) → List ℕ → Type 0
TakesPageAt old new off bytes = TakesPage old new (page_number_at old off) bytes

abbrev pub ChangesOnlyAt : (old new : LaneSeen) (off : ℕ) → Type 0
ChangesOnlyAt old new off = ChangesOnly (page_number_at old off) old.told new.told

-- a call of the lane answers a fault only where the lane's count of faults rose, which the fault carries
abbrev pub HasLaneCause : {A : Type 0} → (old new : LaneSeen) → Result A StoreFault → Type 0
HasLaneCause old new result = HasCause (λ (e : StoreFault). e.faults) old.count new.count result
