-- Trips: a lane that is out of its stripe for one read or one write, and what it may be like when it comes back.
use Rattle.std.specs.Prelude.{ℕ, ◌≤◌, ◌≢◌, Bool, true, false, List, length, Some, is_some, ◌≡◌}
use Rattle.histories.specs.Histories.{History}
use Rattle.page_base.specs.declared.keys.Key.{Key}
use Rattle.page_base.specs.Lanes.{LaneSeen, told_at}
use Rattle.page_model.specs.declared.entry.Entry.{Entry}
use Rattle.page_model.specs.Setups.{Setup}
use Rattle.page_model.specs.InFlight.{in_flight}
use Rattle.page_model.specs.Stands.{HomeLane}

-- what a trip shows that no use of its lane changes: its page, the place of its start, and its lane as it was taken
pub record Trip : Type 0 where
  pub key : Key
  pub at : ℕ
  pub taken : LaneSeen

-- the trip is the open read or write of its page in this history, made by owner o, with its lane as it was then
pub record IsOpen (writes : Bool) (s : Setup) (h : History Entry) (o : ℕ) (t : Trip) : Type 0 where
  pub before : History Entry
  pub is : in_flight h t.key.region ≡ Some (record { before = before; owner = o; key = t.key; writes = writes })
  pub at_is : t.at ≡ length before
  pub taken : HomeLane s before t.key.region t.taken

abbrev pub IsOpenRead : Setup → History Entry → ℕ → Trip → Type 0
IsOpenRead s h o t = IsOpen false s h o t

abbrev pub IsOpenWrite : Setup → History Entry → ℕ → Trip → Type 0
IsOpenWrite s h o t = IsOpen true s h o t

-- the lane as it was taken, with a count that didn't fall
pub record SameLane (taken lane : LaneSeen) : Type 0 where
  pub origin : lane.origin ≡ taken.origin
  pub told : lane.told ≡ taken.told
  pub count : taken.count ≤ lane.count

-- the lane with these bytes in page p, and all else as it was taken
pub record WithPage (p : ℕ) (bytes : List ℕ) (taken lane : LaneSeen) : Type 0 where
  pub origin : lane.origin ≡ taken.origin
  pub page : is_some (told_at taken.told p) ≡ true → told_at lane.told p ≡ Some bytes
  pub others : (q : ℕ) → q ≢ p → told_at lane.told q ≡ told_at taken.told q
  pub count : taken.count ≤ lane.count

-- the lane with anything in page p, told where it was told, its other pages as they were taken, and a count that didn't fall
pub record OtherPages (p : ℕ) (taken lane : LaneSeen) : Type 0 where
  pub origin : lane.origin ≡ taken.origin
  pub page : is_some (told_at taken.told p) ≡ true → is_some (told_at lane.told p) ≡ true
  pub others : (q : ℕ) → q ≢ p → told_at lane.told q ≡ told_at taken.told q
  pub count : taken.count ≤ lane.count

-- these are the bytes of page p, where the lane tells them
abbrev pub HoldsPage : LaneSeen → ℕ → List ℕ → Type 0
HoldsPage lane p bytes = (kept : List ℕ) → told_at lane.told p ≡ Some kept → bytes ≡ kept
