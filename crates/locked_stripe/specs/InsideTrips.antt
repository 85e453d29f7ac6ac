-- What is known of a trip that began: the lane, and what a write took along.
use Rattle.std.specs.Prelude.{ℕ, ◌<◌, ◌≡◌, List}
use Rattle.histories.specs.Histories.{History}
use Rattle.page_base.specs.declared.keys.Key.{Key}
use Rattle.page_model.specs.declared.entry.Entry.{Entry}
use Rattle.page_model.specs.InFlight.{WritesTaken}
use Rattle.page_model.specs.Readers.{LaneHas}
use Rattle.page_model.specs.Setups.{Setup}
use Rattle.stripe_core.specs.Trips.{TripSeen}

-- the bytes are what the page held when its write started
pub record TookBytes (s : Setup) (h : History Entry) (k : Key) (bytes : List ℕ) : Type 0 where
  pub taken : WritesTaken s h k bytes

-- the lane is as it was taken, and has the page
pub record LaneOut (u : Setup) (t : TripSeen) : Type 0 where
  pub fresh : t.lane ≡ t.start.taken
  pub has : LaneHas u t.start.key t.lane
  pub some : 0 < u.page_size
