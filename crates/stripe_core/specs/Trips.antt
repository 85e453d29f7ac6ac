-- What contracts see of a trip.
use Rattle.std.specs.Prelude.{ℕ}
use Rattle.page_base.specs.declared.keys.Key.{Key}
use Rattle.page_base.specs.Lanes.{LaneSeen}
use Rattle.page_model.specs.Trips.{Trip}

-- what it was handed out with, which no use of its lane changes, and the lane as it is now
pub record TripSeen : Type 0 where
  pub start : Trip
  pub lane : LaneSeen

abbrev pub trip_seen : (key : Key) (at : ℕ) (taken lane : LaneSeen) → TripSeen
trip_seen key at taken lane = record { start = record { key = key; at = at; taken = taken }; lane = lane }

-- the trip with this lane
abbrev pub with_lane : {S : Type 0} → (S → LaneSeen) → TripSeen → S → TripSeen
with_lane seen t lane = record t { lane = seen lane }
