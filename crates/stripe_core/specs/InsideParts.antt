-- The reads that are out, as the parts of a stripe hold them.
use Rattle.std.specs.Prelude.{ℕ, List, map, Option, Some, None}
use Rattle.page_base.specs.declared.keys.Key.{Key}
use Rattle.stripe_core.specs.declared.region.Lane.{Lane}
use Rattle.stripe_core.specs.declared.region.Lane.TheVariants as lane
use Rattle.stripe_core.specs.declared.region.Region.{Region}

-- a read that is out, and the frame that is kept for its page
pub record ReadOut : Type 0 where
  pub key : Key
  pub frame : ℕ

abbrev pub read_of : {S : Type 0} → Lane S → Option ReadOut
read_of (lane.Home s) = None
read_of (lane.Reading key at why frame) = Some (record { key = key; frame = frame })
read_of (lane.Writing key at) = None

-- by region: the read that is out
abbrev pub reads_of : {S : Type 0} → List (Region S) → List (Option ReadOut)
reads_of gs = map (λ g. read_of g.lane) gs
