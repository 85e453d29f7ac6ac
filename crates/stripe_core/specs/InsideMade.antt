-- The parts of a stripe that has just been made.
use Rattle.std.specs.Prelude.{ℕ, false, List, [], ◌∷◌, ◌≡◌, length, replicate, slice_set}
use Rattle.page_base.specs.declared.keys.RegionShape.{RegionShape}
use Rattle.page_buffer.specs.Buffers.{BufferSeen, all_free}
use Rattle.page_model.specs.Setups.{quota}
use Rattle.stripe_core.specs.declared.config.StripeConfig.{StripeConfig}
use Rattle.stripe_core.specs.declared.region.Lane.TheVariants as lane
use Rattle.stripe_core.specs.declared.region.Region.{Region}
use Rattle.stripe_core.specs.Configs.{setup_of}
use Rattle.stripe_core.specs.InsideReadFaults.{ReadFaultsSeen}

-- as many free frames as the quota
abbrev pub buffer_made : StripeConfig → BufferSeen
buffer_made c = all_free (quota (setup_of c [])) c.layout.page_size (length c.shapes.items)

-- the read faults of a region none of whose reads failed
abbrev pub no_faults : RegionShape → List ℕ
no_faults shape = replicate shape.pages 0

abbrev pub region_made : {S : Type 0} → S → ReadFaultsSeen → Region S
region_made s faults = record { lane = lane.Home s; closing = false; unmapped = false; read_faults = faults }

-- one region for each lane, with the read faults that go with it
abbrev pub regions_made : {S : Type 0} → List S → List ReadFaultsSeen → List (Region S)
regions_made [] faults = []
regions_made (s ∷ lanes) [] = []
regions_made (s ∷ lanes) (f ∷ faults) = region_made s f ∷ regions_made lanes faults

-- the region with its lane home, and this number of a failed read of the page
pub record IsFailed {S : Type 0} (g : Region S) (s : S) (page faults : ℕ) (new : Region S) : Type 0 where
  pub place : new.lane ≡ lane.Home s
  pub closing : new.closing ≡ g.closing
  pub unmapped : new.unmapped ≡ g.unmapped
  pub share : new.read_faults.share ≡ g.read_faults.share
  pub read_faults : new.read_faults.numbers ≡ slice_set g.read_faults.numbers page faults
