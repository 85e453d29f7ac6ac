-- A read that has ended had a frame kept for its page.
use Rattle.std.proofs.lemmas.Bool.{and_parts, ltb-true}
use Rattle.page_base.specs.Lanes.{LaneSeen}
use Rattle.page_base.specs.declared.keys.RegionShape.{RegionShape}
use Rattle.page_model.specs.Core.{Home}
use Rattle.page_model.specs.Setups.{Setup, has_page, is_page_of, pages_of}
use Rattle.page_model.specs.Steps.{read_missed}
use Rattle.std.proofs.lemmas.Option.{slice_get_within}
use Rattle.std.proofs.Common.{length, refl, None, true, ◌<◌, List, Option, Some, ap, slice_get, ℕ, ◌∙◌, ◌≡◌}
use Rattle.page_base.specs.declared.keys.Key.{Key}
use Rattle.page_base.specs.declared.keys.Why.{Why}
use Rattle.page_buffer.specs.Buffers.{BufferSeen}
use Rattle.stripe_core.specs.declared.region.Lane.TheVariants as lane
use Rattle.stripe_core.specs.declared.region.Region.{Region}
use Rattle.stripe_core.specs.Parts.{Table, region_seen, place_of}
use Rattle.stripe_core.specs.InsideParts.{read_of, reads_of}
use Rattle.stripe_core.specs.InsideTied.{Tied, read_at}
use Rattle.stripe_core.specs.InsideMade.{IsFailed}
use Rattle.stripe_core.proofs.Lanes.{read_is}
use Rattle.stripe_core.proofs.ReadTies.{KeptFor}

pub ended : {S : Type 0} (t : Table) (b : BufferSeen) (gs : List (Region S)) (k : Key) (g : Region S) (at : ℕ) (why : Why) (f : ℕ) → Tied t b (reads_of gs) → slice_get gs k.region ≡ Some g
    → g.lane ≡ lane.Reading k at why f → KeptFor b (reads_of gs) k f
ended t b gs k g at why f tied is was =
    let read : read_at (reads_of gs) k.region ≡ Some (record { key = k; frame = f }) = read_is gs k.region g is ∙ ap read_of was in
    record { frame = (tied.reads k.region (record { key = k; frame = f }) read).1; read = read }

pub page_within : (s : Setup) (k : Key) → has_page s k ≡ true → k.page < pages_of (slice_get s.shapes k.region)
page_within s k e = go (slice_get s.shapes k.region) e
  where
    go : (x : Option RegionShape) → is_page_of s x k ≡ true → k.page < pages_of x
    go None f = absurd cc
    go (Some shape) f = ltb-true k.page shape.pages (and_parts _ _ f).0

pub failed_seen : {S : Type 0} (seen : S → LaneSeen) (g : Region S) (s : S) (k : Key) (faults : ℕ) (new : Region S) → IsFailed g s k.page faults new → region_seen seen new ≡ read_missed k (seen s) faults (region_seen seen g)
failed_seen seen g s k faults new done =
    let place : place_of seen new.lane ≡ Home (seen s) = ap (place_of seen) done.place in
    let closing = done.closing in
    let unmapped = done.unmapped in
    let read_faults = done.read_faults in
    cc (place, closing, unmapped, read_faults)

pub region_within : (s : Setup) (k : Key) → has_page s k ≡ true → k.region < length s.shapes
region_within s k e = go (slice_get s.shapes k.region) refl e
  where
    go : (x : Option RegionShape) → slice_get s.shapes k.region ≡ x → is_page_of s x k ≡ true → k.region < length s.shapes
    go None is f = absurd cc
    go (Some shape) is f = slice_get_within s.shapes k.region shape is
