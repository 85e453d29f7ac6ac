-- That a change of one region where no read begins or ends leaves the reads that are out as they were.
use Rattle.std.proofs.Common.{List, None, Option, Some, ap, refl, set, slice_get, sym, true, ℕ, ◌∙◌, ◌≡◌}
use Rattle.std.proofs.lemmas.Option.{get_or_from_slice_get}
use Rattle.std.proofs.Math.Seq.{map-set_same}
use Rattle.page_base.specs.declared.keys.Key.{Key}
use Rattle.page_base.specs.Lanes.{LaneSeen}
use Rattle.page_model.specs.Core as core
use Rattle.stripe_core.specs.declared.region.Lane.{Lane}
use Rattle.stripe_core.specs.declared.region.Lane.TheVariants as lane
use Rattle.stripe_core.specs.declared.region.Region.{Region}
use Rattle.stripe_core.specs.Parts.{place_of}
use Rattle.stripe_core.specs.InsideParts.{ReadOut, read_of, reads_of}

pub reads_kept : {S : Type 0} (gs : List (Region S)) (r : ℕ) (g new : Region S) → slice_get gs r ≡ Some g → read_of new.lane ≡ read_of g.lane → reads_of (set gs r new) ≡ reads_of gs
reads_kept {S} gs r g new is e =
    let read : Region S → Option ReadOut = λ x. read_of x.lane in
    map-set_same read gs r new g (e ∙ ap read (sym (get_or_from_slice_get gs r g g is)))

-- a region whose lane is out for a write has no read out
pub writes_reads_none : {S : Type 0} (seen : S → LaneSeen) (l : Lane S) (k : Key) → core.writes (place_of seen l) k ≡ true → read_of l ≡ None
writes_reads_none seen (lane.Home s) k e = refl
writes_reads_none seen (lane.Reading key at why frame) k e = absurd cc
writes_reads_none seen (lane.Writing key at) k e = refl
