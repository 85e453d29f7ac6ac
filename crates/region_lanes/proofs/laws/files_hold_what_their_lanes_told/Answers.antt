use Rattle.region_lanes.proofs.Ends.{region_end}
use Rattle.region_lanes.proofs.laws.files_hold_what_their_lanes_told.Goals as goal

pub returns : goal.returns
returns c = λ n stripes regions rows r g path contents before old new lanes apart some_page some_stripe known lies whole size fits there tells closes.
    region_end n stripes regions rows lanes apart some_page some_stripe r g path known lies contents before old new whole size fits there tells closes
