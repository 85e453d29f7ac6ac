use Rattle.region_lanes.proofs.close.close_list.Goals as goal

pub returns-clause-faults : goal.returns-clause-faults
returns-clause-faults g c = rw c.into_vec.ensures at c.close_row.ensures.faults
