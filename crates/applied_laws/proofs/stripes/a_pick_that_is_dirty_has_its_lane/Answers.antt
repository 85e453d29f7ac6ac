use Rattle.applied_laws.proofs.stripes.a_pick_that_is_dirty_has_its_lane.Goals as goal

pub returns : goal.returns
returns c = λ h x p s is dirty. (c.picks_know.ensures.picked h x p s is).home dirty
