use Rattle.umap_pager.proofs.Fresh.{fresh_home, fresh_lanes}
use Rattle.umap_pager.proofs.opening.unmade.Goals as goal

pub into_lanes-requires : goal.into_lanes-requires
into_lanes-requires g c = record { home = fresh_home c.args.stripe c.requires.fresh }

pub returns-clause-lanes : goal.returns-clause-lanes
returns-clause-lanes g c = fresh_lanes g.S.Store.seen c.args.stripe c.into_lanes.result.items c.requires.fresh c.into_lanes.ensures.lanes
