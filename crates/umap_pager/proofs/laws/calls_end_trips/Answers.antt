use Rattle.umap_pager.proofs.Trips.{calls_end}
use Rattle.umap_pager.proofs.laws.calls_end_trips.Goals as goal

pub returns : goal.returns
returns g c = calls_end _ _ c.went_laws.ensures
