use Rattle.umap_pager.proofs.Showing.{went_shows}
use Rattle.umap_pager.proofs.laws.went_knows.Goals as goal

pub returns : goal.returns
returns g c = went_shows _
