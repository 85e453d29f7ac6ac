use Rattle.umap_pager.proofs.Added.{went_both}
use Rattle.umap_pager.proofs.laws.went_twice.Goals as goal

pub returns : goal.returns
returns g c = went_both c.went_laws.ensures
