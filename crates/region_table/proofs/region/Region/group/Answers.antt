use Rattle.std.proofs.Common.{ap, ◌∙◌, sym, arith}
use Rattle.region_table.specs.Regions.{NamedRegion, backing_of}
use Rattle.region_table.proofs.Keeping.{pages_of_file}
use Rattle.region_table.proofs.region.Region.group.Goals as goal

pub overflow_cast-result : goal.overflow_cast-result
overflow_cast-result c =
    let is = sym (ap (λ (r : NamedRegion). r.backing) c.self.view_is) ∙ ap backing_of c.in-Sparse.is in
    let fits = pages_of_file c.args.page_size c.args.self.now c.in-Sparse.path.items c.in-Sparse.file c.requires.sized c.requires.good is in
    rw c.from.ensures (omega (arith, fits))

pub returns-in-Sparse-clause-some : goal.returns-in-Sparse-clause-some
returns-in-Sparse-clause-some c =
    let is = sym (ap (λ (r : NamedRegion). r.backing) c.self.view_is) ∙ ap backing_of c.in-Sparse.is in
    let fits = pages_of_file c.args.page_size c.args.self.now c.in-Sparse.path.items c.in-Sparse.file c.requires.sized c.requires.good is in
    rw c.from.ensures (omega (arith, fits))
