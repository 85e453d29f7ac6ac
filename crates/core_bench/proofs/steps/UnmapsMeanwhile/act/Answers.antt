use Rattle.std.proofs.Common.{arith}
use Rattle.core_bench.proofs.Regions.{has_region}
use Rattle.core_bench.proofs.steps.UnmapsMeanwhile.act.Goals as goal

pub unmap_below-self-requires-clause-below : goal.unmap_below-self-requires-clause-below
unmap_below-self-requires-clause-below g c = let below = has_region c.args.stripe.now.setup c.args.key c.requires.page in omega (arith, below)
