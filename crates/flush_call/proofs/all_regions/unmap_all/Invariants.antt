use Rattle.std.proofs.Common.{◌≡◌, None}
use Rattle.umap_pager.specs.Passes.{FitTo}
use Rattle.flush_call.specs.UnmapsAll.{AllUnmapped, UnmapsRegions}
use Rattle.flush_call.proofs.all_regions.unmap_all.Given as goal

abbrev pub invariant-loop-region : goal.invariant-loop-region
invariant-loop-region g l = FitTo l.pager l.p × UnmapsRegions l.pager l.region l.initial.p l.p l.first × (l.first ≡ None → AllUnmapped l.region l.pager l.p)
