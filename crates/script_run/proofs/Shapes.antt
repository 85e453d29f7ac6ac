-- The shapes of the regions of a workload that can be run.
use Rattle.std.proofs.Common.{List, [], ap, arith, map, sum, refl, ℕ, ◌/◌, ◌≤◌, ◌∷◌, ◌≡◌}
use Rattle.std.specs.Prelude.{sum_by}
use Rattle.std.proofs.lemmas.List.Sums.{sum-map}
use Rattle.page_base.specs.declared.keys.RegionShape.{RegionShape}
use Rattle.workload_text.specs.Grammar.{Region}
use Rattle.script_run.specs.Fits.{page_counts}
use Rattle.script_run.specs.InsideRunning.{shape_of}

pub pages_of_shapes : (z : ℕ) (gs : List Region) → map (λ (s : RegionShape). s.pages) (map (shape_of z) gs) ≡ page_counts z gs
pages_of_shapes z [] = refl
pages_of_shapes z (g ∷ gs) = ap (λ (ns : List ℕ). g.size / z ∷ ns) (pages_of_shapes z gs)

-- a page table holds the pages of shapes as it holds those of their regions
pub few_pages : (shapes : List RegionShape) (pages : List ℕ) → map (λ (s : RegionShape). s.pages) shapes ≡ pages → sum pages ≤ 1048576 → sum_by (λ (s : RegionShape). s.pages) shapes ≤ 1048576
few_pages shapes pages e few = omega (arith, few, ap sum e, sum-map (λ (s : RegionShape). s.pages) shapes)
