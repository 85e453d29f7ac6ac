-- Lanes and regions that fit a workload.
use Rattle.std.proofs.Common.{◌≡◌, ℕ, zero, suc, ◌+◌, ◌*◌, ◌%◌, ◌<◌, ◌≤◌, true, List, [], ◌∷◌, length, map, get_or, refl, ap, arith}
use Rattle.std.specs.List.{enumerate_from}
use Rattle.std.proofs.lemmas.Bool.{and_parts, eqb-true}
use Rattle.std.proofs.lemmas.Nat.{div-add-mod'}
use Rattle.page_base.specs.Backings.{in_memory, in_file, in_files}
use Rattle.page_base.specs.Lanes.{Origin}
use Rattle.store_trait.specs.Memory.{memory_origin}
use Rattle.workload_text.specs.Line.{Line, map_line}
use Rattle.workload_text.specs.Grammar.{Region, size_at}
use Rattle.workload_text.specs.Accepted.{AllFit, regions_of}
use Rattle.workload_text.specs.Built.{is_in_memory}
use Rattle.script_run.specs.Fits.{page_counts, has_whole_pages}

-- the pages of a row of origins
pub origins_pages : (n size stripes s : ℕ) (pages : List ℕ) → map (λ (o : Origin). o.pages) (map (λ (e : ℕ × ℕ). memory_origin e.0 e.1 size stripes s) (enumerate_from n pages)) ≡ pages
origins_pages n size stripes s [] = refl
origins_pages n size stripes s (p ∷ pages) = ap (λ (ps : List ℕ). p ∷ ps) (origins_pages (n + 1) size stripes s pages)

pub item_at : {X : Type 0} (xs : List X) (i : ℕ) → i < length xs → (x : X) × (get_or xs i x ≡ x)
item_at [] i below = absurd (omega arith)
item_at (x ∷ xs) zero below = (x, refl)
item_at (x ∷ xs) (suc i) below = item_at xs i (omega arith)

-- whole pages make the region's size
pub sizes_whole : (z : ℕ) (gs : List Region) → has_whole_pages z gs ≡ true → (r : ℕ) → r < length gs → get_or (page_counts z gs) r 0 * z ≡ size_at gs r
sizes_whole z [] whole r below = absurd (omega arith)
sizes_whole z (g ∷ gs) whole zero below = omega (arith, div-add-mod' g.size z, eqb-true (g.size % z) 0 (and_parts _ _ whole).0)
sizes_whole z (g ∷ gs) whole (suc r) below = sizes_whole z gs (and_parts _ _ whole).1 r (omega arith)

-- no region is larger than may be kept
pub sizes_kept : (gs : List Region) (ls : List Line) → AllFit gs ls → (r : ℕ) → size_at (regions_of ls) r ≤ 1099511627776
sizes_kept gs [] fit r = omega arith
sizes_kept gs (map_line name in_memory size writable ∷ ls) fit zero = omega (arith, fit.0.most)
sizes_kept gs (map_line name (in_file path) size writable ∷ ls) fit zero = fit.0.most
sizes_kept gs (map_line name (in_files path file) size writable ∷ ls) fit zero = fit.0.most
sizes_kept gs (map_line name backing size writable ∷ ls) fit (suc r) = sizes_kept gs ls fit.1 r
sizes_kept gs (l ∷ ls) fit r = sizes_kept gs ls fit.1 r

-- no region in memory is large
pub sizes_small : (gs : List Region) (ls : List Line) → is_in_memory ls ≡ true → AllFit gs ls → (r : ℕ) → size_at (regions_of ls) r ≤ 16777216
sizes_small gs [] memory fit r = omega arith
sizes_small gs (map_line name in_memory size writable ∷ ls) memory fit zero = fit.0.most
sizes_small gs (map_line name in_memory size writable ∷ ls) memory fit (suc r) = sizes_small gs ls memory fit.1 r
sizes_small gs (map_line name (in_file path) size writable ∷ ls) memory fit r = absurd (cc memory)
sizes_small gs (map_line name (in_files path file) size writable ∷ ls) memory fit r = absurd (cc memory)
sizes_small gs (l ∷ ls) memory fit r = sizes_small gs ls memory fit.1 r
