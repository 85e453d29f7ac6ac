-- The table of a workload's regions, and its regions by their lines.
use Rattle.std.proofs.Common.{◌≡◌, ℕ, zero, suc, ◌+◌, ◌/◌, ◌<◌, ◌≤◌, true, List, [], ◌∷◌, length, map, sum, slice_index, refl, ap, ◌∙◌, arith}
use Rattle.std.proofs.lemmas.Bool.{and_parts}
use Rattle.std.proofs.lemmas.List.Sums.{sum-map}
use Rattle.page_base.specs.Backings.{in_memory, in_file}
use Rattle.page_base.specs.declared.keys.RegionShape.{RegionShape}
use Rattle.region_table.specs.Regions.{TableSeen, shapes_of, lengths_of, page_count}
use Rattle.serial_pager.specs.Pagers.{PagerSeen}
use Rattle.workload_text.specs.Line.{Line, map_line, script_line, load_line, store_line, flush_line, unmap_line}
use Rattle.workload_text.specs.Grammar.{size_at}
use Rattle.workload_text.specs.Accepted.{regions_of}
use Rattle.workload_text.specs.Built.{is_built, is_built_line}
use Rattle.script_run.specs.Fits.{page_counts}
use Rattle.script_run.specs.Tables.{regions_seen, table_of}
use Rattle.script_run.specs.InsideRanges.{IsListed}
use Rattle.script_run.specs.InsideRunning.{shape_of}
use Rattle.script_run.proofs.Shapes.{pages_of_shapes}

pub as_many : (lines : List Line) → length (regions_seen lines) ≡ length (regions_of lines)
as_many [] = refl
as_many (map_line name backing size writable ∷ ls) = ap suc (as_many ls)
as_many (l ∷ ls) = as_many ls

size_is : (z : ℕ) (lines : List Line) (r : ℕ) → slice_index (lengths_of (table_of z lines)) r ≡ size_at (regions_of lines) r
size_is z [] r = refl
size_is z (map_line name backing size writable ∷ ls) zero = refl
size_is z (map_line name backing size writable ∷ ls) (suc r) = size_is z ls r
size_is z (l ∷ ls) r = size_is z ls r

-- no region lies in a folder of files
pub shapes_are : (z : ℕ) (lines : List Line) → is_built lines ≡ true → shapes_of (table_of z lines) ≡ map (shape_of z) (regions_of lines)
shapes_are z [] h = refl
shapes_are z (map_line name in_memory size writable ∷ ls) h = ap (λ (ss : List RegionShape). record { pages = size / z; group = 1; writable = writable } ∷ ss) (shapes_are z ls h)
shapes_are z (map_line name (in_file path) size writable ∷ ls) h = ap (λ (ss : List RegionShape). record { pages = size / z; group = 1; writable = writable } ∷ ss) (shapes_are z ls (and_parts (is_built_line (map_line name (in_file path) size writable)) (is_built ls) h).1)
shapes_are z (script_line name ∷ ls) h = shapes_are z ls h
shapes_are z (load_line n off len ∷ ls) h = shapes_are z ls h
shapes_are z (store_line n off bytes ∷ ls) h = shapes_are z ls h
shapes_are z (flush_line ∷ ls) h = shapes_are z ls h
shapes_are z (unmap_line r ∷ ls) h = shapes_are z ls h
shapes_are z (l ∷ ls) h = absurd (cc)

-- a table has few pages, so its regions have
pub few_of_table : (z : ℕ) (lines : List Line) → is_built lines ≡ true → page_count (table_of z lines) ≤ 1048576 → sum (page_counts z (regions_of lines)) ≤ 1048576
few_of_table z lines built few =
    let same : map (λ (s : RegionShape). s.pages) (shapes_of (table_of z lines)) ≡ page_counts z (regions_of lines) = ap (map (λ (s : RegionShape). s.pages)) (shapes_are z lines built) ∙ pages_of_shapes z (regions_of lines) in
    omega (arith, few, sum-map (λ (s : RegionShape). s.pages) (shapes_of (table_of z lines)), ap sum same)

pub is_listed : {J : Type 0} (lines : List Line) (p : PagerSeen J) (table : TableSeen) (r off len : ℕ) → table ≡ table_of p.page_size lines → 0 < p.page_size → r < length (regions_of lines) → off + len ≤ size_at (regions_of lines) r → IsListed p table r off len
is_listed lines p table r off len is some known inside = record {
  page_size = ap (λ (t : TableSeen). t.page_size) is;
  some = some;
  known = omega (arith, known, as_many lines, ap (λ (t : TableSeen). length t.regions) is);
  ends = omega (arith, inside, size_is p.page_size lines r, ap (λ (t : TableSeen). slice_index (lengths_of t) r) is);
}
