-- The regions of a workload's lines, by both views of them.
use Rattle.std.proofs.Common.{◌≡◌, ℕ, zero, suc, ◌+◌, ◌*◌, ◌/◌, ◌%◌, ◌<◌, true, false, not, cond, ◌&&◌, Bool, List, [], ◌∷◌, ◌++◌, length, slice_get, Option, Some, None, refl, sym, ap, ◌∙◌, arith}
use Rattle.std.specs.Prelude.{◌==◌, nat_lt}
use Rattle.std.specs.Option.{is_none}
use Rattle.std.specs.List.{list_any}
use Rattle.std.specs.Str.{bytes_eq}
use Rattle.std.proofs.lemmas.Bool.{and_parts, and_from, eqb-true}
use Rattle.std.proofs.lemmas.Nat.{div-add-mod'}
use Rattle.page_base.specs.Backings.{Backing, in_memory, in_file, in_files}
use Rattle.region_table.specs.Regions.{NamedRegion, TableSeen, page_count}
use Rattle.region_table.specs.Rules.{shares_store, has_good_length, region_fault, keeps_rules}
use Rattle.region_table.specs.declared.spec.RegionFault.{RegionFault}
use Rattle.region_table.specs.declared.spec.RegionFault.TheVariants.{SameName, SameStore, BadLength, TooManyPages, OutOfMemory}
use Rattle.workload_text.specs.Line.{Line, map_line, script_line, load_line, store_line, prefetch_line, flush_line, unmap_line}
use Rattle.workload_text.specs.Grammar.{Region, size_at}
use Rattle.workload_text.specs.Accepted.{regions_of}
use Rattle.workload_text.specs.Built.{is_built, is_built_line}
use Rattle.script_run.specs.Fits.{has_whole_pages}
use Rattle.script_run.specs.Tables.{regions_seen}
use Rattle.script_run.specs.RegionRules.{rule, or_rule, region_refusal}
use Rattle.script_run.specs.declared.regions.RegionKind.{RegionKind}
use Rattle.script_run.specs.declared.regions.RegionRefusal.{RegionRefusal}
use Rattle.region_lanes.specs.Regions.{is_folder, has_no_folders}
use Rattle.umapsh.proofs.Lists.{some_is}

pub as_many : (lines : List Line) → length (regions_seen lines) ≡ length (regions_of lines)
as_many [] = refl
as_many (map_line name backing size writable ∷ ls) = ap suc (as_many ls)
as_many (script_line name ∷ ls) = as_many ls
as_many (load_line r off len ∷ ls) = as_many ls
as_many (store_line r off bytes ∷ ls) = as_many ls
as_many (prefetch_line r off len ∷ ls) = as_many ls
as_many (flush_line ∷ ls) = as_many ls
as_many (unmap_line r ∷ ls) = as_many ls

pub size_of : (lines : List Line) (r : ℕ) (g : NamedRegion) → slice_get (regions_seen lines) r ≡ Some g → size_at (regions_of lines) r ≡ g.size
size_of [] r g e = absurd (cc)
size_of (map_line name backing size writable ∷ ls) zero g e = ap (λ (x : NamedRegion). x.size) (some_is e)
size_of (map_line name backing size writable ∷ ls) (suc r) g e = size_of ls r g e
size_of (script_line name ∷ ls) r g e = size_of ls r g e
size_of (load_line n off len ∷ ls) r g e = size_of ls r g e
size_of (store_line n off bytes ∷ ls) r g e = size_of ls r g e
size_of (prefetch_line n off len ∷ ls) r g e = size_of ls r g e
size_of (flush_line ∷ ls) r g e = size_of ls r g e
size_of (unmap_line n ∷ ls) r g e = size_of ls r g e

whole_at : (z : ℕ) (gs : List Region) → has_whole_pages z gs ≡ true → (r : ℕ) → r < length gs → size_at gs r ≡ size_at gs r / z * z
whole_at z [] pages r below = absurd (omega (arith, below))
whole_at z (g ∷ gs) pages zero below = omega (arith, div-add-mod' g.size z, eqb-true (g.size % z) 0 (and_parts _ _ pages).0)
whole_at z (g ∷ gs) pages (suc r) below = whole_at z gs (and_parts _ _ pages).1 r (omega (arith, below))

pub whole_of : (z : ℕ) (lines : List Line) → has_whole_pages z (regions_of lines) ≡ true → (r : ℕ) (g : NamedRegion) → r < length (regions_of lines) → slice_get (regions_seen lines) r ≡ Some g → g.size ≡ g.size / z * z
whole_of z lines pages r g below at =
    sym (size_of lines r g at) ∙ whole_at z (regions_of lines) pages r below ∙ ap (λ n. n / z * z) (size_of lines r g at)

-- lines that are built have no region in a folder of files
pub no_folders : (lines : List Line) → is_built lines ≡ true → has_no_folders (regions_seen lines) ≡ true
no_folders [] built = refl
no_folders (map_line name in_memory size writable ∷ ls) built = no_folders ls built
no_folders (map_line name (in_file path) size writable ∷ ls) built = no_folders ls built
no_folders (map_line name (in_files path file) size writable ∷ ls) built = absurd (cc)
no_folders (script_line name ∷ ls) built = no_folders ls built
no_folders (load_line r off len ∷ ls) built = no_folders ls built
no_folders (store_line r off bytes ∷ ls) built = no_folders ls built
no_folders (prefetch_line r off len ∷ ls) built = absurd (cc)
no_folders (flush_line ∷ ls) built = no_folders ls built
no_folders (unmap_line r ∷ ls) built = no_folders ls built

-- ---- regions that aren't refused keep the rules

no_rule : (a b c d : Bool) (n : ℕ) → rule (cond a (Some SameName) (cond b (Some SameStore) (cond c (Some BadLength) (cond d (Some (TooManyPages n)) None)))) ≡ None
    → is_none (cond a (Some SameName) (cond b (Some SameStore) (cond c (Some BadLength) (cond d (Some (TooManyPages n)) None)))) ≡ true
no_rule true b c d n e = absurd (cc)
no_rule false true c d n e = absurd (cc)
no_rule false false true d n e = absurd (cc)
no_rule false false false true n e = absurd (cc)
no_rule false false false false n e = refl

none_behind : (n : ℕ) (k : Option RegionKind) (behind : Option RegionRefusal) → or_rule n k behind ≡ None → (k ≡ None) × (behind ≡ None)
none_behind n None behind e = (refl, e)
none_behind n (Some k) behind e = absurd (cc)

pub unrefused_keep : (z : ℕ) (before gs : List NamedRegion) (ns : List ℕ) → length ns ≡ length gs → region_refusal z before gs ns ≡ None → keeps_rules z before gs ≡ true
unrefused_keep z before [] ns many none = refl
unrefused_keep z before (g ∷ gs) [] many none = absurd (omega (arith, many))
unrefused_keep z before (g ∷ gs) (n ∷ ns) many none =
    let t : TableSeen = record { page_size = z; regions = before } in
    let both = none_behind n (rule (region_fault t g)) (region_refusal z (before ++ g ∷ []) gs ns) none in
    and_from _ _
    (no_rule (list_any (λ (s : NamedRegion). bytes_eq s.name g.name) before) (list_any (λ (s : NamedRegion). shares_store s.backing g.backing) before) (not (has_good_length z g)) (nat_lt 1048576 (page_count t + g.size / z)) (page_count t + g.size / z) both.0)
    (unrefused_keep z (before ++ g ∷ []) gs ns (omega (arith, many)) both.1)
