-- The rules on regions, one region after another.
use Rattle.std.proofs.Common.{◌≡◌, ℕ, ◌+◌, ◌%◌, ◌<◌, Bool, true, false, cond, not, eqb, List, [], ◌∷◌, ◌++◌, length, take, drop, map, get_or, Option, Some, None, refl, sym, ap, ◌∙◌, arith, append-nil}
use Rattle.std.specs.Option.{unwrap_or}
use Rattle.std.specs.List.{flat_map}
use Rattle.std.proofs.lemmas.Bool.{and_parts, and_from}
use Rattle.std.proofs.lemmas.List.{drop_more, take_more}
use Rattle.region_table.specs.Regions.{NamedRegion, TableSeen}
use Rattle.region_table.specs.Rules.{region_fault, has_good_length, is_whole, has_whole_files}
use Rattle.region_table.specs.declared.spec.RegionFault.{RegionFault}
use Rattle.region_table.specs.declared.spec.RegionFault.TheVariants as fault
use Rattle.workload_text.specs.Line.{Line, TextLine, says, silent, map_line, script_line, load_line, store_line, prefetch_line, flush_line, unmap_line}
use Rattle.workload_text.specs.Grammar.{lines_in}
use Rattle.workload_text.specs.Answers.{map_numbers}
use Rattle.workload_text.specs.View.{region, region_line, command_line, script_lines, lines_of}
use Rattle.workload_text.specs.declared.workload.MapLine.{MapLine}
use Rattle.workload_text.specs.declared.workload.Command.{Command}
use Rattle.workload_text.specs.declared.workload.Command.TheVariants.{Load, Store, Prefetch, Flush, Unmap}
use Rattle.workload_text.specs.declared.workload.Script.{Script}
use Rattle.workload_text.specs.declared.workload.Workload.{Workload}
use Rattle.script_run.specs.Fits.{has_whole_pages}
use Rattle.script_run.specs.Tables.{regions_seen}
use Rattle.script_run.specs.RegionRules.{named_region, rule, or_rule, region_refusal}
use Rattle.script_run.specs.declared.regions.RegionKind.{RegionKind}
use Rattle.script_run.specs.declared.regions.RegionRefusal.{RegionRefusal}

-- ---- the regions of a workload are those of its `map` lines

none_seen : (cs : List Command) (ls : List Line) → regions_seen (map command_line cs ++ ls) ≡ regions_seen ls
none_seen [] ls = refl
none_seen (Load r off len ∷ cs) ls = none_seen cs ls
none_seen (Store r off bytes ∷ cs) ls = none_seen cs ls
none_seen (Prefetch r off len ∷ cs) ls = none_seen cs ls
none_seen (Flush ∷ cs) ls = none_seen cs ls
none_seen (Unmap r ∷ cs) ls = none_seen cs ls

scripts_seen : (ss : List Script) → regions_seen (flat_map script_lines ss) ≡ []
scripts_seen [] = refl
scripts_seen (s ∷ ss) = none_seen s.commands.items (flat_map script_lines ss) ∙ scripts_seen ss

maps_seen : (ms : List MapLine) (ls : List Line) → regions_seen (map region_line ms ++ ls) ≡ map named_region ms ++ regions_seen ls
maps_seen [] ls = refl
maps_seen (m ∷ ms) ls = ap (λ (rs : List NamedRegion). named_region m ∷ rs) (maps_seen ms ls)

pub seen_are : (w : Workload) → regions_seen (lines_of w) ≡ map named_region w.maps.items
seen_are w = maps_seen w.maps.items (flat_map script_lines w.scripts.items) ∙ ap (λ (rs : List NamedRegion). map named_region w.maps.items ++ rs) (scripts_seen w.scripts.items) ∙ append-nil (map named_region w.maps.items)

-- each stands on a line
pub same_count : (n : ℕ) (ts : List TextLine) → length (map_numbers n ts) ≡ length (regions_seen (lines_in ts))
same_count n [] = refl
same_count n (silent text ∷ ts) = same_count (n + 1) ts
same_count n (says (map_line name backing size w) ∷ ts) = omega (arith, same_count (n + 1) ts)
same_count n (says (script_line name) ∷ ts) = same_count (n + 1) ts
same_count n (says (load_line r off len) ∷ ts) = same_count (n + 1) ts
same_count n (says (store_line r off bytes) ∷ ts) = same_count (n + 1) ts
same_count n (says (prefetch_line r off len) ∷ ts) = same_count (n + 1) ts
same_count n (says flush_line ∷ ts) = same_count (n + 1) ts
same_count n (says (unmap_line r) ∷ ts) = same_count (n + 1) ts

-- ---- one turn of the loop over regions

-- a fault that isn't want of memory is that of the rules
pub rule_is : (o : Option RegionFault) (f : RegionFault) (k : RegionKind) → f ≡ unwrap_or o fault.OutOfMemory → rule (Some f) ≡ Some k → rule o ≡ Some k
rule_is None f k e h = absurd (let g = sym (ap (λ (x : RegionFault). rule (Some x)) e) ∙ h in cc g)
rule_is (Some g) f k e h = ap (λ (x : RegionFault). rule (Some x)) (sym e) ∙ h

module _ (z : ℕ) (rs : List NamedRegion) (ns : List ℕ) (i n : ℕ) (r : NamedRegion) (t : TableSeen) (below : i < length rs) (here : r ≡ get_or rs i r) (inside : i < length ns) (number : n ≡ get_or ns i 0) (table : t ≡ record { page_size = z; regions = take i rs }) where
  turn : region_refusal z (take i rs) (drop i rs) (drop i ns) ≡ or_rule n (rule (region_fault t r)) (region_refusal z (take (i + 1) rs) (drop (i + 1) rs) (drop (i + 1) ns))
  turn =
      ap (λ (xs : List NamedRegion). region_refusal z (take i rs) xs (drop i ns)) (drop_more rs i r below ∙ ap (λ (x : NamedRegion). x ∷ drop (i + 1) rs) (sym here))
      ∙ ap (λ (ms : List ℕ). region_refusal z (take i rs) (r ∷ drop (i + 1) rs) ms) (drop_more ns i 0 inside ∙ ap (λ (m : ℕ). m ∷ drop (i + 1) ns) (sym number))
      ∙ ap (λ (x : TableSeen). or_rule n (rule (region_fault x r)) (region_refusal z (take i rs ++ r ∷ []) (drop (i + 1) rs) (drop (i + 1) ns))) (sym table)
      ∙ ap (λ (xs : List NamedRegion). or_rule n (rule (region_fault t r)) (region_refusal z xs (drop (i + 1) rs) (drop (i + 1) ns))) (ap (λ (x : NamedRegion). take i rs ++ x ∷ []) here ∙ sym (take_more rs i r below))

  pub table_more : (more : TableSeen) → more ≡ record { page_size = t.page_size; regions = t.regions ++ r ∷ [] } → more ≡ record { page_size = z; regions = take (i + 1) rs }
  table_more more e =
      e
      ∙ ap (λ (x : TableSeen). let y : TableSeen = record { page_size = x.page_size; regions = x.regions ++ r ∷ [] } in y) table
      ∙ ap (λ (xs : List NamedRegion). let y : TableSeen = record { page_size = z; regions = xs } in y) (ap (λ (x : NamedRegion). take i rs ++ x ∷ []) here ∙ sym (take_more rs i r below))

  pub turn_kept : region_fault t r ≡ None → region_refusal z (take i rs) (drop i rs) (drop i ns) ≡ region_refusal z (take (i + 1) rs) (drop (i + 1) rs) (drop (i + 1) ns)
  turn_kept h = turn ∙ ap (λ (o : Option RegionFault). or_rule n (rule o) (region_refusal z (take (i + 1) rs) (drop (i + 1) rs) (drop (i + 1) ns))) h

  pub turn_broken : (k : RegionKind) → rule (region_fault t r) ≡ Some k → region_refusal z (take i rs) (drop i rs) (drop i ns) ≡ Some (record { line = n; kind = k })
  turn_broken k h = turn ∙ ap (λ (o : Option RegionKind). or_rule n o (region_refusal z (take (i + 1) rs) (drop (i + 1) rs) (drop (i + 1) ns))) h

-- ---- regions that break no rule are whole pages

none_here : (n : ℕ) (k : Option RegionKind) (behind : Option RegionRefusal) → or_rule n k behind ≡ None → (k ≡ None) × (behind ≡ None)
none_here n None behind h = (refl, h)
none_here n (Some k) behind h = absurd (cc h)

good : (a b g c : Bool) (pages : ℕ) → rule (cond a (Some fault.SameName) (cond b (Some fault.SameStore) (cond (not g) (Some fault.BadLength) (cond c (Some (fault.TooManyPages pages)) None)))) ≡ None → g ≡ true
good true b g c pages h = absurd (cc h)
good false true g c pages h = absurd (cc h)
good false false true c pages h = refl
good false false false c pages h = absurd (cc h)

good_whole : (z : ℕ) (r : NamedRegion) → has_good_length z r ≡ true → eqb (r.size % z) 0 ≡ true
unfolding has_good_length
good_whole z r h = (and_parts _ _ (and_parts (is_whole z r.size) (has_whole_files z r.size r.backing) h).0).1

pub whole_pages : (z : ℕ) (before : List NamedRegion) (ms : List MapLine) (ns : List ℕ) → length ns ≡ length ms → region_refusal z before (map named_region ms) ns ≡ None → has_whole_pages z (map region ms) ≡ true
whole_pages z before [] ns e h = refl
whole_pages z before (m ∷ ms) [] e h = absurd (omega arith)
whole_pages z before (m ∷ ms) (n ∷ ns) e h =
    let p = none_here n _ _ h in
    and_from (eqb (m.length % z) 0) (has_whole_pages z (map region ms)) (good_whole z (named_region m) (good _ _ (has_good_length z (named_region m)) _ _ p.0)) (whole_pages z (before ++ named_region m ∷ []) ms ns (omega (arith, e)) p.1)
