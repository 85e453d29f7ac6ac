-- The regions of a table have whole pages.
use Rattle.std.proofs.Common.{◌≡◌, ℕ, zero, suc, ◌*◌, ◌/◌, ◌%◌, ◌==◌, Bool, true, false, cond, nat_lt, not, List, [], ◌∷◌, ◌++◌, Option, Some, None, is_none, arith, refl, sym, subst, ap, ◌∙◌}
use Rattle.std.specs.List.{slice_get, list_any, slice_index}
use Rattle.std.specs.Option.{option_map}
use Rattle.std.specs.Str.{bytes_eq}
use Rattle.std.proofs.lemmas.Bool.{and_parts, eqb-true}
use Rattle.std.proofs.lemmas.Option.{slice_get-map, get_or_from_slice_get}
use Rattle.std.proofs.Math.Nat.{mod-eq-sub-div-mul, div-mul-le_self}
use Rattle.page_base.specs.declared.keys.RegionShape.{RegionShape}
use Rattle.region_table.specs.declared.spec.RegionFault.{RegionFault}
use Rattle.region_table.specs.Regions.{NamedRegion, TableSeen, shape_of, shapes_of, lengths_of}
use Rattle.region_table.specs.Rules.{has_good_length, has_whole_files, is_whole, shares_store, region_fault, keeps_rules}

-- a chain of tests that finds nothing found the third one true
third_true : (first second third : Bool) (a b c : RegionFault) (rest : Option RegionFault) → is_none (cond first (Some a) (cond second (Some b) (cond (not third) (Some c) rest))) ≡ true → third ≡ true
third_true true second third a b c rest h = absurd cc
third_true false true third a b c rest h = absurd cc
third_true false false true a b c rest h = refl
third_true false false false a b c rest h = absurd cc

good_where_clear : (t : TableSeen) (r : NamedRegion) → is_none (region_fault t r) ≡ true → has_good_length t.page_size r ≡ true
good_where_clear t r h =
    third_true (list_any (λ (s : NamedRegion). bytes_eq s.name r.name) t.regions) (list_any (λ (s : NamedRegion). shares_store s.backing r.backing) t.regions) (has_good_length t.page_size r) _ _ _ _ h

good_at : (page_size : ℕ) (before rs : List NamedRegion) (i : ℕ) (r : NamedRegion) → keeps_rules page_size before rs ≡ true → slice_get rs i ≡ Some r → has_good_length page_size r ≡ true
good_at page_size before [] i r kept here = absurd cc
good_at page_size before (s ∷ rs) zero r kept here =
    let parts = and_parts (is_none (region_fault (record { page_size = page_size; regions = before }) s)) (keeps_rules page_size (before ++ s ∷ []) rs) kept in
    let same : s ≡ r = cc in
    subst (λ (q : NamedRegion). has_good_length page_size q ≡ true) same (good_where_clear (record { page_size = page_size; regions = before }) s parts.0)
good_at page_size before (s ∷ rs) (suc i) r kept here =
    let parts = and_parts (is_none (region_fault (record { page_size = page_size; regions = before }) s)) (keeps_rules page_size (before ++ s ∷ []) rs) kept in
    good_at page_size (before ++ s ∷ []) rs i r parts.1 here

whole_size : (page_size : ℕ) (r : NamedRegion) → has_good_length page_size r ≡ true → r.size % page_size ≡ 0
unfolding has_good_length
whole_size page_size r good =
    let whole = (and_parts (is_whole page_size r.size) (has_whole_files page_size r.size r.backing) good).0 in
    eqb-true (r.size % page_size) 0 (and_parts (nat_lt 0 r.size) (r.size % page_size == 0) whole).1

pub whole_pages : (t : TableSeen) → keeps_rules t.page_size [] t.regions ≡ true → (r : ℕ) (shape : RegionShape) → slice_get (shapes_of t) r ≡ Some shape → slice_index (lengths_of t) r ≡ shape.pages * t.page_size
whole_pages t rules r shape there = at (slice_get t.regions r) refl (sym (slice_get-map (shape_of t.page_size) t.regions r) ∙ there)
  where
    at : (o : Option NamedRegion) → slice_get t.regions r ≡ o → option_map (shape_of t.page_size) o ≡ Some shape → slice_index (lengths_of t) r ≡ shape.pages * t.page_size
    at None known e = absurd cc
    at (Some region) known e =
        let is : shape_of t.page_size region ≡ shape = cc in
        let pages : region.size / t.page_size ≡ shape.pages = ap (λ (s : RegionShape). s.pages) is in
        let size : slice_get (lengths_of t) r ≡ Some region.size = slice_get-map (λ (q : NamedRegion). q.size) t.regions r ∙ ap (option_map (λ (q : NamedRegion). q.size)) known in
        let whole : region.size % t.page_size ≡ 0 = whole_size t.page_size region (good_at t.page_size [] t.regions r region rules known) in
        let left = mod-eq-sub-div-mul region.size t.page_size in
        let most = div-mul-le_self region.size t.page_size in
        let same : region.size ≡ region.size / t.page_size * t.page_size = omega (arith, whole, left, most) in
        get_or_from_slice_get (lengths_of t) r region.size 0 size ∙ same ∙ ap (λ (n : ℕ). n * t.page_size) pages
