-- What follows for the regions of a table that keeps the rules.
use Rattle.std.proofs.Common.{◌≡◌, ℕ, ◌+◌, ◌*◌, ◌/◌, ◌%◌, ◌<◌, ◌≤◌, ◌==◌, nat_lt, nat_le, Bool, true, false, not, ◌&&◌, if◌then◌else◌, inl, inr, List, [], ◌∷◌, ◌++◌, map, sum_by, slice_get, slice_index, Option, Some, None, is_none, refl, sym, ap, subst, ◌∙◌, zero, suc, append_assoc, append-nil, arith}
use Rattle.std.proofs.lemmas.Bool.{cases_lt, ltb-true, eqb-true}
use Rattle.std.proofs.lemmas.List.{map-append}
use Rattle.std.proofs.lemmas.List.Sums.{sum_by-cons, sum_by_push}
use Rattle.std.proofs.lemmas.Nat.{le-div}
use Rattle.std.proofs.Math.Nat.{mod-eq_of_lt, div-mul-le_self, lt-div-mul-add, mul-le-mul_right, le-add_left}
use Rattle.std.specs.List.{list_any}
use Rattle.std.specs.Str.{bytes_eq}
use Rattle.page_base.specs.Backings.{in_files}
use Rattle.page_base.specs.declared.keys.RegionShape.{RegionShape}
use Rattle.region_table.specs.declared.region.TheConstants.{MOST_FILES}
use Rattle.region_table.specs.declared.spec.RegionFault.{RegionFault}
use Rattle.region_table.specs.Regions.{NamedRegion, TableSeen, shape_of, page_count}
use Rattle.region_table.specs.Rules.{has_good_length, has_whole_files, is_whole, shares_store, region_fault, keeps_rules}

both : (a b : Bool) → a && b ≡ true → (a ≡ true) × (b ≡ true)
both true b h = (refl, h)
both false b h = absurd (cc)

abbrev pub behind : ℕ → List NamedRegion → TableSeen
behind page_size before = record { page_size = page_size; regions = before }

-- a chain of tests that clears a region found the third one true
third_true : (first second third : Bool) (a b c : RegionFault) (rest : Option RegionFault) → is_none (if first then Some a else (if second then Some b else (if not third then Some c else rest))) ≡ true → third ≡ true
third_true true second third a b c rest h = absurd (cc)
third_true false true third a b c rest h = absurd (cc)
third_true false false true a b c rest h = refl
third_true false false false a b c rest h = absurd (cc)

-- a region that breaks no rule has a good length
good_where_clear : (t : TableSeen) (r : NamedRegion) → is_none (region_fault t r) ≡ true → has_good_length t.page_size r ≡ true
good_where_clear t r h =
    third_true (list_any (λ (s : NamedRegion). bytes_eq s.name r.name) t.regions) (list_any (λ (s : NamedRegion). shares_store s.backing r.backing) t.regions) (has_good_length t.page_size r) _ _ _ _ h

is_none_of : (o : Option RegionFault) → o ≡ None → is_none o ≡ true
is_none_of o h = ap is_none h

pub keeps_one_more : (page_size : ℕ) (before rs : List NamedRegion) (r : NamedRegion) → keeps_rules page_size before rs ≡ true → region_fault (record { page_size = page_size; regions = before ++ rs }) r ≡ None → keeps_rules page_size before (rs ++ r ∷ []) ≡ true
keeps_one_more page_size before [] r kept clear =
    let clear' : region_fault (behind page_size before) r ≡ None = subst (λ (l : List NamedRegion). region_fault (behind page_size l) r ≡ None) (append-nil before) clear in
    ap (λ b. b && true) (is_none_of (region_fault (behind page_size before) r) clear')
keeps_one_more page_size before (s ∷ rs) r kept clear =
    let parts = both (is_none (region_fault (behind page_size before) s)) (keeps_rules page_size (before ++ s ∷ []) rs) kept in
    let clear' : region_fault (behind page_size ((before ++ s ∷ []) ++ rs)) r ≡ None = subst (λ (l : List NamedRegion). region_fault (behind page_size l) r ≡ None) (sym (append_assoc before (s ∷ []) rs)) clear in
    rw parts.0 (keeps_one_more page_size (before ++ s ∷ []) rs r parts.1 clear')

pub good_at : (page_size : ℕ) (before rs : List NamedRegion) (i : ℕ) (r : NamedRegion) → keeps_rules page_size before rs ≡ true → slice_get rs i ≡ Some r → has_good_length page_size r ≡ true
good_at page_size before [] i r kept here = absurd (cc)
good_at page_size before (s ∷ rs) zero r kept here =
    let parts = both (is_none (region_fault (behind page_size before) s)) (keeps_rules page_size (before ++ s ∷ []) rs) kept in
    let same : s ≡ r = cc in
    subst (λ (q : NamedRegion). has_good_length page_size q ≡ true) same (good_where_clear (behind page_size before) s parts.0)
good_at page_size before (s ∷ rs) (suc i) r kept here =
    let parts = both (is_none (region_fault (behind page_size before) s)) (keeps_rules page_size (before ++ s ∷ []) rs) kept in
    good_at page_size (before ++ s ∷ []) rs i r parts.1 here

page_count-cons : (page_size : ℕ) (s : NamedRegion) (rs : List NamedRegion) → page_count (behind page_size (s ∷ rs)) ≡ s.size / page_size + page_count (behind page_size rs)
page_count-cons page_size s rs = sum_by-cons (λ (t : RegionShape). t.pages) (shape_of page_size s) (map (shape_of page_size) rs)

-- a region has no more pages than all together
pub pages_at : (page_size : ℕ) (rs : List NamedRegion) (i : ℕ) (r : NamedRegion) → slice_get rs i ≡ Some r → r.size / page_size ≤ page_count (record { page_size = page_size; regions = rs })
pages_at page_size [] i r here = absurd (cc)
pages_at page_size (s ∷ rs) zero r here =
    let same : s ≡ r = cc in
    subst (λ (q : NamedRegion). q.size / page_size ≤ page_count (behind page_size (s ∷ rs))) same (omega (arith, page_count-cons page_size s rs))
pages_at page_size (s ∷ rs) (suc i) r here =
    let less = pages_at page_size rs i r here in
    omega (arith, page_count-cons page_size s rs)

pub page_count_push : (page_size : ℕ) (rs : List NamedRegion) (r : NamedRegion) → page_count (record { page_size = page_size; regions = rs ++ r ∷ [] }) ≡ page_count (record { page_size = page_size; regions = rs }) + r.size / page_size
page_count_push page_size rs r = ap (sum_by (λ (s : RegionShape). s.pages)) (map-append (shape_of page_size) rs (r ∷ [])) ∙ sum_by_push (λ (s : RegionShape). s.pages) (map (shape_of page_size) rs) (shape_of page_size r)

-- what is whole in a unit is at least one unit
whole_some : (unit size : ℕ) → 0 < size → size % unit ≡ 0 → unit ≤ size
whole_some unit size more whole =
    elim (cases_lt size unit) [ inl less ↦ (let e : size % unit ≡ size = mod-eq_of_lt less in omega arith) | inr enough ↦ enough ]

-- files that fit a length have pages, and no more than it
pub pages_of_file : (page_size : ℕ) (r : NamedRegion) (path : List ℕ) (file : ℕ) → 1 ≤ page_size → has_good_length page_size r ≡ true → r.backing ≡ in_files path file → (1 ≤ file / page_size) × (file / page_size ≤ r.size / page_size)
unfolding has_good_length
pages_of_file page_size r path file sized good is =
    let parts = both (is_whole page_size r.size) (has_whole_files page_size r.size r.backing) good in
    let files = both (is_whole page_size file) (r.size % file == 0 && nat_le (r.size / file) MOST_FILES) (subst (λ b. has_whole_files page_size r.size b ≡ true) is parts.1) in
    let own = both (nat_lt 0 file) (file % page_size == 0) files.0 in
    let fits = both (r.size % file == 0) (nat_le (r.size / file) MOST_FILES) files.1 in
    let long = both (nat_lt 0 r.size) (r.size % page_size == 0) parts.0 in
    let unit = whole_some page_size file (ltb-true 0 file own.0) (eqb-true (file % page_size) 0 own.1) in
    let inside = whole_some file r.size (ltb-true 0 r.size long.0) (eqb-true (r.size % file) 0 fits.0) in
    let low = div-mul-le_self file page_size in
    (le-div 1 file page_size sized (omega arith), le-div (file / page_size) r.size page_size sized (omega arith))

-- a region's length is below one page more than all pages have
pub length_at : (page_size : ℕ) (rs : List NamedRegion) (i : ℕ) → 1 ≤ page_size → slice_index (map (λ (r : NamedRegion). r.size) rs) i < (page_count (record { page_size = page_size; regions = rs }) + 1) * page_size
length_at page_size [] i sized = omega (arith, mul-le-mul_right page_size (le-add_left 1 (page_count (behind page_size []))))
length_at page_size (s ∷ rs) zero sized =
    let own : s.size < s.size / page_size * page_size + page_size = lt-div-mul-add sized in
    let count = page_count-cons page_size s rs in
    let fits : s.size / page_size + 1 ≤ page_count (behind page_size (s ∷ rs)) + 1 = omega arith in
    omega (arith, mul-le-mul_right page_size fits)
length_at page_size (s ∷ rs) (suc i) sized =
    let rest = length_at page_size rs i sized in
    let count = page_count-cons page_size s rs in
    let fits : page_count (behind page_size rs) + 1 ≤ page_count (behind page_size (s ∷ rs)) + 1 = omega arith in
    omega (arith, mul-le-mul_right page_size fits)

-- ---- one region more, as adding it leaves the table

pub count_grown : (t : TableSeen) (page_size : ℕ) (rs items : List NamedRegion) (r s : NamedRegion) (pages : ℕ) → record { page_size = page_size; regions = rs } ≡ t → r ≡ s → items ≡ rs ++ r ∷ [] → pages ≡ page_count t + s.size / t.page_size → pages ≡ page_count (record { page_size = page_size; regions = items })
count_grown t page_size rs items r s pages view same grown counted =
    subst (λ (u : TableSeen). pages ≡ page_count u + s.size / u.page_size) (sym view) counted
    ∙ ap (λ (q : NamedRegion). page_count (behind page_size rs) + q.size / page_size) (sym same)
    ∙ sym (page_count_push page_size rs r)
    ∙ ap (λ l. page_count (behind page_size l)) (sym grown)

pub rules_kept : (t : TableSeen) (page_size : ℕ) (rs items : List NamedRegion) (r s : NamedRegion) → record { page_size = page_size; regions = rs } ≡ t → r ≡ s → items ≡ rs ++ r ∷ [] → keeps_rules page_size [] rs ≡ true → region_fault t s ≡ None → keeps_rules page_size [] items ≡ true
rules_kept t page_size rs items r s view same grown kept clear =
    let clear' = subst (λ (u : TableSeen). region_fault u s ≡ None) (sym view) clear in
    subst (λ l. keeps_rules page_size [] l ≡ true) (sym grown) (keeps_one_more page_size [] rs r kept (subst (λ (q : NamedRegion). region_fault (behind page_size rs) q ≡ None) (sym same) clear'))
