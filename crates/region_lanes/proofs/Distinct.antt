-- Lanes of regions that share no file have a part of their own each.
use Rattle.std.proofs.Common.{◌≡◌, ◌≢◌, ◌⊎◌, inl, inr, ℕ, zero, suc, ◌+◌, ◌<◌, ◌≤◌, Bool, true, false, List, [], ◌∷◌, ◌++◌, length, slice_get, slice_index_or, Some, refl, sym, ap, subst, ◌∙◌, arith, rules}
use Rattle.std.specs.Prelude.{◌&&◌, ◌==◌}
use Rattle.std.specs.List.{AllByRecursion}
use Rattle.std.specs.Str.{bytes_eq}
use Rattle.std.proofs.lemmas.Bool.{cases_Bool, and_parts, eqb-true}
use Rattle.std.proofs.lemmas.Slice.Eq.{bytes_eq-Decides}
use Rattle.page_base.specs.Backings.{Backing, in_file}
use Rattle.page_base.specs.Lanes.{Origin, LaneSeen}
use Rattle.file_store.specs.Shelves.{same_part}
use Rattle.file_store.specs.FileLanes.{part_of, backing_path, IsInFile}
use Rattle.script_run.specs.Contents.{no_lane}
use Rattle.script_run.specs.FitsSerial.{lane_at}
use Rattle.region_table.specs.Regions.{NamedRegion}
use Rattle.region_lanes.specs.Closings.{rows_flat, AreDistinct}
use Rattle.region_lanes.specs.Laws.{AreApart}
use Rattle.region_lanes.specs.Regions.{region_origin, AreLanes}
use Rattle.region_lanes.proofs.Ends.{all_row, all_rows, got_at, inside_of}

-- the two have a part each, if they have any
abbrev pub Differ : LaneSeen → LaneSeen → Type 0
Differ l m = IsInFile l → IsInFile m → same_part (part_of m).name (part_of l).name ≡ false

distinct_row : (row : List LaneSeen) → ((q r : ℕ) → q < length row → r < length row → q ≢ r → Differ (slice_index_or row q no_lane) (slice_index_or row r no_lane)) → AreDistinct row
distinct_row [] each = tt
distinct_row (l ∷ ls) each = (
  all_row (Differ l) ls (λ r h. each 0 (suc r) (omega arith) (omega arith) (apart r)),
  distinct_row ls (λ q r h k other. each (suc q) (suc r) (omega arith) (omega arith) (λ e. other (omega (arith, e)))),
)
  where
    apart : (r : ℕ) → 0 ≢ suc r
    apart r e = omega (arith, e)

distinct_both : (xs ys : List LaneSeen) → AreDistinct xs → AreDistinct ys → AllByRecursion (λ (l : LaneSeen). AllByRecursion (Differ l) ys) xs → AreDistinct (xs ++ ys)
distinct_both [] ys a b cross = b
distinct_both (l ∷ ls) ys a b cross = (front ls ys a.0 cross.0, distinct_both ls ys a.1 b cross.1)
  where
    front : (xs ys : List LaneSeen) → AllByRecursion (Differ l) xs → AllByRecursion (Differ l) ys → AllByRecursion (Differ l) (xs ++ ys)
    front [] ys a b = b
    front (x ∷ xs) ys a b = (a.0, front xs ys a.1 b)

distinct_rows : (rows : List (List LaneSeen)) → ((s t q r : ℕ) → s < length rows → t < length rows → q < length (slice_index_or rows s []) → r < length (slice_index_or rows t []) → (s ≢ t) ⊎ (q ≢ r) → Differ (lane_at rows s q) (lane_at rows t r)) → AreDistinct (rows_flat rows)
distinct_rows [] each = tt
distinct_rows (row ∷ rows) each = distinct_both row (rows_flat rows)
    (distinct_row row (λ q r h k other. each 0 0 q r (omega arith) (omega arith) h k (inr other)))
    (distinct_rows rows (λ s t q r a b h k other. each (suc s) (suc t) q r (omega arith) (omega arith) h k (shift s t q r other)))
    (all_row (λ (l : LaneSeen). AllByRecursion (Differ l) (rows_flat rows)) row (λ q h. all_rows (Differ (slice_index_or row q no_lane)) rows (λ t r b k. each 0 (suc t) q r (omega arith) (omega arith) h k (inl (λ e. omega (arith, e))))))
  where
    shift : (s t q r : ℕ) → (s ≢ t) ⊎ (q ≢ r) → (suc s ≢ suc t) ⊎ (q ≢ r)
    shift s t q r (inl apart) = inl (λ e. apart (omega (arith, e)))
    shift s t q r (inr apart) = inr apart

is_false : (b : Bool) → (b ≡ true → ⊥) → b ≡ false
is_false true never = absurd (never refl)
is_false false never = refl

pub lanes_distinct : (n stripes : ℕ) (regions : List NamedRegion) (rows : List (List LaneSeen)) → AreLanes n stripes regions rows → AreApart regions → AreDistinct (rows_flat rows)
lanes_distinct n stripes regions rows lanes apart = distinct_rows rows differ
  where
    differ : (s t q r : ℕ) → s < length rows → t < length rows → q < length (slice_index_or rows s []) → r < length (slice_index_or rows t []) → (s ≢ t) ⊎ (q ≢ r) → Differ (lane_at rows s q) (lane_at rows t r)
    differ s t q r in_s in_t in_q in_r other l_in m_in =
        let s_below : s < stripes = omega (arith, in_s, lanes.count) in
        let t_below : t < stripes = omega (arith, in_t, lanes.count) in
        let g = got_at regions q (omega (arith, in_q, lanes.width s s_below)) in
        let h = got_at regions r (omega (arith, in_r, lanes.width t t_below)) in
        let l_is : (lane_at rows s q).origin ≡ region_origin n stripes s q g.0 = lanes.origin s q g.0 s_below g.1 in
        let m_is : (lane_at rows t r).origin ≡ region_origin n stripes t r h.0 = lanes.origin t r h.0 t_below h.1 in
        is_false (same_part (part_of (lane_at rows t r)).name (part_of (lane_at rows s q)).name) (λ both.
        let parts = and_parts _ _ both in
        let same_path : backing_path (lane_at rows t r).origin.backing ≡ backing_path (lane_at rows s q).origin.backing = (bytes_eq-Decides _ _).0 parts.0 in
        let same_stripe : t ≡ s = sym (ap (λ (o : Origin). o.stripe) m_is) ∙ eqb-true _ _ parts.1 ∙ ap (λ (o : Origin). o.stripe) l_is in
        let same_region : q ≡ r = apart q r g.0 h.0 (backing_path (lane_at rows s q).origin.backing) g.1 h.1 (ap (λ (o : Origin). o.backing) (sym l_is) ∙ l_in) (ap (λ (o : Origin). o.backing) (sym m_is) ∙ m_in ∙ ap in_file same_path) in
        neither other same_stripe same_region)
      where
        neither : (s ≢ t) ⊎ (q ≢ r) → t ≡ s → q ≡ r → ⊥
        neither (inl a) e f = a (sym e)
        neither (inr a) e f = a f
