-- What is known of a stripe whose regions are equal.
use Rattle.std.proofs.Common.{◌≡◌, ◌<◌, ◌≤◌, ◌+◌, ◌*◌, ◌∷◌, ◌++◌, ◌∙◌, [], ℕ, zero, suc, List, length, map, replicate, fold, sum_by, slice_get, Option, Some, None, true, refl, sym, ap, arith, subst}
use Rattle.std.proofs.lemmas.List.{length-replicate}
use Rattle.std.proofs.lemmas.Option.{slice_get-map, slice_get_within}
use Rattle.std.specs.Prelude.{option_map}
use native.Mathlib.Nat.{zero-mul, suc-mul}
use Rattle.page_base.specs.declared.keys.Key.{Key}
use Rattle.page_base.specs.declared.keys.RegionShape.{RegionShape}
use Rattle.page_base.specs.Lanes.{Origin, LaneSeen}
use Rattle.page_model.specs.Setups.{Setup, IsLaneOf, has_page, is_page_of, is_writable, regions}
use Rattle.page_model.specs.Core.{Core}
use Rattle.store_trait.specs.Memory.{memory_origin}
use Rattle.core_bench.specs.Hands.{AreMemoryLanes, HasRegion, IsAllWritable, CoreGoesOn}
use Rattle.core_bench.specs.InsideHands.{AreEqualRegions, shape_of}

abbrev pub key_of : ℕ → Key
key_of page = record { region = 0; page = page }

-- ---- lists of equal members

pub copy_at : {X : Type 0} (n i : ℕ) (x : X) → i < n → slice_get (replicate n x) i ≡ Some x
copy_at zero i x below = absurd (omega (arith, below))
copy_at (suc n) zero x below = refl
copy_at (suc n) (suc i) x below = copy_at n i x (omega (arith, below))

pub is_copy : {X : Type 0} (n i : ℕ) (x y : X) → slice_get (replicate n x) i ≡ Some y → y ≡ x
is_copy zero i x y e = absurd cc
is_copy (suc n) zero x y e = cc
is_copy (suc n) (suc i) x y e = is_copy n i x y e

fold_pages : (n pages a : ℕ) → fold (λ (m : ℕ) (s : RegionShape). m + s.pages) a (replicate n (shape_of pages)) ≡ a + n * pages
fold_pages zero pages a = base where
  base : a ≡ a + 0 * pages
  base = omega (arith, zero-mul pages)
fold_pages (suc n) pages a = fold_pages n pages (a + pages) ∙ turned where
  turned : a + pages + n * pages ≡ a + suc n * pages
  turned = omega (arith, suc-mul n pages)

pub pages_sum : (n pages : ℕ) → sum_by (λ (s : RegionShape). s.pages) (replicate n (shape_of pages)) ≡ n * pages
pages_sum n pages = fold_pages n pages 0 ∙ none where
  none : 0 + n * pages ≡ n * pages
  none = omega arith

-- ---- the regions

pub counted : (s : Setup) (n pages : ℕ) → AreEqualRegions s n pages → regions s ≡ n
counted s n pages all = ap length all.shapes ∙ length-replicate n (shape_of pages)

pub region_of : (s : Setup) (n pages r : ℕ) → AreEqualRegions s n pages → r < n → HasRegion s r pages
region_of s n pages r all below =
    let at : slice_get s.shapes r ≡ Some (shape_of pages) = rw all.shapes (copy_at n r (shape_of pages) below) in
    record {
      page = λ page less. rw (at, all.stripes, all.number) (grind (arith, less));
      writable = rw at refl;
    }

region_some : (s : Setup) (k : Key) (at : Option RegionShape) → slice_get s.shapes k.region ≡ at → is_page_of s at k ≡ true → k.region < regions s
region_some s k None at e = absurd cc
region_some s k (Some shape) at e = slice_get_within s.shapes k.region shape at

pub has_region : (s : Setup) (k : Key) → has_page s k ≡ true → k.region < regions s
has_region s k e = region_some s k (slice_get s.shapes k.region) refl e

pub all_writable : (s : Setup) (n pages : ℕ) → AreEqualRegions s n pages → IsAllWritable s
all_writable s n pages all = λ k e. (region_of s n pages k.region all (subst (λ m. k.region < m) (counted s n pages all) (has_region s k e))).writable

pub has : (s : Setup) (pages page : ℕ) → HasRegion s 0 pages → page < pages → has_page s (key_of page) ≡ true
has s pages page one below = one.page page below

pub writable : (s : Setup) (pages : ℕ) → HasRegion s 0 pages → is_writable s 0 ≡ true
writable s pages one = one.writable

pub still : (c d : Core) (pages : ℕ) → CoreGoesOn c d → HasRegion c.setup 0 pages → HasRegion d.setup 0 pages
still c d pages on one = subst (λ (u : Setup). HasRegion u 0 pages) (sym on.setup) one

-- ---- lanes by region

seen_some : {S : Type 0} (seen : S → LaneSeen) (at : Option S) (l : LaneSeen) → option_map seen at ≡ Some l → (lane : S) × (at ≡ Some lane) × (seen lane ≡ l)
seen_some seen None l e = absurd cc
seen_some seen (Some lane) l e = (lane, refl, cc)

lane_of : (s : Setup) (r pages : ℕ) (origin : Origin) → origin ≡ memory_origin r pages s.page_size 1 0 → s.stripes ≡ 1 → s.number ≡ 0 → IsLaneOf s r (shape_of pages) origin
lane_of s r pages origin is stripes number = rw is (record { region = refl; pages = refl; page_size = refl; group = refl; stripes = sym stripes; stripe = sym number })

-- a list of lanes in memory has a lane of each region
pub lanes_of : {S : Type 0} (seen : S → LaneSeen) (s : Setup) (n pages : ℕ) (lanes : List S) → s.stripes ≡ 1 → s.number ≡ 0 → s.shapes ≡ replicate n (shape_of pages)
    → AreMemoryLanes seen pages s.page_size lanes
    → (r : ℕ) (shape : RegionShape) (lane : LaneSeen) → slice_get s.shapes r ≡ Some shape → slice_get (map seen lanes) r ≡ Some lane → IsLaneOf s r shape lane.origin
lanes_of seen s n pages lanes stripes number shapes are r shape lane at here =
    let same : shape ≡ shape_of pages = is_copy n r (shape_of pages) shape (subst (λ (xs : List RegionShape). slice_get xs r ≡ Some shape) shapes at) in
    let found = seen_some seen (slice_get lanes r) lane (sym (slice_get-map seen lanes r) ∙ here) in
    let is : lane.origin ≡ memory_origin r pages s.page_size 1 0 = ap (λ (l : LaneSeen). l.origin) (sym found.2) ∙ are.each r found.0 found.1 in
    rw same (lane_of s r pages lane.origin is stripes number)

put_at : {X : Type 0} (P : ℕ → X → Type 0) (xs : List X) (x : X) → ((r : ℕ) (y : X) → slice_get xs r ≡ Some y → P r y) → P (length xs) x
    → (r : ℕ) (y : X) → slice_get (xs ++ x ∷ []) r ≡ Some y → P r y
put_at P [] x each end zero y e = let same : x ≡ y = cc in subst (P 0) same end
put_at P [] x each end (suc r) y e = absurd cc
put_at P (z ∷ zs) x each end zero y e = each zero y e
put_at P (z ∷ zs) x each end (suc r) y e = put_at (λ q w. P (suc q) w) zs x (λ q w f. each (suc q) w f) end r y e

nothing : {X : Type 0} (r : ℕ) (x : X) → slice_get [] r ≡ Some x → ⊥
nothing zero x e = absurd cc
nothing (suc r) x e = absurd cc

pub no_lanes : {S : Type 0} (seen : S → LaneSeen) (pages page_size : ℕ) (lanes : List S) → lanes ≡ [] → AreMemoryLanes seen pages page_size lanes
no_lanes {S} seen pages page_size lanes none = record { each = λ r lane at. absurd (nothing r lane (subst (λ (xs : List S). slice_get xs r ≡ Some lane) none at)) }

-- one lane more, behind the others
pub lanes_more : {S : Type 0} (seen : S → LaneSeen) (pages page_size : ℕ) (lanes more : List S) (lane : S) (n : ℕ) → AreMemoryLanes seen pages page_size lanes
    → more ≡ lanes ++ lane ∷ [] → length lanes ≡ n → (seen lane).origin ≡ memory_origin n pages page_size 1 0 → AreMemoryLanes seen pages page_size more
lanes_more {S} seen pages page_size lanes more lane n are is count last =
    let end : (seen lane).origin ≡ memory_origin (length lanes) pages page_size 1 0 = subst (λ m. (seen lane).origin ≡ memory_origin m pages page_size 1 0) (sym count) last in
    record { each = λ r x at. put_at (λ q (y : S). (seen y).origin ≡ memory_origin q pages page_size 1 0) lanes lane are.each end r x (subst (λ (xs : List S). slice_get xs r ≡ Some x) is at) }
