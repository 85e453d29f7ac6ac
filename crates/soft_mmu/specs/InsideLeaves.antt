-- How a region's entries lie in leaves, what is counted of them, and what a search for a dirty page finds.
use Rattle.std.specs.Prelude.{ℕ, ◌≡◌, ◌+◌, ◌-◌, ◌<◌, ◌≤◌, min, true, false, List, [], ◌∷◌, length, count_by, flat_map, slice_index_or, Option, Some, None}
use Rattle.page_base.specs.declared.limits.TheConstants.{MOST_PAGES}
use Rattle.page_base.specs.declared.keys.Key.{Key}
use Rattle.soft_mmu.specs.declared.entry.PageEntry.{PageEntry}
use Rattle.soft_mmu.specs.declared.entry.PageEntry.TheVariants.{Absent}
use Rattle.soft_mmu.specs.Entries.{is_present, is_dirty}

-- ---- one leaf

pub record IsLeaf (entries : List PageEntry) (dirty_count : ℕ) : Type 0 where
  pub size : length entries ≤ 512
  pub dirty : dirty_count ≡ count_by is_dirty entries

-- ---- the leaves of a region

-- the entries of all leaves, one leaf after the other
abbrev pub entries_of : List (List PageEntry) → List PageEntry
entries_of leaves = flat_map (λ leaf. leaf) leaves

-- so many pages lie in these leaves: each has 512, but the last, which has the rest
abbrev pub AreLeavesOf : ℕ → List (List PageEntry) → Type 0
AreLeavesOf pages [] = pages ≡ 0
AreLeavesOf pages (leaf ∷ leaves) = (0 < pages) × (length leaf ≡ min 512 pages) × AreLeavesOf (pages - 512) leaves

pub record IsRegion (leaves : List (List PageEntry)) (present_count dirty_count : ℕ) : Type 0 where
  pub cut : AreLeavesOf (length (entries_of leaves)) leaves
  pub few : length (entries_of leaves) ≤ MOST_PAGES
  pub present : present_count ≡ count_by is_present (entries_of leaves)
  pub dirty : dirty_count ≡ count_by is_dirty (entries_of leaves)

-- ---- a search by place

-- the first dirty page from a place on
pub record IsFirstDirty (entries : List PageEntry) (from place : ℕ) : Type 0 where
  pub dirty : is_dirty (slice_index_or entries place Absent) ≡ true
  pub past : from ≤ place
  pub before : (other : ℕ) → from ≤ other → other < place → is_dirty (slice_index_or entries other Absent) ≡ false

-- no page from a place on is dirty
abbrev pub NoneDirtyFrom : List PageEntry → ℕ → Type 0
NoneDirtyFrom entries from = (place : ℕ) → from ≤ place → is_dirty (slice_index_or entries place Absent) ≡ false

-- where a search past a key begins: a region, and a page there
abbrev pub place_behind : Option Key → ℕ × ℕ
place_behind None = (0, 0)
place_behind (Some key) = (key.region, key.page + 1)
