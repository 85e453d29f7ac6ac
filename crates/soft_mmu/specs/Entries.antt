-- The entries of a page table: what each says of an access, and how one changes.
use Rattle.std.specs.Prelude.{ℕ, ◌≡◌, ◌<◌, Bool, true, false, List, [], length, map, replicate, slice_index_or, slice_set, Option}
use Rattle.page_base.specs.KeyOrder.{is_below, is_past}
use Rattle.page_base.specs.declared.keys.Key.{Key}
use Rattle.page_base.specs.declared.keys.RegionShape.{RegionShape}
use Rattle.soft_mmu.specs.declared.entry.PageEntry.{PageEntry}
use Rattle.soft_mmu.specs.declared.entry.PageEntry.TheVariants.{Absent, Present}
use Rattle.soft_mmu.specs.declared.entry.Bits.{Bits}
use Rattle.soft_mmu.specs.declared.entry.Wants.{Wants}
use Rattle.soft_mmu.specs.declared.entry.Wants.TheVariants as wants
use Rattle.soft_mmu.specs.declared.entry.Found.{Found}
use Rattle.soft_mmu.specs.declared.entry.Found.TheVariants.{Hit, Missing, Protected}

-- ---- one entry

-- what an access finds: a store to a protected page has to fault, every other access of a present page hits
abbrev pub translation : PageEntry → Wants → Found
translation Absent wanted = Missing
translation (Present true dirty frame) wants.Write = Protected
translation (Present protected dirty frame) wanted = Hit frame

abbrev pub bits_of : PageEntry → Bits
bits_of Absent = record { present = false; protected = false; dirty = false }
bits_of (Present protected dirty frame) = record { present = true; protected = protected; dirty = dirty }

abbrev pub is_present : PageEntry → Bool
is_present Absent = false
is_present (Present protected dirty frame) = true

abbrev pub is_protected : PageEntry → Bool
is_protected Absent = false
is_protected (Present protected dirty frame) = protected

abbrev pub is_dirty : PageEntry → Bool
is_dirty Absent = false
is_dirty (Present protected dirty frame) = dirty

-- the entry, protected
abbrev pub closed : PageEntry → PageEntry
closed Absent = Absent
closed (Present protected dirty frame) = Present true dirty frame

-- the entry, open to stores and dirty from then on
abbrev pub opened : PageEntry → PageEntry
opened Absent = Absent
opened (Present protected dirty frame) = Present false true frame

-- the entry, clean, and as protected as before
abbrev pub cleaned : PageEntry → PageEntry
cleaned Absent = Absent
cleaned (Present protected dirty frame) = Present protected false frame

-- ---- the table: for each region the entries of its pages

abbrev pub region_entries : List (List PageEntry) → ℕ → List PageEntry
region_entries table region = slice_index_or table region []

abbrev pub table_entry : List (List PageEntry) → Key → PageEntry
table_entry table key = slice_index_or (region_entries table key.region) key.page Absent

-- the table has this page
pub record HasPage (table : List (List PageEntry)) (key : Key) : Type 0 where
  pub region : key.region < length table
  pub page : key.page < length (region_entries table key.region)

-- the table with one entry set, all else as before
abbrev pub with_entry : List (List PageEntry) → Key → PageEntry → List (List PageEntry)
with_entry table key entry = slice_set table key.region (slice_set (region_entries table key.region) key.page entry)

-- no page of these regions is present
abbrev pub no_pages : List RegionShape → List (List PageEntry)
no_pages shapes = map (λ (s : RegionShape). replicate s.pages Absent) shapes

-- ---- the dirty pages in order of key

-- the page is dirty and past the key, and no other such page comes before it
pub record IsNextDirty (table : List (List PageEntry)) (after : Option Key) (key : Key) : Type 0 where
  pub dirty : is_dirty (table_entry table key) ≡ true
  pub past : is_past after key ≡ true
  pub least : (other : Key) → is_dirty (table_entry table other) ≡ true → is_past after other ≡ true → is_below other key ≡ false

-- no page past the key is dirty
abbrev pub NoneDirty : List (List PageEntry) → Option Key → Type 0
NoneDirty table after = (key : Key) → is_past after key ≡ true → is_dirty (table_entry table key) ≡ false
