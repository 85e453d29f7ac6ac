-- What unmapping a region makes a stripe do.
use Rattle.std.specs.Prelude.{◌≡◌, ℕ, ◌⊎◌, ◌==◌, ◌&&◌, Bool, true, false, if◌then◌else◌, List, [], ◌∷◌, ◌++◌}
use Rattle.std.specs.List.{list_all}
use Rattle.page_model.specs.declared.entry.Cause.{Cause}
use Rattle.page_model.specs.declared.entry.Cause.TheVariants.{Unmap}
use Rattle.page_model.specs.declared.entry.Entry.{Entry}
use Rattle.page_model.specs.declared.entry.Entry.TheVariants.{Closing, Dropped, StartWrite, Written, WriteFailed, Evicted, Unmapped}
use Rattle.page_model.specs.Core.{Core, is_closing, is_unmapped}
use Rattle.page_model.specs.Setups.{has_page}
use Rattle.serial_pager.specs.declared.fault.PageFault.{PageFault}

abbrev pub is_unmap : Cause → Bool
is_unmap Unmap = true
is_unmap why = false

-- the entry is of a write of one of the region's pages for its unmapping, or of such a page's eviction
abbrev pub leaves_region : (region : ℕ) → Entry → Bool
leaves_region r (StartWrite k why) = k.region == r && is_unmap why
leaves_region r (Written k at bytes) = k.region == r
leaves_region r (Evicted k why) = k.region == r && is_unmap why
leaves_region r e = false

-- the entry drops a fault
abbrev pub drops : Entry → Bool
drops (Dropped k) = true
drops e = false

-- the entry that begins to close the region, where it doesn't close yet
abbrev pub begin_closing : Core → (region : ℕ) → List Entry
begin_closing c r = if is_closing c r then [] else Closing r ∷ []

-- By these entries, the newest first: the region began to close where it didn't before, then faults were dropped, and then its
-- pages were written and evicted.
pub record Clears (r : ℕ) (old : Core) (es : List Entry) : Type 0 where
  pub left : List Entry
  pub dropped : List Entry
  pub is : es ≡ left ++ (dropped ++ begin_closing old r)
  pub leave : list_all (leaves_region r) left ≡ true
  pub drop : list_all drops dropped ≡ true

-- and then the region was unmapped
pub record UnmapsNow (r : ℕ) (old : Core) (es : List Entry) : Type 0 where
  pub before : List Entry
  pub is : es ≡ Unmapped r ∷ before
  pub clears : Clears r old before

-- the region is unmapped: it was so before, and nothing was made, or it is so now
pub record Unmaps (r : ℕ) (old : Core) (es : List Entry) (new : Core) : Type 0 where
  pub how : ((is_unmapped old r ≡ true) × (es ≡ [])) ⊎ ((is_unmapped old r ≡ false) × UnmapsNow r old es)
  pub unmapped : is_unmapped new r ≡ true

-- the write of one of its pages failed as the last entry, and the region goes on closing
pub record FailsToUnmap (r : ℕ) (f : PageFault) (old : Core) (es : List Entry) (new : Core) : Type 0 where
  pub page : has_page old.setup f.key ≡ true
  pub region : f.key.region ≡ r
  pub before : List Entry
  pub is : es ≡ WriteFailed f.key f.faults ∷ StartWrite f.key Unmap ∷ before
  pub clears : Clears r old before
  pub closing : is_closing new r ≡ true
  pub mapped : is_unmapped new r ≡ false

-- the other regions close as before, this one doesn't open again, and none is mapped again
pub record ClosesOne (r : ℕ) (old new : Core) : Type 0 where
  pub others : (q : ℕ) → (q ≡ r → ⊥) → is_closing new q ≡ is_closing old q
  pub stays : is_closing old r ≡ true → is_closing new r ≡ true
  pub gone : (q : ℕ) → is_unmapped old q ≡ true → is_unmapped new q ≡ true
