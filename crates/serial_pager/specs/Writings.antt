-- What flushing a stripe makes it do.
use Rattle.std.specs.Prelude.{◌≡◌, ℕ, ◌==◌, ◌&&◌, not, Bool, true, false, List, [], ◌∷◌}
use Rattle.std.specs.Bool.{⊤}
use Rattle.std.specs.List.{AllByRecursion, list_all, list_any}
use Rattle.page_base.specs.declared.keys.Key.{Key}
use Rattle.page_base.specs.KeyOrder.{is_below}
use Rattle.page_model.specs.declared.entry.Cause.{Cause}
use Rattle.page_model.specs.declared.entry.Cause.TheVariants.{Flush}
use Rattle.page_model.specs.declared.entry.Entry.{Entry}
use Rattle.page_model.specs.declared.entry.Entry.TheVariants.{WriteFailed, StartWrite, Written}
use Rattle.page_model.specs.Core.{Core, is_dirty}
use Rattle.page_model.specs.Residents.{is_in}
use Rattle.page_model.specs.Setups.{has_page}
use Rattle.serial_pager.specs.declared.fault.PageFault.{PageFault}

abbrev pub is_flush : Cause → Bool
is_flush Flush = true
is_flush why = false

-- the entry is of a write for a flush
abbrev pub flushes : Entry → Bool
flushes (StartWrite k why) = is_flush why
flushes (Written k at bytes) = true
flushes (WriteFailed k n) = true
flushes e = false

-- the entry is a write that failed
abbrev pub is_failed_write : Entry → Bool
is_failed_write (WriteFailed k n) = true
is_failed_write e = false

-- the entry is a write of one of this region's pages that failed
abbrev pub is_failed_write_of : (region : ℕ) → Entry → Bool
is_failed_write_of r (WriteFailed k n) = k.region == r
is_failed_write_of r e = false

-- the pages that these entries begin to write, the newest first
abbrev pub tries : List Entry → List Key
tries [] = []
tries ((StartWrite k why) ∷ es) = k ∷ tries es
tries (e ∷ es) = tries es

-- each of these keys is above all those behind it
abbrev pub Falls : List Key → Type 0
Falls [] = ⊤
Falls (k ∷ ks) = AllByRecursion (λ (j : Key). is_below j k ≡ true) ks × Falls ks

-- of these entries, the newest first, each dirty page of the stripe is written or tried once, and no other, in rising order of key
pub record TriesDirty (old : Core) (es : List Entry) : Type 0 where
  pub rising : Falls (tries es)
  pub each : (k : Key) → is_in k (tries es) ≡ is_dirty old k

-- The dirty pages were written by these entries, the newest first: by writes for a flush alone, none of which failed, each page
-- once and no other, in rising order of key. No page is dirty then.
pub record WritesAll (old : Core) (es : List Entry) (new : Core) : Type 0 where
  pub pass : list_all flushes es ≡ true
  pub none : list_any is_failed_write es ≡ false
  pub once : TriesDirty old es
  pub clean : (k : Key) → is_dirty new k ≡ false

-- So they were up to one page, whose write failed as the last entry. It and the pages behind it are dirty as before.
pub record WritesUpTo (f : PageFault) (old : Core) (es : List Entry) (new : Core) : Type 0 where
  pub page : has_page old.setup f.key ≡ true
  pub before : List Entry
  pub is : es ≡ WriteFailed f.key f.faults ∷ StartWrite f.key Flush ∷ before
  pub pass : list_all flushes before ≡ true
  pub none : list_any is_failed_write before ≡ false
  pub rising : Falls (tries es)
  pub each : (k : Key) → is_in k (tries es) ≡ (is_dirty old k && not (is_below f.key k))
  pub clean : (k : Key) → is_below k f.key ≡ true → is_dirty new k ≡ false
  pub stays : (k : Key) → is_below k f.key ≡ false → is_dirty new k ≡ is_dirty old k
