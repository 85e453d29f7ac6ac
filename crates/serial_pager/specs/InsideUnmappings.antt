-- How a stripe went on while a region was unmapped in it, and what its unmapping answers.
use Rattle.std.specs.Prelude.{◌≡◌, ℕ, true, false, List, ◌∷◌, length, Option, Some, None, Result, Ok, Err}
use Rattle.std.specs.List.{list_all}
use Rattle.histories.specs.Histories.{History}
use Rattle.page_base.specs.declared.keys.Key.{Key}
use Rattle.page_model.specs.declared.entry.Cause.TheVariants.{Unmap}
use Rattle.page_model.specs.declared.entry.Entry.{Entry}
use Rattle.page_model.specs.declared.entry.Entry.TheVariants.{StartWrite, WriteFailed}
use Rattle.page_model.specs.Core.{Core, is_dirty, is_present}
use Rattle.serial_pager.specs.declared.fault.PageFault.{PageFault}
use Rattle.serial_pager.specs.declared.fault.UnmapError.{UnmapError}
use Rattle.serial_pager.specs.declared.fault.UnmapError.TheVariants as unmap_error
use Rattle.serial_pager.specs.Seen.{StripeSeen}
use Rattle.serial_pager.specs.Goings.{Went}
use Rattle.serial_pager.specs.Unmappings.{leaves_region}

-- the page may leave, and as many pages are resident as before
pub record IsReadied (k : Key) (c d : Core) : Type 0 where
  pub present : is_present d k ≡ true
  pub clean : is_dirty d k ≡ false
  pub as_many : length d.pages ≡ length c.pages

-- pages of the region left, and then the write of one failed
pub record FailsToLeave {J : Type 0} (owner : ℕ) (has_noted : J → History Entry → Type 0) (r : ℕ) (old new : StripeSeen J) (f : PageFault) : Type 0 where
  pub region : f.key.region ≡ r
  pub before : List Entry
  pub pass : list_all (leaves_region r) before ≡ true
  pub went : Went owner has_noted (WriteFailed f.key f.faults ∷ StartWrite f.key Unmap ∷ before) old new

-- the fault of an unmapping, none where the region was unmapped before
abbrev pub write_fault : {T : Type 0} → Result T UnmapError → Option PageFault
write_fault (Ok x) = None
write_fault (Err unmap_error.Unmapped) = None
write_fault (Err (unmap_error.Fault f)) = Some f
