-- What lanes that are closed show of one file's pages.
use Rattle.std.specs.Prelude.{◌≡◌, ℕ, ◌*◌, ◌<◌, Bool, false, List, [], ◌∷◌, length, drop, if◌then◌else◌, Option, Some, None, unwrap_or}
use Rattle.page_base.specs.Lanes.{LaneSeen}
use Rattle.store_trait.specs.Memory.{page_bytes}
use Rattle.file_store.specs.Shelves.{own_told}
use Rattle.region_lanes.specs.Closings.{is_at}

abbrev pub or_else : Option (List ℕ) → Option (List ℕ) → Option (List ℕ)
or_else (Some bytes) other = Some bytes
or_else None other = other

-- what one lane tells of a page of the file at this path, where the page is its own
abbrev pub shows : LaneSeen → (path : List ℕ) → (page : ℕ) → Option (List ℕ)
shows l path page = if is_at path l.origin.backing then own_told l.origin l.told page else None

-- what the last of these lanes tells of it that tells anything
abbrev pub shown : List LaneSeen → (path : List ℕ) → (page : ℕ) → Option (List ℕ)
shown [] path page = None
shown (l ∷ ls) path page = or_else (shown ls path page) (shows l path page)

-- the pages that are shown stand in the file, and all other bytes are as they were
pub record PutsShown (page_size pages : ℕ) (of : ℕ → Option (List ℕ)) (old new : List ℕ) : Type 0 where
  pub size : length new ≡ length old
  pub each : (p : ℕ) → p < pages → page_bytes page_size new p ≡ unwrap_or (of p) (page_bytes page_size old p)
  pub behind : drop (pages * page_size) new ≡ drop (pages * page_size) old
