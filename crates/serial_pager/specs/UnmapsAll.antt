-- What unmapping all regions of a pager makes, region by region.
use Rattle.std.specs.Prelude.{◌≡◌, ℕ, ◌+◌, ◌⊎◌, true, List, [], ◌∷◌, length, Option, Some, None, Result, Ok, Err}
use Rattle.histories.specs.Histories.{History}
use Rattle.page_model.specs.declared.entry.Entry.{Entry}
use Rattle.serial_pager.specs.declared.fault.PageFault.{PageFault}
use Rattle.serial_pager.specs.Pagers.{PagerSeen, ClosesOnly, UnmapFails, UnmapsEach, closes_at, is_gone, setup_at}

-- ---- faults

-- the fault of an answer, if it is one
abbrev pub fault_in : {T : Type 0} → Result T PageFault → Option PageFault
fault_in (Ok x) = None
fault_in (Err f) = Some f

-- the first of two
abbrev pub first_of : (a b : Option PageFault) → Option PageFault
first_of None b = b
first_of (Some f) b = Some f

-- the first fault of several unmappings
abbrev pub first_fault : List (Option PageFault) → Option PageFault
first_fault [] = None
first_fault (how ∷ hows) = first_of how (first_fault hows)

module _ {J : Type 0} where
  -- the same regions, and the same stripes as they were made; no region opens again, and none is mapped again
  pub record ClosesMore (old new : PagerSeen J) : Type 0 where
    pub page_size : new.page_size ≡ old.page_size
    pub shapes : new.shapes ≡ old.shapes
    pub stripes : length new.stripes ≡ length old.stripes
    pub setups : (s : ℕ) → setup_at new s ≡ setup_at old s
    pub stays : (s r : ℕ) → closes_at old s r ≡ true → closes_at new s r ≡ true
    pub gone : (r : ℕ) → is_gone old r ≡ true → is_gone new r ≡ true

  -- the region is unmapped in every stripe: it was so before, and nothing was made, or it is so now; or the write f failed
  abbrev pub UnmapsAs : (owner : ℕ) (has_noted : J → History Entry → Type 0) → (region : ℕ) → Option PageFault → (old new : PagerSeen J) → Type 0
  UnmapsAs owner has_noted r None old new = ((is_gone old r ≡ true) × (new.stripes ≡ old.stripes)) ⊎ UnmapsEach owner has_noted r old new
  UnmapsAs owner has_noted r (Some f) old new = UnmapFails owner has_noted r old new f

  -- and the other regions close as before
  pub record UnmapsRegion (owner : ℕ) (has_noted : J → History Entry → Type 0) (region : ℕ) (how : Option PageFault) (old new : PagerSeen J) : Type 0 where
    pub same : ClosesOnly region old new
    pub made : UnmapsAs owner has_noted region how old new

  -- so it went region by region from this number on, each from the pager that the one before left
  abbrev pub UnmapsFrom : (owner : ℕ) (has_noted : J → History Entry → Type 0) → (region : ℕ) → List (Option PageFault) → (old new : PagerSeen J) → Type 0
  UnmapsFrom owner has_noted r [] old new = new ≡ old
  UnmapsFrom owner has_noted r (how ∷ hows) old new = (mid : PagerSeen J) × UnmapsRegion owner has_noted r how old mid × UnmapsFrom owner has_noted (r + 1) hows mid new

  -- all regions were unmapped, in order of number, each wholly or up to a failed write of its own; the fault is the first of these
  pub record UnmapsAll (owner : ℕ) (has_noted : J → History Entry → Type 0) (fault : Option PageFault) (old new : PagerSeen J) : Type 0 where
    pub hows : List (Option PageFault)  -- by the region's number
    pub every : length hows ≡ length old.shapes
    pub made : UnmapsFrom owner has_noted 0 hows old new
    pub first : fault ≡ first_fault hows
