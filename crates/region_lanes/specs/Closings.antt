-- Lanes that are closed: what their files hold then, and which parts are still out.
use Rattle.std.specs.Prelude.{◌≡◌, ℕ, ⊤, Bool, true, false, ◌||◌, nat_lt, List, [], ◌∷◌, ◌++◌, Option, IfSome}
use Rattle.std.specs.List.{Contains, AllByRecursion}
use Rattle.std.specs.Str.{bytes_eq}
use Rattle.page_base.specs.Backings.{Backing, in_memory, in_file, in_files}
use Rattle.page_base.specs.Lanes.{LaneSeen, Rose}
use Rattle.file_store.specs.Parts.{PartName, PartSeen, WhereTold}
use Rattle.file_store.specs.FileLanes.{part_of, IsInFile}
use Rattle.file_store.specs.Shelves.{Shelf, FolderSeen, same_part, without, Closes}
use Rattle.serial_pager.specs.Pagers.{rows_of}
use Rattle.store_trait.specs.declared.mem_store.LaneSet.{LaneSet}

-- the lanes of all stripes, one stripe after another
abbrev pub rows_flat : List (List LaneSeen) → List LaneSeen
rows_flat [] = []
rows_flat (row ∷ rows) = row ++ rows_flat rows

abbrev pub flat_lanes : {S : Type 0} → (S → LaneSeen) → LaneSet S → List LaneSeen
flat_lanes seen lanes = rows_flat (rows_of seen lanes)

-- the region lies in the file at this path
abbrev pub is_at : (path : List ℕ) → Backing → Bool
is_at path in_memory = false
is_at path (in_file own) = bytes_eq own path
is_at path (in_files own file) = false

-- ---- parts that are out

abbrev pub IsOutIn : Backing → PartName → List PartName → Type 0
IsOutIn in_memory name out = ⊤
IsOutIn (in_file path) name out = Contains out name
IsOutIn (in_files path file) name out = ⊥

-- the lane is in memory, or its part is out
abbrev pub IsOut : LaneSeen → List PartName → Type 0
IsOut l out = IsOutIn l.origin.backing (part_of l).name out

abbrev pub out_without : Backing → PartName → List PartName → List PartName
out_without in_memory name out = out
out_without (in_file path) name out = without name out
out_without (in_files path file) name out = out

-- the parts that are out when this lane's is closed
abbrev pub out_behind : LaneSeen → List PartName → List PartName
out_behind l out = out_without l.origin.backing (part_of l).name out

-- each lane's part is out when its turn to be closed comes
abbrev pub AllOut : List LaneSeen → List PartName → Type 0
AllOut [] out = ⊤
AllOut (l ∷ ls) out = IsOut l out × AllOut ls (out_behind l out)

-- the same where files are told
abbrev pub AreAllOut : List LaneSeen → FolderSeen → Type 0
AreAllOut ls folder = IfSome folder.told (λ s. AllOut ls s.out)

-- the lane is the one whose part has this name
abbrev pub HasPart : PartName → LaneSeen → Type 0
HasPart x l = IsInFile l × (same_part x (part_of l).name ≡ true)

-- each part that is out is one of these lanes'
abbrev pub EachIsClosed : List LaneSeen → (out : List PartName) → Type 0
EachIsClosed ls out = (x : PartName) → Contains out x → (l : LaneSeen) × Contains ls l × HasPart x l

-- the parts that are out are these lanes', which can be closed one after another
pub record AreTheirParts (ls : List LaneSeen) (out : List PartName) : Type 0 where
  pub in_turn : AllOut ls out
  pub no_other : EachIsClosed ls out

-- no two of these lanes have one part
abbrev pub AreDistinct : List LaneSeen → Type 0
AreDistinct [] = ⊤
AreDistinct (l ∷ ls) = AllByRecursion (λ (m : LaneSeen). IsInFile l → IsInFile m → same_part (part_of m).name (part_of l).name ≡ false) ls × AreDistinct ls

-- ---- closing

abbrev pub ClosesIn : Backing → PartSeen → (old new : Shelf) → Type 0
ClosesIn in_memory part old new = new ≡ old
ClosesIn (in_file path) part old new = Closes part old new
ClosesIn (in_files path file) part old new = ⊥

-- the lane's part was closed, where it has one
abbrev pub ClosesLane : LaneSeen → (old new : Shelf) → Type 0
ClosesLane l old new = ClosesIn l.origin.backing (part_of l) old new

-- the lanes were closed one after another
abbrev pub ClosesAll : List LaneSeen → (old new : Shelf) → Type 0
ClosesAll [] old new = new ≡ old
ClosesAll (l ∷ ls) old new = (mid : Shelf) × ClosesLane l old mid × ClosesAll ls mid new

-- some lane's count is above 0
abbrev pub any_fault : List LaneSeen → Bool
any_fault [] = false
any_fault (l ∷ ls) = nat_lt 0 l.count || any_fault ls

-- ---- what closing does to a folder, by what is seen of it

module _ {F : Type 0} (seen : F → FolderSeen) (old new : F) where
  -- the lanes were closed one after another, where files are told
  abbrev pub AreClosed : List LaneSeen → Type 0
  AreClosed ls = WhereTold (ClosesAll ls) (seen old).told (seen new).told

  -- the folder's count rose, if some lane's is above 0
  abbrev pub FaultsShow : List LaneSeen → Type 0
  FaultsShow ls = any_fault ls ≡ true → Rose (seen old).count (seen new).count
