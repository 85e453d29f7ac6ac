-- Parts of several files that are closed.
use Rattle.std.specs.Prelude.{◌≡◌, ◌≢◌, ℕ, Bool, false, ◌||◌, nat_lt, List, [], ◌∷◌, map, slice_get, Some, IfSome}
use Rattle.std.specs.List.{Contains}
use Rattle.file_store.specs.Parts.{PartName, PartSeen}
use Rattle.file_store.specs.Shelves.{Shelf, FolderSeen, file_at, without, PutsBack}

-- each of the parts is out
abbrev pub AreAllOut : List PartSeen → List PartName → Type 0
AreAllOut parts out = (k : ℕ) (p : PartSeen) → slice_get parts k ≡ Some p → Contains out p.name

-- so they are where files are told
abbrev pub ArePartsOut : {P : Type 0} → (P → PartSeen) → FolderSeen → List P → Type 0
ArePartsOut seen folder parts = IfSome folder.told (λ s. AreAllOut (map seen parts) s.out)

abbrev pub without_each : List PartSeen → List PartName → List PartName
without_each [] out = out
without_each (p ∷ ps) out = without p.name (without_each ps out)

-- each part's file is as the part leaves it, all other files are as before, and just these parts aren't out any more
pub record ClosesEach (parts : List PartSeen) (old new : Shelf) : Type 0 where
  pub back : (k : ℕ) (p : PartSeen) → slice_get parts k ≡ Some p → PutsBack p.made p.name.extent p.told (file_at old.files p.name.path) (file_at new.files p.name.path)
  pub elsewhere : (path : List ℕ) → ((k : ℕ) (p : PartSeen) → slice_get parts k ≡ Some p → path ≢ p.name.path) → file_at new.files path ≡ file_at old.files path
  pub out : new.out ≡ without_each parts old.out

-- some part's count is above 0
abbrev pub any_fault : List PartSeen → Bool
any_fault [] = false
any_fault (p ∷ ps) = nat_lt 0 p.count || any_fault ps

-- each file is as before, and the same parts are out
pub record HasSame (old new : Shelf) : Type 0 where
  pub files : (path : List ℕ) → file_at new.files path ≡ file_at old.files path
  pub out : new.out ≡ old.out
