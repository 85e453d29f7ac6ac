-- Lanes that are joined to the store that was split into them.
use Rattle.std.specs.Prelude.{◌≡◌, ℕ, ◌*◌, Bool, List, length, slice_get, Some}
use Rattle.page_base.specs.Backings.{in_files}
use Rattle.page_base.specs.Lanes.{LaneSeen}
use Rattle.page_base.specs.declared.layout.Layout.{Layout}
use Rattle.sparse_store.specs.SparseLanes.{sparse_origin}
use Rattle.sparse_store.specs.Splits.{dealt_to}
use Rattle.sparse_store.specs.declared.meta.Meta.{Meta}

-- the lanes are those of one store, one for each stripe, in order
pub record AreOfOneStore (lanes : List LaneSeen) : Type 0 where
  pub dir : List ℕ
  pub shape : Meta
  pub layout : Layout
  pub region : ℕ
  pub there : List Bool
  pub count : length lanes ≡ layout.stripes
  pub each : (s : ℕ) (l : LaneSeen) → slice_get lanes s ≡ Some l → l.origin ≡ sparse_origin dir shape layout region s there

-- the lanes are of the store in this folder, of this size and with files of this length
abbrev pub AreOfStore : (dir : List ℕ) → Meta → List LaneSeen → Type 0
AreOfStore dir m lanes = (s : ℕ) (l : LaneSeen) → slice_get lanes s ≡ Some l → (l.origin.backing ≡ in_files dir m.file) × (l.origin.pages * l.origin.page_size ≡ m.size)

-- each lane's parts are those of the store's that go to its stripe
abbrev pub AreDealtOf : {P : Type 0} → List LaneSeen → (rows : List (List P)) → (parts : List P) → Type 0
AreDealtOf {P} lanes rows parts = (s : ℕ) (l : LaneSeen) (row : List P) → slice_get lanes s ≡ Some l → slice_get rows s ≡ Some row → row ≡ dealt_to l.origin.stripes l.origin.region l.origin.stripe parts
