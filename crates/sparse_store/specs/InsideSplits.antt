-- The steps of a split: shares that are filled, and become lanes.
use Rattle.std.specs.Prelude.{◌≡◌, ℕ, ◌+◌, ◌/◌, ◌≤◌, List, [], ◌∷◌, map, length, slice_get, Some}
use Rattle.page_base.specs.Lanes.{LaneSeen}
use Rattle.page_base.specs.ListSeen.{ListSeen}
use Rattle.page_base.specs.declared.layout.Layout.{Layout}
use Rattle.file_store.specs.Parts.{PartSeen}
use Rattle.sparse_store.specs.InsideLaneFiles.{AreLaneFiles}
use Rattle.sparse_store.specs.SparseLanes.{there_in, sparse_origin, sparse_seen}
use Rattle.sparse_store.specs.Splits.{dealt_to}
use Rattle.sparse_store.specs.declared.meta.Meta.{Meta}
use Rattle.sparse_store.specs.declared.split.Share.{Share}

-- room for the files of any stripe
abbrev pub room_of : (files stripes : ℕ) → ℕ
room_of files stripes = files / stripes + 1

-- a share of the store over these parts, with no part yet
pub record IsEmptyShare {P : Type 0} (dir : List ℕ) (all : ListSeen P) (room : ℕ) (share : Share P) : Type 0 where
  pub dir_is : share.dir.items ≡ dir
  pub first_is : share.first.value ≡ all
  pub empty : share.parts.items ≡ []
  pub room_is : room ≤ share.parts.spare

pub record AreEmptyShares {P : Type 0} (dir : List ℕ) (all : ListSeen P) (room stripes : ℕ) (shares : List (Share P)) : Type 0 where
  pub count : length shares ≡ stripes
  pub each : (s : ℕ) (share : Share P) → slice_get shares s ≡ Some share → IsEmptyShare dir all room share

-- shares with room for the files of any stripe
abbrev pub HaveShareRoom : {P : Type 0} → (room : ℕ) → List (Share P) → Type 0
HaveShareRoom {P} room shares = (s : ℕ) (share : Share P) → slice_get shares s ≡ Some share → (share.parts.items ≡ []) × (room ≤ share.parts.spare)

-- a share that got the parts of its stripe
pub record IsDealt {P : Type 0} (stripes region stripe : ℕ) (parts : List P) (before : List (Share P)) (share : Share P) : Type 0 where
  pub was : Share P
  pub was_at : slice_get before stripe ≡ Some was
  pub dir_is : share.dir ≡ was.dir
  pub first_is : share.first ≡ was.first
  pub parts_are : share.parts.items ≡ dealt_to stripes region stripe parts

pub record AreDealt {P : Type 0} (region : ℕ) (parts : List P) (before now : List (Share P)) : Type 0 where
  pub count : length now ≡ length before
  pub each : (s : ℕ) (share : Share P) → slice_get now s ≡ Some share → IsDealt (length before) region s parts before share

-- ---- lanes

-- the parts of each share are those of a lane's files
abbrev pub AreLaneShares : {P : Type 0} → (P → PartSeen) → Meta → Layout → (region : ℕ) → List (Share P) → Type 0
AreLaneShares {P} seen m layout region shares =
    (s : ℕ) (share : Share P) → slice_get shares s ≡ Some share → AreLaneFiles share.dir.items m layout region s (map seen share.parts.items)

-- what is seen of the lane of a share
abbrev pub share_lane : {P : Type 0} → (P → PartSeen) → Meta → Layout → (region stripe : ℕ) → Share P → LaneSeen
share_lane seen m layout region stripe share =
    sparse_seen (sparse_origin share.dir.items m layout region stripe (there_in (map seen share.first.value.items))) (map seen share.parts.items)

-- of the lanes of shares from this stripe on
abbrev pub share_lanes : {P : Type 0} → (P → PartSeen) → Meta → Layout → (region stripe : ℕ) → List (Share P) → List LaneSeen
share_lanes seen m layout region stripe [] = []
share_lanes seen m layout region stripe (share ∷ shares) =
    share_lane seen m layout region stripe share ∷ share_lanes seen m layout region (stripe + 1) shares

abbrev pub share_parts : {P : Type 0} → List (Share P) → List (List P)
share_parts {P} shares = map (λ (share : Share P). share.parts.items) shares
