-- What lines mean by flat memory, and the laws that they do.
use Rattle.std.specs.Prelude.{◌≡◌, ℕ, ◌+◌, ◌*◌, ◌<◌, ◌≤◌, ◌==◌, true, List, [], ◌∷◌, length, take, drop, slice_index, Some}
use Rattle.std.specs.List.{list_any}
use Rattle.histories.specs.Histories.{History}
use Rattle.page_base.specs.declared.keys.Key.{Key}
use Rattle.page_model.specs.declared.entry.Entry.{Entry}
use Rattle.page_model.specs.Legal.{IsLegal}
use Rattle.page_model.specs.Memory.{flat}
use Rattle.page_model.specs.Owned.{OneOwner, LoadsFollow, joined_accesses, AreApart}
use Rattle.page_model.specs.Setups.{Setup, base_of}
use Rattle.store_trait.specs.Memory.{page_bytes}
use Rattle.workload_text.specs.Line.{Line, load_line}
use Rattle.flat_lines.specs.Spreads.{stripe_in, range_key, piece_key}
use Rattle.flat_lines.specs.Worlds.{World, IsWorld, was_told, flat_page, HoldsBytes, AllHold}
use Rattle.flat_lines.specs.FlatRegions.{bytes_at, stored_part, stored_parts}
use Rattle.flat_lines.specs.Lines.{AllDid, AllInside}

-- what is loaded is what the region has there, wherever its pages were told
abbrev pub IsFlat : World → List (List ℕ) → Line → (part : List ℕ) → Type 0
IsFlat w regions (load_line r off len) part =
    w.claimed r ≡ true → (i : ℕ) → i < length part → was_told w (piece_key w.spread.page_size r (off + i)) ≡ true
    → slice_index part i ≡ slice_index (bytes_at regions r) (off + i)
IsFlat w regions l part = Unit {0}

abbrev pub AreFlat : World → List (List ℕ) → List Line → (parts : List (List ℕ)) → Type 0
AreFlat w regions (l ∷ ls) (part ∷ parts) = IsFlat w regions l part × AreFlat w (stored_part regions l part) ls parts
AreFlat w regions ls parts = Unit {0}

-- ---- the laws

-- Where each load follows from the accesses before it, lines mean what they mean by flat memory.
abbrev pub LinesAreFlat : Type 0
LinesAreFlat =
    (w : World) (lines : List Line) (parts : List (List ℕ)) (behind all : ℕ → List Entry) (regions : List (List ℕ))
    → IsWorld w → AllInside w (length regions) lines → AllDid w.spread lines parts behind all
    → ((s : ℕ) → s < w.spread.stripes → LoadsFollow (w.setups s) (all s)) → AllHold w behind regions
    → AreFlat w regions lines parts × AllHold w all (stored_parts regions lines parts)

-- the pages of a region below this number were told
abbrev pub WereTold : World → (region : ℕ) → Type 0
WereTold w r = (page : ℕ) → page < w.pages r → was_told w (range_key r page) ≡ true

-- the page is one of these owners'
abbrev pub IsOwned : (owner_of : Key → ℕ) → (owners : List ℕ) → Key → Type 0
IsOwned owner_of owners k = list_any (λ o. o == owner_of k) owners ≡ true

-- each told page of these owners holds its part of its region's bytes, by the whole history of its stripe
abbrev pub PagesHold : World → (h : ℕ → History Entry) → (owner_of : ℕ → Key → ℕ) → (owners : ℕ → List ℕ) → List (List ℕ) → Type 0
PagesHold w h owner_of owners regions =
    (r page : ℕ) → r < length regions → w.claimed r ≡ true → page < w.pages r → was_told w (range_key r page) ≡ true
    → IsOwned (owner_of (stripe_in w.spread (range_key r page))) (owners (stripe_in w.spread (range_key r page))) (range_key r page)
    → flat (w.setups (stripe_in w.spread (range_key r page))) (h (stripe_in w.spread (range_key r page))) (range_key r page)
    ≡ page_bytes w.spread.page_size (bytes_at regions r) page

-- the history is legal, and each page has one owner; these owners stand once each
pub record IsShared (s : Setup) (h : History Entry) (owner_of : Key → ℕ) (owners : List ℕ) : Type 0 where
  pub legal : IsLegal s h
  pub one : OneOwner owner_of h
  pub apart : AreApart owners

-- So it is of stripes whose owners made their accesses in whatever order, where the lines are taken owner by owner.
abbrev pub OwnersAreFlat : Type 0
OwnersAreFlat =
    (w : World) (h : ℕ → History Entry) (owner_of : ℕ → Key → ℕ) (owners : ℕ → List ℕ)
    (lines : List Line) (parts : List (List ℕ)) (regions : List (List ℕ))
    → IsWorld w → AllInside w (length regions) lines
    → ((s : ℕ) → s < w.spread.stripes → IsShared (w.setups s) (h s) (owner_of s) (owners s))
    → AllDid w.spread lines parts (λ s. []) (λ s. joined_accesses (h s) (owners s)) → AllHold w (λ s. []) regions
    → AreFlat w regions lines parts × PagesHold w h owner_of owners (stored_parts regions lines parts)

-- bytes by pages, and whole loads
pub record BytesByPages : Type 0 where
  -- a told page holds its part of what the region holds
  pub page : (w : World) (es : ℕ → List Entry) (r page : ℕ) (bytes : List ℕ) → IsWorld w → HoldsBytes w es r bytes
      → page < w.pages r → was_told w (range_key r page) ≡ true
      → flat_page w es (range_key r page) ≡ page_bytes w.spread.page_size bytes page
  -- and where each does, the region holds these bytes
  pub region : (w : World) (es : ℕ → List Entry) (r : ℕ) (bytes : List ℕ) → IsWorld w
      → length bytes ≡ w.pages r * w.spread.page_size
      → ((page : ℕ) → page < w.pages r → was_told w (range_key r page) ≡ true
      → flat_page w es (range_key r page) ≡ page_bytes w.spread.page_size bytes page)
      → HoldsBytes w es r bytes
  -- so before any access it holds what its lanes told
  pub start : (w : World) (r : ℕ) (bytes : List ℕ) → IsWorld w → length bytes ≡ w.pages r * w.spread.page_size
      → ((page : ℕ) → page < w.pages r → was_told w (range_key r page) ≡ true
      → base_of (w.setups (stripe_in w.spread (range_key r page))) (range_key r page) ≡ Some (page_bytes w.spread.page_size bytes page))
      → HoldsBytes w (λ s. []) r bytes
  -- where all pages of a region were told, what is loaded of it is that part of its bytes
  pub load : (w : World) (regions : List (List ℕ)) (r off len : ℕ) (part : List ℕ) → IsWorld w
      → IsFlat w regions (load_line r off len) part → w.claimed r ≡ true → WereTold w r
      → off + length part ≤ w.pages r * w.spread.page_size → off + length part ≤ length (bytes_at regions r)
      → part ≡ take (length part) (drop off (bytes_at regions r))
