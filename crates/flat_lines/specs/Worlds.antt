-- What stripes hold of regions, where they made some accesses: each region is one list of bytes.
use Rattle.std.specs.Prelude.{◌≡◌, ℕ, ◌*◌, ◌%◌, ◌<◌, ◌≤◌, Bool, true, List, length, slice_index}
use Rattle.histories.specs.Histories.{by}
use Rattle.page_base.specs.declared.keys.Key.{Key}
use Rattle.page_model.specs.declared.entry.Entry.{Entry}
use Rattle.page_model.specs.Memory.{byte, flat}
use Rattle.page_model.specs.Setups.{Setup, is_told}
use Rattle.flat_lines.specs.Spreads.{Spread, stripe_in, piece_key}
use Rattle.flat_lines.specs.FlatRegions.{bytes_at}

-- what the stripes were made with, how many pages each region has, and of which regions bytes are claimed
pub record World : Type 0 where
  pub spread : Spread
  pub pages : ℕ → ℕ
  pub setups : ℕ → Setup
  pub claimed : ℕ → Bool

pub record IsWorld (w : World) : Type 0 where
  pub some_byte : 1 ≤ w.spread.page_size
  pub some_stripe : 0 < w.spread.stripes
  pub sized : (s : ℕ) → (w.setups s).page_size ≡ w.spread.page_size

-- the page's lane told its bytes when its stripe was made
abbrev pub was_told : World → Key → Bool
was_told w k = is_told (w.setups (stripe_in w.spread k)) k

-- the bytes of a page where the stripes made these accesses; of each stripe they stand the newest first
abbrev pub flat_page : World → (es : ℕ → List Entry) → Key → List ℕ
flat_page w es k = flat (w.setups (stripe_in w.spread k)) (by 0 (es (stripe_in w.spread k))) k

-- and one byte of a region
abbrev pub flat_byte : World → (es : ℕ → List Entry) → (region i : ℕ) → ℕ
flat_byte w es region i =
    byte (w.setups (stripe_in w.spread (piece_key w.spread.page_size region i)))
    (by 0 (es (stripe_in w.spread (piece_key w.spread.page_size region i))))
    (piece_key w.spread.page_size region i)
    (i % w.spread.page_size)

-- these are as many bytes as the region has, and where its pages were told it holds them
pub record HoldsBytes (w : World) (es : ℕ → List Entry) (region : ℕ) (bytes : List ℕ) : Type 0 where
  pub whole : length bytes ≡ w.pages region * w.spread.page_size
  pub each : (i : ℕ) → i < length bytes → was_told w (piece_key w.spread.page_size region i) ≡ true → flat_byte w es region i ≡ slice_index bytes i

-- each claimed region holds its bytes
abbrev pub AllHold : World → (es : ℕ → List Entry) → List (List ℕ) → Type 0
AllHold w es regions = (r : ℕ) → r < length regions → w.claimed r ≡ true → HoldsBytes w es r (bytes_at regions r)
