-- What a page holds by the stores to it, and what the backing store keeps of it.
-- Memory is flat here: it looks back in the history for the last store to each byte, as mmap(2) of a file would show it.
use Rattle.std.specs.Prelude.{ℕ, ◌+◌, ◌-◌, Bool, ◌&&◌, nat_lt, nat_le, if◌then◌else◌, List, [], ◌∷◌, length, map, slice_index, slice_range, Option, Some, None, unwrap_or, ◌≡◌}
use Rattle.std.specs.List.{range_with_len}
use Rattle.std.specs.Bool.{OnTrue}
use Rattle.histories.specs.Histories.{History}
use Rattle.page_base.specs.declared.keys.Key.{Key}
use Rattle.page_base.specs.Pages.{same}
use Rattle.page_model.specs.declared.entry.Entry.{Entry}
use Rattle.page_model.specs.declared.entry.Entry.TheVariants.{Save, WriteFailed, Written}
use Rattle.page_model.specs.Setups.{Setup, base_of, is_told}

-- bytes from this place on cover byte i
abbrev pub covers : (place : ℕ) → List ℕ → ℕ → Bool
covers place bytes i = nat_le place i && nat_lt i (place + length bytes)

-- byte i of page k: that of the last Save which covers it, else that of the start
abbrev pub byte : Setup → History Entry → Key → ℕ → ℕ
byte s [] k i = slice_index (unwrap_or (base_of s k) []) i
byte s ((o, Save j place bytes) ∷ h) k i = if same j k && covers place bytes i then slice_index bytes (i - place) else byte s h k i
byte s (e ∷ h) k i = byte s h k i

-- the bytes of page k
abbrev pub flat : Setup → History Entry → Key → List ℕ
flat s h k = map (byte s h k) (range_with_len 0 s.page_size)

-- the bytes that the backing store keeps of page k: those of its last finished write, else those of the start.
-- None where nothing is known: the lane doesn't tell, or the last write of the page failed.
abbrev pub kept : Setup → History Entry → Key → Option (List ℕ)
kept s [] k = base_of s k
kept s ((o, Written j at bytes) ∷ h) k = if same j k then Some bytes else kept s h k
kept s ((o, WriteFailed j n) ∷ h) k = if same j k then None else kept s h k
kept s (e ∷ h) k = kept s h k

-- a load's bytes are those that the page holds from `place` on, where told
abbrev pub LoadsLatest : Setup → History Entry → Key → ℕ → List ℕ → Type 0
LoadsLatest s h k place bytes = OnTrue (is_told s k) (bytes ≡ slice_range (flat s h k) place (place + length bytes))
