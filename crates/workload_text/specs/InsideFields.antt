-- What the readers of single fields test.
use Rattle.std.specs.Prelude.{◌≡◌, ℕ, ◌<◌, List, length, slice_index}
use Prim.Native.Char.{code}

-- one byte at least, and no `0` in front of others
abbrev pub IsPlain : List ℕ → Type 0
IsPlain field = (0 < length field) × (slice_index field 0 ≡ code "0" → length field ≡ 1)
