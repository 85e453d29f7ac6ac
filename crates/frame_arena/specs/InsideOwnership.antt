-- What the bytes of a block own, whole or in pieces. No public clause reaches these.
use Rattle.std.specs.Prelude.{◌≡◌, refl, ℕ, List, [], ◌∷◌, length}
use Rattle.std.specs.Coded.{Coded, code_by, coded×, coded_ℕ}
use base.Fraction.{full_share}
use base.Fml.{Fml, ftrue, ffalse, fsep, feq, fall, fwand, flft}
use denote.Builtin.{u8}
use denote.Array.{Array}
use denote.RawPtr.{Ptr, block_ptr, coded_ptr, lies_at, block_of, count_of}

-- a place in a block, which is not null
abbrev pub IsPlaced : Ptr → Type 0
IsPlaced place = place ≡ block_ptr (block_of place) (count_of place)

-- the bytes lie at the place, and nothing else reaches them
abbrev pub lies : Ptr → List ℕ → Fml
lies place bytes = lies_at (Array u8 (length bytes)) full_share place bytes

-- a run of bytes, whatever they are
pub record Span : Type 0 where
  pub start : Ptr
  pub size : ℕ

abbrev pub span_code : Coded Span
span_code = code_by (Ptr × ℕ) (coded× coded_ptr coded_ℕ) (λ span. (span.start, span.size)) (λ pair. record { start = pair.0; size = pair.1 }) (λ _. refl)

-- bytes that lie there, as many as it has
abbrev pub fills : Span → List ℕ → Fml
fills span bytes = fsep (feq ℕ (length bytes) span.size) (lies span.start bytes)

-- any bytes that fill the span make F of them
abbrev pub awaits : Span → (List ℕ → Fml) → Fml
awaits span F = fall (List ℕ) (λ bytes. fwand (fills span bytes) (F bytes))

-- the sole right to each of these lifetimes
abbrev pub rights : List ℕ → Fml
rights [] = ftrue
rights (a ∷ rest) = fsep (flft (a ∷ []) full_share) (rights rest)

-- the sole right to the first of them
abbrev pub first_right : List ℕ → Fml
first_right [] = ffalse
first_right (a ∷ rest) = flft (a ∷ []) full_share
