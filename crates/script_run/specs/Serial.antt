-- What a workload means when its lines run one serial_after another: the text that they answer, and the bytes that
-- they leave.
use Rattle.std.specs.Prelude.{ℕ, ◌==◌, ◌&&◌, nat_lt, Bool, if◌then◌else◌, List, [], ◌∷◌, ◌++◌, length, take, drop, map, replicate, codes}
use Rattle.std.specs.List.{list_any}
use Rattle.hex.specs.Hex.{encode_lower}
use Rattle.workload_text.specs.Grammar.{Region}
use Rattle.workload_text.specs.Accepted.{regions_of}
use Rattle.workload_text.specs.Line.{Line, map_line, script_line, load_line, store_line, prefetch_line, flush_line, unmap_line}
use Rattle.flat_lines.specs.FlatRegions.{bytes_at, stored}

-- the bytes of every region, in order of region, and the regions that were unmapped
pub record SerialState : Type 0 where
  pub regions : List (List ℕ)
  pub gone : List ℕ

-- regions before anything runs
abbrev pub all_mapped : List (List ℕ) → SerialState
all_mapped regions = record { regions = regions; gone = [] }

abbrev pub was_unmapped : SerialState → (region : ℕ) → Bool
was_unmapped s r = list_any (λ q. q == r) s.gone

-- an access of at least one byte finds its region unmapped
abbrev pub finds_unmapped : SerialState → (region len : ℕ) → Bool
finds_unmapped s r len = was_unmapped s r && nat_lt 0 len

-- regions in memory before anything runs
abbrev pub zeros_of : List Line → List (List ℕ)
zeros_of lines = map (λ (g : Region). replicate g.size 0) (regions_of lines)

-- ---- replies

-- the bytes that a line loads of a mapped region
abbrev pub loaded : List (List ℕ) → Line → List ℕ
loaded regions (load_line r off len) = take len (drop off (bytes_at regions r))
loaded regions l = []

-- the reply to a load of these bytes
abbrev pub load_reply : List ℕ → List ℕ
load_reply [] = codes "load\n"
load_reply (b ∷ bytes) = codes "load " ++ (encode_lower (b ∷ bytes) ++ codes "\n")

-- the reply where a region is unmapped, else another
abbrev pub unmapped_or : (unmapped : Bool) → List ℕ → List ℕ
unmapped_or unmapped other = if unmapped then codes "unmapped\n" else other

-- what a line writes to the text
abbrev pub reply : SerialState → Line → List ℕ
reply s (map_line name kept size writable) = []
reply s (script_line name) = codes "script " ++ (name ++ codes "\n")
reply s (load_line r off len) = unmapped_or (finds_unmapped s r len) (load_reply (loaded s.regions (load_line r off len)))
reply s (store_line r off bytes) = unmapped_or (finds_unmapped s r (length bytes)) (codes "ok\n")
reply s (prefetch_line r off len) = codes "ok\n"
reply s flush_line = codes "ok\n"
reply s (unmap_line r) = unmapped_or (was_unmapped s r) (codes "ok\n")

-- ---- what lines leave

-- a store to an unmapped region stores nothing, and a region is unmapped for good
abbrev pub serial_after : SerialState → Line → SerialState
serial_after s (store_line r off bytes) =
    if finds_unmapped s r (length bytes) then s else record { regions = stored s.regions (store_line r off bytes); gone = s.gone }
serial_after s (unmap_line r) = record { regions = s.regions; gone = r ∷ s.gone }
serial_after s l = s

-- ---- all lines

abbrev pub text_from : SerialState → List Line → List ℕ
text_from s [] = []
text_from s (l ∷ ls) = reply s l ++ text_from (serial_after s l) ls

abbrev pub end_from : SerialState → List Line → SerialState
end_from s [] = s
end_from s (l ∷ ls) = end_from (serial_after s l) ls

-- of regions that hold these bytes at first
abbrev pub serial_text : List (List ℕ) → List Line → List ℕ
serial_text regions lines = text_from (all_mapped regions) lines

abbrev pub serial_end : List (List ℕ) → List Line → List (List ℕ)
serial_end regions lines = (end_from (all_mapped regions) lines).regions
