-- What one line of a text says, read from its fields: the tests stand in the order in which the
-- kinds of refusal come, so an answer `Err` is the first kind that applies to the line.
use Rattle.std.specs.Prelude.{ℕ, ◌+◌, ◌*◌, ◌-◌, ◌%◌, ◌&&◌, ◌||◌, ◌==◌, not, nat_le, nat_lt, Bool, true, false, if◌then◌else◌, List, [], ◌∷◌, length, codes, Option, Some, None, Result, Ok, Err}
use Rattle.std.specs.Fmt.{decimal}
use Rattle.std.specs.Str.{bytes_eq}
use Rattle.std.specs.Str.Parse.{digits_value}
use Rattle.std.specs.List.{list_any, list_all, slice_split}
use Rattle.page_base.specs.Backings.{in_memory, in_file, in_files}
use Prim.Native.Char.{code}
use Rattle.page_base.specs.declared.limits.TheConstants.{MOST_REGIONS}
use Rattle.workload_text.specs.declared.limits.TheConstants.{MOST_MEMORY_BYTES, MOST_STORED_BYTES, MOST_SCRIPTS, MOST_COMMANDS, MOST_ACCESS_BYTES, MOST_LOADED_BYTES}
use Rattle.workload_text.specs.Line.{Line, TextLine, says, silent, map_line, script_line, load_line, store_line, prefetch_line, flush_line, unmap_line}
use Rattle.workload_text.specs.Grammar.{Said, is_name, is_path, is_silent, region_by_name, size_at, writable_at}
use Rattle.workload_text.specs.declared.refusal.TextKind.{TextKind}
use Rattle.workload_text.specs.declared.refusal.TextKind.TheVariants as kind

infixl 10 ◌>>=◌
abbrev pub ◌>>=◌ : {A B : Type 0} → Result A TextKind → (A → Result B TextKind) → Result B TextKind
Ok x >>= f = f x
Err k >>= f = Err k

-- a field's value, or the kind of its refusal
abbrev pub or_refused : {A : Type 0} → TextKind → Option A → Result A TextKind
or_refused k None = Err k
or_refused k (Some x) = Ok x

abbrev pub is_empty : {A : Type 0} → List A → Bool
is_empty xs = length xs == 0

-- the number that a field spells in its one way, within a range
unfoldable pub number_of : ℕ → ℕ → List ℕ → Option ℕ
number_of least most field =
    if bytes_eq field (decimal (digits_value 10 field)) && (nat_le least (digits_value 10 field) && nat_le (digits_value 10 field) most)
    then Some (digits_value 10 field)
    else None

-- `0` to `9` and `a` to `f`
abbrev pub is_hex_digit : ℕ → Bool
is_hex_digit c = (nat_le (code "0") c && nat_le c (code "9")) || (nat_le (code "a") c && nat_le c (code "f"))

abbrev pub hex_digit_value : ℕ → ℕ
hex_digit_value c = if nat_le c (code "9") then c - code "0" else c - code "a" + 10

-- the byte of each two digits
abbrev pub hex_pairs : List ℕ → List ℕ
hex_pairs [] = []
hex_pairs (digit ∷ []) = []
hex_pairs (high ∷ low ∷ rest) = (16 * hex_digit_value high + hex_digit_value low) ∷ hex_pairs rest

-- two digits for each of 1 to `MOST_ACCESS_BYTES`
abbrev pub is_hex : List ℕ → Bool
is_hex field = (length field % 2 == 0) && (nat_le 2 (length field) && (nat_le (length field) (2 * MOST_ACCESS_BYTES) && list_all is_hex_digit field))

unfoldable pub bytes_of : List ℕ → Option (List ℕ)
bytes_of field = if is_hex field then Some (hex_pairs field) else None

unfoldable pub mode_of : List ℕ → Option Bool
mode_of field = if bytes_eq field (codes "rw") then Some true else if bytes_eq field (codes "ro") then Some false else None

-- exactly so many fields, and none of them empty
abbrev pub one_of : List (List ℕ) → Option (List ℕ)
one_of (a ∷ []) = if is_empty a then None else Some a
one_of fields = None

abbrev pub two_of : List (List ℕ) → Option (List ℕ × List ℕ)
two_of (a ∷ b ∷ []) = if is_empty a || is_empty b then None else Some (a, b)
two_of fields = None

abbrev pub three_of : List (List ℕ) → Option (List ℕ × List ℕ × List ℕ)
three_of (a ∷ b ∷ c ∷ []) = if is_empty a || (is_empty b || is_empty c) then None else Some (a, b, c)
three_of fields = None

abbrev pub four_of : List (List ℕ) → Option (List ℕ × List ℕ × List ℕ × List ℕ)
four_of (a ∷ b ∷ c ∷ d ∷ []) = if is_empty a || (is_empty b || (is_empty c || is_empty d)) then None else Some (a, b, c, d)
four_of fields = None

-- ---- the lines of regions

-- there are fewer regions than the most
abbrev pub as_region : Said → Line → Result Line TextKind
as_region s l = if nat_lt (length s.regions) MOST_REGIONS then Ok l else Err kind.Many

unfoldable pub read_memory : Said → (name size mode : List ℕ) → Result Line TextKind
read_memory s name size mode =
    if not (is_empty s.scripts) then Err kind.Order
    else if not (is_name name) then Err kind.Name
    else do
      n ← or_refused kind.Number (number_of 1 MOST_MEMORY_BYTES size)
      w ← or_refused kind.Mode (mode_of mode)
      as_region s (map_line name in_memory n w)

unfoldable pub read_file : Said → (name path size mode : List ℕ) → Result Line TextKind
read_file s name path size mode =
    if not (is_empty s.scripts) then Err kind.Order
    else if not (is_name name) then Err kind.Name
    else if not (is_path path) then Err kind.Path
    else do
      n ← or_refused kind.Number (number_of 1 MOST_STORED_BYTES size)
      w ← or_refused kind.Mode (mode_of mode)
      as_region s (map_line name (in_file path) n w)

unfoldable pub read_sparse : Said → (name path size file mode : List ℕ) → Result Line TextKind
read_sparse s name path size file mode =
    if not (is_empty s.scripts) then Err kind.Order
    else if not (is_name name) then Err kind.Name
    else if not (is_path path) then Err kind.Path
    else do
      n ← or_refused kind.Number (number_of 1 MOST_STORED_BYTES size)
      m ← or_refused kind.Number (number_of 1 MOST_STORED_BYTES file)
      w ← or_refused kind.Mode (mode_of mode)
      as_region s (map_line name (in_files path m) n w)

-- the fields behind `map`; an unknown third word is one whatever stands behind it
unfoldable pub read_map : Said → List (List ℕ) → Result Line TextKind
read_map s (name ∷ store ∷ rest) =
    if is_empty name then Err kind.Line
    else if bytes_eq store (codes "memory") then (or_refused kind.Line (two_of rest) >>= (λ f. read_memory s name f.0 f.1))
    else if bytes_eq store (codes "file") then (or_refused kind.Line (three_of rest) >>= (λ f. read_file s name f.0 f.1 f.2))
    else if bytes_eq store (codes "sparse") then (or_refused kind.Line (four_of rest) >>= (λ f. read_sparse s name f.0 f.1 f.2 f.3))
    else if list_any is_empty (store ∷ rest) then Err kind.Line
    else Err kind.Kind
read_map s fields = Err kind.Line

-- ---- scripts and commands

unfoldable pub read_script : Said → (name : List ℕ) → Result Line TextKind
read_script s name =
    if not (is_name name) then Err kind.Name
    else if list_any (bytes_eq name) s.scripts then Err kind.Double
    else if nat_lt (length s.scripts) MOST_SCRIPTS then Ok (script_line name)
    else Err kind.Many

unfoldable pub read_load : Said → (name off len : List ℕ) → Result Line TextKind
read_load s name off len =
    if is_empty s.scripts then Err kind.Order
    else if not (is_name name) then Err kind.Name
    else do
      o ← or_refused kind.Number (number_of 0 MOST_STORED_BYTES off)
      n ← or_refused kind.Number (number_of 0 MOST_ACCESS_BYTES len)
      r ← or_refused kind.Unknown (region_by_name s name)
      if not (nat_le (o + n) (size_at s.regions r)) then Err kind.Range
          else if nat_lt s.commands MOST_COMMANDS && nat_le (s.loaded + n) MOST_LOADED_BYTES then Ok (load_line r o n)
          else Err kind.Many

unfoldable pub read_store : Said → (name off hex : List ℕ) → Result Line TextKind
read_store s name off hex =
    if is_empty s.scripts then Err kind.Order
    else if not (is_name name) then Err kind.Name
    else do
      o ← or_refused kind.Number (number_of 0 MOST_STORED_BYTES off)
      bytes ← or_refused kind.Hex (bytes_of hex)
      r ← or_refused kind.Unknown (region_by_name s name)
      if not (nat_le (o + length bytes) (size_at s.regions r)) then Err kind.Range
          else if not (writable_at s.regions r) then Err kind.ReadOnly
          else if nat_lt s.commands MOST_COMMANDS then Ok (store_line r o bytes)
          else Err kind.Many

unfoldable pub read_prefetch : Said → (name off len : List ℕ) → Result Line TextKind
read_prefetch s name off len =
    if is_empty s.scripts then Err kind.Order
    else if not (is_name name) then Err kind.Name
    else do
      o ← or_refused kind.Number (number_of 0 MOST_STORED_BYTES off)
      n ← or_refused kind.Number (number_of 0 MOST_STORED_BYTES len)
      r ← or_refused kind.Unknown (region_by_name s name)
      if not (nat_le (o + n) (size_at s.regions r)) then Err kind.Range
          else if nat_lt s.commands MOST_COMMANDS then Ok (prefetch_line r o n)
          else Err kind.Many

unfoldable pub read_flush : Said → Result Line TextKind
read_flush s =
    if is_empty s.scripts then Err kind.Order
    else if nat_lt s.commands MOST_COMMANDS then Ok flush_line
    else Err kind.Many

unfoldable pub read_unmap : Said → (name : List ℕ) → Result Line TextKind
read_unmap s name =
    if is_empty s.scripts then Err kind.Order
    else if not (is_name name) then Err kind.Name
    else do
      r ← or_refused kind.Unknown (region_by_name s name)
      if nat_lt s.commands MOST_COMMANDS then Ok (unmap_line r) else Err kind.Many

-- ---- one line

-- the first word of a line, and the fields behind it
unfoldable pub read_word : Said → (word : List ℕ) → List (List ℕ) → Result Line TextKind
read_word s word rest =
    if bytes_eq word (codes "load") then (or_refused kind.Line (three_of rest) >>= (λ f. read_load s f.0 f.1 f.2))
    else if bytes_eq word (codes "store") then (or_refused kind.Line (three_of rest) >>= (λ f. read_store s f.0 f.1 f.2))
    else if bytes_eq word (codes "prefetch") then (or_refused kind.Line (three_of rest) >>= (λ f. read_prefetch s f.0 f.1 f.2))
    else if bytes_eq word (codes "script") then (or_refused kind.Line (one_of rest) >>= (λ name. read_script s name))
    else if bytes_eq word (codes "map") then read_map s rest
    else if bytes_eq word (codes "unmap") then (or_refused kind.Line (one_of rest) >>= (λ name. read_unmap s name))
    else if bytes_eq word (codes "flush") then (if is_empty rest then read_flush s else Err kind.Line)
    else Err kind.Line

-- what the fields of a line say behind lines that have said s
abbrev pub read_fields : Said → List (List ℕ) → Result Line TextKind
read_fields s [] = Err kind.Line
read_fields s (word ∷ rest) = read_word s word rest

abbrev pub is_space : ℕ → Bool
is_space b = b == code " "

abbrev pub is_line_feed : ℕ → Bool
is_line_feed b = b == code "\n"

abbrev pub read_line : Said → List ℕ → Result Line TextKind
read_line s text = read_fields s (slice_split is_space text)

-- a line of a text, which may say nothing
unfoldable pub read_text_line : Said → List ℕ → Result TextLine TextKind
read_text_line s text = if is_silent text then Ok (silent text) else (read_line s text >>= (λ l. Ok (says l)))
