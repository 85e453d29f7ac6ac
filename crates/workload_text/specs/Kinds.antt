-- Which kinds of refusal apply to a line, each by itself and by what the grammar says alone: nothing here reads a line
-- in an order. Which of the kinds that apply is named is the matter of `place`.
use Rattle.std.specs.Prelude.{◌≡◌, ◌≢◌, ℕ, ◌+◌, ◌<◌, ◌≤◌, ◌⊎◌, ◌||◌, ◌&&◌, not, Bool, true, false, if◌then◌else◌, List, [], ◌∷◌, length, drop, slice_index_or, codes, Option, Some, None, is_some, All, Contains}
use Rattle.std.specs.Option.{IsSomeAnd}
use Rattle.std.specs.Fmt.{decimal}
use Rattle.std.specs.Str.{bytes_eq}
use Rattle.std.specs.List.{list_any, slice_split}
use Rattle.hex.specs.Hex.{encode_lower}
use Rattle.page_base.specs.declared.limits.TheConstants.{MOST_REGIONS}
use Rattle.workload_text.specs.declared.limits.TheConstants.{MOST_MEMORY_BYTES, MOST_STORED_BYTES, MOST_SCRIPTS, MOST_COMMANDS, MOST_ACCESS_BYTES, MOST_LOADED_BYTES}
use Rattle.workload_text.specs.Grammar.{Said, is_name, is_path, is_silent, mode_text, region_by_name, size_at, writable_at}
use Rattle.workload_text.specs.Reading.{is_empty, is_space}
use Rattle.workload_text.specs.declared.refusal.TextKind.{TextKind}
use Rattle.workload_text.specs.declared.refusal.TextKind.TheVariants as kind

-- ---- the forms of lines

-- what a field behind the first word is to be
pub data Sort : Type 0 where
  a_name : Sort
  a_path : Sort
  a_number : (least most : ℕ) → Sort
  hex_bytes : Sort
  a_mode : Sort
  a_store : Sort

-- the field is the number's one spelling, and the number is in its range
pub record IsNumber (least most : ℕ) (field : List ℕ) (n : ℕ) : Type 0 where
  pub spelt : field ≡ decimal n
  pub least_is : least ≤ n
  pub most_is : n ≤ most

-- the field is the one spelling of these bytes
pub record IsHex (field bytes : List ℕ) : Type 0 where
  pub spelt : field ≡ encode_lower bytes
  pub some : 1 ≤ length bytes
  pub most : length bytes ≤ MOST_ACCESS_BYTES
  pub bytes_all : All (λ b. b < 256) bytes

abbrev pub is_store_kind : List ℕ → Bool
is_store_kind field = list_any (bytes_eq field) (codes "memory" ∷ codes "file" ∷ codes "sparse" ∷ [])

abbrev pub IsSpelt : Sort → List ℕ → Type 0
IsSpelt a_name field = is_name field ≡ true
IsSpelt a_path field = is_path field ≡ true
IsSpelt (a_number least most) field = (n : ℕ) × IsNumber least most field n
IsSpelt hex_bytes field = (bytes : List ℕ) × IsHex field bytes
IsSpelt a_mode field = (writable : Bool) × (field ≡ mode_text writable)
IsSpelt a_store field = is_store_kind field ≡ true

-- the kind of a field that isn't
abbrev pub kind_of : Sort → TextKind
kind_of a_name = kind.Name
kind_of a_path = kind.Path
kind_of (a_number least most) = kind.Number
kind_of hex_bytes = kind.Hex
kind_of a_mode = kind.Mode
kind_of a_store = kind.Kind

-- of these fields the first from the left that isn't spelt as it is to be is of this kind
abbrev pub FirstMisspelt : TextKind → List Sort → List (List ℕ) → Type 0
FirstMisspelt k (t ∷ ts) (f ∷ fs) = ((¬ IsSpelt t f) × (kind_of t ≡ k)) ⊎ (IsSpelt t f × FirstMisspelt k ts fs)
FirstMisspelt k ts fs = ⊥

-- the fields behind the first word, by that word
abbrev pub forms : List (List ℕ × List Sort)
forms =
    (codes "script", a_name ∷ [])
    ∷ (codes "load", a_name ∷ a_number 0 MOST_STORED_BYTES ∷ a_number 0 MOST_ACCESS_BYTES ∷ [])
    ∷ (codes "store", a_name ∷ a_number 0 MOST_STORED_BYTES ∷ hex_bytes ∷ [])
    ∷ (codes "prefetch", a_name ∷ a_number 0 MOST_STORED_BYTES ∷ a_number 0 MOST_STORED_BYTES ∷ [])
    ∷ (codes "flush", [])
    ∷ (codes "unmap", a_name ∷ [])
    ∷ []

-- the fields behind `map`, by the second of them
abbrev pub map_forms : List (List ℕ × List Sort)
map_forms =
    (codes "memory", a_name ∷ a_store ∷ a_number 1 MOST_MEMORY_BYTES ∷ a_mode ∷ [])
    ∷ (codes "file", a_name ∷ a_store ∷ a_path ∷ a_number 1 MOST_STORED_BYTES ∷ a_mode ∷ [])
    ∷ (codes "sparse", a_name ∷ a_store ∷ a_path ∷ a_number 1 MOST_STORED_BYTES ∷ a_number 1 MOST_STORED_BYTES ∷ a_mode ∷ [])
    ∷ []

abbrev pub sorts_by : List (List ℕ × List Sort) → (word : List ℕ) → Option (List Sort)
sorts_by [] word = None
sorts_by (form ∷ more) word = if bytes_eq word form.0 then Some form.1 else sorts_by more word

-- ---- the words of a line, given by its fields

abbrev pub field_at : List (List ℕ) → ℕ → List ℕ
field_at fields i = slice_index_or fields i []

abbrev pub begins_with : (word : List ℕ) → List (List ℕ) → Bool
begins_with word fields = bytes_eq (field_at fields 0) word

abbrev pub is_map : List (List ℕ) → Bool
is_map fields = begins_with (codes "map") fields

abbrev pub command_words : List (List ℕ)
command_words = codes "load" ∷ codes "store" ∷ codes "prefetch" ∷ codes "flush" ∷ codes "unmap" ∷ []

abbrev pub is_command : List (List ℕ) → Bool
is_command fields = list_any (bytes_eq (field_at fields 0)) command_words

-- a command that names a region
abbrev pub names_region : List (List ℕ) → Bool
names_region fields = is_command fields && not (begins_with (codes "flush") fields)

-- a command that names a length
abbrev pub names_length : List (List ℕ) → Bool
names_length fields = list_any (bytes_eq (field_at fields 0)) (codes "load" ∷ codes "prefetch" ∷ [])

-- what the fields behind the first word are to be, where the words show it
abbrev pub sorts_of : List (List ℕ) → Option (List Sort)
sorts_of fields = if is_map fields then sorts_by map_forms (field_at fields 2) else sorts_by forms (field_at fields 0)

-- how many bytes a load or a hint asks for, and how many a store has
abbrev pub NamesLength : List (List ℕ) → ℕ → Type 0
NamesLength fields len = (names_length fields ≡ true) × IsNumber 0 MOST_STORED_BYTES (field_at fields 3) len

abbrev pub NamesBytes : List (List ℕ) → ℕ → Type 0
NamesBytes fields len =
    (begins_with (codes "store") fields ≡ true)
    × ((bytes : List ℕ) × IsHex (field_at fields 3) bytes × (len ≡ length bytes))

-- the range of a region that a load, a store or a hint names
pub record NamesRange (s : Said) (fields : List (List ℕ)) (r off len : ℕ) : Type 0 where
  pub region : region_by_name s (field_at fields 1) ≡ Some r
  pub from : IsNumber 0 MOST_STORED_BYTES (field_at fields 2) off
  pub length_is : NamesLength fields len ⊎ NamesBytes fields len

-- ---- the kinds

-- it is no line of any form
pub data IsFormless (fields : List (List ℕ)) : Type 0 where
  empty_field : list_any is_empty fields ≡ true → IsFormless fields
  unknown_word : (is_map fields || is_some (sorts_by forms (field_at fields 0))) ≡ false → IsFormless fields
  short_map : is_map fields ≡ true → length fields < 3 → IsFormless fields
  other_number : IsSomeAnd (sorts_of fields) (λ sorts. length fields ≢ length sorts + 1) → IsFormless fields

-- it stands on the wrong side of the first script
pub data IsMisplaced (s : Said) (fields : List (List ℕ)) : Type 0 where
  late_map : is_map fields ≡ true → s.scripts ≢ [] → IsMisplaced s fields
  early_command : is_command fields ≡ true → s.scripts ≡ [] → IsMisplaced s fields

-- its first misspelt field is of this kind
abbrev pub IsMisspelt : TextKind → List (List ℕ) → Type 0
IsMisspelt k fields = IsSomeAnd (sorts_of fields) (λ sorts. FirstMisspelt k sorts (drop 1 fields))

-- it is one more than a limit allows
pub data IsTooMany (s : Said) (fields : List (List ℕ)) : Type 0 where
  regions : is_map fields ≡ true → MOST_REGIONS ≤ length s.regions → IsTooMany s fields
  scripts : begins_with (codes "script") fields ≡ true → MOST_SCRIPTS ≤ length s.scripts → IsTooMany s fields
  commands : is_command fields ≡ true → MOST_COMMANDS ≤ s.commands → IsTooMany s fields
  loads : begins_with (codes "load") fields ≡ true → (len : ℕ) → IsNumber 0 MOST_ACCESS_BYTES (field_at fields 3) len
      → MOST_LOADED_BYTES < s.loaded + len → IsTooMany s fields

-- it names a region that is mapped `ro`
abbrev pub NamesReadOnly : Said → List (List ℕ) → Type 0
NamesReadOnly s fields = (r : ℕ) × (region_by_name s (field_at fields 1) ≡ Some r) × (writable_at s.regions r ≡ false)

-- the kind applies to a line of these fields, behind lines that have said s; that a text is too long or unended is no
-- matter of a line's fields
abbrev pub AppliesTo : TextKind → Said → (fs : List (List ℕ)) → Type 0
AppliesTo kind.Long s fs = ⊥
AppliesTo kind.Unended s fs = ⊥
AppliesTo kind.Line s fs = IsFormless fs
AppliesTo kind.Kind s fs = (is_map fs ≡ true) × (3 ≤ length fs) × (is_store_kind (field_at fs 2) ≡ false)
AppliesTo kind.Order s fs = IsMisplaced s fs
AppliesTo kind.Name s fs = IsMisspelt kind.Name fs
AppliesTo kind.Path s fs = IsMisspelt kind.Path fs
AppliesTo kind.Number s fs = IsMisspelt kind.Number fs
AppliesTo kind.Hex s fs = IsMisspelt kind.Hex fs
AppliesTo kind.Mode s fs = IsMisspelt kind.Mode fs
AppliesTo kind.Unknown s fs = (names_region fs ≡ true) × (region_by_name s (field_at fs 1) ≡ None)
AppliesTo kind.Double s fs = (begins_with (codes "script") fs ≡ true) × Contains s.scripts (field_at fs 1)
AppliesTo kind.Range s fs = (r off len : ℕ) × NamesRange s fs r off len × (size_at s.regions r < off + len)
AppliesTo kind.ReadOnly s fs = (begins_with (codes "store") fs ≡ true) × NamesReadOnly s fs
AppliesTo kind.Many s fs = IsTooMany s fs

-- the kind applies to a line, given without its line feed; `ended` says whether it has one
abbrev pub Applies : TextKind → Said → (text : List ℕ) → (ended : Bool) → Type 0
Applies kind.Long s text ended = ⊥
Applies kind.Unended s text ended = ended ≡ false
Applies k s text ended = (is_silent text ≡ false) × AppliesTo k s (slice_split is_space text)

-- ---- their order

abbrev pub place : TextKind → ℕ
place kind.Long = 0
place kind.Unended = 1
place kind.Line = 2
place kind.Kind = 3
place kind.Order = 4
place kind.Name = 5
place kind.Path = 6
place kind.Number = 7
place kind.Hex = 8
place kind.Mode = 9
place kind.Unknown = 10
place kind.Double = 11
place kind.Range = 12
place kind.ReadOnly = 13
place kind.Many = 14

-- the kind is the first that applies to a line
pub record IsFirstKind (k : TextKind) (s : Said) (text : List ℕ) (ended : Bool) : Type 0 where
  pub applies : Applies k s text ended
  pub none_before : (j : TextKind) → place j < place k → ¬ Applies j s text ended
