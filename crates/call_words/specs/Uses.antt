-- Which words are uses of a command's options and flags.
use Rattle.std.specs.Prelude.{ℕ, ◌-◌, nat_lt, length, slice_index, ◌&&◌, ◌||◌, ◌==◌, not, Bool, true, false, if◌then◌else◌, List, [], ◌∷◌, codes, Option, Some, None, is_some, find, option_map, option_and_then}
use Rattle.std.specs.List.{list_any, before_first, after_first}
use Rattle.std.specs.Str.{bytes_eq}

abbrev pub Text : Type 0
Text = List ℕ

-- an option, which takes a value, or a flag, which takes none
pub record Named : Type 0 where
  pub name : Text
  pub takes_value : Bool

-- what stands behind a first hyphen
abbrev pub behind_hyphen : Text → Option Text
behind_hyphen [] = None
behind_hyphen (x ∷ xs) = if x == 45 then Some xs else None

abbrev pub some_text : Text → Option Text
some_text [] = None
some_text (x ∷ xs) = Some (x ∷ xs)

-- what stands behind two hyphens, where something does
abbrev pub behind_two : Text → Option Text
behind_two word = option_and_then some_text (option_and_then behind_hyphen (behind_hyphen word))

abbrev pub is_equals : ℕ → Bool
is_equals b = b == 61

-- `--name`, or `--name=value` cut at its first `=`
abbrev pub use_of : Text → Option (Text × Option Text)
use_of word = option_map (λ t. (before_first is_equals t, if list_any is_equals t then Some (after_first is_equals t) else None)) (behind_two word)

-- no command takes the word anywhere: it is `--`, begins with one hyphen, or ends with `=`
abbrev pub is_barred : Text → Bool
is_barred word = nat_lt 0 (length word)
    && ((slice_index word 0 == 45 && (nat_lt (length word) 3 || not (slice_index word 1 == 45))) || slice_index word (length word - 1) == 61)

-- whether what has this name takes a value, where something has it
abbrev pub sort_of : List Named → Text → Option Bool
sort_of names name = option_map (λ n. n.takes_value) (find (λ n. bytes_eq n.name name) names)

abbrev pub is_among : Text → List Text → Bool
is_among name used = list_any (λ u. bytes_eq u name) used

-- a use of such a name: `past` says that the words behind it are taken, `waits` that they are where the first is its value
abbrev pub takes_use : (sort : Option Bool) (value : Option Text) (past waits : Bool) → Bool
takes_use None value past waits = false
takes_use (Some true) (Some v) past waits = past
takes_use (Some true) None past waits = waits
takes_use (Some false) (Some v) past waits = false
takes_use (Some false) None past waits = past

abbrev pub takes_word : List Named → (used : List Text) → Option (Text × Option Text) → (List Text → Bool → Bool) → Bool
takes_word names used None next = false
takes_word names used (Some p) next =
    not (is_among p.0 used) && takes_use (sort_of names p.0) p.1 (next (p.0 ∷ used) false) (next (p.0 ∷ used) true)

-- the words are uses, each name at most once, behind those of `used`; the first is a value where the last use waits for one
abbrev pub takes_words : List Named → (used : List Text) → (waits : Bool) → List Text → Bool
takes_words names used false [] = true
takes_words names used true [] = false
takes_words names used true (word ∷ words) = not (is_some (behind_hyphen word)) && takes_words names used false words
takes_words names used false (word ∷ words) = takes_word names used (use_of word) (λ u w. takes_words names u w words)

abbrev pub takes_call : List Named → List Text → Bool
takes_call names words = not (list_any is_barred words) && takes_words names [] false words

-- a use of a name: what `name` has by it, or by the words behind it
abbrev pub value_by : (same : Bool) → Option Text → (behind : Option Text) → Option Text
value_by true v behind = v
value_by false v behind = behind

abbrev pub value_use : (same : Bool) (sort : Option Bool) (value : Option Text) (past waits : Option Text) → Option Text
value_use same None value past waits = None
value_use same (Some true) (Some v) past waits = value_by same (Some v) past
value_use same (Some true) None past waits = waits
value_use same (Some false) (Some v) past waits = None
value_use same (Some false) None past waits = value_by same (Some (codes "true")) past

abbrev pub value_word : List Named → (name : Text) → Option (Text × Option Text) → (Option Text → Option Text) → Option Text
value_word names name None next = None
value_word names name (Some p) next = value_use (bytes_eq p.0 name) (sort_of names p.0) p.1 (next None) (next (Some p.0))

-- the value that words that are taken give to a name; a flag that is there has the value `true`
abbrev pub value_in : List Named → (name : Text) → (waiting : Option Text) → List Text → Option Text
value_in names name None [] = None
value_in names name (Some id) [] = None
value_in names name (Some id) (word ∷ words) = value_by (bytes_eq id name) (Some word) (value_in names name None words)
value_in names name None (word ∷ words) = value_word names name (use_of word) (λ w. value_in names name w words)

abbrev pub serial_names : List Named
serial_names = record { name = codes "stripes"; takes_value = true } ∷ (record { name = codes "faults"; takes_value = true } ∷ [])
