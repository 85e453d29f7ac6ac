-- The variables of a call, as texts `NAME=value`.
use Rattle.std.specs.Prelude.{◌&&◌, if◌then◌else◌, List, [], ◌∷◌, Option, Some, None}
use Rattle.std.specs.List.{list_any, before_first, after_first}
use Rattle.std.specs.Str.{bytes_eq}
use Rattle.call_words.specs.Uses.{Text, is_equals}

-- the value of a variable, cut at the first `=`, where it has this name
abbrev pub value_of : (name : Text) → Text → Option Text
value_of name var = if list_any is_equals var && bytes_eq (before_first is_equals var) name then Some (after_first is_equals var) else None

abbrev pub or_behind : Option Text → (behind : Option Text) → Option Text
or_behind (Some value) behind = Some value
or_behind None behind = behind

-- the value of the first variable of this name
abbrev pub first_value_of : (name : Text) → List Text → Option Text
first_value_of name [] = None
first_value_of name (var ∷ vars) = or_behind (value_of name var) (first_value_of name vars)
