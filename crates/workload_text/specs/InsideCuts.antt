-- What is left of a line while it is cut.
use Rattle.std.specs.Prelude.{ℕ, List, [], Option, Some, None}
use Rattle.std.specs.List.{slice_split}
use Rattle.std.specs.Borrow.{Bor}
use Rattle.workload_text.specs.Reading.{is_space}

-- the fields of what is left of a line
abbrev pub fields_left : Option (Bor (List ℕ)) → List (List ℕ)
fields_left None = []
fields_left (Some text) = slice_split is_space text.now
