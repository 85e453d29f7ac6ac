-- What a whole text says, and why a text is no workload: the first bad line, and the first kind that
-- applies to it. A text is cut at its line feeds; behind the last one stands nothing.
use Rattle.std.specs.Prelude.{ℕ, ◌+◌, nat_le, if◌then◌else◌, List, [], ◌∷◌, length, Option, Some, None, Result, Ok, Err}
use Rattle.std.specs.List.{slice_split}
use Rattle.workload_text.specs.declared.limits.TheConstants.{MOST_TEXT_BYTES}
use Rattle.workload_text.specs.Line.{TextLine}
use Rattle.workload_text.specs.Grammar.{Said, nothing, after_text}
use Rattle.workload_text.specs.Reading.{read_text_line, is_empty, is_line_feed}
use Rattle.workload_text.specs.declared.refusal.TextKind.{TextKind}
use Rattle.workload_text.specs.declared.refusal.TextKind.TheVariants as kind

-- the line that is refused, counted from 1, and why; line 0 is the text as a whole
pub record RefusedAt : Type 0 where
  pub line : ℕ
  pub kind : TextKind

-- ---- the refusal

-- line n, where it is refused, else the refusal behind it
abbrev pub or_later : ℕ → Result TextLine TextKind → (TextLine → Option RefusedAt) → Option RefusedAt
or_later n (Ok t) later = later t
or_later n (Err k) later = Some (record { line = n; kind = k })

-- the refusal of these lines, the first of them line n, behind lines that have said s; a last line
-- without its line feed is refused for that alone
abbrev pub refusal_from : ℕ → Said → List (List ℕ) → Option RefusedAt
refusal_from n s [] = None
refusal_from n s (last ∷ []) = if is_empty last then None else Some (record { line = n; kind = kind.Unended })
refusal_from n s (text ∷ more ∷ texts) = or_later n (read_text_line s text) (λ t. refusal_from (n + 1) (after_text s t) (more ∷ texts))

-- why a text is no workload, if it is none
unfoldable pub refusal : List ℕ → Option RefusedAt
refusal bytes =
    if nat_le (length bytes) MOST_TEXT_BYTES then refusal_from 1 nothing (slice_split is_line_feed bytes)
    else Some (record { line = 0; kind = kind.Long })

-- ---- the reading

abbrev pub before_all : TextLine → Result (List TextLine) RefusedAt → Result (List TextLine) RefusedAt
before_all t (Ok ts) = Ok (t ∷ ts)
before_all t (Err e) = Err e

-- line n, and what is read behind it
abbrev pub line_then : ℕ → Result TextLine TextKind → (TextLine → Result (List TextLine) RefusedAt) → Result (List TextLine) RefusedAt
line_then n (Ok t) behind = before_all t (behind t)
line_then n (Err k) behind = Err (record { line = n; kind = k })

abbrev pub read_texts : ℕ → Said → List (List ℕ) → Result (List TextLine) RefusedAt
read_texts n s [] = Ok []
read_texts n s (last ∷ []) = if is_empty last then Ok [] else Err (record { line = n; kind = kind.Unended })
read_texts n s (text ∷ more ∷ texts) =
    line_then n (read_text_line s text) (λ t. read_texts (n + 1) (after_text s t) (more ∷ texts))

-- the lines of a text, or its refusal
unfoldable pub read_text : List ℕ → Result (List TextLine) RefusedAt
read_text bytes =
    if nat_le (length bytes) MOST_TEXT_BYTES then read_texts 1 nothing (slice_split is_line_feed bytes)
    else Err (record { line = 0; kind = kind.Long })
