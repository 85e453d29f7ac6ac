-- One turn of the loop over lines, and its ends.
use Rattle.std.proofs.Common.{◌≡◌, ℕ, ◌<◌, ◌≤◌, ◌+◌, List, [], ◌∷◌, ◌++◌, length, Result, Ok, Err, refl, sym, ap, ◌∙◌, arith, append_assoc, append-nil, length-append}
use Rattle.std.specs.List.{slice_split}
use Rattle.std.specs.Result.{IsOkAnd}
use Rattle.std.proofs.lemmas.List.Splits.{length-slice_split}
use Rattle.std.proofs.lemmas.Bool.{le-leb}
use Rattle.workload_text.specs.Line.{TextLine, says, silent, map_line, script_line, load_line, store_line, prefetch_line, flush_line, unmap_line}
use Rattle.workload_text.specs.Grammar.{Said, nothing, after_text, lines_in}
use Rattle.workload_text.specs.Reading.{read_text_line, is_line_feed}
use Rattle.workload_text.specs.Refusals.{RefusedAt, read_texts, read_text, line_then, before_all}
use Rattle.workload_text.specs.Answers.{numbers_of, map_numbers}
use Rattle.workload_text.specs.InsideState.{IsSound, Took, said_by, lines_by, with_number, with_front}
use Rattle.workload_text.specs.declared.refusal.TextKind.{TextKind}
use Rattle.workload_text.specs.declared.reading.Reading.{Reading}

as_front : (t : TextLine) (r : Result (List TextLine) RefusedAt) → before_all t r ≡ with_front (t ∷ []) r
as_front t (Ok ts) = refl
as_front t (Err e) = refl

no_front : (r : Result (List TextLine) RefusedAt) → with_front [] r ≡ r
no_front (Ok ts) = refl
no_front (Err e) = refl

front_twice : (a : List TextLine) (t : TextLine) (r : Result (List TextLine) RefusedAt) → with_front a (with_front (t ∷ []) r) ≡ with_front (a ++ t ∷ []) r
front_twice a t (Ok ts) = ap Ok (sym (append_assoc a (t ∷ []) ts))
front_twice a t (Err e) = refl

-- a line that stands before others
pub read_texts-Ok : (n : ℕ) (s : Said) (text : List ℕ) (parts : List (List ℕ)) (t : TextLine) → 0 < length parts → read_text_line s text ≡ Ok t → read_texts n s (text ∷ parts) ≡ before_all t (read_texts (n + 1) (after_text s t) parts)
read_texts-Ok n s text [] t h e = absurd (omega arith)
read_texts-Ok n s text (p ∷ ps) t h e = ap (λ r. line_then n r (λ x. read_texts (n + 1) (after_text s x) (p ∷ ps))) e

pub read_texts-Err : (n : ℕ) (s : Said) (text : List ℕ) (parts : List (List ℕ)) (k : TextKind) → 0 < length parts → read_text_line s text ≡ Err k → read_texts n s (text ∷ parts) ≡ Err (record { line = n; kind = k })
read_texts-Err n s text [] k h e = absurd (omega arith)
read_texts-Err n s text (p ∷ ps) k h e = ap (λ r. line_then n r (λ x. read_texts (n + 1) (after_text s x) (p ∷ ps))) e

pub parts_some : (text : List ℕ) → 0 < length (slice_split is_line_feed text)
parts_some text = omega (arith, length-slice_split is_line_feed text)

pub read_text-short : (bytes : List ℕ) → length bytes ≤ 16777216 → read_text bytes ≡ read_texts 1 nothing (slice_split is_line_feed bytes)
unfolding read_text
read_text-short bytes h = rw (le-leb (length bytes) 16777216 h) refl

-- ---- one line more

lines_in-more : (ts : List TextLine) (t : TextLine) → lines_in (ts ++ t ∷ []) ≡ lines_in ts ++ lines_in (t ∷ [])
lines_in-more [] t = refl
lines_in-more (says l ∷ ts) t = ap (λ ls. l ∷ ls) (lines_in-more ts t)
lines_in-more (silent text ∷ ts) t = lines_in-more ts t

map_numbers-more : (m n : ℕ) (ts : List TextLine) (t : TextLine) → n ≡ length ts + m → map_numbers m (ts ++ t ∷ []) ≡ map_numbers m ts ++ numbers_of n t
map_numbers-more m n [] t e = append-nil (numbers_of m t) ∙ ap (λ k. numbers_of k t) (omega (arith, e))
map_numbers-more m n (x ∷ ts) t e =
    ap (λ ns. numbers_of m x ++ ns) (map_numbers-more (m + 1) n ts t (omega (arith, e)))
    ∙ sym (append_assoc (numbers_of m x) (map_numbers (m + 1) ts) (numbers_of n t))

number_behind : (ns : List ℕ) (n : ℕ) (t : TextLine) → with_number ns n t ≡ ns ++ numbers_of n t
number_behind ns n (silent text) = sym (append-nil ns)
number_behind ns n (says (map_line name backing size w)) = refl
number_behind ns n (says (script_line name)) = sym (append-nil ns)
number_behind ns n (says (load_line r off len)) = sym (append-nil ns)
number_behind ns n (says (store_line r off bytes)) = sym (append-nil ns)
number_behind ns n (says (prefetch_line r off len)) = sym (append-nil ns)
number_behind ns n (says flush_line) = sym (append-nil ns)
number_behind ns n (says (unmap_line r)) = sym (append-nil ns)

-- ---- the loop

-- the whole text, as the loop begins
abbrev pub whole : List ℕ → Result (List TextLine) RefusedAt
whole bytes = read_texts 1 nothing (slice_split is_line_feed bytes)

-- what is read of the rest of a text, whose first line is line n, behind what has been read
pub record ReadsOn (r : Reading) (n : ℕ) (rest : List ℕ) (all : Result (List TextLine) RefusedAt) : Type 0 where
  pub texts : List TextLine
  pub read : with_front texts (read_texts n (said_by r) (slice_split is_line_feed rest)) ≡ all
  pub lines_are : lines_in texts ≡ lines_by r
  pub numbers : map_numbers 1 texts ≡ r.map_lines.items
  pub count : n ≡ length texts + 1

pub begins : (bytes : List ℕ) (r : Reading) → lines_by r ≡ [] → said_by r ≡ nothing → r.map_lines.items ≡ [] → ReadsOn r 1 bytes (whole bytes)
begins bytes r lines said numbers = record {
  texts = [];
  read = no_front (read_texts 1 (said_by r) (slice_split is_line_feed bytes)) ∙ ap (λ s. read_texts 1 s (slice_split is_line_feed bytes)) said;
  lines_are = sym lines;
  numbers = sym numbers;
  count = omega arith;
}

-- one more line was taken
pub took_step : (old new : Reading) (n : ℕ) (read : Result TextLine TextKind) (text behind rest : List ℕ) (all : Result (List TextLine) RefusedAt) → read ≡ read_text_line (said_by old) text → slice_split is_line_feed rest ≡ text ∷ slice_split is_line_feed behind → IsOkAnd read (λ t. Took n old new t) → ReadsOn old n rest all → ReadsOn new (n + 1) behind all
took_step old new n (Err k) text behind rest all q e t i = absurd t
took_step old new n (Ok t) text behind rest all q e k i =
    let parts : List (List ℕ) = slice_split is_line_feed behind in
    record {
      texts = i.texts ++ t ∷ [];
      read =
          ap (λ s. with_front (i.texts ++ t ∷ []) (read_texts (n + 1) s parts)) k.says_so
          ∙ sym (front_twice i.texts t (read_texts (n + 1) (after_text (said_by old) t) parts))
          ∙ ap (with_front i.texts) (
          sym (as_front t (read_texts (n + 1) (after_text (said_by old) t) parts))
          ∙ sym (read_texts-Ok n (said_by old) text parts t (parts_some behind) (sym q))
          ∙ ap (read_texts n (said_by old)) (sym e))
          ∙ i.read;
      lines_are = lines_in-more i.texts t ∙ ap (λ ls. ls ++ lines_in (t ∷ [])) i.lines_are ∙ sym k.lines;
      numbers = map_numbers-more 1 n i.texts t i.count ∙ ap (λ ns. ns ++ numbers_of n t) i.numbers ∙ sym (number_behind old.map_lines.items n t) ∙ sym k.numbers;
      count = omega (arith, i.count, length-append i.texts (t ∷ []));
    }

pub took_sound : (old new : Reading) (n : ℕ) (read : Result TextLine TextKind) → IsOkAnd read (λ t. Took n old new t) → IsSound new
took_sound old new n (Err k) t = absurd t
took_sound old new n (Ok t) k = k.sound

-- no line is left
pub last_step : (r : Reading) (n : ℕ) (rest : List ℕ) (all : Result (List TextLine) RefusedAt) → rest ≡ [] → (i : ReadsOn r n rest all) → all ≡ Ok i.texts
last_step r n rest all z i =
    sym i.read ∙ ap (λ xs. with_front i.texts (read_texts n (said_by r) (slice_split is_line_feed xs))) z ∙ ap Ok (append-nil i.texts)
