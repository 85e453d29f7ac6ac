-- The refusal of a text is what its reading refuses.
use Rattle.std.proofs.Common.{◌≡◌, ℕ, ◌+◌, Bool, true, false, cond, nat_le, List, [], ◌∷◌, length, Option, Some, None, Result, Ok, Err, refl, sym, ap, ◌∙◌}
use Rattle.std.specs.List.{slice_split}
use Rattle.workload_text.specs.Line.{TextLine}
use Rattle.workload_text.specs.Grammar.{Said, nothing, after_text}
use Rattle.workload_text.specs.Reading.{read_text_line, is_empty, is_line_feed}
use Rattle.workload_text.specs.Refusals.{RefusedAt, refusal, refusal_from, or_later, read_texts, read_text, line_then, before_all}
use Rattle.workload_text.specs.declared.refusal.TextKind.{TextKind}
use Rattle.workload_text.specs.declared.refusal.TextKind.TheVariants as kind

abbrev pub refused_by : {A E : Type 0} → Result A E → Option E
refused_by (Ok x) = None
refused_by (Err e) = Some e

refused_test : {A E : Type 0} (b : Bool) (x : A) (e : E) → cond b None (Some e) ≡ refused_by (cond b (Ok x) (Err e))
refused_test true x e = refl
refused_test false x e = refl

refused_before : (t : TextLine) (r : Result (List TextLine) RefusedAt) → refused_by r ≡ refused_by (before_all t r)
refused_before t (Ok ts) = refl
refused_before t (Err e) = refl

refused_later : (n : ℕ) (r : Result TextLine TextKind) (f : TextLine → Result (List TextLine) RefusedAt) (g : TextLine → Option RefusedAt) → ((t : TextLine) → g t ≡ refused_by (f t)) → or_later n r g ≡ refused_by (line_then n r f)
refused_later n (Ok t) f g h = h t ∙ refused_before t (f t)
refused_later n (Err k) f g h = refl

texts_refused : (n : ℕ) (s : Said) (parts : List (List ℕ)) → refusal_from n s parts ≡ refused_by (read_texts n s parts)
texts_refused n s [] = refl
texts_refused n s (last ∷ []) = refused_test (is_empty last) [] (record { line = n; kind = kind.Unended })
texts_refused n s (text ∷ more ∷ parts) =
    refused_later n (read_text_line s text) (λ t. read_texts (n + 1) (after_text s t) (more ∷ parts)) (λ t. refusal_from (n + 1) (after_text s t) (more ∷ parts)) (λ t. texts_refused (n + 1) (after_text s t) (more ∷ parts))

long_refused : (b : Bool) (o : Option RefusedAt) (r : Result (List TextLine) RefusedAt) (e : RefusedAt) → o ≡ refused_by r → cond b o (Some e) ≡ refused_by (cond b r (Err e))
long_refused true o r e h = h
long_refused false o r e h = refl

pub text_refused : (bytes : List ℕ) → refusal bytes ≡ refused_by (read_text bytes)
unfolding refusal read_text
text_refused bytes =
    long_refused (nat_le (length bytes) 16777216) (refusal_from 1 nothing (slice_split is_line_feed bytes)) (read_texts 1 nothing (slice_split is_line_feed bytes)) (record { line = 0; kind = kind.Long }) (texts_refused 1 nothing (slice_split is_line_feed bytes))

is_refused : {A E : Type 0} (r : Result A E) (e : E) → refused_by r ≡ Some e → r ≡ Err e
is_refused (Ok x) e h = absurd (cc h)
is_refused (Err x) e h = ap Err (cc h)

is_taken : {A E : Type 0} (r : Result A E) → refused_by r ≡ None → (x : A) × (r ≡ Ok x)
is_taken (Ok x) h = (x, refl)
is_taken (Err x) h = absurd (cc h)

pub refused_as : (bytes : List ℕ) (e : RefusedAt) → read_text bytes ≡ Err e → refusal bytes ≡ Some e
refused_as bytes e h = text_refused bytes ∙ ap refused_by h

pub refused_at : (bytes : List ℕ) (e : RefusedAt) → refusal bytes ≡ Some e → read_text bytes ≡ Err e
refused_at bytes e h = is_refused (read_text bytes) e (sym (text_refused bytes) ∙ h)

pub taken_as : (bytes : List ℕ) (ts : List TextLine) → read_text bytes ≡ Ok ts → refusal bytes ≡ None
taken_as bytes ts h = text_refused bytes ∙ ap refused_by h

pub taken : (bytes : List ℕ) → refusal bytes ≡ None → (ts : List TextLine) × (read_text bytes ≡ Ok ts)
taken bytes h = is_taken (read_text bytes) (sym (text_refused bytes) ∙ h)
