-- How the loop over lines ends: every line taken, one refused, or the last without its line feed.
use Rattle.std.proofs.Common.{◌≡◌, ℕ, ◌<◌, ◌≤◌, false, List, [], ◌∷◌, length, Some, Err, refl, sym, ap, ◌∙◌, arith}
use Rattle.std.specs.List.{slice_split}
use Rattle.std.proofs.lemmas.Bool.{ne_eqb, lt-leb}
use Rattle.workload_text.specs.Grammar.{IsText}
use Rattle.workload_text.specs.Reading.{read_text_line, is_empty, is_line_feed}
use Rattle.workload_text.specs.Refusals.{RefusedAt, refusal, read_texts}
use Rattle.workload_text.specs.InsideState.{TakesText, said_by, with_front}
use Rattle.workload_text.specs.Answers.{IfRefused}
use Rattle.workload_text.specs.InsideAnswers.{text_fault_at}
use Rattle.workload_text.specs.declared.refusal.LineFault.{LineFault}
use Rattle.workload_text.specs.declared.refusal.LineFault.TheVariants as line
use Rattle.workload_text.specs.declared.refusal.TextKind.{TextKind}
use Rattle.workload_text.specs.declared.refusal.TextKind.TheVariants as kind
use Rattle.workload_text.specs.declared.reading.Reading.{Reading}
use Rattle.workload_text.proofs.Lines.{ReadsOn, whole, read_texts-Err, parts_some, read_text-short, last_step}
use Rattle.workload_text.proofs.Sound.{text_sound}
use Rattle.workload_text.proofs.Refused.{refused_as}

-- every line was taken
pub text_taken : (bytes rest : List ℕ) (r : Reading) (n : ℕ) → length bytes ≤ 16777216 → rest ≡ [] → (i : ReadsOn r n rest (whole bytes)) → IsText bytes i.texts
text_taken bytes rest r n short z i = text_sound bytes i.texts (read_text-short bytes short ∙ last_step r n rest (whole bytes) z i)

refused_whole : (bytes : List ℕ) (e : RefusedAt) → length bytes ≤ 16777216 → whole bytes ≡ Err e → refusal bytes ≡ Some e
refused_whole bytes e short h = refused_as bytes e (read_text-short bytes short ∙ h)

-- a line was refused
line_refused : (bytes text behind rest : List ℕ) (k : TextKind) (r : Reading) (n : ℕ) → length bytes ≤ 16777216 → read_text_line (said_by r) text ≡ Err k → slice_split is_line_feed rest ≡ text ∷ slice_split is_line_feed behind → ReadsOn r n rest (whole bytes) → refusal bytes ≡ Some (record { line = n; kind = k })
line_refused bytes text behind rest k r n short q e i =
    refused_whole bytes (record { line = n; kind = k }) short (
    sym i.read ∙ ap (with_front i.texts) (ap (read_texts n (said_by r)) e ∙ read_texts-Err n (said_by r) text (slice_split is_line_feed behind) k (parts_some behind) q))

-- the last line has no line feed
pub line_unended : (bytes rest : List ℕ) (r : Reading) (n : ℕ) → length bytes ≤ 16777216 → 0 < length rest → slice_split is_line_feed rest ≡ rest ∷ [] → ReadsOn r n rest (whole bytes) → refusal bytes ≡ Some (record { line = n; kind = kind.Unended })
line_unended bytes rest r n short some e i =
    let more : is_empty rest ≡ false = ne_eqb (length rest) 0 (λ z. omega (arith, z, some)) in
    let last : read_texts n (said_by r) (rest ∷ []) ≡ Err (record { line = n; kind = kind.Unended }) = rw more refl in
    refused_whole bytes (record { line = n; kind = kind.Unended }) short (
    sym i.read ∙ ap (with_front i.texts) (ap (read_texts n (said_by r)) e ∙ last))

-- the text is too long
pub text_long : (bytes : List ℕ) → 16777216 < length bytes → refusal bytes ≡ Some (record { line = 0; kind = kind.Long })
unfolding refusal
text_long bytes long = rw (lt-leb (length bytes) 16777216 long) refl

-- whatever ends the text at a line
pub line_stops : (bytes text behind rest : List ℕ) (fault : LineFault) (old new : Reading) (n : ℕ) → length bytes ≤ 16777216 → TakesText {U = Unit {0}} n old new (read_text_line (said_by old) text) (Err fault) → slice_split is_line_feed rest ≡ text ∷ slice_split is_line_feed behind → ReadsOn old n rest (whole bytes) → IfRefused {W = Unit {0}} (Err (text_fault_at n fault)) (λ m k. refusal bytes ≡ Some (record { line = m; kind = k }))
line_stops bytes text behind rest (line.Refused k) old new n short t e i = line_refused bytes text behind rest k old n short t e i
line_stops bytes text behind rest line.OutOfMemory old new n short t e i = tt
