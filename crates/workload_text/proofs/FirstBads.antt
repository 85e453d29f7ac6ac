-- The first bad line of a text, by the grammar.
use Rattle.std.proofs.Common.{◌≡◌, ◌≢◌, ℕ, zero, suc, ◌+◌, ◌<◌, ◌≤◌, Bool, true, false, cond, nat_le, ◌⊎◌, inl, inr, List, [], ◌∷◌, ◌++◌, length, Some, Result, Ok, Err, refl, sym, ap, ◌∙◌, subst, arith, append_assoc, length-append, append-nil}
use Rattle.std.specs.List.{All, join_with_byte, slice_split}
use Rattle.std.proofs.lemmas.Bool.{leb-false, leb-true}
use Rattle.std.proofs.lemmas.List.Splits.{join_with_byte-slice_split}
use Rattle.workload_text.specs.Line.{Line, TextLine, says, silent}
use Rattle.workload_text.specs.Grammar.{Said, nothing, after_text, shown, spelled, is_silent, AllowedText, AllAllowed, IsText}
use Rattle.workload_text.specs.Reading.{is_empty, is_space, is_line_feed, read_line, read_text_line, ◌>>=◌}
use Rattle.workload_text.specs.Refusals.{RefusedAt, refusal, read_texts, read_text, line_then, before_all}
use Rattle.workload_text.specs.Kinds.{AppliesTo, Applies, place, IsFirstKind}
use Rattle.workload_text.specs.FirstBad.{said_behind, BeginsNoText, IsBad, IsFirstBad, RefusedRightly, AreFree}
use Rattle.workload_text.specs.declared.refusal.TextKind.{TextKind}
use Rattle.workload_text.specs.declared.refusal.TextKind.TheVariants as kind
use Rattle.workload_text.proofs.Names.{AllNamed, still_named}
use Rattle.workload_text.proofs.Sound.{bind_ok, AreClean, parts_clean, text_line_sound}
use Rattle.workload_text.proofs.Lines.{read_texts-Ok, read_texts-Err, parts_some, read_text-short}
use Rattle.workload_text.proofs.Plain.{slice_split-silent}
use Rattle.workload_text.proofs.Complete.{text_line_complete, line_cut, text_complete}
use Rattle.workload_text.proofs.Refused.{refused_at}
use Rattle.workload_text.proofs.Verdicts.{Verdict, fields_verdict}

-- ---- one line

late : (k : TextKind) (s : Said) (fs : List (List ℕ)) → AppliesTo k s fs → 2 ≤ place k
late kind.Long s fs h = absurd h
late kind.Unended s fs h = absurd h
late k s fs h = omega arith

applies_here : (k : TextKind) (s : Said) (text : List ℕ) → is_silent text ≡ false → AppliesTo k s (slice_split is_space text) → Applies k s text true
applies_here kind.Long s text spoken h = absurd h
applies_here kind.Unended s text spoken h = absurd h
applies_here k s text spoken h = (spoken, h)

applies_there : (k : TextKind) (s : Said) (text : List ℕ) → Applies k s text true → AppliesTo k s (slice_split is_space text)
applies_there kind.Long s text h = h
applies_there kind.Unended s text h = absurd (cc h)
applies_there k s text h = h.1

spoken_refused : (b : Bool) (t : TextLine) (r : Result Line TextKind) (k : TextKind) → cond b (Ok t) (r >>= (λ l. Ok (says l))) ≡ Err k → (b ≡ false) × (r ≡ Err k)
spoken_refused true t r k h = absurd (cc h)
spoken_refused false t (Ok l) k h = absurd (cc h)
spoken_refused false t (Err j) k h = (refl, cc h)

line_first : (s : Said) (text : List ℕ) (k : TextKind) → read_text_line s text ≡ Err k → IsFirstKind k s text true
unfolding read_text_line
line_first s text k h =
    let e = spoken_refused (is_silent text) (silent text) (read_line s text) k h in
    let v : Verdict s (slice_split is_space text) (Err k) = subst (Verdict s (slice_split is_space text)) e.1 (fields_verdict s (slice_split is_space text)) in
    record { applies = applies_here k s text e.0 v.0; none_before = λ j lt a. v.1 j lt (applies_there j s text a) }

unended_first : (s : Said) (text : List ℕ) → IsFirstKind kind.Unended s text false
unended_first s text = record { applies = refl; none_before = none }
  where
    none : (j : TextKind) → place j < 1 → ¬ Applies j s text false
    none kind.Long lt = λ h. h
    none j lt = absurd (omega (arith, lt))

-- ---- a line that is taken

applies_spoken : (k : TextKind) (s : Said) (text : List ℕ) → Applies k s text true → is_silent text ≡ false
applies_spoken kind.Long s text h = absurd h
applies_spoken kind.Unended s text h = absurd (cc h)
applies_spoken k s text h = h.0

some_place : (k : TextKind) → place k < 15
some_place kind.Long = omega arith
some_place k = omega arith

taken_free : (s : Said) (t : TextLine) → AllNamed s.regions → AllowedText s t → (k : TextKind) → ¬ Applies k s (shown s t) true
unfolding read_text_line
taken_free s t names allowed k = λ h.
    let text = shown s t in
    let spoken = applies_spoken k s text h in
    let read : cond (is_silent text) (Ok (silent text)) (read_line s text >>= (λ l. Ok (says l))) ≡ Ok t = text_line_complete s t names allowed in
    let b = bind_ok (read_line s text) (λ l. Ok (says l)) t (rw spoken at read) in
    let v : Verdict s (slice_split is_space text) (Ok b.0) = subst (Verdict s (slice_split is_space text)) b.1 (fields_verdict s (slice_split is_space text)) in
    v k (some_place k) (applies_there k s text h)

all_free : (s : Said) (ts : List TextLine) → AllNamed s.regions → AllAllowed s ts → AreFree s ts
all_free s [] names all = tt
all_free s (t ∷ ts) names all = (taken_free s t names all.0, all_free (after_text s t) ts (still_named s t names all.0) all.1)

pub accepted_free : (bytes : List ℕ) (texts : List TextLine) → IsText bytes texts → AreFree nothing texts
accepted_free bytes texts is = all_free nothing texts tt is.allowed

-- ---- the lines of a text

then_err : (n : ℕ) (r : Result TextLine TextKind) (f : TextLine → Result (List TextLine) RefusedAt) (e : RefusedAt) → line_then n r f ≡ Err e
    → ((k : TextKind) × (r ≡ Err k) × (e ≡ record { line = n; kind = k })) ⊎ ((t : TextLine) × (r ≡ Ok t) × (f t ≡ Err e))
then_err n (Err k) f e h = inl (k, refl, sym (cc h))
then_err n (Ok t) f e h = inr (t, refl, behind (f t) h)
  where
    behind : (r : Result (List TextLine) RefusedAt) → before_all t r ≡ Err e → r ≡ Err e
    behind (Ok ts) g = absurd (cc g)
    behind (Err x) g = g

last_err : (b : Bool) (x e : RefusedAt) → ◌≡◌ {A = Result (List TextLine) RefusedAt} (cond b (Ok []) (Err x)) (Err e) → (b ≡ false) × (e ≡ x)
last_err true x e h = absurd (cc h)
last_err false x e h = (refl, sym (cc h))

-- what stands behind a bad line
abbrev Tail : (ended : Bool) → (line behind : List ℕ) → Type 0
Tail true line behind = (more : List ℕ) × (behind ≡ 10 ∷ more)
Tail false line behind = (line ≢ []) × (behind ≡ [])

-- where the reading of some lines, the first of them line n, is refused
record BadPart (n : ℕ) (s : Said) (text : List ℕ) (r : RefusedAt) : Type 0 where
  before : List TextLine
  line : List ℕ
  behind : List ℕ
  ended : Bool
  text_is : text ≡ spelled s before ++ (line ++ behind)
  allowed : AllAllowed s before
  number : r.line ≡ n + length before
  one_line : All (λ b. b ≢ 10) line
  tail : Tail ended line behind
  why : IsFirstKind r.kind (said_behind s before) line ended
  refused : ended ≡ true → read_text_line (said_behind s before) line ≡ Err r.kind

bad_part : (n : ℕ) (s : Said) (parts : List (List ℕ)) (r : RefusedAt) → AreClean parts → read_texts n s parts ≡ Err r → BadPart n s (join_with_byte 10 parts) r
bad_part n s [] r clean h = absurd (cc h)
bad_part n s (last ∷ []) r clean h =
    let e = last_err (is_empty last) _ r h in
    record {
      before = [];
      line = last;
      behind = [];
      ended = false;
      text_is = sym (append_nil last);
      allowed = tt;
      number = (let k = ap (λ (x : RefusedAt). x.line) e.1 in omega (arith, k));
      one_line = clean.0;
      tail = (λ (none : last ≡ []). absurd (let f = ap is_empty none in cc (f, e.0)), refl);
      why = subst (λ (x : RefusedAt). IsFirstKind x.kind s last false) (sym e.1) (unended_first s last);
      refused = λ (t : false ≡ true). absurd (cc t);
    }
  where
    append_nil : (xs : List ℕ) → xs ++ [] ≡ xs
    append_nil xs = simp (append-nil)
bad_part n s (text ∷ more ∷ parts) r clean h =
    elim (then_err n (read_text_line s text) _ r h) [
      | inl a ↦ record {
        before = [];
        line = text;
        behind = 10 ∷ join_with_byte 10 (more ∷ parts);
        ended = true;
        text_is = refl;
        allowed = tt;
        number = (let k = ap (λ (x : RefusedAt). x.line) a.2 in omega (arith, k));
        one_line = clean.0;
        tail = (join_with_byte 10 (more ∷ parts), refl);
        why = subst (λ (x : RefusedAt). IsFirstKind x.kind s text true) (sym a.2) (line_first s text a.0 a.1);
        refused = λ _. a.1 ∙ ap (λ (x : RefusedAt). Err x.kind) (sym a.2);
      }
      | inr b ↦
          let rest = bad_part (n + 1) (after_text s b.0) (more ∷ parts) r clean.1 b.2 in
          let here = text_line_sound s text b.0 clean.0 b.1 in
          record {
            before = b.0 ∷ rest.before;
            line = rest.line;
            behind = rest.behind;
            ended = rest.ended;
            text_is = ap (λ t. t ++ (10 ∷ join_with_byte 10 (more ∷ parts))) here.0 ∙ ap (λ t. shown s b.0 ++ 10 ∷ t) rest.text_is ∙ sym (append_assoc (shown s b.0) (10 ∷ spelled (after_text s b.0) rest.before) (rest.line ++ rest.behind));
            allowed = (here.1, rest.allowed);
            number = (let k = rest.number in omega (arith, k));
            one_line = rest.one_line;
            tail = rest.tail;
            why = rest.why;
            refused = rest.refused;
          }
    ]

-- ---- no accepted text begins with a bad line

taken_before : (t : TextLine) (r : Result (List TextLine) RefusedAt) (ts : List TextLine) → before_all t r ≡ Ok ts → (rest : List TextLine) × (r ≡ Ok rest)
taken_before t (Ok rest) ts h = (rest, refl)
taken_before t (Err e) ts h = absurd (cc h)

-- what is read behind allowed lines
read_behind : (n : ℕ) (s : Said) (before : List TextLine) (rest : List ℕ) (ts : List TextLine) → AllNamed s.regions → AllAllowed s before → read_texts n s (slice_split is_line_feed (spelled s before ++ rest)) ≡ Ok ts
    → (m : ℕ) × (more : List TextLine) × (read_texts m (said_behind s before) (slice_split is_line_feed rest) ≡ Ok more)
read_behind n s [] rest ts names all h = (n, ts, h)
read_behind n s (t ∷ before) rest ts names all h =
    let behind = spelled (after_text s t) before ++ rest in
    let cut : slice_split is_line_feed (spelled s (t ∷ before) ++ rest) ≡ shown s t ∷ slice_split is_line_feed behind = ap (slice_split is_line_feed) (append_assoc (shown s t) (10 ∷ spelled (after_text s t) before) rest) ∙ line_cut s t behind names all.0 in
    let read : before_all t (read_texts (n + 1) (after_text s t) (slice_split is_line_feed behind)) ≡ Ok ts = sym (ap (read_texts n s) cut ∙ read_texts-Ok n s (shown s t) (slice_split is_line_feed behind) t (parts_some behind) (text_line_complete s t names all.0)) ∙ h in
    let k = taken_before t _ ts read in
    read_behind (n + 1) (after_text s t) before rest k.0 (still_named s t names all.0) all.1 k.1

no_text : (before : List TextLine) (line : List ℕ) (k : TextKind) → AllAllowed nothing before → All (λ b. b ≢ 10) line → read_text_line (said_behind nothing before) line ≡ Err k → BeginsNoText (spelled nothing before ++ (line ++ 10 ∷ []))
no_text before line k all clean refused = λ bytes more texts is begun.
    let front = spelled nothing before in
    let same : (front ++ (line ++ 10 ∷ [])) ++ more ≡ front ++ (line ++ 10 ∷ more) = append_assoc front (line ++ 10 ∷ []) more ∙ ap (λ (xs : List ℕ). front ++ xs) (append_assoc line (10 ∷ []) more) in
    let read : read_texts 1 nothing (slice_split is_line_feed (front ++ (line ++ 10 ∷ more))) ≡ Ok texts = ap (λ (b : List ℕ). read_texts 1 nothing (slice_split is_line_feed b)) (sym (begun ∙ same)) ∙ sym (read_text-short bytes is.short) ∙ text_complete bytes texts is in
    let b = read_behind 1 nothing before (line ++ 10 ∷ more) texts tt all read in
    let err = ap (read_texts b.0 (said_behind nothing before)) (slice_split-silent line more clean) ∙ read_texts-Err b.0 (said_behind nothing before) line (slice_split is_line_feed more) k (parts_some more) refused in
    let ok = b.2 in
    absurd (cc (err, ok))

-- ---- the whole text

numbered : (bytes : List ℕ) (n m : ℕ) (k : TextKind) → n ≡ 1 + m → IsFirstBad bytes n k → RefusedRightly bytes n k
numbered bytes zero m k e h = absurd (omega (arith, e))
numbered bytes (suc n) m k e h = h

bad_line : (bytes : List ℕ) (r : RefusedAt) → length bytes ≤ 16777216 → BadPart 1 nothing bytes r → RefusedRightly bytes r.line r.kind
bad_line bytes r short p =
    numbered bytes r.line (length p.before) r.kind p.number (record {
      short = short;
      before = p.before;
      front = spelled nothing p.before;
      line = p.line;
      behind = p.behind;
      ended = p.ended;
      bytes_are = p.text_is;
      accepted = record {
        spelt = refl;
        allowed = p.allowed;
        short = (let e = ap length p.text_is in omega (arith, short, e, length-append (spelled nothing p.before) (p.line ++ p.behind)));
      };
      number = (let k = p.number in omega (arith, k));
      one_line = p.one_line;
      bad = bad p.ended p.tail p.refused;
      why = p.why;
    })
  where
    bad : (ended : Bool) → Tail ended p.line p.behind → (ended ≡ true → read_text_line (said_behind nothing p.before) p.line ≡ Err r.kind) → IsBad ended (spelled nothing p.before) p.line p.behind
    bad true tail refused = (tail, no_text p.before p.line r.kind p.allowed p.one_line (refused refl))
    bad false tail refused = tail

whole_err : (b : Bool) (r : Result (List TextLine) RefusedAt) (x e : RefusedAt) → cond b r (Err x) ≡ Err e → ((b ≡ true) × (r ≡ Err e)) ⊎ ((b ≡ false) × (e ≡ x))
whole_err true r x e h = inl (refl, h)
whole_err false r x e h = inr (refl, sym (cc h))

pub refused_rightly : (bytes : List ℕ) (r : RefusedAt) → refusal bytes ≡ Some r → RefusedRightly bytes r.line r.kind
unfolding read_text
refused_rightly bytes r h =
    elim (whole_err (nat_le (length bytes) 16777216) (read_texts 1 nothing (slice_split is_line_feed bytes)) (record { line = 0; kind = kind.Long }) r (refused_at bytes r h)) [
      | inl a ↦ bad_line bytes r (leb-true _ _ a.0) (subst (λ (b : List ℕ). BadPart 1 nothing b r) (join_with_byte-slice_split 10 bytes) (bad_part 1 nothing (slice_split is_line_feed bytes) r (parts_clean bytes) a.1))
      | inr b ↦ subst (λ (x : RefusedAt). RefusedRightly bytes x.line x.kind) (sym b.1) (record { long = leb-false _ _ b.0; kind_is = refl })
    ]
