-- What is read is spelt and allowed: one form of line at a time, then all lines.
use Rattle.std.proofs.Common.{◌≡◌, ◌≢◌, ℕ, ◌+◌, Bool, true, false, cond, not, ◌&&◌, nat_le, nat_lt, List, [], ◌∷◌, ◌++◌, length, Option, Some, None, Result, Ok, Err, codes, refl, sym, ap, ◌∙◌, subst, arith, ◌⊎◌, inl, inr}
use Rattle.std.specs.List.{All, list_any, join_with_byte, slice_split, onto_first}
use Rattle.std.specs.Str.{bytes_eq}
use Rattle.std.specs.Fmt.{decimal}
use Rattle.std.proofs.lemmas.Bool.{and_parts, leb-true, ltb-true, eqb-true, eqb-false, not-false, cases_Bool}
use Rattle.std.proofs.lemmas.Slice.Eq.{bytes_eq-Decides}
use Rattle.std.proofs.lemmas.List.Splits.{join_with_byte-slice_split, slice_split-cons_yes, slice_split-cons_no}
use Rattle.std.proofs.lemmas.List.Elements.{All-cons, All-nil}
use Rattle.std.proofs.lemmas.List.{nil_from_length}
use Rattle.workload_text.specs.Line.{Line, TextLine}
use Rattle.workload_text.specs.Grammar.{Said, nothing, after_text, is_name, is_path, is_silent, region_by_name, name_at, size_at, writable_at, mode_text, fields, line_text, shown, spelled, Allowed, AllowedText, AllAllowed, IsText}
use Rattle.workload_text.specs.Reading.{number_of, mode_of, bytes_of, or_refused, is_empty, one_of, two_of, three_of, four_of, read_memory, read_file, read_sparse, read_map, read_script, read_load, read_store, read_prefetch, read_flush, read_unmap, read_word, read_fields, read_line, read_text_line, is_space, is_line_feed, ◌>>=◌}
use Rattle.workload_text.specs.Refusals.{RefusedAt, read_texts, read_text, line_then, before_all}
use Rattle.workload_text.specs.declared.refusal.TextKind.{TextKind}
use Rattle.workload_text.specs.declared.refusal.TextKind.TheVariants as kind
use Rattle.workload_text.proofs.Numbers.{number_of-Some}
use Rattle.workload_text.proofs.Names.{region_from-Some, not_among}
use Rattle.workload_text.proofs.Hex.{bytes_of-Some}

-- ---- what an Ok behind tests shows

pub bind_ok : {A B : Type 0} (r : Result A TextKind) (f : A → Result B TextKind) (y : B) → (r >>= f) ≡ Ok y → (x : A) × (r ≡ Ok x) × (f x ≡ Ok y)
bind_ok (Ok x) f y h = (x, refl, h)
bind_ok (Err k) f y h = absurd (cc h)

or_refused_ok : {A : Type 0} (k : TextKind) (o : Option A) (x : A) → or_refused k o ≡ Ok x → o ≡ Some x
or_refused_ok k None x h = absurd (cc h)
or_refused_ok k (Some v) x h = cc h

-- a value that must be there, and what is done with it
found : {A B : Type 0} (k : TextKind) (o : Option A) (f : A → Result B TextKind) (y : B) → (or_refused k o >>= f) ≡ Ok y → (x : A) × (o ≡ Some x) × (f x ≡ Ok y)
found k o f y h = let b = bind_ok (or_refused k o) f y h in (b.0, or_refused_ok k o b.0 b.1, b.2)

-- a test that refuses
passed : {A E : Type 0} (b : Bool) (k : E) (r : Result A E) (y : A) → cond b (Err k) r ≡ Ok y → (b ≡ false) × (r ≡ Ok y)
passed true k r y h = absurd (cc h)
passed false k r y h = (refl, h)

-- a test that accepts
accepted : {A E : Type 0} (b : Bool) (k : E) (r : Result A E) (y : A) → cond b r (Err k) ≡ Ok y → (b ≡ true) × (r ≡ Ok y)
accepted true k r y h = (refl, h)
accepted false k r y h = absurd (cc h)

-- either of two
either : {A E : Type 0} (b : Bool) (p q : Result A E) (y : A) → cond b p q ≡ Ok y → ((b ≡ true) × (p ≡ Ok y)) ⊎ ((b ≡ false) × (q ≡ Ok y))
either true p q y h = inl (refl, h)
either false p q y h = inr (refl, h)

pub ok_same : {A E : Type 0} (x y : A) → ◌≡◌ {A = Result A E} (Ok x) (Ok y) → x ≡ y
ok_same x y h = cc h

pub not_empty : {A : Type 0} (xs : List A) → is_empty xs ≡ false → xs ≢ []
not_empty xs h e = eqb-false (length xs) 0 h (ap length e)

pub empty_is : {A : Type 0} (xs : List A) → is_empty xs ≡ true → xs ≡ []
empty_is xs h = nil_from_length xs (eqb-true (length xs) 0 h)

-- so many fields
filled : {A : Type 0} (b : Bool) (x y : A) → cond b None (Some x) ≡ Some y → x ≡ y
filled true x y h = absurd (cc h)
filled false x y h = cc h

one_is : (fs : List (List ℕ)) (a : List ℕ) → one_of fs ≡ Some a → fs ≡ a ∷ []
one_is (x ∷ []) a h = ap (λ t. t ∷ []) (filled _ x a h)
one_is fs a h = absurd (cc h)

two_are : (fs : List (List ℕ)) (f : List ℕ × List ℕ) → two_of fs ≡ Some f → fs ≡ f.0 ∷ f.1 ∷ []
two_are (x ∷ y ∷ []) f h = ap (λ (t : List ℕ × List ℕ). t.0 ∷ t.1 ∷ []) (filled _ _ f h)
two_are fs f h = absurd (cc h)

three_are : (fs : List (List ℕ)) (f : List ℕ × List ℕ × List ℕ) → three_of fs ≡ Some f → fs ≡ f.0 ∷ f.1 ∷ f.2 ∷ []
three_are (x ∷ y ∷ z ∷ []) f h = ap (λ (t : List ℕ × List ℕ × List ℕ). t.0 ∷ t.1 ∷ t.2 ∷ []) (filled _ _ f h)
three_are fs f h = absurd (cc h)

four_are : (fs : List (List ℕ)) (f : List ℕ × List ℕ × List ℕ × List ℕ) → four_of fs ≡ Some f → fs ≡ f.0 ∷ f.1 ∷ f.2 ∷ f.3 ∷ []
four_are (x ∷ y ∷ z ∷ u ∷ []) f h = ap (λ (t : List ℕ × List ℕ × List ℕ × List ℕ). t.0 ∷ t.1 ∷ t.2 ∷ t.3 ∷ []) (filled _ _ f h)
four_are fs f h = absurd (cc h)

-- ---- the forms

-- the fields are those of an allowed line
abbrev IsSpelt : Said → List (List ℕ) → Line → Type 0
IsSpelt s parts l = (parts ≡ fields s l) × Allowed s l

named : (s : Said) (name : List ℕ) (r : ℕ) → region_by_name s name ≡ Some r → name_at s.regions r ≡ name
named s name r h = let k = region_from-Some 0 s.regions name r h in ap (name_at s.regions) (omega (arith, k.1)) ∙ k.3

mode_cases : (b c : Bool) (w : Bool) → cond b (Some true) (cond c (Some false) None) ≡ Some w → ((b ≡ true) × (true ≡ w)) ⊎ ((c ≡ true) × (false ≡ w))
mode_cases true c w h = inl (refl, cc h)
mode_cases false true w h = inr (refl, cc h)
mode_cases false false w h = absurd (cc h)

pub mode_of-Some : (field : List ℕ) (w : Bool) → mode_of field ≡ Some w → field ≡ mode_text w
unfolding mode_of
mode_of-Some field w h =
    elim (mode_cases (bytes_eq field (codes "rw")) (bytes_eq field (codes "ro")) w h) [
      | inl a ↦ (bytes_eq-Decides field (codes "rw")).0 a.0 ∙ ap mode_text a.1
      | inr a ↦ (bytes_eq-Decides field (codes "ro")).0 a.0 ∙ ap mode_text a.1
    ]

memory_sound : (s : Said) (name size mode : List ℕ) (l : Line) → read_memory s name size mode ≡ Ok l → IsSpelt s (codes "map" ∷ name ∷ codes "memory" ∷ size ∷ mode ∷ []) l
unfolding read_memory
memory_sound s name size mode l h =
    let a = passed (not (is_empty s.scripts)) _ _ l h in
    let b = passed (not (is_name name)) _ _ l a.1 in
    let n = found _ (number_of 1 16777216 size) _ l b.1 in
    let w = found _ (mode_of mode) _ l n.2 in
    let e = accepted (nat_lt (length s.regions) 64) _ _ l w.2 in
    let number = number_of-Some 1 16777216 n.0 size n.1 in
    let writable = mode_of-Some mode w.0 w.1 in
    subst (IsSpelt s (codes "map" ∷ name ∷ codes "memory" ∷ size ∷ mode ∷ [])) (ok_same _ l e.1) (
      ap (λ t. codes "map" ∷ name ∷ codes "memory" ∷ t ∷ mode ∷ []) number.0 ∙ ap (λ t. codes "map" ∷ name ∷ codes "memory" ∷ decimal n.0 ∷ t ∷ []) writable,
      record { above = empty_is s.scripts (not-false _ a.0); named = not-false _ b.0; place = tt; least = number.1; most = number.2; few = ltb-true _ _ e.0 },
    )

file_sound : (s : Said) (name path size mode : List ℕ) (l : Line) → read_file s name path size mode ≡ Ok l → IsSpelt s (codes "map" ∷ name ∷ codes "file" ∷ path ∷ size ∷ mode ∷ []) l
unfolding read_file
file_sound s name path size mode l h =
    let a = passed (not (is_empty s.scripts)) _ _ l h in
    let b = passed (not (is_name name)) _ _ l a.1 in
    let p = passed (not (is_path path)) _ _ l b.1 in
    let n = found _ (number_of 1 1099511627776 size) _ l p.1 in
    let w = found _ (mode_of mode) _ l n.2 in
    let e = accepted (nat_lt (length s.regions) 64) _ _ l w.2 in
    let number = number_of-Some 1 1099511627776 n.0 size n.1 in
    let writable = mode_of-Some mode w.0 w.1 in
    subst (IsSpelt s (codes "map" ∷ name ∷ codes "file" ∷ path ∷ size ∷ mode ∷ [])) (ok_same _ l e.1) (
      ap (λ t. codes "map" ∷ name ∷ codes "file" ∷ path ∷ t ∷ mode ∷ []) number.0 ∙ ap (λ t. codes "map" ∷ name ∷ codes "file" ∷ path ∷ decimal n.0 ∷ t ∷ []) writable,
      record { above = empty_is s.scripts (not-false _ a.0); named = not-false _ b.0; place = not-false _ p.0; least = number.1; most = number.2; few = ltb-true _ _ e.0 },
    )

sparse_sound : (s : Said) (name path size file mode : List ℕ) (l : Line) → read_sparse s name path size file mode ≡ Ok l → IsSpelt s (codes "map" ∷ name ∷ codes "sparse" ∷ path ∷ size ∷ file ∷ mode ∷ []) l
unfolding read_sparse
sparse_sound s name path size file mode l h =
    let a = passed (not (is_empty s.scripts)) _ _ l h in
    let b = passed (not (is_name name)) _ _ l a.1 in
    let p = passed (not (is_path path)) _ _ l b.1 in
    let n = found _ (number_of 1 1099511627776 size) _ l p.1 in
    let m = found _ (number_of 1 1099511627776 file) _ l n.2 in
    let w = found _ (mode_of mode) _ l m.2 in
    let e = accepted (nat_lt (length s.regions) 64) _ _ l w.2 in
    let number = number_of-Some 1 1099511627776 n.0 size n.1 in
    let length_of_file = number_of-Some 1 1099511627776 m.0 file m.1 in
    let writable = mode_of-Some mode w.0 w.1 in
    subst (IsSpelt s (codes "map" ∷ name ∷ codes "sparse" ∷ path ∷ size ∷ file ∷ mode ∷ [])) (ok_same _ l e.1) (
      ap (λ t. codes "map" ∷ name ∷ codes "sparse" ∷ path ∷ t ∷ file ∷ mode ∷ []) number.0
          ∙ ap (λ t. codes "map" ∷ name ∷ codes "sparse" ∷ path ∷ decimal n.0 ∷ t ∷ mode ∷ []) length_of_file.0
          ∙ ap (λ t. codes "map" ∷ name ∷ codes "sparse" ∷ path ∷ decimal n.0 ∷ decimal m.0 ∷ t ∷ []) writable,
      record {
        above = empty_is s.scripts (not-false _ a.0);
        named = not-false _ b.0;
        place = (not-false _ p.0, length_of_file.1, length_of_file.2);
        least = number.1;
        most = number.2;
        few = ltb-true _ _ e.0;
      },
    )

script_sound : (s : Said) (name : List ℕ) (l : Line) → read_script s name ≡ Ok l → (codes "script" ∷ name ∷ [] ≡ fields s l) × Allowed s l
unfolding read_script
script_sound s name l h =
    let a = passed (not (is_name name)) _ _ l h in
    let b = passed (list_any (bytes_eq name) s.scripts) _ _ l a.1 in
    let e = accepted (nat_lt (length s.scripts) 64) _ _ l b.1 in
    let P : Line → Type 0 = λ x. (codes "script" ∷ name ∷ [] ≡ fields s x) × Allowed s x in
    subst P (ok_same _ l e.1) (refl, record { named = not-false _ a.0; fresh = not_among name s.scripts b.0; few = ltb-true _ _ e.0 })

load_sound : (s : Said) (name off len : List ℕ) (l : Line) → read_load s name off len ≡ Ok l → (codes "load" ∷ name ∷ off ∷ len ∷ [] ≡ fields s l) × Allowed s l
unfolding read_load
load_sound s name off len l h =
    let a = passed (is_empty s.scripts) _ _ l h in
    let b = passed (not (is_name name)) _ _ l a.1 in
    let o = found _ (number_of 0 1099511627776 off) _ l b.1 in
    let n = found _ (number_of 0 65536 len) _ l o.2 in
    let r = found _ (region_by_name s name) _ l n.2 in
    let d = passed (not (nat_le (o.0 + n.0) (size_at s.regions r.0))) _ _ l r.2 in
    let e = accepted (nat_lt s.commands 262144 && nat_le (s.loaded + n.0) 33554432) _ _ l d.1 in
    let place = number_of-Some 0 1099511627776 o.0 off o.1 in
    let count = number_of-Some 0 65536 n.0 len n.1 in
    let name_is = named s name r.0 r.1 in
    let limits = and_parts (nat_lt s.commands 262144) (nat_le (s.loaded + n.0) 33554432) e.0 in
    let P : Line → Type 0 = λ x. (codes "load" ∷ name ∷ off ∷ len ∷ [] ≡ fields s x) × Allowed s x in
    subst P (ok_same _ l e.1) (
      ap (λ t. codes "load" ∷ t ∷ off ∷ len ∷ []) (sym name_is)
          ∙ ap (λ t. codes "load" ∷ name_at s.regions r.0 ∷ t ∷ len ∷ []) place.0
          ∙ ap (λ t. codes "load" ∷ name_at s.regions r.0 ∷ decimal o.0 ∷ t ∷ []) count.0,
      record {
        reach = record {
          command = record { begun = not_empty s.scripts a.0; few = ltb-true _ _ limits.0 };
          first = ap (region_by_name s) name_is ∙ r.1;
          place = place.2;
          inside = leb-true _ _ (not-false _ d.0);
        };
        short = count.2;
        room = leb-true _ _ limits.1;
      },
    )

store_sound : (s : Said) (name off hex : List ℕ) (l : Line) → read_store s name off hex ≡ Ok l → (codes "store" ∷ name ∷ off ∷ hex ∷ [] ≡ fields s l) × Allowed s l
unfolding read_store
store_sound s name off hex l h =
    let a = passed (is_empty s.scripts) _ _ l h in
    let b = passed (not (is_name name)) _ _ l a.1 in
    let o = found _ (number_of 0 1099511627776 off) _ l b.1 in
    let n = found _ (bytes_of hex) _ l o.2 in
    let r = found _ (region_by_name s name) _ l n.2 in
    let d = passed (not (nat_le (o.0 + length n.0) (size_at s.regions r.0))) _ _ l r.2 in
    let w = passed (not (writable_at s.regions r.0)) _ _ l d.1 in
    let e = accepted (nat_lt s.commands 262144) _ _ l w.1 in
    let place = number_of-Some 0 1099511627776 o.0 off o.1 in
    let bytes = bytes_of-Some hex n.0 n.1 in
    let name_is = named s name r.0 r.1 in
    let P : Line → Type 0 = λ x. (codes "store" ∷ name ∷ off ∷ hex ∷ [] ≡ fields s x) × Allowed s x in
    subst P (ok_same _ l e.1) (
      ap (λ t. codes "store" ∷ t ∷ off ∷ hex ∷ []) (sym name_is)
          ∙ ap (λ t. codes "store" ∷ name_at s.regions r.0 ∷ t ∷ hex ∷ []) place.0
          ∙ ap (λ t. codes "store" ∷ name_at s.regions r.0 ∷ decimal o.0 ∷ t ∷ []) bytes.spelt,
      record {
        reach = record {
          command = record { begun = not_empty s.scripts a.0; few = ltb-true _ _ e.0 };
          first = ap (region_by_name s) name_is ∙ r.1;
          place = place.2;
          inside = leb-true _ _ (not-false _ d.0);
        };
        short = bytes.most;
        some = bytes.some;
        bytes_all = bytes.bytes_all;
        writable = not-false _ w.0;
      },
    )

prefetch_sound : (s : Said) (name off len : List ℕ) (l : Line) → read_prefetch s name off len ≡ Ok l → IsSpelt s (codes "prefetch" ∷ name ∷ off ∷ len ∷ []) l
unfolding read_prefetch
prefetch_sound s name off len l h =
    let a = passed (is_empty s.scripts) _ _ l h in
    let b = passed (not (is_name name)) _ _ l a.1 in
    let o = found _ (number_of 0 1099511627776 off) _ l b.1 in
    let n = found _ (number_of 0 1099511627776 len) _ l o.2 in
    let r = found _ (region_by_name s name) _ l n.2 in
    let d = passed (not (nat_le (o.0 + n.0) (size_at s.regions r.0))) _ _ l r.2 in
    let e = accepted (nat_lt s.commands 262144) _ _ l d.1 in
    let place = number_of-Some 0 1099511627776 o.0 off o.1 in
    let count = number_of-Some 0 1099511627776 n.0 len n.1 in
    let name_is = named s name r.0 r.1 in
    subst (IsSpelt s (codes "prefetch" ∷ name ∷ off ∷ len ∷ [])) (ok_same _ l e.1) (
      ap (λ t. codes "prefetch" ∷ t ∷ off ∷ len ∷ []) (sym name_is)
          ∙ ap (λ t. codes "prefetch" ∷ name_at s.regions r.0 ∷ t ∷ len ∷ []) place.0
          ∙ ap (λ t. codes "prefetch" ∷ name_at s.regions r.0 ∷ decimal o.0 ∷ t ∷ []) count.0,
      record {
        reach = record {
          command = record { begun = not_empty s.scripts a.0; few = ltb-true _ _ e.0 };
          first = ap (region_by_name s) name_is ∙ r.1;
          place = place.2;
          inside = leb-true _ _ (not-false _ d.0);
        };
        short = count.2;
      },
    )

flush_sound : (s : Said) (l : Line) → read_flush s ≡ Ok l → IsSpelt s (codes "flush" ∷ []) l
unfolding read_flush
flush_sound s l h =
    let a = passed (is_empty s.scripts) _ _ l h in
    let e = accepted (nat_lt s.commands 262144) _ _ l a.1 in
    subst (IsSpelt s (codes "flush" ∷ [])) (ok_same _ l e.1) (refl, record { begun = not_empty s.scripts a.0; few = ltb-true _ _ e.0 })

unmap_sound : (s : Said) (name : List ℕ) (l : Line) → read_unmap s name ≡ Ok l → IsSpelt s (codes "unmap" ∷ name ∷ []) l
unfolding read_unmap
unmap_sound s name l h =
    let a = passed (is_empty s.scripts) _ _ l h in
    let b = passed (not (is_name name)) _ _ l a.1 in
    let r = found _ (region_by_name s name) _ l b.1 in
    let e = accepted (nat_lt s.commands 262144) _ _ l r.2 in
    let name_is = named s name r.0 r.1 in
    subst (IsSpelt s (codes "unmap" ∷ name ∷ [])) (ok_same _ l e.1) (
      ap (λ t. codes "unmap" ∷ t ∷ []) (sym name_is),
      record { command = record { begun = not_empty s.scripts a.0; few = ltb-true _ _ e.0 }; first = ap (region_by_name s) name_is ∙ r.1 },
    )

-- ---- one line

-- what one word or another begins
either_word : {P : Type 0} (word known : List ℕ) (p q : Result Line TextKind) (l : Line) → cond (bytes_eq word known) p q ≡ Ok l → (word ≡ known → p ≡ Ok l → P) → (q ≡ Ok l → P) → P
either_word word known p q l h this other =
    elim (either (bytes_eq word known) p q l h) [
      | inl a ↦ this ((bytes_eq-Decides word known).0 a.0) a.1
      | inr a ↦ other a.1
    ]

begun_by : (s : Said) (word known : List ℕ) (rest : List (List ℕ)) (l : Line) → word ≡ known → IsSpelt s (known ∷ rest) l → IsSpelt s (word ∷ rest) l
begun_by s word known rest l e p = (ap (λ t. t ∷ rest) e ∙ p.0, p.1)

one_sound : (s : Said) (word : List ℕ) (read : List ℕ → Result Line TextKind) (fs : List (List ℕ)) (l : Line) → ((a : List ℕ) → read a ≡ Ok l → IsSpelt s (word ∷ a ∷ []) l)
    → (or_refused kind.Line (one_of fs) >>= (λ a. read a)) ≡ Ok l → IsSpelt s (word ∷ fs) l
one_sound s word read fs l sound h =
    let f = found kind.Line (one_of fs) _ l h in
    let p = sound f.0 f.2 in
    (ap (λ t. word ∷ t) (one_is fs f.0 f.1) ∙ p.0, p.1)

three_sound : (s : Said) (word : List ℕ) (read : List ℕ → List ℕ → List ℕ → Result Line TextKind) (fs : List (List ℕ)) (l : Line) → ((a b c : List ℕ) → read a b c ≡ Ok l → IsSpelt s (word ∷ a ∷ b ∷ c ∷ []) l)
    → (or_refused kind.Line (three_of fs) >>= (λ f. read f.0 f.1 f.2)) ≡ Ok l → IsSpelt s (word ∷ fs) l
three_sound s word read fs l sound h =
    let f = found kind.Line (three_of fs) _ l h in
    let p = sound f.0.0 f.0.1 f.0.2 f.2 in
    (ap (λ t. word ∷ t) (three_are fs f.0 f.1) ∙ p.0, p.1)

store_is : (s : Said) (name store known : List ℕ) (fs : List (List ℕ)) (l : Line) → store ≡ known → IsSpelt s (codes "map" ∷ name ∷ known ∷ fs) l → IsSpelt s (codes "map" ∷ name ∷ store ∷ fs) l
store_is s name store known fs l e p = (ap (λ t. codes "map" ∷ name ∷ t ∷ fs) e ∙ p.0, p.1)

map_sound : (s : Said) (fs : List (List ℕ)) (l : Line) → read_map s fs ≡ Ok l → IsSpelt s (codes "map" ∷ fs) l
unfolding read_map
map_sound s (name ∷ store ∷ fs) l h =
    let a = passed (is_empty name) _ _ l h in
    either_word store (codes "memory") _ _ l a.1 (λ e k.
    let f = found kind.Line (two_of fs) _ l k in
    let p = memory_sound s name f.0.0 f.0.1 l f.2 in
    store_is s name store (codes "memory") fs l e (ap (λ t. codes "map" ∷ name ∷ codes "memory" ∷ t) (two_are fs f.0 f.1) ∙ p.0, p.1)) (λ h2.
    either_word store (codes "file") _ _ l h2 (λ e k.
    let f = found kind.Line (three_of fs) _ l k in
    let p = file_sound s name f.0.0 f.0.1 f.0.2 l f.2 in
    store_is s name store (codes "file") fs l e (ap (λ t. codes "map" ∷ name ∷ codes "file" ∷ t) (three_are fs f.0 f.1) ∙ p.0, p.1)) (λ h3.
    either_word store (codes "sparse") _ _ l h3 (λ e k.
    let f = found kind.Line (four_of fs) _ l k in
    let p = sparse_sound s name f.0.0 f.0.1 f.0.2 f.0.3 l f.2 in
    store_is s name store (codes "sparse") fs l e (ap (λ t. codes "map" ∷ name ∷ codes "sparse" ∷ t) (four_are fs f.0 f.1) ∙ p.0, p.1)) (λ h4.
    absurd (let z = passed (list_any is_empty (store ∷ fs)) _ _ l h4 in cc z.1))))
map_sound s fs l h = absurd (cc h)

word_sound : (s : Said) (word : List ℕ) (fs : List (List ℕ)) (l : Line) → read_word s word fs ≡ Ok l → IsSpelt s (word ∷ fs) l
unfolding read_word
word_sound s word fs l h =
    either_word word (codes "load") _ _ l h (λ e k. begun_by s word (codes "load") fs l e (three_sound s (codes "load") (read_load s) fs l (λ a b c r. load_sound s a b c l r) k)) (λ h2.
    either_word word (codes "store") _ _ l h2 (λ e k. begun_by s word (codes "store") fs l e (three_sound s (codes "store") (read_store s) fs l (λ a b c r. store_sound s a b c l r) k)) (λ h3.
    either_word word (codes "prefetch") _ _ l h3 (λ e k. begun_by s word (codes "prefetch") fs l e (three_sound s (codes "prefetch") (read_prefetch s) fs l (λ a b c r. prefetch_sound s a b c l r) k)) (λ h4.
    either_word word (codes "script") _ _ l h4 (λ e k. begun_by s word (codes "script") fs l e (one_sound s (codes "script") (read_script s) fs l (λ a r. script_sound s a l r) k)) (λ h5.
    either_word word (codes "map") _ _ l h5 (λ e k. begun_by s word (codes "map") fs l e (map_sound s fs l k)) (λ h6.
    either_word word (codes "unmap") _ _ l h6 (λ e k. begun_by s word (codes "unmap") fs l e (one_sound s (codes "unmap") (read_unmap s) fs l (λ a r. unmap_sound s a l r) k)) (λ h7.
    either_word word (codes "flush") _ _ l h7 (λ e k.
    let z = accepted (is_empty fs) _ _ l k in
    let p = flush_sound s l z.1 in
    begun_by s word (codes "flush") fs l e (ap (λ t. codes "flush" ∷ t) (empty_is fs z.0) ∙ p.0, p.1)) (λ h8.
    absurd (cc h8))))))))

fields_sound : (s : Said) (parts : List (List ℕ)) (l : Line) → read_fields s parts ≡ Ok l → IsSpelt s parts l
fields_sound s [] l h = absurd (cc h)
fields_sound s (word ∷ fs) l h = word_sound s word fs l h

line_sound : (s : Said) (text : List ℕ) (l : Line) → read_line s text ≡ Ok l → (text ≡ line_text s l) × Allowed s l
line_sound s text l h =
    let p = fields_sound s (slice_split is_space text) l h in
    (sym (join_with_byte-slice_split 32 text) ∙ ap (join_with_byte 32) p.0, p.1)

pub text_line_sound : (s : Said) (text : List ℕ) (t : TextLine) → All (λ b. b ≢ 10) text → read_text_line s text ≡ Ok t → (text ≡ shown s t) × AllowedText s t
unfolding read_text_line
text_line_sound s text t clean h =
    let P : TextLine → Type 0 = λ x. (text ≡ shown s x) × AllowedText s x in
    elim (either (is_silent text) _ _ t h) [
      | inl a ↦ subst P (ok_same {E = TextKind} _ t a.1) (refl, record { marked = a.0; one_line = clean })
      | inr a ↦
          let b = bind_ok (read_line s text) _ t a.1 in
          subst P (ok_same {E = TextKind} _ t b.2) (line_sound s text b.0 b.1)
    ]

-- ---- the parts between line feeds

abbrev pub AreClean : List (List ℕ) → Type 0
AreClean [] = Unit {0}
AreClean (p ∷ ps) = All (λ b. b ≢ 10) p × AreClean ps

longer_clean : (b : ℕ) (ps : List (List ℕ)) → b ≢ 10 → AreClean ps → AreClean (onto_first b ps)
longer_clean b [] h c = (All-cons (λ x. x ≢ 10) b [] h (All-nil (λ x. x ≢ 10)), tt)
longer_clean b (p ∷ ps) h c = (All-cons (λ x. x ≢ 10) b p h c.0, c.1)

pub parts_clean : (text : List ℕ) → AreClean (slice_split is_line_feed text)
parts_clean [] = (All-nil (λ x. x ≢ 10), tt)
parts_clean (b ∷ text) =
    elim (cases_Bool (is_line_feed b)) [
      | inl yes' ↦ subst AreClean (sym (slice_split-cons_yes is_line_feed b text yes')) (All-nil (λ x. x ≢ 10), parts_clean text)
      | inr no' ↦ subst AreClean (sym (slice_split-cons_no is_line_feed b text no')) (longer_clean b (slice_split is_line_feed text) (eqb-false b 10 no') (parts_clean text))
    ]

-- ---- all lines

then_ok : (n : ℕ) (r : Result TextLine TextKind) (f : TextLine → Result (List TextLine) RefusedAt) (ts : List TextLine) → line_then n r f ≡ Ok ts → (t : TextLine) × (r ≡ Ok t) × (before_all t (f t) ≡ Ok ts)
then_ok n (Ok t) f ts h = (t, refl, h)
then_ok n (Err k) f ts h = absurd (cc h)

before_ok : (t : TextLine) (r : Result (List TextLine) RefusedAt) (ts : List TextLine) → before_all t r ≡ Ok ts → (rest : List TextLine) × (r ≡ Ok rest) × (t ∷ rest ≡ ts)
before_ok t (Ok rest) ts h = (rest, refl, ok_same {E = RefusedAt} _ ts h)
before_ok t (Err e) ts h = absurd (cc h)

texts_sound : (n : ℕ) (s : Said) (parts : List (List ℕ)) (ts : List TextLine) → AreClean parts → read_texts n s parts ≡ Ok ts → (join_with_byte 10 parts ≡ spelled s ts) × AllAllowed s ts
texts_sound n s [] ts clean h = let P : List TextLine → Type 0 = λ x. ([] ≡ spelled s x) × AllAllowed s x in subst P (ok_same {E = RefusedAt} _ ts h) (refl, tt)
texts_sound n s (last ∷ []) ts clean h =
    let a = accepted (is_empty last) _ _ ts h in
    let P : List TextLine → Type 0 = λ x. (last ≡ spelled s x) × AllAllowed s x in
    subst P (ok_same {E = RefusedAt} _ ts a.1) (empty_is last a.0, tt)
texts_sound n s (text ∷ more ∷ parts) ts clean h =
    let a = then_ok n (read_text_line s text) _ ts h in
    let b = before_ok a.0 _ ts a.2 in
    let here = text_line_sound s text a.0 clean.0 a.1 in
    let rest = texts_sound (n + 1) (after_text s a.0) (more ∷ parts) b.0 clean.1 b.1 in
    let P : List TextLine → Type 0 = λ x. (text ++ (10 ∷ join_with_byte 10 (more ∷ parts)) ≡ spelled s x) × AllAllowed s x in
    subst P b.2 (ap (λ t. t ++ (10 ∷ join_with_byte 10 (more ∷ parts))) here.0 ∙ ap (λ t. shown s a.0 ++ 10 ∷ t) rest.0, (here.1, rest.1))

pub text_sound : (bytes : List ℕ) (ts : List TextLine) → read_text bytes ≡ Ok ts → IsText bytes ts
unfolding read_text
text_sound bytes ts h =
    let a = accepted (nat_le (length bytes) 16777216) _ _ ts h in
    let p = texts_sound 1 nothing (slice_split is_line_feed bytes) ts (parts_clean bytes) a.1 in
    record { spelt = sym (join_with_byte-slice_split 10 bytes) ∙ p.0; allowed = p.1; short = leb-true _ _ a.0 }
