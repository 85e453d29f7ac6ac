-- The kind that the reading of a line's fields names is the first that applies to them; and where it names none, none applies.
use Rattle.std.proofs.Common.{◌≡◌, ◌≢◌, ℕ, ◌+◌, ◌<◌, ◌≤◌, ◌^◌, inl, inr, Bool, true, false, cond, not, ◌||◌, ◌&&◌, nat_le, nat_lt, List, [], ◌∷◌, length, drop, get_or, Option, Some, None, Result, Ok, Err, codes, refl, sym, ap, ◌∙◌, subst, arith, is_some}
use Rattle.std.specs.Option.{IsSomeAnd}
use Rattle.std.specs.Fmt.{decimal}
use Rattle.std.specs.Str.{bytes_eq}
use Rattle.std.specs.Str.Parse.{digits_value}
use Rattle.std.specs.List.{list_any}
use Rattle.std.proofs.lemmas.Bool.{cases_Bool, cases_eq, and_parts, both_ways, eqb-false, leb-true, leb-false, ltb-true, ltb-false, not-true, not-false}
use Rattle.std.proofs.lemmas.Fmt.{decimal_is_IsNumeral}
use Rattle.std.proofs.lemmas.Slice.Eq.{bytes_eq-Decides}
use Rattle.workload_text.specs.Line.{Line}
use Rattle.workload_text.specs.Grammar.{Said, is_name, is_path, region_by_name, size_at, writable_at}
use Rattle.workload_text.specs.Reading.{number_of, bytes_of, mode_of, or_refused, is_empty, one_of, two_of, three_of, four_of, as_region, read_memory, read_file, read_sparse, read_map, read_script, read_load, read_store, read_prefetch, read_flush, read_unmap, read_word, read_fields, ◌>>=◌}
use Rattle.workload_text.specs.Kinds.{Sort, a_name, a_path, a_number, hex_bytes, a_mode, a_store, IsNumber, IsHex, is_store_kind, IsSpelt, FirstMisspelt, forms, map_forms, sorts_by, field_at, begins_with, is_map, is_command, names_region, names_length, sorts_of, NamesRange, IsFormless, empty_field, unknown_word, short_map, other_number, late_map, early_command, IsMisspelt, regions, scripts, commands, loads, AppliesTo, place}
use Rattle.workload_text.specs.declared.refusal.TextKind.{TextKind}
use Rattle.workload_text.specs.declared.refusal.TextKind.TheVariants as kind
use Rattle.workload_text.proofs.Numbers.{number_of-decimal, number_of-Some}
use Rattle.workload_text.proofs.Names.{not_among, among}
use Rattle.workload_text.proofs.Hex.{bytes_of-encode_lower, bytes_of-Some}
use Rattle.workload_text.proofs.Complete.{mode_of-mode_text}
use Rattle.workload_text.proofs.Sound.{mode_of-Some, not_empty, empty_is}

-- ---- the kinds in order

by_place : ℕ → TextKind
by_place n =
    get_or (kind.Long ∷ kind.Unended ∷ kind.Line ∷ kind.Kind ∷ kind.Order ∷ kind.Name ∷ kind.Path ∷ kind.Number ∷ kind.Hex ∷ kind.Mode ∷ kind.Unknown ∷ kind.Double ∷ kind.Range ∷ kind.ReadOnly ∷ kind.Many ∷ []) n kind.Long

placed : (k : TextKind) → by_place (place k) ≡ k
unfolding by_place
placed kind.Long = refl
placed kind.Unended = refl
placed kind.Line = refl
placed kind.Kind = refl
placed kind.Order = refl
placed kind.Name = refl
placed kind.Path = refl
placed kind.Number = refl
placed kind.Hex = refl
placed kind.Mode = refl
placed kind.Unknown = refl
placed kind.Double = refl
placed kind.Range = refl
placed kind.ReadOnly = refl
placed kind.Many = refl

place_same : (j k : TextKind) → place j ≡ place k → j ≡ k
place_same j k e = sym (placed j) ∙ ap by_place e ∙ placed k

-- no kind before the n-th applies
abbrev pub Clear : ℕ → Said → List (List ℕ) → Type 0
Clear n s fs = (j : TextKind) → place j < n → ¬ AppliesTo j s fs

-- one more
then_not : (n : ℕ) (k : TextKind) (s : Said) (fs : List (List ℕ)) → place k ≡ n → Clear n s fs → ¬ AppliesTo k s fs → Clear (n + 1) s fs
then_not n k s fs at c fails = λ j lt.
    elim (cases_eq (place j) (place k)) [
      | inl e ↦ subst (λ (i : TextKind). ¬ AppliesTo i s fs) (sym (place_same j k e)) fails
      | inr other ↦ c j (omega (arith, at, lt, other))
    ]

clear_two : (s : Said) (fs : List (List ℕ)) → Clear 2 s fs
clear_two s fs =
    let none : Clear 0 s fs = λ j lt. absurd (omega (arith, lt)) in
    then_not 1 kind.Unended s fs refl (then_not 0 kind.Long s fs refl none (λ h. h)) (λ h. h)

-- what a reading shows of fields
abbrev pub Verdict : Said → List (List ℕ) → Result Line TextKind → Type 0
Verdict s fs (Ok l) = Clear 15 s fs
Verdict s fs (Err k) = AppliesTo k s fs × Clear (place k) s fs

-- ---- tests

refuse : (s : Said) (fs : List (List ℕ)) (b : Bool) (k : TextKind) (r : Result Line TextKind) → (b ≡ true → Verdict s fs (Err k)) → (b ≡ false → Verdict s fs r) → Verdict s fs (cond b (Err k) r)
refuse s fs true k r h g = h refl
refuse s fs false k r h g = g refl

accept : (s : Said) (fs : List (List ℕ)) (b : Bool) (k : TextKind) (r : Result Line TextKind) → (b ≡ true → Verdict s fs r) → (b ≡ false → Verdict s fs (Err k)) → Verdict s fs (cond b r (Err k))
accept s fs true k r h g = h refl
accept s fs false k r h g = g refl

choose : (s : Said) (fs : List (List ℕ)) (b : Bool) (p q : Result Line TextKind) → (b ≡ true → Verdict s fs p) → (b ≡ false → Verdict s fs q) → Verdict s fs (cond b p q)
choose s fs true p q h g = h refl
choose s fs false p q h g = g refl

value : {A : Type 0} (s : Said) (fs : List (List ℕ)) (k : TextKind) (o : Option A) (f : A → Result Line TextKind) → (o ≡ None → Verdict s fs (Err k)) → ((x : A) → o ≡ Some x → Verdict s fs (f x)) → Verdict s fs (or_refused k o >>= f)
value s fs k None f h g = h refl
value s fs k (Some x) f h g = g x refl

-- ---- fields

number_here : (least most n : ℕ) (f : List ℕ) → number_of least most f ≡ Some n → IsNumber least most f n
number_here least most n f h = let p = number_of-Some least most n f h in record { spelt = p.0; least_is = p.1; most_is = p.2 }

no_number : (least most : ℕ) (f : List ℕ) → most < 2 ^ 64 → number_of least most f ≡ None → ¬ IsSpelt (a_number least most) f
no_number least most f small h = λ p.
    let read = number_of-decimal least most p.0 f (let m = p.1.most_is in omega (arith, m, small)) p.1.least_is p.1.most_is p.1.spelt in
    absurd (cc (h, read))

hex_here : (f bs : List ℕ) → bytes_of f ≡ Some bs → IsHex f bs
hex_here f bs h = let p = bytes_of-Some f bs h in record { spelt = p.spelt; some = p.some; most = p.most; bytes_all = p.bytes_all }

hex_read : (f bs : List ℕ) → IsHex f bs → bytes_of f ≡ Some bs
hex_read f bs p = ap bytes_of p.spelt ∙ bytes_of-encode_lower bs p.some p.most p.bytes_all

no_hex : (f : List ℕ) → bytes_of f ≡ None → ¬ IsSpelt hex_bytes f
no_hex f h = λ p. let read = hex_read f p.0 p.1 in absurd (cc (h, read))

no_mode : (f : List ℕ) → mode_of f ≡ None → ¬ IsSpelt a_mode f
no_mode f h = λ p. let read : mode_of f ≡ Some p.0 = ap mode_of p.1 ∙ mode_of-mode_text p.0 in absurd (cc (h, read))

no_test : (b : Bool) → not b ≡ true → ¬ (b ≡ true)
no_test b h = λ e. both_ways b (not-true b h) e

same_number : (f : List ℕ) (a b : ℕ) → f ≡ decimal a → f ≡ decimal b → a < 2 ^ 64 → b < 2 ^ 64 → a ≡ b
same_number f a b e g small low = sym (decimal_is_IsNumeral a small).1 ∙ ap (digits_value 10) (sym e ∙ g) ∙ (decimal_is_IsNumeral b low).1

same_bytes : (f a b : List ℕ) → IsHex f a → IsHex f b → a ≡ b
same_bytes f a b p q = let one = hex_read f a p in let two = hex_read f b q in cc (one, two)

-- ---- the first misspelt field

one_first : (j k : TextKind) (ts : List Sort) (fs : List (List ℕ)) → FirstMisspelt j ts fs → FirstMisspelt k ts fs → j ≡ k
one_first j k [] fs p q = absurd p
one_first j k (t ∷ ts) [] p q = absurd p
one_first j k (t ∷ ts) (f ∷ fs) (inl p) (inl q) = sym p.1 ∙ q.1
one_first j k (t ∷ ts) (f ∷ fs) (inl p) (inr q) = absurd (p.0 q.0)
one_first j k (t ∷ ts) (f ∷ fs) (inr p) (inl q) = absurd (q.0 p.0)
one_first j k (t ∷ ts) (f ∷ fs) (inr p) (inr q) = one_first j k ts fs p.1 q.1

abbrev AllSpelt : List Sort → List (List ℕ) → Type 0
AllSpelt (t ∷ ts) (f ∷ fs) = IsSpelt t f × AllSpelt ts fs
AllSpelt ts fs = Unit {0}

no_first : (k : TextKind) (ts : List Sort) (fs : List (List ℕ)) → AllSpelt ts fs → ¬ FirstMisspelt k ts fs
no_first k [] fs a = λ p. p
no_first k (t ∷ ts) [] a = λ p. p
no_first k (t ∷ ts) (f ∷ fs) a = λ p. elim p [ inl q ↦ q.0 a.0 | inr q ↦ no_first k ts fs a.1 q.1 ]

spelling_kind : (j : TextKind) (s : Said) (fs : List (List ℕ)) → 5 ≤ place j → place j < 10 → AppliesTo j s fs → IsMisspelt j fs
spelling_kind kind.Name s fs lo hi h = h
spelling_kind kind.Path s fs lo hi h = h
spelling_kind kind.Number s fs lo hi h = h
spelling_kind kind.Hex s fs lo hi h = h
spelling_kind kind.Mode s fs lo hi h = h
spelling_kind j s fs lo hi h = absurd (omega (arith, lo, hi))

module _ (s : Said) (fs : List (List ℕ)) (sorts : List Sort) (form : sorts_of fs ≡ Some sorts) where
  misspelt_at : (k : TextKind) → FirstMisspelt k sorts (drop 1 fs) → IsMisspelt k fs
  misspelt_at k m = subst (λ (o : Option (List Sort)). IsSomeAnd o (λ ts. FirstMisspelt k ts (drop 1 fs))) (sym form) m

  misspelt_here : (k : TextKind) → IsMisspelt k fs → FirstMisspelt k sorts (drop 1 fs)
  misspelt_here k m = subst (λ (o : Option (List Sort)). IsSomeAnd o (λ ts. FirstMisspelt k ts (drop 1 fs))) form m

  misspelt : (k : TextKind) → Clear 5 s fs → place k < 10 → (IsMisspelt k fs → AppliesTo k s fs) → FirstMisspelt k sorts (drop 1 fs) → Verdict s fs (Err k)
  misspelt k c small is m = (
    is (misspelt_at k m),
    λ j lt a. elim (cases_Bool (nat_lt (place j) 5)) [
      | inl low ↦ c j (ltb-true (place j) 5 low) a
      | inr high ↦
          let up = ltb-false (place j) 5 high in
          let one = one_first j k sorts (drop 1 fs) (misspelt_here j (spelling_kind j s fs up (omega (arith, lt, small)) a)) m in
          absurd (let e = ap place one in omega (arith, e, lt))
    ],
  )

  all_spelt : Clear 5 s fs → AllSpelt sorts (drop 1 fs) → Clear 10 s fs
  all_spelt c all = λ j lt a. elim (cases_Bool (nat_lt (place j) 5)) [
    | inl low ↦ c j (ltb-true (place j) 5 low) a
    | inr high ↦ no_first j sorts (drop 1 fs) all (misspelt_here j (spelling_kind j s fs (ltb-false (place j) 5 high) lt a))
  ]

  -- the fields of a form
  formed : list_any is_empty fs ≡ false → (is_map fs || is_some (sorts_by forms (field_at fs 0))) ≡ true → ¬ ((is_map fs ≡ true) × (length fs < 3)) → length fs ≡ length sorts + 1 → ¬ AppliesTo kind.Kind s fs → Clear 4 s fs
  formed full known long many store =
      then_not 3 kind.Kind s fs refl
      (then_not 2 kind.Line s fs refl (clear_two s fs) (λ h. elim h [
        | empty_field e ↦ both_ways (list_any is_empty fs) full e
        | unknown_word e ↦ both_ways (is_map fs || is_some (sorts_by forms (field_at fs 0))) e known
        | short_map e l ↦ long (e, l)
        | other_number o ↦ subst (λ (x : Option (List Sort)). IsSomeAnd x (λ ts. length fs ≢ length ts + 1)) form o many
      ]))
      store

-- ---- tests of kinds that don't apply

not_store_kind : (s : Said) (fs : List (List ℕ)) → is_map fs ≡ false → ¬ AppliesTo kind.Kind s fs
not_store_kind s fs other = λ h. both_ways (is_map fs) other h.0

known_store : (s : Said) (fs : List (List ℕ)) → is_store_kind (field_at fs 2) ≡ true → ¬ AppliesTo kind.Kind s fs
known_store s fs known = λ h. both_ways (is_store_kind (field_at fs 2)) h.2 known

well_placed : (s : Said) (fs : List (List ℕ)) → (is_map fs ≡ true → s.scripts ≡ []) → (is_command fs ≡ true → s.scripts ≢ []) → ¬ AppliesTo kind.Order s fs
well_placed s fs above behind = λ h. elim h [ late_map m b ↦ b (above m) | early_command m e ↦ behind m e ]

not_double : (s : Said) (fs : List (List ℕ)) → begins_with (codes "script") fs ≡ false → ¬ AppliesTo kind.Double s fs
not_double s fs other = λ h. both_ways (begins_with (codes "script") fs) other h.0

not_unknown : (s : Said) (fs : List (List ℕ)) → names_region fs ≡ false → ¬ AppliesTo kind.Unknown s fs
not_unknown s fs other = λ h. both_ways (names_region fs) other h.0

known_region : (s : Said) (fs : List (List ℕ)) (r : ℕ) → region_by_name s (field_at fs 1) ≡ Some r → ¬ AppliesTo kind.Unknown s fs
known_region s fs r is = λ h. let none = h.1 in absurd (cc (is, none))

not_read_only : (s : Said) (fs : List (List ℕ)) → begins_with (codes "store") fs ≡ false → ¬ AppliesTo kind.ReadOnly s fs
not_read_only s fs other = λ h. both_ways (begins_with (codes "store") fs) other h.0

not_range : (s : Said) (fs : List (List ℕ)) → names_length fs ≡ false → begins_with (codes "store") fs ≡ false → ¬ AppliesTo kind.Range s fs
not_range s fs none other = λ h. elim h.3.length_is [ inl p ↦ both_ways (names_length fs) none p.0 | inr p ↦ both_ways (begins_with (codes "store") fs) other p.0 ]

-- a range that is read and lies inside
inside : (s : Said) (fs : List (List ℕ)) (r off len : ℕ) → region_by_name s (field_at fs 1) ≡ Some r → IsNumber 0 1099511627776 (field_at fs 2) off
    → ((n : ℕ) → names_length fs ≡ true → IsNumber 0 1099511627776 (field_at fs 3) n → n ≡ len) → ((bytes : List ℕ) → begins_with (codes "store") fs ≡ true → IsHex (field_at fs 3) bytes → length bytes ≡ len)
    → off + len ≤ size_at s.regions r → ¬ AppliesTo kind.Range s fs
inside s fs r off len is from number hex fits = λ h.
    let region : h.0 ≡ r = (let its = h.3.region in cc (is, its)) in
    let place_is : h.1 ≡ off = same_number (field_at fs 2) h.1 off h.3.from.spelt from.spelt (let m = h.3.from.most_is in omega (arith, m)) (let m = from.most_is in omega (arith, m)) in
    let length_is : h.2 ≡ len = elim h.3.length_is [ inl p ↦ number h.2 p.0 p.1 | inr p ↦ p.1.2 ∙ hex p.1.0 p.0 p.1.1 ] in
    let size : size_at s.regions h.0 ≡ size_at s.regions r = ap (size_at s.regions) region in
    let past = h.4 in
    omega (arith, past, place_is, length_is, size, fits)

passes : (s : Said) (fs : List (List ℕ)) (r off len : ℕ) → NamesRange s fs r off len → not (nat_le (off + len) (size_at s.regions r)) ≡ true → AppliesTo kind.Range s fs
passes s fs r off len names h = (r, off, len, names, leb-false (off + len) (size_at s.regions r) (not-true _ h))

-- a command that isn't one too many
few_commands : (s : Said) (fs : List (List ℕ)) → is_map fs ≡ false → begins_with (codes "script") fs ≡ false → begins_with (codes "load") fs ≡ false → nat_lt s.commands 262144 ≡ true → ¬ AppliesTo kind.Many s fs
few_commands s fs map_ script load few = λ h. elim h [
  | regions m n ↦ both_ways (is_map fs) map_ m
  | scripts m n ↦ both_ways (begins_with (codes "script") fs) script m
  | commands m n ↦ (let f = ltb-true s.commands 262144 few in omega (arith, n, f))
  | loads m n is past ↦ both_ways (begins_with (codes "load") fs) load m
]

-- ---- commands

words_of : (word : List ℕ) → List (List ℕ) → List (List ℕ)
words_of word fs = word ∷ fs

load_verdict : (s : Said) (a b c : List ℕ) → list_any is_empty (codes "load" ∷ a ∷ b ∷ c ∷ []) ≡ false → Verdict s (codes "load" ∷ a ∷ b ∷ c ∷ []) (read_load s a b c)
unfolding read_load
load_verdict s a b c full =
    let fs : List (List ℕ) = codes "load" ∷ a ∷ b ∷ c ∷ [] in
    let sorts : List Sort = a_name ∷ a_number 0 1099511627776 ∷ a_number 0 65536 ∷ [] in
    let c4 = formed s fs sorts refl full refl (λ h. let e = h.0 in absurd (cc e)) refl (not_store_kind s fs refl) in
    refuse s fs (is_empty s.scripts) kind.Order _ (λ e. (early_command refl (empty_is s.scripts e), c4)) (λ begun.
    let c5 = then_not 4 kind.Order s fs refl c4 (well_placed s fs (λ h. absurd (cc h)) (λ _. not_empty s.scripts begun)) in
    refuse s fs (not (is_name a)) kind.Name _ (λ e. misspelt s fs sorts refl kind.Name c5 (omega arith) (λ h. h) (inl (no_test (is_name a) e, refl))) (λ named.
    value s fs kind.Number (number_of 0 1099511627776 b) _ (λ e. misspelt s fs sorts refl kind.Number c5 (omega arith) (λ h. h) (inr (not-false _ named, inl (no_number 0 1099511627776 b (omega arith) e, refl)))) (λ o off.
    let off_is = number_here 0 1099511627776 o b off in
    value s fs kind.Number (number_of 0 65536 c) _ (λ e. misspelt s fs sorts refl kind.Number c5 (omega arith) (λ h. h) (inr (not-false _ named, inr ((o, off_is), inl (no_number 0 65536 c (omega arith) e, refl))))) (λ n len.
    let len_is = number_here 0 65536 n c len in
    let c10 = all_spelt s fs sorts refl c5 (not-false _ named, ((o, off_is), ((n, len_is), tt))) in
    let wide : IsNumber 0 1099511627776 c n = record { spelt = len_is.spelt; least_is = len_is.least_is; most_is = (let m = len_is.most_is in omega (arith, m)) } in
    value s fs kind.Unknown (region_by_name s a) _ (λ e. ((refl, e), c10)) (λ r known.
    let c12 = then_not 11 kind.Double s fs refl (then_not 10 kind.Unknown s fs refl c10 (known_region s fs r known)) (not_double s fs refl) in
    refuse s fs (not (nat_le (o + n) (size_at s.regions r))) kind.Range _ (λ e. (passes s fs r o n (record { region = known; from = off_is; length_is = inl (refl, wide) }) e, c12)) (λ fits.
    let same = λ (m : ℕ) (is : IsNumber 0 1099511627776 c m). same_number c m n is.spelt len_is.spelt (let x = is.most_is in omega (arith, x)) (let x = len_is.most_is in omega (arith, x)) in
    let c14 = then_not 13 kind.ReadOnly s fs refl (then_not 12 kind.Range s fs refl c12 (inside s fs r o n known off_is (λ m _ is. same m is) (λ bytes e h. absurd (cc e)) (leb-true _ _ (not-false _ fits)))) (not_read_only s fs refl) in
    accept s fs (nat_lt s.commands 262144 && nat_le (s.loaded + n) 33554432) kind.Many _ (λ e.
    let parts = and_parts (nat_lt s.commands 262144) (nat_le (s.loaded + n) 33554432) e in
    then_not 14 kind.Many s fs refl c14 (λ h. elim h [
      | regions m k ↦ absurd (cc m)
      | scripts m k ↦ absurd (cc m)
      | commands m k ↦ (let f = ltb-true _ _ parts.0 in omega (arith, k, f))
      | loads m k is past ↦ (let f = leb-true _ _ parts.1 in let same_n : k ≡ n = same_number c k n is.spelt len_is.spelt (let x = is.most_is in omega (arith, x)) (let x = len_is.most_is in omega (arith, x)) in omega (arith, past, f, same_n))
    ])) (λ e.
    elim (cases_Bool (nat_lt s.commands 262144)) as (λ _. Verdict s fs (Err kind.Many)) [
      | inl few ↦ (loads refl n len_is (leb-false _ _ (room_none (nat_lt s.commands 262144) (nat_le (s.loaded + n) 33554432) few e)), c14)
      | inr full_ ↦ (commands refl (ltb-false _ _ full_), c14)
    ])))))))
  where
    room_none : (p q : Bool) → p ≡ true → (p && q) ≡ false → q ≡ false
    room_none true q h e = e
    room_none false q h e = absurd (cc h)

store_verdict : (s : Said) (a b c : List ℕ) → list_any is_empty (codes "store" ∷ a ∷ b ∷ c ∷ []) ≡ false → Verdict s (codes "store" ∷ a ∷ b ∷ c ∷ []) (read_store s a b c)
unfolding read_store
store_verdict s a b c full =
    let fs : List (List ℕ) = codes "store" ∷ a ∷ b ∷ c ∷ [] in
    let sorts : List Sort = a_name ∷ a_number 0 1099511627776 ∷ hex_bytes ∷ [] in
    let c4 = formed s fs sorts refl full refl (λ h. let e = h.0 in absurd (cc e)) refl (not_store_kind s fs refl) in
    refuse s fs (is_empty s.scripts) kind.Order _ (λ e. (early_command refl (empty_is s.scripts e), c4)) (λ begun.
    let c5 = then_not 4 kind.Order s fs refl c4 (well_placed s fs (λ h. absurd (cc h)) (λ _. not_empty s.scripts begun)) in
    refuse s fs (not (is_name a)) kind.Name _ (λ e. misspelt s fs sorts refl kind.Name c5 (omega arith) (λ h. h) (inl (no_test (is_name a) e, refl))) (λ named.
    value s fs kind.Number (number_of 0 1099511627776 b) _ (λ e. misspelt s fs sorts refl kind.Number c5 (omega arith) (λ h. h) (inr (not-false _ named, inl (no_number 0 1099511627776 b (omega arith) e, refl)))) (λ o off.
    let off_is = number_here 0 1099511627776 o b off in
    value s fs kind.Hex (bytes_of c) _ (λ e. misspelt s fs sorts refl kind.Hex c5 (omega arith) (λ h. h) (inr (not-false _ named, inr ((o, off_is), inl (no_hex c e, refl))))) (λ bytes hex.
    let hex_is = hex_here c bytes hex in
    let c10 = all_spelt s fs sorts refl c5 (not-false _ named, ((o, off_is), ((bytes, hex_is), tt))) in
    value s fs kind.Unknown (region_by_name s a) _ (λ e. ((refl, e), c10)) (λ r known.
    let c12 = then_not 11 kind.Double s fs refl (then_not 10 kind.Unknown s fs refl c10 (known_region s fs r known)) (not_double s fs refl) in
    refuse s fs (not (nat_le (o + length bytes) (size_at s.regions r))) kind.Range _ (λ e. (passes s fs r o (length bytes) (record { region = known; from = off_is; length_is = inr (refl, (bytes, hex_is, refl)) }) e, c12)) (λ fits.
    let c13 = then_not 12 kind.Range s fs refl c12 (inside s fs r o (length bytes) known off_is (λ m e h. absurd (cc e)) (λ its _ is. ap length (same_bytes c its bytes is hex_is)) (leb-true _ _ (not-false _ fits))) in
    refuse s fs (not (writable_at s.regions r)) kind.ReadOnly _ (λ e. ((refl, (r, known, not-true _ e)), c13)) (λ writable.
    let c14 = then_not 13 kind.ReadOnly s fs refl c13 (λ h. let its = h.1.1 in let same : h.1.0 ≡ r = cc (its, known) in both_ways (writable_at s.regions r) (sym (ap (writable_at s.regions) same) ∙ h.1.2) (not-false _ writable)) in
    accept s fs (nat_lt s.commands 262144) kind.Many _ (λ few. then_not 14 kind.Many s fs refl c14 (few_commands s fs refl refl refl few)) (λ full_. (commands refl (ltb-false _ _ full_), c14)))))))))

prefetch_verdict : (s : Said) (a b c : List ℕ) → list_any is_empty (codes "prefetch" ∷ a ∷ b ∷ c ∷ []) ≡ false → Verdict s (codes "prefetch" ∷ a ∷ b ∷ c ∷ []) (read_prefetch s a b c)
unfolding read_prefetch
prefetch_verdict s a b c full =
    let fs : List (List ℕ) = codes "prefetch" ∷ a ∷ b ∷ c ∷ [] in
    let sorts : List Sort = a_name ∷ a_number 0 1099511627776 ∷ a_number 0 1099511627776 ∷ [] in
    let c4 = formed s fs sorts refl full refl (λ h. let e = h.0 in absurd (cc e)) refl (not_store_kind s fs refl) in
    refuse s fs (is_empty s.scripts) kind.Order _ (λ e. (early_command refl (empty_is s.scripts e), c4)) (λ begun.
    let c5 = then_not 4 kind.Order s fs refl c4 (well_placed s fs (λ h. absurd (cc h)) (λ _. not_empty s.scripts begun)) in
    refuse s fs (not (is_name a)) kind.Name _ (λ e. misspelt s fs sorts refl kind.Name c5 (omega arith) (λ h. h) (inl (no_test (is_name a) e, refl))) (λ named.
    value s fs kind.Number (number_of 0 1099511627776 b) _ (λ e. misspelt s fs sorts refl kind.Number c5 (omega arith) (λ h. h) (inr (not-false _ named, inl (no_number 0 1099511627776 b (omega arith) e, refl)))) (λ o off.
    let off_is = number_here 0 1099511627776 o b off in
    value s fs kind.Number (number_of 0 1099511627776 c) _ (λ e. misspelt s fs sorts refl kind.Number c5 (omega arith) (λ h. h) (inr (not-false _ named, inr ((o, off_is), inl (no_number 0 1099511627776 c (omega arith) e, refl))))) (λ n len.
    let len_is = number_here 0 1099511627776 n c len in
    let c10 = all_spelt s fs sorts refl c5 (not-false _ named, ((o, off_is), ((n, len_is), tt))) in
    value s fs kind.Unknown (region_by_name s a) _ (λ e. ((refl, e), c10)) (λ r known.
    let c12 = then_not 11 kind.Double s fs refl (then_not 10 kind.Unknown s fs refl c10 (known_region s fs r known)) (not_double s fs refl) in
    refuse s fs (not (nat_le (o + n) (size_at s.regions r))) kind.Range _ (λ e. (passes s fs r o n (record { region = known; from = off_is; length_is = inl (refl, len_is) }) e, c12)) (λ fits.
    let same = λ (m : ℕ) (is : IsNumber 0 1099511627776 c m). same_number c m n is.spelt len_is.spelt (let x = is.most_is in omega (arith, x)) (let x = len_is.most_is in omega (arith, x)) in
    let c14 = then_not 13 kind.ReadOnly s fs refl (then_not 12 kind.Range s fs refl c12 (inside s fs r o n known off_is (λ m _ is. same m is) (λ bytes e h. absurd (cc e)) (leb-true _ _ (not-false _ fits)))) (not_read_only s fs refl) in
    accept s fs (nat_lt s.commands 262144) kind.Many _ (λ few. then_not 14 kind.Many s fs refl c14 (few_commands s fs refl refl refl few)) (λ full_. (commands refl (ltb-false _ _ full_), c14))))))))

flush_verdict : (s : Said) → Verdict s (codes "flush" ∷ []) (read_flush s)
unfolding read_flush
flush_verdict s =
    let fs : List (List ℕ) = codes "flush" ∷ [] in
    let c4 = formed s fs [] refl refl refl (λ h. let e = h.0 in absurd (cc e)) refl (not_store_kind s fs refl) in
    refuse s fs (is_empty s.scripts) kind.Order _ (λ e. (early_command refl (empty_is s.scripts e), c4)) (λ begun.
    let c5 = then_not 4 kind.Order s fs refl c4 (well_placed s fs (λ h. absurd (cc h)) (λ _. not_empty s.scripts begun)) in
    let c10 = all_spelt s fs [] refl c5 tt in
    let c12 = then_not 11 kind.Double s fs refl (then_not 10 kind.Unknown s fs refl c10 (not_unknown s fs refl)) (not_double s fs refl) in
    let c14 = then_not 13 kind.ReadOnly s fs refl (then_not 12 kind.Range s fs refl c12 (not_range s fs refl refl)) (not_read_only s fs refl) in
    accept s fs (nat_lt s.commands 262144) kind.Many _ (λ few. then_not 14 kind.Many s fs refl c14 (few_commands s fs refl refl refl few)) (λ full_. (commands refl (ltb-false _ _ full_), c14)))

unmap_verdict : (s : Said) (a : List ℕ) → list_any is_empty (codes "unmap" ∷ a ∷ []) ≡ false → Verdict s (codes "unmap" ∷ a ∷ []) (read_unmap s a)
unfolding read_unmap
unmap_verdict s a full =
    let fs : List (List ℕ) = codes "unmap" ∷ a ∷ [] in
    let sorts : List Sort = a_name ∷ [] in
    let c4 = formed s fs sorts refl full refl (λ h. let e = h.0 in absurd (cc e)) refl (not_store_kind s fs refl) in
    refuse s fs (is_empty s.scripts) kind.Order _ (λ e. (early_command refl (empty_is s.scripts e), c4)) (λ begun.
    let c5 = then_not 4 kind.Order s fs refl c4 (well_placed s fs (λ h. absurd (cc h)) (λ _. not_empty s.scripts begun)) in
    refuse s fs (not (is_name a)) kind.Name _ (λ e. misspelt s fs sorts refl kind.Name c5 (omega arith) (λ h. h) (inl (no_test (is_name a) e, refl))) (λ named.
    let c10 = all_spelt s fs sorts refl c5 (not-false _ named, tt) in
    value s fs kind.Unknown (region_by_name s a) _ (λ e. ((refl, e), c10)) (λ r known.
    let c12 = then_not 11 kind.Double s fs refl (then_not 10 kind.Unknown s fs refl c10 (known_region s fs r known)) (not_double s fs refl) in
    let c14 = then_not 13 kind.ReadOnly s fs refl (then_not 12 kind.Range s fs refl c12 (not_range s fs refl refl)) (not_read_only s fs refl) in
    accept s fs (nat_lt s.commands 262144) kind.Many _ (λ few. then_not 14 kind.Many s fs refl c14 (few_commands s fs refl refl refl few)) (λ full_. (commands refl (ltb-false _ _ full_), c14)))))

script_verdict : (s : Said) (a : List ℕ) → list_any is_empty (codes "script" ∷ a ∷ []) ≡ false → Verdict s (codes "script" ∷ a ∷ []) (read_script s a)
unfolding read_script
script_verdict s a full =
    let fs : List (List ℕ) = codes "script" ∷ a ∷ [] in
    let sorts : List Sort = a_name ∷ [] in
    let c4 = formed s fs sorts refl full refl (λ h. let e = h.0 in absurd (cc e)) refl (not_store_kind s fs refl) in
    let c5 = then_not 4 kind.Order s fs refl c4 (well_placed s fs (λ h. absurd (cc h)) (λ h. absurd (cc h))) in
    refuse s fs (not (is_name a)) kind.Name _ (λ e. misspelt s fs sorts refl kind.Name c5 (omega arith) (λ h. h) (inl (no_test (is_name a) e, refl))) (λ named.
    let c10 = all_spelt s fs sorts refl c5 (not-false _ named, tt) in
    let c11 = then_not 10 kind.Unknown s fs refl c10 (not_unknown s fs refl) in
    refuse s fs (list_any (bytes_eq a) s.scripts) kind.Double _ (λ e. ((refl, among a s.scripts e), c11)) (λ fresh.
    let c12 = then_not 11 kind.Double s fs refl c11 (λ h. not_among a s.scripts fresh h.1) in
    let c14 = then_not 13 kind.ReadOnly s fs refl (then_not 12 kind.Range s fs refl c12 (not_range s fs refl refl)) (not_read_only s fs refl) in
    accept s fs (nat_lt (length s.scripts) 64) kind.Many _ (λ few. then_not 14 kind.Many s fs refl c14 (λ h. elim h [
      | regions m n ↦ absurd (cc m)
      | scripts m n ↦ (let f = ltb-true _ _ few in omega (arith, n, f))
      | commands m n ↦ absurd (cc m)
      | loads m n is past ↦ absurd (cc m)
    ])) (λ full_. (scripts refl (ltb-false _ _ full_), c14))))

-- ---- regions

-- behind the spelling, a region is one too many or is taken
region_verdict : (s : Said) (fs : List (List ℕ)) (l : Line) → is_map fs ≡ true → names_region fs ≡ false → is_command fs ≡ false → begins_with (codes "script") fs ≡ false → begins_with (codes "load") fs ≡ false → begins_with (codes "store") fs ≡ false → names_length fs ≡ false
    → Clear 10 s fs → Verdict s fs (as_region s l)
region_verdict s fs l map_ no_region no_command no_script no_load no_store no_length c10 =
    let c12 = then_not 11 kind.Double s fs refl (then_not 10 kind.Unknown s fs refl c10 (not_unknown s fs no_region)) (not_double s fs no_script) in
    let c14 = then_not 13 kind.ReadOnly s fs refl (then_not 12 kind.Range s fs refl c12 (not_range s fs no_length no_store)) (not_read_only s fs no_store) in
    accept s fs (nat_lt (length s.regions) 64) kind.Many (Ok l) (λ few. then_not 14 kind.Many s fs refl c14 (λ h. elim h [
      | regions m n ↦ (let f = ltb-true _ _ few in omega (arith, n, f))
      | scripts m n ↦ both_ways _ no_script m
      | commands m n ↦ both_ways _ no_command m
      | loads m n is past ↦ both_ways _ no_load m
    ])) (λ full_. (regions map_ (ltb-false _ _ full_), c14))

-- so many fields are read as a region in memory, in a file, in files of a folder
memory_verdict : (s : Said) (a size mode : List ℕ) → list_any is_empty (codes "map" ∷ a ∷ codes "memory" ∷ size ∷ mode ∷ []) ≡ false → Verdict s (codes "map" ∷ a ∷ codes "memory" ∷ size ∷ mode ∷ []) (read_memory s a size mode)
unfolding read_memory
memory_verdict s a size mode full =
    let fs : List (List ℕ) = codes "map" ∷ a ∷ codes "memory" ∷ size ∷ mode ∷ [] in
    let sorts : List Sort = a_name ∷ a_store ∷ a_number 1 16777216 ∷ a_mode ∷ [] in
    let c4 = formed s fs sorts refl full refl (λ h. let e = h.1 in omega (arith, e)) refl (known_store s fs refl) in
    refuse s fs (not (is_empty s.scripts)) kind.Order _ (λ e. (late_map refl (not_empty s.scripts (not-true _ e)), c4)) (λ above.
    let c5 = then_not 4 kind.Order s fs refl c4 (well_placed s fs (λ _. empty_is s.scripts (not-false _ above)) (λ h. absurd (cc h))) in
    refuse s fs (not (is_name a)) kind.Name _ (λ e. misspelt s fs sorts refl kind.Name c5 (omega arith) (λ h. h) (inl (no_test (is_name a) e, refl))) (λ named.
    value s fs kind.Number (number_of 1 16777216 size) _ (λ e. misspelt s fs sorts refl kind.Number c5 (omega arith) (λ h. h) (inr (not-false _ named, inr (refl, inl (no_number 1 16777216 size (omega arith) e, refl))))) (λ n number.
    let number_is = number_here 1 16777216 n size number in
    value s fs kind.Mode (mode_of mode) _ (λ e. misspelt s fs sorts refl kind.Mode c5 (omega arith) (λ h. h) (inr (not-false _ named, inr (refl, inr ((n, number_is), inl (no_mode mode e, refl)))))) (λ w writable.
    region_verdict s fs _ refl refl refl refl refl refl refl (all_spelt s fs sorts refl c5 (not-false _ named, (refl, ((n, number_is), ((w, mode_of-Some mode w writable), tt)))))))))

file_verdict : (s : Said) (a path size mode : List ℕ) → list_any is_empty (codes "map" ∷ a ∷ codes "file" ∷ path ∷ size ∷ mode ∷ []) ≡ false → Verdict s (codes "map" ∷ a ∷ codes "file" ∷ path ∷ size ∷ mode ∷ []) (read_file s a path size mode)
unfolding read_file
file_verdict s a path size mode full =
    let fs : List (List ℕ) = codes "map" ∷ a ∷ codes "file" ∷ path ∷ size ∷ mode ∷ [] in
    let sorts : List Sort = a_name ∷ a_store ∷ a_path ∷ a_number 1 1099511627776 ∷ a_mode ∷ [] in
    let c4 = formed s fs sorts refl full refl (λ h. let e = h.1 in omega (arith, e)) refl (known_store s fs refl) in
    refuse s fs (not (is_empty s.scripts)) kind.Order _ (λ e. (late_map refl (not_empty s.scripts (not-true _ e)), c4)) (λ above.
    let c5 = then_not 4 kind.Order s fs refl c4 (well_placed s fs (λ _. empty_is s.scripts (not-false _ above)) (λ h. absurd (cc h))) in
    refuse s fs (not (is_name a)) kind.Name _ (λ e. misspelt s fs sorts refl kind.Name c5 (omega arith) (λ h. h) (inl (no_test (is_name a) e, refl))) (λ named.
    refuse s fs (not (is_path path)) kind.Path _ (λ e. misspelt s fs sorts refl kind.Path c5 (omega arith) (λ h. h) (inr (not-false _ named, inr (refl, inl (no_test (is_path path) e, refl))))) (λ path_is.
    value s fs kind.Number (number_of 1 1099511627776 size) _ (λ e. misspelt s fs sorts refl kind.Number c5 (omega arith) (λ h. h) (inr (not-false _ named, inr (refl, inr (not-false _ path_is, inl (no_number 1 1099511627776 size (omega arith) e, refl)))))) (λ n number.
    let number_is = number_here 1 1099511627776 n size number in
    value s fs kind.Mode (mode_of mode) _ (λ e. misspelt s fs sorts refl kind.Mode c5 (omega arith) (λ h. h) (inr (not-false _ named, inr (refl, inr (not-false _ path_is, inr ((n, number_is), inl (no_mode mode e, refl))))))) (λ w writable.
    region_verdict s fs _ refl refl refl refl refl refl refl (all_spelt s fs sorts refl c5 (not-false _ named, (refl, (not-false _ path_is, ((n, number_is), ((w, mode_of-Some mode w writable), tt)))))))))))

sparse_verdict : (s : Said) (a path size file mode : List ℕ) → list_any is_empty (codes "map" ∷ a ∷ codes "sparse" ∷ path ∷ size ∷ file ∷ mode ∷ []) ≡ false → Verdict s (codes "map" ∷ a ∷ codes "sparse" ∷ path ∷ size ∷ file ∷ mode ∷ []) (read_sparse s a path size file mode)
unfolding read_sparse
sparse_verdict s a path size file mode full =
    let fs : List (List ℕ) = codes "map" ∷ a ∷ codes "sparse" ∷ path ∷ size ∷ file ∷ mode ∷ [] in
    let sorts : List Sort = a_name ∷ a_store ∷ a_path ∷ a_number 1 1099511627776 ∷ a_number 1 1099511627776 ∷ a_mode ∷ [] in
    let c4 = formed s fs sorts refl full refl (λ h. let e = h.1 in omega (arith, e)) refl (known_store s fs refl) in
    refuse s fs (not (is_empty s.scripts)) kind.Order _ (λ e. (late_map refl (not_empty s.scripts (not-true _ e)), c4)) (λ above.
    let c5 = then_not 4 kind.Order s fs refl c4 (well_placed s fs (λ _. empty_is s.scripts (not-false _ above)) (λ h. absurd (cc h))) in
    refuse s fs (not (is_name a)) kind.Name _ (λ e. misspelt s fs sorts refl kind.Name c5 (omega arith) (λ h. h) (inl (no_test (is_name a) e, refl))) (λ named.
    refuse s fs (not (is_path path)) kind.Path _ (λ e. misspelt s fs sorts refl kind.Path c5 (omega arith) (λ h. h) (inr (not-false _ named, inr (refl, inl (no_test (is_path path) e, refl))))) (λ path_is.
    value s fs kind.Number (number_of 1 1099511627776 size) _ (λ e. misspelt s fs sorts refl kind.Number c5 (omega arith) (λ h. h) (inr (not-false _ named, inr (refl, inr (not-false _ path_is, inl (no_number 1 1099511627776 size (omega arith) e, refl)))))) (λ n number.
    let number_is = number_here 1 1099511627776 n size number in
    value s fs kind.Number (number_of 1 1099511627776 file) _ (λ e. misspelt s fs sorts refl kind.Number c5 (omega arith) (λ h. h) (inr (not-false _ named, inr (refl, inr (not-false _ path_is, inr ((n, number_is), inl (no_number 1 1099511627776 file (omega arith) e, refl))))))) (λ m length_of_file.
    let file_is = number_here 1 1099511627776 m file length_of_file in
    value s fs kind.Mode (mode_of mode) _ (λ e. misspelt s fs sorts refl kind.Mode c5 (omega arith) (λ h. h) (inr (not-false _ named, inr (refl, inr (not-false _ path_is, inr ((n, number_is), inr ((m, file_is), inl (no_mode mode e, refl)))))))) (λ w writable.
    region_verdict s fs _ refl refl refl refl refl refl refl (all_spelt s fs sorts refl c5 (not-false _ named, (refl, (not-false _ path_is, ((n, number_is), ((m, file_is), ((w, mode_of-Some mode w writable), tt)))))))))))))

-- ---- so many fields, none of them empty

or_nil : (b : Bool) → (b || false) ≡ b
or_nil true = refl
or_nil false = refl

formless : (s : Said) (fs : List (List ℕ)) → IsFormless fs → Verdict s fs (Err kind.Line)
formless s fs h = (h, clear_two s fs)

-- the fields are there, if none of them is empty
filled : {A : Type 0} (s : Said) (fs : List (List ℕ)) (e : Bool) (x : A) (f : A → Result Line TextKind) → list_any is_empty fs ≡ e → (list_any is_empty fs ≡ false → Verdict s fs (f x)) → Verdict s fs (or_refused kind.Line (cond e None (Some x)) >>= f)
filled s fs true x f is h = formless s fs (empty_field is)
filled s fs false x f is h = h is

one_verdict : (s : Said) (word : List ℕ) (read : List ℕ → Result Line TextKind) → is_empty word ≡ false → ((fs : List (List ℕ)) → length fs ≢ 1 → IsFormless (word ∷ fs)) → ((a : List ℕ) → list_any is_empty (word ∷ a ∷ []) ≡ false → Verdict s (word ∷ a ∷ []) (read a))
    → (fs : List (List ℕ)) → Verdict s (word ∷ fs) (or_refused kind.Line (one_of fs) >>= (λ a. read a))
one_verdict s word read full wrong here (a ∷ []) = filled s (word ∷ a ∷ []) (is_empty a) a _ (rw full (or_nil (is_empty a))) (here a)
one_verdict s word read full wrong here fs = formless s (word ∷ fs) (wrong fs (λ e. omega (arith, e)))

three_verdict : (s : Said) (word : List ℕ) (read : List ℕ → List ℕ → List ℕ → Result Line TextKind) → is_empty word ≡ false → ((fs : List (List ℕ)) → length fs ≢ 3 → IsFormless (word ∷ fs)) → ((a b c : List ℕ) → list_any is_empty (word ∷ a ∷ b ∷ c ∷ []) ≡ false → Verdict s (word ∷ a ∷ b ∷ c ∷ []) (read a b c))
    → (fs : List (List ℕ)) → Verdict s (word ∷ fs) (or_refused kind.Line (three_of fs) >>= (λ f. read f.0 f.1 f.2))
three_verdict s word read full wrong here (a ∷ b ∷ c ∷ []) =
    filled s (word ∷ a ∷ b ∷ c ∷ []) (is_empty a || (is_empty b || is_empty c)) (a, b, c) _ (rw full (ap (λ x. is_empty a || (is_empty b || x)) (or_nil (is_empty c)))) (here a b c)
three_verdict s word read full wrong here fs = formless s (word ∷ fs) (wrong fs (λ e. omega (arith, e)))

-- ---- `map`

map_two : (s : Said) (a : List ℕ) → is_empty a ≡ false → (fs : List (List ℕ)) → Verdict s (codes "map" ∷ a ∷ codes "memory" ∷ fs) (or_refused kind.Line (two_of fs) >>= (λ f. read_memory s a f.0 f.1))
map_two s a some (b ∷ c ∷ []) =
    filled s (codes "map" ∷ a ∷ codes "memory" ∷ b ∷ c ∷ []) (is_empty b || is_empty c) (b, c) _ (rw some (ap (λ x. is_empty b || x) (or_nil (is_empty c)))) (memory_verdict s a b c)
map_two s a some fs = formless s (codes "map" ∷ a ∷ codes "memory" ∷ fs) (other_number (λ e. omega (arith, e)))

map_three : (s : Said) (a : List ℕ) → is_empty a ≡ false → (fs : List (List ℕ)) → Verdict s (codes "map" ∷ a ∷ codes "file" ∷ fs) (or_refused kind.Line (three_of fs) >>= (λ f. read_file s a f.0 f.1 f.2))
map_three s a some (b ∷ c ∷ d ∷ []) =
    filled s (codes "map" ∷ a ∷ codes "file" ∷ b ∷ c ∷ d ∷ []) (is_empty b || (is_empty c || is_empty d)) (b, c, d) _ (rw some (ap (λ x. is_empty b || (is_empty c || x)) (or_nil (is_empty d)))) (file_verdict s a b c d)
map_three s a some fs = formless s (codes "map" ∷ a ∷ codes "file" ∷ fs) (other_number (λ e. omega (arith, e)))

map_four : (s : Said) (a : List ℕ) → is_empty a ≡ false → (fs : List (List ℕ)) → Verdict s (codes "map" ∷ a ∷ codes "sparse" ∷ fs) (or_refused kind.Line (four_of fs) >>= (λ f. read_sparse s a f.0 f.1 f.2 f.3))
map_four s a some (b ∷ c ∷ d ∷ g ∷ []) =
    filled s (codes "map" ∷ a ∷ codes "sparse" ∷ b ∷ c ∷ d ∷ g ∷ []) (is_empty b || (is_empty c || (is_empty d || is_empty g))) (b, c, d, g) _ (rw some (ap (λ x. is_empty b || (is_empty c || (is_empty d || x))) (or_nil (is_empty g)))) (sparse_verdict s a b c d g)
map_four s a some fs = formless s (codes "map" ∷ a ∷ codes "sparse" ∷ fs) (other_number (λ e. omega (arith, e)))

-- with a word that is a known one
with_word : (s : Said) (word known : List ℕ) (fs : List (List ℕ)) (p q : Result Line TextKind) → (word ≡ known → Verdict s (word ∷ fs) p) → (bytes_eq word known ≡ false → Verdict s (word ∷ fs) q) → Verdict s (word ∷ fs) (cond (bytes_eq word known) p q)
with_word s word known fs p q h g = choose s (word ∷ fs) (bytes_eq word known) p q (λ e. h ((bytes_eq-Decides word known).0 e)) g

map_verdict : (s : Said) (fs : List (List ℕ)) → Verdict s (codes "map" ∷ fs) (read_map s fs)
unfolding read_map
map_verdict s (a ∷ store ∷ fs) =
    let all : List (List ℕ) = codes "map" ∷ a ∷ store ∷ fs in
    refuse s all (is_empty a) kind.Line _ (λ e. formless s all (empty_field (rw e refl))) (λ some.
    choose s all (bytes_eq store (codes "memory")) _ _ (λ e. subst (λ (w : List ℕ). Verdict s (codes "map" ∷ a ∷ w ∷ fs) (or_refused kind.Line (two_of fs) >>= (λ f. read_memory s a f.0 f.1))) (sym ((bytes_eq-Decides store (codes "memory")).0 e)) (map_two s a some fs)) (λ n1.
    choose s all (bytes_eq store (codes "file")) _ _ (λ e. subst (λ (w : List ℕ). Verdict s (codes "map" ∷ a ∷ w ∷ fs) (or_refused kind.Line (three_of fs) >>= (λ f. read_file s a f.0 f.1 f.2))) (sym ((bytes_eq-Decides store (codes "file")).0 e)) (map_three s a some fs)) (λ n2.
    choose s all (bytes_eq store (codes "sparse")) _ _ (λ e. subst (λ (w : List ℕ). Verdict s (codes "map" ∷ a ∷ w ∷ fs) (or_refused kind.Line (four_of fs) >>= (λ f. read_sparse s a f.0 f.1 f.2 f.3))) (sym ((bytes_eq-Decides store (codes "sparse")).0 e)) (map_four s a some fs)) (λ n3.
    refuse s all (list_any is_empty (store ∷ fs)) kind.Line _ (λ e. formless s all (empty_field (rw some e))) (λ full.
    let no_form : sorts_by map_forms store ≡ None = rw (n1, n2, n3) refl in (
      (refl, omega arith, rw (n1, n2, n3) refl),
      then_not 2 kind.Line s all refl (clear_two s all) (λ h. elim h [
        | empty_field e ↦ (let f : list_any is_empty all ≡ false = rw some full in both_ways _ f e)
        | unknown_word e ↦ absurd (cc e)
        | short_map e l ↦ omega (arith, l)
        | other_number o ↦ subst (λ (x : Option (List Sort)). IsSomeAnd x (λ ts. length all ≢ length ts + 1)) no_form o
      ]),
    ))))))
map_verdict s fs = formless s (codes "map" ∷ fs) (short_map refl (omega arith))

-- ---- all words

moved : (s : Said) (word known : List ℕ) (fs : List (List ℕ)) (r : Result Line TextKind) → word ≡ known → Verdict s (known ∷ fs) r → Verdict s (word ∷ fs) r
moved s word known fs r e v = subst (λ (w : List ℕ). Verdict s (w ∷ fs) r) (sym e) v

word_verdict : (s : Said) (word : List ℕ) (fs : List (List ℕ)) → Verdict s (word ∷ fs) (read_word s word fs)
unfolding read_word
word_verdict s word fs =
    with_word s word (codes "load") fs _ _ (λ e. moved s word (codes "load") fs _ e (three_verdict s (codes "load") (read_load s) refl (λ gs wrong. other_number (λ n. wrong (omega (arith, n)))) (load_verdict s) fs)) (λ n1.
    with_word s word (codes "store") fs _ _ (λ e. moved s word (codes "store") fs _ e (three_verdict s (codes "store") (read_store s) refl (λ gs wrong. other_number (λ n. wrong (omega (arith, n)))) (store_verdict s) fs)) (λ n2.
    with_word s word (codes "prefetch") fs _ _ (λ e. moved s word (codes "prefetch") fs _ e (three_verdict s (codes "prefetch") (read_prefetch s) refl (λ gs wrong. other_number (λ n. wrong (omega (arith, n)))) (prefetch_verdict s) fs)) (λ n3.
    with_word s word (codes "script") fs _ _ (λ e. moved s word (codes "script") fs _ e (one_verdict s (codes "script") (read_script s) refl (λ gs wrong. other_number (λ n. wrong (omega (arith, n)))) (script_verdict s) fs)) (λ n4.
    with_word s word (codes "map") fs _ _ (λ e. moved s word (codes "map") fs _ e (map_verdict s fs)) (λ n5.
    with_word s word (codes "unmap") fs _ _ (λ e. moved s word (codes "unmap") fs _ e (one_verdict s (codes "unmap") (read_unmap s) refl (λ gs wrong. other_number (λ n. wrong (omega (arith, n)))) (unmap_verdict s) fs)) (λ n6.
    with_word s word (codes "flush") fs _ _ (λ e. moved s word (codes "flush") fs _ e (alone fs)) (λ n7.
    formless s (word ∷ fs) (unknown_word (rw (n1, n2, n3, n4, n5, n6, n7) refl)))))))))
  where
    alone : (gs : List (List ℕ)) → Verdict s (codes "flush" ∷ gs) (cond (is_empty gs) (read_flush s) (Err kind.Line))
    alone gs =
        accept s (codes "flush" ∷ gs) (is_empty gs) kind.Line (read_flush s) (λ e. subst (λ (x : List (List ℕ)). Verdict s (codes "flush" ∷ x) (read_flush s)) (sym (empty_is gs e)) (flush_verdict s)) (λ e.
        formless s (codes "flush" ∷ gs) (other_number (λ n. eqb-false (length gs) 0 e (omega (arith, n)))))

pub fields_verdict : (s : Said) (fs : List (List ℕ)) → Verdict s fs (read_fields s fs)
fields_verdict s [] = formless s [] (unknown_word refl)
fields_verdict s (word ∷ fs) = word_verdict s word fs
