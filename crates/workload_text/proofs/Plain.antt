-- No field has a space or a line feed in it, so joined fields and lines are found again.
use Rattle.std.proofs.Common.{◌≡◌, ◌≢◌, ℕ, ◌<◌, ◌+◌, ◌^◌, ◌%◌, Bool, true, false, ◌&&◌, inl, inr, not, nat_le, List, [], ◌∷◌, ◌++◌, length, codes, length-append, refl, ap, subst, ◌∙◌, arith}
use Rattle.std.specs.List.{All, list_all, join_with_byte, slice_split}
use Rattle.std.specs.Fmt.{decimal}
use Rattle.std.specs.Str.{bytes_eq}
use Rattle.std.proofs.lemmas.Bool.{and_parts, and_from, cases_Bool, and_cases, not-false, not-true, both_ways, eqb-true, le-leb, leb-true, ne_eqb}
use Rattle.std.proofs.lemmas.Fmt.{decimal_by_steps}
use Rattle.std.proofs.lemmas.List.Elements.{All-cons, All-nil, All-append, All-head, All-tail}
use Rattle.std.proofs.lemmas.List.Splits.{slice_split_at, slice_split_none, join_with_byte-slice_split, length-slice_split}
use Rattle.workload_text.specs.Grammar.{is_name, is_name_byte, is_path, is_path_byte, is_component, is_slash}
use Rattle.workload_text.specs.Reading.{is_space, is_line_feed}

-- neither a space nor a line feed
abbrev pub is_plain : ℕ → Bool
is_plain b = not (is_space b) && not (is_line_feed b)

abbrev pub Plain : List ℕ → Type 0
Plain field = list_all is_plain field ≡ true

abbrev pub AllPlain : List (List ℕ) → Type 0
AllPlain [] = Unit {0}
AllPlain (f ∷ fs) = Plain f × AllPlain fs

-- ---- what is plain

-- what passes a test that neither passes
plain_byte : (p : ℕ → Bool) → p 32 ≡ false → p 10 ≡ false → (c : ℕ) → p c ≡ true → is_plain c ≡ true
plain_byte p space feed c h =
    elim (cases_Bool (is_plain c)) [
      | inl yes' ↦ yes'
      | inr no' ↦ elim (and_cases (not (is_space c)) (not (is_line_feed c)) no') [
        | inl a ↦ absurd (both_ways (p c) (ap p (eqb-true c 32 (not-false (is_space c) a)) ∙ space) h)
        | inr b ↦ absurd (both_ways (p c) (ap p (eqb-true c 10 (not-false (is_line_feed c) b)) ∙ feed) h)
      ]
    ]

pub plain_field : (p : ℕ → Bool) → p 32 ≡ false → p 10 ≡ false → (f : List ℕ) → list_all p f ≡ true → Plain f
plain_field p space feed [] h = refl
plain_field p space feed (c ∷ f) h =
    let q = and_parts (p c) (list_all p f) h in
    and_from _ _ (plain_byte p space feed c q.0) (plain_field p space feed f q.1)

pub plain_name : (name : List ℕ) → is_name name ≡ true → Plain name
plain_name name h =
    let p = and_parts (nat_le 1 (length name)) (nat_le (length name) 32 && list_all is_name_byte name) h in
    let q = and_parts (nat_le (length name) 32) (list_all is_name_byte name) p.1 in
    plain_field is_name_byte refl refl name q.1

list_all-append : (p : ℕ → Bool) (a b : List ℕ) → list_all p a ≡ true → list_all p b ≡ true → list_all p (a ++ b) ≡ true
list_all-append p [] b h k = k
list_all-append p (x ∷ a) b h k = let q = and_parts (p x) (list_all p a) h in and_from _ _ q.0 (list_all-append p a b q.1 k)

is_digit : ℕ → Bool
is_digit c = nat_le 48 c && nat_le c 57

digit_is : (d : ℕ) → d < 10 → is_digit (48 + d) ≡ true
unfolding is_digit
digit_is d small = and_from _ _ (le-leb 48 (48 + d) (omega arith)) (le-leb (48 + d) 57 (omega arith))

pub plain_decimal : (n : ℕ) → n < 2 ^ 64 → Plain (decimal n)
unfolding is_digit
plain_decimal n small =
    plain_field is_digit refl refl (decimal n) (decimal_by_steps (λ m ds. list_all is_digit ds ≡ true)
    (λ m one. and_from _ _ (digit_is m one) refl)
    (λ m ds more h. list_all-append is_digit ds ((48 + m % 10) ∷ []) h (and_from _ _ (digit_is (m % 10) (omega arith)) refl))
    n small)

-- ---- what is found again

plain_spaces : (f : List ℕ) → Plain f → All (λ b. is_space b ≡ false) f
plain_spaces [] h = All-nil (λ b. is_space b ≡ false)
plain_spaces (c ∷ f) h =
    let p = and_parts (is_plain c) (list_all is_plain f) h in
    let q = and_parts (not (is_space c)) (not (is_line_feed c)) p.0 in
    All-cons (λ b. is_space b ≡ false) c f (not-true (is_space c) q.0) (plain_spaces f p.1)

plain_feeds : (f : List ℕ) → Plain f → All (λ b. is_line_feed b ≡ false) f
plain_feeds [] h = All-nil (λ b. is_line_feed b ≡ false)
plain_feeds (c ∷ f) h =
    let p = and_parts (is_plain c) (list_all is_plain f) h in
    let q = and_parts (not (is_space c)) (not (is_line_feed c)) p.0 in
    All-cons (λ b. is_line_feed b ≡ false) c f (not-true (is_line_feed c) q.1) (plain_feeds f p.1)

-- joined fields are cut into the same fields
pub slice_split-fields : (f : List ℕ) (fs : List (List ℕ)) → AllPlain (f ∷ fs) → slice_split is_space (join_with_byte 32 (f ∷ fs)) ≡ f ∷ fs
slice_split-fields f [] h = slice_split_none is_space f (plain_spaces f h.0)
slice_split-fields f (g ∷ fs) h =
    slice_split_at is_space f 32 (join_with_byte 32 (g ∷ fs)) (plain_spaces f h.0) refl
    ∙ ap (λ t. f ∷ t) (slice_split-fields g fs h.1)

line_feeds : (fs : List (List ℕ)) → AllPlain fs → All (λ b. is_line_feed b ≡ false) (join_with_byte 32 fs)
line_feeds [] h = All-nil (λ b. is_line_feed b ≡ false)
line_feeds (f ∷ []) h = plain_feeds f h.0
line_feeds (f ∷ g ∷ fs) h =
    All-append (λ b. is_line_feed b ≡ false) f (32 ∷ join_with_byte 32 (g ∷ fs)) (plain_feeds f h.0)
    (All-cons (λ b. is_line_feed b ≡ false) 32 (join_with_byte 32 (g ∷ fs)) refl (line_feeds (g ∷ fs) h.1))

-- a line ends at its own line feed
pub slice_split-line : (fs : List (List ℕ)) (behind : List ℕ) → AllPlain fs → slice_split is_line_feed (join_with_byte 32 fs ++ 10 ∷ behind) ≡ join_with_byte 32 fs ∷ slice_split is_line_feed behind
slice_split-line fs behind h = slice_split_at is_line_feed (join_with_byte 32 fs) 10 behind (line_feeds fs h) refl

-- and so does a line that says nothing
no_feeds : (text : List ℕ) → All (λ b. b ≢ 10) text → All (λ b. is_line_feed b ≡ false) text
no_feeds [] h = All-nil (λ b. is_line_feed b ≡ false)
no_feeds (c ∷ text) h =
    All-cons (λ b. is_line_feed b ≡ false) c text (ne_eqb c 10 (All-head (λ b. b ≢ 10) c text h)) (no_feeds text (All-tail (λ b. b ≢ 10) c text h))

pub slice_split-silent : (text behind : List ℕ) → All (λ b. b ≢ 10) text → slice_split is_line_feed (text ++ 10 ∷ behind) ≡ text ∷ slice_split is_line_feed behind
slice_split-silent text behind h = slice_split_at is_line_feed text 10 behind (no_feeds text h) refl

-- ---- paths

plain_component : (c : List ℕ) → is_component c ≡ true → list_all is_path_byte c ≡ true
plain_component c h =
    let p = and_parts (nat_le 1 (length c)) (list_all is_path_byte c && (not (bytes_eq c (codes ".")) && not (bytes_eq c (codes "..")))) h in
    (and_parts (list_all is_path_byte c) (not (bytes_eq c (codes ".")) && not (bytes_eq c (codes ".."))) p.1).0

joined_plain : (parts : List (List ℕ)) → list_all is_component parts ≡ true → Plain (join_with_byte 47 parts)
joined_plain [] h = refl
joined_plain (c ∷ []) h = plain_field is_path_byte refl refl c (plain_component c (and_parts (is_component c) true h).0)
joined_plain (c ∷ d ∷ parts) h =
    let p = and_parts (is_component c) (list_all is_component (d ∷ parts)) h in
    list_all-append is_plain c (47 ∷ join_with_byte 47 (d ∷ parts)) (plain_field is_path_byte refl refl c (plain_component c p.0)) (and_from _ _ refl (joined_plain (d ∷ parts) p.1))

pub plain_path : (path : List ℕ) → is_path path ≡ true → Plain path
plain_path path h =
    let p = and_parts (nat_le (length path) 255) (list_all is_component (slice_split is_slash path)) h in
    subst Plain (join_with_byte-slice_split 47 path) (joined_plain (slice_split is_slash path) p.1)

first_component : (parts : List (List ℕ)) → list_all is_component parts ≡ true → 0 < length parts → 0 < length (join_with_byte 47 parts)
first_component [] h some = absurd (omega arith)
first_component (c ∷ []) h some =
    leb-true 1 (length c) (and_parts (nat_le 1 (length c)) (list_all is_path_byte c && (not (bytes_eq c (codes ".")) && not (bytes_eq c (codes "..")))) (and_parts (is_component c) true h).0).0
first_component (c ∷ d ∷ parts) h some = omega (arith, length-append c (47 ∷ join_with_byte 47 (d ∷ parts)))

-- a path has a byte
pub path_some : (path : List ℕ) → is_path path ≡ true → 0 < length path
path_some path h =
    let p = and_parts (nat_le (length path) 255) (list_all is_component (slice_split is_slash path)) h in
    let some : 0 < length (slice_split is_slash path) = omega (arith, length-slice_split is_slash path) in
    let first = first_component (slice_split is_slash path) p.1 some in
    omega (arith, first, ap (length {A = ℕ}) (join_with_byte-slice_split 47 path))
