-- What a word is, to the definition and to clap.
use Rattle.std.proofs.Common.{◌≡◌, ◌∙◌, inl, inr, arith, ℕ, ◌+◌, ◌-◌, ◌&&◌, ◌||◌, ◌==◌, Bool, cond, not, true, false, refl, sym, ap, ap₂, List, [], ◌∷◌, map, length, codes, Option, Some, None, is_some, option_map, true≢false}
use Rattle.std.specs.Prelude.{find, option_and_then}
use Rattle.std.specs.Str.{bytes_eq}
use Rattle.std.specs.Prelude.{slice_index, nat_lt}
use Rattle.std.proofs.lemmas.Bool.{cases_Bool, lt-ltb, le-ltb}
use Rattle.std.proofs.lemmas.Slice.Eq.{bytes_eq-Decides}
use Rattle.clap.specs.Lexer.{long_of, long_of_rest, name_and_value, short_of, short_of_rest, strip_byte}
use Rattle.clap.specs.Walk.{Rule, arg_by_id, arg_by_index, arg_by_long}
use Rattle.clap.specs.Simple.{new_rule}
use Rattle.clap.specs.declared.builder.action.ArgAction.TheVariants.{Set, SetTrue}
use Rattle.clap.specs.declared.builder.value_parser.ValueParser.TheVariants as vp
use Rattle.call_words.specs.Uses.{Text, Named, behind_hyphen, behind_two, some_text, use_of, is_barred, sort_of}

-- the word is `--`, or begins with a hyphen and not with two
abbrev pub is_stray : Text → Bool
is_stray word = is_some (behind_hyphen word) && not (is_some (behind_two word))

pub strips : (w : Text) → behind_hyphen w ≡ strip_byte 45 w
strips [] = refl
strips (x ∷ xs) = refl

strips_twice : (o : Option Text) → option_and_then behind_hyphen o ≡ option_and_then (strip_byte 45) o
strips_twice None = refl
strips_twice (Some w) = strips w

cuts : (o : Option Text) → option_map name_and_value (option_and_then some_text o) ≡ option_and_then long_of_rest o
cuts None = refl
cuts (Some []) = refl
cuts (Some (x ∷ xs)) = refl

pub use_is_long : (w : Text) → use_of w ≡ long_of w
use_is_long w =
    ap (λ o. option_map name_and_value (option_and_then some_text (option_and_then behind_hyphen o))) (strips w)
    ∙ (ap (λ o. option_map name_and_value (option_and_then some_text o)) (strips_twice (strip_byte 45 w))
    ∙ cuts (option_and_then (strip_byte 45) (strip_byte 45 w)))

abbrev pub dashes : Text
dashes = 45 ∷ 45 ∷ []

-- a use isn't the word `--`
pub use_no_dashes : (w : Text) (p : Text × Option Text) → use_of w ≡ Some p → bytes_eq w dashes ≡ false
use_no_dashes w p h =
    elim (cases_Bool (bytes_eq w dashes)) [
      | inl t ↦ let same : w ≡ dashes = (bytes_eq-Decides w dashes).0 t in
          let bad : None ≡ Some p = ap use_of (sym same) ∙ h in absurd (cc bad)
      | inr f ↦ f
    ]

-- a use begins with a hyphen
pub use_hyphen : (w : Text) (p : Text × Option Text) → use_of w ≡ Some p → is_some (behind_hyphen w) ≡ true
use_hyphen w p h = go (behind_hyphen w) h
  where
    go : (o : Option Text) → option_map name_and_value (option_and_then some_text (option_and_then behind_hyphen o)) ≡ Some p → is_some o ≡ true
    go None e = absurd (cc e)
    go (Some x) e = refl

-- a word that is no use and isn't stray has no hyphen
pub plain_word_is : (w : Text) → use_of w ≡ None → is_stray w ≡ false → behind_hyphen w ≡ None
plain_word_is w h s = go (behind_hyphen w) (behind_two w) h s
  where
    go : (o two : Option Text) → option_map name_and_value two ≡ None → (is_some o && not (is_some two)) ≡ false → o ≡ None
    go None two e f = refl
    go (Some x) None e f = absurd (true≢false f)
    go (Some x) (Some y) e f = absurd (cc e)

pub plain_no_dashes : (w : Text) → behind_hyphen w ≡ None → bytes_eq w dashes ≡ false
plain_no_dashes w h =
    elim (cases_Bool (bytes_eq w dashes)) [
      | inl t ↦ let same : w ≡ dashes = (bytes_eq-Decides w dashes).0 t in
          let bad : Some (45 ∷ []) ≡ None = ap behind_hyphen (sym same) ∙ h in absurd (cc bad)
      | inr f ↦ f
    ]

pub plain_not_short : (w : Text) → behind_hyphen w ≡ None → short_of w ≡ None
plain_not_short w h = ap (option_and_then short_of_rest) (sym (strips w) ∙ h)

-- ---- arguments by name

-- an option or a flag, as a command has it once it is built
abbrev pub named_rule : Text → Bool → Rule
named_rule name takes = record (new_rule name) {
  long = Some name;
  action = Some (cond takes Set SetTrue);
  range = Some (record { start_inclusive = cond takes 1 0; end_inclusive = cond takes 1 0 });
  defaults = cond takes [] (codes "false" ∷ []);
  missing = cond takes [] (codes "true" ∷ []);
  parser = Some (cond takes vp.String vp.Bool);
}

abbrev pub rule : Named → Rule
rule n = named_rule n.name n.takes_value

named_as : (n : Named) (name : Text) → bytes_eq n.name name ≡ true → Some (rule n) ≡ Some (named_rule name n.takes_value)
named_as n name t = ap (λ x. Some (named_rule x n.takes_value)) ((bytes_eq-Decides n.name name).0 t)

pub by_long : (names : List Named) (name : Text) → arg_by_long (map rule names) name ≡ option_map (named_rule name) (sort_of names name)
by_long [] name = refl
by_long (n ∷ ns) name = go (by_long ns name) (bytes_eq n.name name) refl
  where
    go : (arg_by_long (map rule ns) name ≡ option_map (named_rule name) (sort_of ns name)) → (b : Bool) → bytes_eq n.name name ≡ b → cond (b || false) (Some (rule n)) (arg_by_long (map rule ns) name)
        ≡ option_map (named_rule name) (option_map (λ m. m.takes_value) (cond b (Some n) (find (λ m. bytes_eq m.name name) ns)))
    go behind true e = named_as n name e
    go behind false e = behind

pub by_id : (names : List Named) (name : Text) → arg_by_id (map rule names) name ≡ option_map (named_rule name) (sort_of names name)
by_id [] name = refl
by_id (n ∷ ns) name = go (by_id ns name) (bytes_eq n.name name) refl
  where
    go : (arg_by_id (map rule ns) name ≡ option_map (named_rule name) (sort_of ns name)) → (b : Bool) → bytes_eq n.name name ≡ b → cond b (Some (rule n)) (arg_by_id (map rule ns) name)
        ≡ option_map (named_rule name) (option_map (λ m. m.takes_value) (cond b (Some n) (find (λ m. bytes_eq m.name name) ns)))
    go behind true e = named_as n name e
    go behind false e = behind

pub by_index : (names : List Named) (i : ℕ) → arg_by_index (map rule names) i ≡ None
by_index [] i = refl
by_index (n ∷ ns) i = by_index ns i

-- ---- words that are barred

or_first : (a b : Bool) → (a || b) ≡ false → a ≡ false
or_first true b h = absurd (true≢false h)
or_first false b h = refl

some_at : (a : ℕ) (rest : Text) → (a == 45) ≡ false → is_some (behind_hyphen (a ∷ rest)) ≡ false
some_at a rest h = ap (λ x. is_some (cond x (Some rest) None)) h

no_start : (w : Text) → is_some (behind_hyphen w) ≡ false → is_stray w ≡ false
no_start w h = ap (λ x. x && not (is_some (behind_two w))) h

two_there : (a b c : ℕ) (r : Text) → (a == 45) ≡ true → (b == 45) ≡ true → behind_two (a ∷ b ∷ c ∷ r) ≡ Some (c ∷ r)
two_there a b c r p q =
    ap (λ x. option_and_then some_text (option_and_then behind_hyphen (cond x (Some (b ∷ c ∷ r)) None))) p
    ∙ ap (λ x. option_and_then some_text (cond x (Some (c ∷ r)) None)) q

and_true_false : (a : Bool) → (a && true) ≡ false → a ≡ false
and_true_false true h = absurd (true≢false h)
and_true_false false h = refl

first_of_two : (a b : Bool) → (a && not b) ≡ false → a ≡ true → b ≡ true
first_of_two true true h e = refl
first_of_two true false h e = absurd (true≢false h)
first_of_two false b h e = absurd (true≢false (sym e))

long_start : (a b : Bool) (n : ℕ) (e : Bool) → (nat_lt 0 (n + 3) && ((a && (nat_lt (n + 3) 3 || not b)) || e)) ≡ false → (a && not b) ≡ false
long_start a b n e h =
    let some = lt-ltb 0 (n + 3) (omega arith) in
    let few = le-ltb (n + 3) 3 (omega arith) in
    or_first (a && not b) e (ap₂ (λ x y. x && ((a && (y || not b)) || e)) (sym some) (sym few) ∙ h)

pub barred_stray : (w : Text) → is_barred w ≡ false → is_stray w ≡ false
barred_stray [] h = refl
barred_stray (a ∷ []) h = no_start (a ∷ []) (some_at a [] (and_true_false (a == 45) (or_first ((a == 45) && true) (a == 61) h)))
barred_stray (a ∷ b ∷ []) h = no_start (a ∷ b ∷ []) (some_at a (b ∷ []) (and_true_false (a == 45) (or_first ((a == 45) && true) (b == 61) h)))
barred_stray (a ∷ b ∷ c ∷ r) h =
    let n : length (a ∷ b ∷ c ∷ r) ≡ length r + 3 = omega arith in
    let start = long_start (a == 45) (b == 45) (length r) (slice_index (a ∷ b ∷ c ∷ r) (length (a ∷ b ∷ c ∷ r) - 1) == 61)
    (ap (λ k. nat_lt 0 k && (((a == 45) && (nat_lt k 3 || not (b == 45))) || (slice_index (a ∷ b ∷ c ∷ r) (length (a ∷ b ∷ c ∷ r) - 1) == 61))) (sym n) ∙ h) in
    elim (cases_Bool (a == 45)) [
      | inl t ↦ ap (λ o. is_some (behind_hyphen (a ∷ b ∷ c ∷ r)) && not (is_some o)) (two_there a b c r t (first_of_two (a == 45) (b == 45) start t)) ∙ no_both (is_some (behind_hyphen (a ∷ b ∷ c ∷ r)))
      | inr f ↦ no_start (a ∷ b ∷ c ∷ r) (some_at a (b ∷ c ∷ r) f)
    ]
  where
    no_both : (x : Bool) → (x && false) ≡ false
    no_both true = refl
    no_both false = refl
