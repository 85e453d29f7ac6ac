-- What clap's walk finds for a name, where it takes the words.
use Rattle.std.proofs.Common.{◌≡◌, ◌∙◌, ◌&&◌, ◌||◌, Bool, cond, not, true, false, refl, sym, ap, List, [], ◌∷◌, ◌++◌, map, codes, Option, Some, None, is_some, option_map, true≢false}
use Rattle.std.specs.Prelude.{find, fold, option_and_then, nat_lt, slice_get}
use Rattle.std.specs.Option.{option_or}
use Rattle.std.specs.Str.{bytes_eq}
use Rattle.std.proofs.lemmas.Bool.{and_parts}
use Rattle.std.proofs.lemmas.List.Folds.{find-append}
use Rattle.std.proofs.lemmas.Slice.Eq.{bytes_eq-Decides}
use Rattle.clap.specs.Lexer.{long_of}
use Rattle.clap.specs.Walk.{Held, Row, Rule, Waiting, Walk, idle, option, after_flag, after_step, all_of, first_of, has_row, long_met, more_values, option_word, reading_by, settled, short_or_plain, used, values_or_missing, walked, with_default, with_values, without}
use Rattle.clap.specs.declared.builder.value_parser.Reading.{Reading}
use Rattle.clap.specs.declared.parser.matches.ValueSource.{ValueSource}
use Rattle.clap.specs.declared.parser.matches.ValueSource.TheVariants.{CommandLine, DefaultValue}
use Rattle.call_words.specs.Uses.{Text, Named, behind_hyphen, is_among, sort_of, takes_use, takes_word, takes_words, use_of, value_by, value_in, value_use, value_word}
use Rattle.call_words.proofs.Words.{is_stray, by_long, dashes, named_rule, plain_no_dashes, plain_not_short, plain_word_is, rule, use_hyphen, use_is_long, use_no_dashes}
use Rattle.call_words.proofs.Walks.{Agree, IsOption, NoStray, agree_more, asks, at, at_none, holds, met, not_true, option_there, rows_behind, rules, settled_is, without_none}

abbrev Found : Type 0
Found = Option (List Text)

abbrev pub single : Option Text → Found
single o = option_map (λ v. v ∷ []) o

abbrev by_name : Bool → List Text → Found
by_name same vs = cond same (Some vs) None

or_none : (a : Found) → option_or a None ≡ a
or_none None = refl
or_none (Some x) = refl

or_assoc : (a b c : Found) → option_or (option_or a b) c ≡ option_or a (option_or b c)
or_assoc None b c = refl
or_assoc (Some x) b c = refl

map_or : (a b : Option Row) → option_map (λ (r : Row). r.values) (option_or a b) ≡ option_or (option_map (λ (r : Row). r.values) a) (option_map (λ (r : Row). r.values) b)
map_or None b = refl
map_or (Some x) b = refl

one_more : (same : Bool) (r : Row) → option_map (λ (x : Row). x.values) (cond same (Some r) None) ≡ by_name same r.values
one_more true r = refl
one_more false r = refl

all_last : (rows : List Row) (r : Row) (name : Text) → all_of name (rows ++ r ∷ []) ≡ option_or (all_of name rows) (by_name (bytes_eq r.id name) r.values)
all_last rows r name =
    ap (option_map (λ (x : Row). x.values)) (find-append (λ (x : Row). bytes_eq x.id name) rows (r ∷ []))
    ∙ (map_or (find (λ (x : Row). bytes_eq x.id name) rows) (cond (bytes_eq r.id name) (Some r) None)
    ∙ ap (option_or (all_of name rows)) (one_more (bytes_eq r.id name) r))

all_added : (id : Text) (how : Reading) (source : ValueSource) (vs : List Text) (rows : List Row) (name : Text) → has_row id rows ≡ false
    → all_of name (with_values id how source vs (without id rows)) ≡ option_or (all_of name rows) (by_name (bytes_eq id name) vs)
all_added id how source vs rows name h =
    let new : Row = record { id = id; values = vs; count = None; source = Some source; reading = how } in
    ap (λ (rs : List Row). all_of name (with_values id how source vs rs)) (without_none id rows h)
    ∙ (ap (all_of name) (at_none id (more_values source vs) (new ∷ []) rows h) ∙ all_last rows new name)

all_used : (id : Text) (takes : Bool) (vs : List Text) (rows : List Row) (name : Text) → has_row id rows ≡ false
    → all_of name (used (named_rule id takes) vs rows) ≡ option_or (all_of name rows) (by_name (bytes_eq id name) (values_or_missing (named_rule id takes) vs))
all_used id true vs rows name h = all_added id (reading_by (named_rule id true)) CommandLine (values_or_missing (named_rule id true) vs) rows name h
all_used id false vs rows name h = all_added id (reading_by (named_rule id false)) CommandLine (values_or_missing (named_rule id false) vs) rows name h

-- the row that a use adds stands before what comes behind
joined : (same : Bool) (v : Text) (a : Found) (behind : Option Text) → option_or (option_or a (by_name same (v ∷ []))) (single behind) ≡ option_or a (single (value_by same (Some v) behind))
joined true v a behind = or_assoc a (Some (v ∷ [])) (single behind)
joined false v a behind = or_assoc a None (single behind)

no_true : false ≡ true → {A : Type 0} → A
no_true h = absurd (true≢false (sym h))

module _ (names : List Named) (name : Text) where
  abbrev pub final : Walk → List Text → List Row
  final w words = (settled (rules names) (fold (walked (rules names) []) w words).held).rows

  abbrev found : Walk → List Text → Found
  found w words = all_of name (final w words)

  abbrev next_found : (waiting : Waiting) (word : Text) (h : Held) (words : List Text) (dashed : Bool) → Option (Text × Option Text) → Found
  next_found waiting word h words dashed o =
      found (after_step (rules names) word (at names waiting h) (met names waiting word h dashed o).0 (met names waiting word h dashed o).1) words

  abbrev long_found : (waiting : Waiting) (word : Text) (h : Held) (words : List Text) (v : Option Text) → Option Rule → Found
  long_found waiting word h words v a =
      found (after_step (rules names) word (at names waiting h) (after_flag (rules names) waiting word (long_met (rules names) a v h).0 (long_met (rules names) a v h).1).0
      (after_flag (rules names) waiting word (long_met (rules names) a v h).0 (long_met (rules names) a v h).1).1) words

  found_idle : (word : Text) (h : Held) (words : List Text) → found (at names idle h) (word ∷ words) ≡ next_found idle word h words (bytes_eq word dashes) (long_of word)
  unfolding walked
  found_idle word h words = refl

  found_option : (id word : Text) (h : Held) (words : List Text) → found (at names (option id) h) (word ∷ words) ≡ next_found (option id) word h words (bytes_eq word dashes) (long_of word)
  unfolding walked
  found_option id word h words = refl

  found_long : (waiting : Waiting) (word : Text) (h : Held) (words : List Text) (p : Text × Option Text) → use_of word ≡ Some p
      → next_found waiting word h words (bytes_eq word dashes) (long_of word) ≡ long_found waiting word h words p.1 (option_map (named_rule p.0) (sort_of names p.0))
  found_long waiting word h words p e =
      ap (λ (d : Bool). next_found waiting word h words d (long_of word)) (use_no_dashes word p e)
      ∙ (ap (next_found waiting word h words false) (sym (use_is_long word) ∙ e) ∙ ap (long_found waiting word h words p.1) (by_long names p.0))

  abbrev plain_found : (waiting : Waiting) (word : Text) (h : Held) (words : List Text) → Option Text → Found
  plain_found waiting word h words s =
      found (after_step (rules names) word (at names waiting h) (short_or_plain (rules names) waiting word s h).0 (short_or_plain (rules names) waiting word s h).1) words

  found_plain : (waiting : Waiting) (word : Text) (h : Held) (words : List Text) → use_of word ≡ None → behind_hyphen word ≡ None
      → next_found waiting word h words (bytes_eq word dashes) (long_of word) ≡ plain_found waiting word h words None
  found_plain waiting word h words e b =
      ap (λ (d : Bool). next_found waiting word h words d (long_of word)) (plain_no_dashes word b)
      ∙ (ap (next_found waiting word h words false) (sym (use_is_long word) ∙ e) ∙ ap (plain_found waiting word h words) (plain_not_short word b))

  abbrev IdleFinds : List Text → Type 0
  IdleFinds words = (o : Option (Text × Text)) (rows : List Row) (seen : List Text) → IsOption names o → Agree names seen (rows_behind names o rows)
      → takes_words names seen false words ≡ true → found (at names idle (holds names o rows)) words ≡ option_or (all_of name (rows_behind names o rows)) (single (value_in names name None words))

  abbrev WaitFinds : List Text → Type 0
  WaitFinds words = (id : Text) (rows : List Row) (seen : List Text) → sort_of names id ≡ Some true → Agree names seen rows → has_row id rows ≡ false
      → takes_words names (id ∷ seen) true words ≡ true → found (at names (option id) (asks names id rows)) words ≡ option_or (all_of name rows) (single (value_in names name (Some id) words))

  idle_finds : (word : Text) (words : List Text) → IdleFinds words → WaitFinds words → IdleFinds (word ∷ words)
  idle_finds word words more value_next o rows seen opt agree taken = found_idle word (holds names o rows) words ∙ go (use_of word) refl taken
    where
      named : (id : Text) (x : Option Bool) (v : Option Text) → sort_of names id ≡ x
          → (not (is_among id seen) && takes_use x v (takes_words names (id ∷ seen) false words) (takes_words names (id ∷ seen) true words)) ≡ true
          → long_found idle word (holds names o rows) words v (option_map (named_rule id) x)
          ≡ option_or (all_of name (rows_behind names o rows)) (single (value_use (bytes_eq id name) x v (value_in names name None words) (value_in names name (Some id) words)))
      named id None v e t = no_true ((and_parts (not (is_among id seen)) false t).1)
      named id (Some true) (Some w) e t =
          let behind : List Row = rows_behind names o rows in
          let parts = and_parts (not (is_among id seen)) (takes_words names (id ∷ seen) false words) t in
          let fresh : has_row id behind ≡ false = sym (agree id) ∙ not_true names (is_among id seen) parts.0 in
          let rows2 : List Row = used (named_rule id true) (w ∷ []) behind in
          ap (λ (h : Held). found (at names idle (holds names None (used (named_rule id true) (w ∷ []) h.rows))) words) (settled_is names o rows opt)
          ∙ (more None rows2 (id ∷ seen) tt (agree_more names seen behind id true (w ∷ []) agree fresh) parts.1
          ∙ (ap (λ (a : Found). option_or a (single (value_in names name None words))) (all_used id true (w ∷ []) behind name fresh)
          ∙ joined (bytes_eq id name) w (all_of name behind) (value_in names name None words)))
      named id (Some true) None e t =
          let behind : List Row = rows_behind names o rows in
          let parts = and_parts (not (is_among id seen)) (takes_words names (id ∷ seen) true words) t in
          let fresh : has_row id behind ≡ false = sym (agree id) ∙ not_true names (is_among id seen) parts.0 in
          ap (λ (h : Held). found (at names (option id) (asks names id h.rows)) words) (settled_is names o rows opt)
          ∙ value_next id behind seen e agree fresh parts.1
      named id (Some false) (Some w) e t = no_true ((and_parts (not (is_among id seen)) false t).1)
      named id (Some false) None e t =
          let behind : List Row = rows_behind names o rows in
          let parts = and_parts (not (is_among id seen)) (takes_words names (id ∷ seen) false words) t in
          let fresh : has_row id behind ≡ false = sym (agree id) ∙ not_true names (is_among id seen) parts.0 in
          let rows2 : List Row = used (named_rule id false) [] behind in
          ap (λ (h : Held). found (at names idle (holds names None (used (named_rule id false) [] h.rows))) words) (settled_is names o rows opt)
          ∙ (more None rows2 (id ∷ seen) tt (agree_more names seen behind id false [] agree fresh) parts.1
          ∙ (ap (λ (a : Found). option_or a (single (value_in names name None words))) (all_used id false [] behind name fresh)
          ∙ joined (bytes_eq id name) (codes "true") (all_of name behind) (value_in names name None words)))

      go : (u : Option (Text × Option Text)) → use_of word ≡ u → takes_word names seen u (λ s w. takes_words names s w words) ≡ true
          → next_found idle word (holds names o rows) words (bytes_eq word dashes) (long_of word)
          ≡ option_or (all_of name (rows_behind names o rows)) (single (value_word names name u (λ w. value_in names name w words)))
      go None e t = no_true t
      go (Some p) e t = found_long idle word (holds names o rows) words p e ∙ named p.0 (sort_of names p.0) p.1 refl t

  wait_finds : (word : Text) (words : List Text) → is_stray word ≡ false → IdleFinds words → WaitFinds (word ∷ words)
  wait_finds word words stray more id rows seen opt agree fresh taken = found_option id word (asks names id rows) words ∙ go (use_of word) refl
    where
      parts : (not (is_some (behind_hyphen word)) ≡ true) × (takes_words names (id ∷ seen) false words ≡ true)
      parts = and_parts (not (is_some (behind_hyphen word))) (takes_words names (id ∷ seen) false words) taken

      go : (u : Option (Text × Option Text)) → use_of word ≡ u → next_found (option id) word (asks names id rows) words (bytes_eq word dashes) (long_of word)
          ≡ option_or (all_of name rows) (single (value_by (bytes_eq id name) (Some word) (value_in names name None words)))
      go None e =
          found_plain (option id) word (asks names id rows) words e (plain_word_is word e stray)
          ∙ (ap (λ (a : Option Rule). found (at names (option_word a id word (asks names id rows)).1 (option_word a id word (asks names id rows)).0) words) (option_there names id opt)
          ∙ (ap (λ (b : Bool). found (at names (cond (nat_lt (cond b 1 0) 1) (option id) idle) (holds names (Some (id, word)) rows)) words) ((bytes_eq-Decides id id).1 refl)
          ∙ (more (Some (id, word)) rows (id ∷ seen) opt (agree_more names seen rows id true (word ∷ []) agree fresh) parts.1
          ∙ (ap (λ (a : Found). option_or a (single (value_in names name None words))) (all_used id true (word ∷ []) rows name fresh)
          ∙ joined (bytes_eq id name) word (all_of name rows) (value_in names name None words)))))
      go (Some p) e = no_true (ap not (sym (use_hyphen word p e)) ∙ parts.0)

  pub finds : (words : List Text) → NoStray names words → IdleFinds words × WaitFinds words
  finds [] h = (
    λ o rows seen opt agree taken. ap (λ (x : Held). all_of name x.rows) (settled_is names o rows opt) ∙ sym (or_none (all_of name (rows_behind names o rows))),
    λ id rows seen opt agree fresh taken. no_true taken,
  )
  finds (word ∷ words) h =
      let behind = finds words h.1 in
      (idle_finds word words behind.0 behind.1, wait_finds word words h.0 behind.0)

  -- the values that a walk over words that are taken finds for the name
  pub finds_all : (words : List Text) → NoStray names words → takes_words names [] false words ≡ true
      → all_of name (final (at names idle (holds names None [])) words) ≡ single (value_in names name None words)
  finds_all words h taken = (finds words h).0 None [] [] tt (λ _. refl) taken

-- ---- what the defaults add

same_either : (b : Bool) (rows : List Row) → cond b rows rows ≡ rows
same_either true rows = refl
same_either false rows = refl

option_default : (id : Text) (rows : List Row) → with_default rows (named_rule id true) ≡ rows
option_default id rows = same_either (has_row id rows) rows

flag_default : (id name : Text) (rows : List Row) → bytes_eq id name ≡ false → all_of name (with_default rows (named_rule id false)) ≡ all_of name rows
flag_default id name rows other = go (has_row id rows) refl
  where
    go : (b : Bool) → has_row id rows ≡ b → all_of name (cond b rows (with_values id (reading_by (named_rule id false)) DefaultValue (codes "false" ∷ []) rows)) ≡ all_of name rows
    go true e = refl
    go false e =
        ap (all_of name) (at_none id (more_values DefaultValue (codes "false" ∷ [])) (record { id = id; values = codes "false" ∷ []; count = None; source = Some DefaultValue; reading = reading_by (named_rule id false) } ∷ []) rows e)
        ∙ (all_last rows (record { id = id; values = codes "false" ∷ []; count = None; source = Some DefaultValue; reading = reading_by (named_rule id false) }) name
        ∙ (ap (λ (b : Bool). option_or (all_of name rows) (by_name b (codes "false" ∷ []))) other ∙ or_none (all_of name rows)))

-- every flag has another name
abbrev pub AreOthers : List Named → Text → Type 0
AreOthers [] name = Unit {0}
AreOthers (n ∷ ns) name = ((n.takes_value || not (bytes_eq n.name name)) ≡ true) × AreOthers ns name

default_keeps : (id name : Text) (takes : Bool) (rows : List Row) → (takes || not (bytes_eq id name)) ≡ true → all_of name (with_default rows (named_rule id takes)) ≡ all_of name rows
default_keeps id name true rows h = ap (all_of name) (option_default id rows)
default_keeps id name false rows h = flag_default id name rows (go (bytes_eq id name) h)
  where
    go : (b : Bool) → not b ≡ true → b ≡ false
    go true e = sym e
    go false e = refl

pub defaults_keep : (names : List Named) (name : Text) (rows : List Row) → AreOthers names name → all_of name (fold with_default rows (map rule names)) ≡ all_of name rows
defaults_keep [] name rows h = refl
defaults_keep (n ∷ ns) name rows h = defaults_keep ns name (with_default rows (rule n)) h.1 ∙ default_keeps n.name name n.takes_value rows h.0

first_all : (o : Option Row) → option_and_then (λ (r : Row). slice_get r.values 0) o ≡ option_and_then (λ (vs : List Text). slice_get vs 0) (option_map (λ (r : Row). r.values) o)
first_all None = refl
first_all (Some r) = refl

first_single : (o : Option Text) → option_and_then (λ (vs : List Text). slice_get vs 0) (single o) ≡ o
first_single None = refl
first_single (Some v) = refl

-- the first value of an option, at the end of a parse that takes the words
pub value_found : (names : List Named) (name : Text) (words : List Text) → NoStray names words → AreOthers names name → takes_words names [] false words ≡ true
    → first_of name (fold with_default (final names name (at names idle (holds names None [])) words) (map rule names)) ≡ value_in names name None words
value_found names name words h others taken =
    first_all (find (λ (r : Row). bytes_eq r.id name) (fold with_default (final names name (at names idle (holds names None [])) words) (map rule names)))
    ∙ (ap (option_and_then (λ (vs : List Text). slice_get vs 0)) (defaults_keep names name (final names name (at names idle (holds names None [])) words) others ∙ finds_all names name words h taken)
    ∙ first_single (value_in names name None words))
