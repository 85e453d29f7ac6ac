-- clap's walk over words, against the definition.
use Rattle.std.proofs.Common.{◌≡◌, ◌∙◌, ◌&&◌, ◌||◌, Bool, cond, not, true, false, refl, sym, ap, ap₂, List, [], ◌∷◌, ◌++◌, map, codes, Option, Some, None, is_some, option_map, append-nil}
use Rattle.std.specs.Prelude.{nat_lt, fold}
use Rattle.std.specs.Option.{option_map_or}
use Rattle.std.specs.Str.{bytes_eq}
use Rattle.std.proofs.lemmas.Bool.{or_parts}
use Rattle.std.proofs.lemmas.Slice.Eq.{bytes_eq-Decides}
use Rattle.clap.specs.Lexer.{long_of}
use Rattle.clap.specs.Kinds.{Kinds, or_else}
use Rattle.clap.specs.Walk.{Held, Row, Rule, Step, Waiting, Walk, idle, option, trailing, after_flag, after_step, arg_by_id, arg_by_index, at_row, has_row, long_met, long_or_other, more_values, option_word, reading_by, settled, short_or_plain, to_positional, used, used_by_id, values_or_missing, walk_from, walked, with_values, without}
use Rattle.clap.specs.Simple.{Shape, new_shape}
use Rattle.clap.specs.declared.error.kind.ErrorKind.TheVariants as kind
use Rattle.clap.specs.declared.builder.value_parser.Reading.{Reading}
use Rattle.clap.specs.declared.parser.matches.ValueSource.{ValueSource}
use Rattle.clap.specs.declared.parser.matches.ValueSource.TheVariants.{CommandLine}
use Rattle.clap.specs.Faults.{bundle_fault, flag_word_fault, long_fault, positional_fault, settle_fault, step_fault, stray_fault, turn_fault, use_fault, walk_fault}
use Rattle.call_words.specs.Uses.{Text, Named, behind_hyphen, is_among, sort_of, takes_use, takes_word, takes_words, use_of}
use Rattle.call_words.proofs.Words.{is_stray, by_id, by_index, by_long, dashes, named_rule, plain_no_dashes, plain_not_short, plain_word_is, rule, use_hyphen, use_is_long, use_no_dashes}

abbrev pub ok : Kinds → Bool
ok [] = true
ok (k ∷ ks) = false

pub ok_or_else : (a b : Kinds) → ok (or_else a b) ≡ (ok a && ok b)
ok_or_else [] b = refl
ok_or_else (k ∷ ks) b = refl

and_assoc : (a b c : Bool) → ((a && b) && c) ≡ (a && (b && c))
and_assoc true b c = refl
and_assoc false b c = refl

pub and_true : (a : Bool) → (a && true) ≡ a
and_true true = refl
and_true false = refl

pub and_false : (a : Bool) → (a && false) ≡ false
and_false true = refl
and_false false = refl

-- ---- rows

or_swap : (a b c : Bool) → (a || (b || c)) ≡ (b || (a || c))
or_swap true true c = refl
or_swap true false c = refl
or_swap false true c = refl
or_swap false false c = refl

has_last : (rows : List Row) (r : Row) (n : Text) → has_row n (rows ++ r ∷ []) ≡ (bytes_eq r.id n || has_row n rows)
has_last [] r n = refl
has_last (x ∷ xs) r n = ap (λ (b : Bool). bytes_eq x.id n || b) (has_last xs r n) ∙ or_swap (bytes_eq x.id n) (bytes_eq r.id n) (has_row n xs)

pub at_none : (id : Text) (change : Row → List Row) (missing rows : List Row) → has_row id rows ≡ false → at_row id change missing rows ≡ rows ++ missing
at_none id change missing [] h = refl
at_none id change missing (r ∷ rs) h =
    let parts = or_parts (bytes_eq r.id id) (has_row id rs) h in
    ap (λ (b : Bool). cond b (change r ++ rs) (r ∷ at_row id change missing rs)) parts.0 ∙ ap (λ xs. r ∷ xs) (at_none id change missing rs parts.1)

pub without_none : (id : Text) (rows : List Row) → has_row id rows ≡ false → without id rows ≡ rows
without_none id rows h = at_none id (λ _. []) [] rows h ∙ append-nil rows

row_added : (id : Text) (how : Reading) (source : ValueSource) (vs : List Text) (rows : List Row) (n : Text) → has_row id rows ≡ false
    → has_row n (with_values id how source vs (without id rows)) ≡ (bytes_eq id n || has_row n rows)
row_added id how source vs rows n h =
    let new : Row = record { id = id; values = vs; count = None; source = Some source; reading = how } in
    ap (λ (rs : List Row). has_row n (with_values id how source vs rs)) (without_none id rows h)
    ∙ (ap (has_row n) (at_none id (more_values source vs) (new ∷ []) rows h) ∙ has_last rows new n)

-- a first use of an argument adds its row
pub used_once : (id : Text) (takes : Bool) (vs : List Text) (rows : List Row) (n : Text) → has_row id rows ≡ false
    → has_row n (used (named_rule id takes) vs rows) ≡ (bytes_eq id n || has_row n rows)
used_once id true vs rows n h = row_added id (reading_by (named_rule id true)) CommandLine (values_or_missing (named_rule id true) vs) rows n h
used_once id false vs rows n h = row_added id (reading_by (named_rule id false)) CommandLine (values_or_missing (named_rule id false) vs) rows n h

-- ---- one use

repeats : (b : Bool) → ok (or_else (cond (b && true) (kind.ArgumentConflict ∷ []) []) []) ≡ not b
repeats true = refl
repeats false = refl

pub option_once : (id v : Text) (rows : List Row) → ok (use_fault false (named_rule id true) (v ∷ []) rows) ≡ not (has_row id rows)
option_once id v rows = repeats (has_row id rows)

pub flag_once : (id : Text) (rows : List Row) → ok (use_fault false (named_rule id false) [] rows) ≡ not (has_row id rows)
flag_once id rows = repeats (has_row id rows)

-- ---- the walk

module _ (names : List Named) where
  abbrev pub shape : Shape
  shape = record (new_shape (codes "serial")) {
    rules = map rule names;
    no_binary_name = true;
    disable_help_flag = true;
    disable_help_subcommand = true;
    disable_version_flag = true;
    is_built = true;
  }

  abbrev pub rules : List Rule
  rules = map rule names

  -- between two words: `pending` is the last option with its value, which is settled at the next use
  abbrev pub holds : Option (Text × Text) → List Row → Held
  holds pending rows = record { rows = rows; pending = option_map (λ p. (p.0, p.1 ∷ [])) pending; skip = 0 }

  -- the option waits for its value
  abbrev pub asks : Text → List Row → Held
  asks id rows = record { rows = rows; pending = Some (id, []); skip = 0 }

  abbrev pub at : Waiting → Held → Walk
  at waiting h = record { held = h; waiting = waiting; position = 1; is_trailing = false; stopped = None }

  abbrev pub IsOption : Option (Text × Text) → Type 0
  IsOption None = Unit {0}
  IsOption (Some p) = sort_of names p.0 ≡ Some true

  abbrev pub settles : Option (Text × Text) → List Row → Bool
  settles None rows = true
  settles (Some p) rows = not (has_row p.0 rows)

  abbrev pub rows_behind : Option (Text × Text) → List Row → List Row
  rows_behind None rows = rows
  rows_behind (Some p) rows = used (named_rule p.0 true) (p.1 ∷ []) rows

  pub option_there : (id : Text) → sort_of names id ≡ Some true → arg_by_id rules id ≡ Some (named_rule id true)
  option_there id h = by_id names id ∙ ap (option_map (named_rule id)) h

  settle_ok : (o : Option (Text × Text)) (rows : List Row) → IsOption o → ok (settle_fault rules false (holds o rows)) ≡ settles o rows
  settle_ok None rows h = refl
  settle_ok (Some p) rows h =
      ap (λ (a : Option Rule). ok (option_map_or (λ x. use_fault false x (p.1 ∷ []) rows) a [])) (option_there p.0 h) ∙ option_once p.0 p.1 rows

  pub settled_is : (o : Option (Text × Text)) (rows : List Row) → IsOption o → settled rules (holds o rows) ≡ holds None (rows_behind o rows)
  settled_is None rows h = refl
  settled_is (Some p) rows h = ap (λ (a : Option Rule). holds None (used_by_id a (p.1 ∷ []) rows)) (option_there p.0 h)

  asks_fails : (id : Text) (rows : List Row) → sort_of names id ≡ Some true → ok (settle_fault rules false (asks id rows)) ≡ false
  asks_fails id rows h = ap (λ (a : Option Rule). ok (option_map_or (λ x. use_fault false x [] rows) a [])) (option_there id h)

  -- no step of the walk fails, and neither does what is pending at its end
  abbrev pub clean : Walk → List Text → Bool
  clean w words = ok (walk_fault shape [] w words) && ok (settle_fault rules false (fold (walked rules []) w words).held)

  clean_next : (w : Walk) (word : Text) (words : List Text) → clean w (word ∷ words) ≡ (ok (turn_fault shape [] w word) && clean (walked rules [] w word) words)
  unfolding walk_fault
  clean_next w word words =
      let end = ok (settle_fault rules false (fold (walked rules []) (walked rules [] w word) words).held) in
      ap (λ (b : Bool). b && end) (ok_or_else (turn_fault shape [] w word) (walk_fault shape [] (walked rules [] w word) words))
      ∙ and_assoc (ok (turn_fault shape [] w word)) (ok (walk_fault shape [] (walked rules [] w word) words)) end

  clean_end : (w : Walk) → clean w [] ≡ ok (settle_fault rules false w.held)
  unfolding walk_fault
  clean_end w = refl

  -- ---- one word, by what it is

  abbrev pub met : (waiting : Waiting) (word : Text) (h : Held) (dashed : Bool) → Option (Text × Option Text) → Held × Step
  met waiting word h dashed o = cond dashed (h, trailing 1) (long_or_other rules waiting word o h)

  abbrev pub turn : (waiting : Waiting) (word : Text) (h : Held) (words : List Text) (dashed : Bool) → Option (Text × Option Text) → Bool
  turn waiting word h words dashed o =
      ok (or_else (cond dashed [] (flag_word_fault rules false o word h)) (step_fault shape 1 (met waiting word h dashed o).0 (met waiting word h dashed o).1))
      && clean (after_step rules word (at waiting h) (met waiting word h dashed o).0 (met waiting word h dashed o).1) words

  turn_idle : (word : Text) (h : Held) (words : List Text) → clean (at idle h) (word ∷ words) ≡ turn idle word h words (bytes_eq word dashes) (long_of word)
  unfolding walked
  turn_idle word h words = clean_next (at idle h) word words

  turn_option : (id word : Text) (h : Held) (words : List Text) → clean (at (option id) h) (word ∷ words) ≡ turn (option id) word h words (bytes_eq word dashes) (long_of word)
  unfolding walked
  turn_option id word h words = clean_next (at (option id) h) word words

  -- a word `--name` or `--name=value`, by what has the name
  abbrev long_turn : (waiting : Waiting) (word : Text) (h : Held) (words : List Text) (v : Option Text) → Option Rule → Bool
  long_turn waiting word h words v found =
      ok (or_else (long_fault rules false found v h)
      (step_fault shape 1 (after_flag rules waiting word (long_met rules found v h).0 (long_met rules found v h).1).0
      (after_flag rules waiting word (long_met rules found v h).0 (long_met rules found v h).1).1))
      && clean (after_step rules word (at waiting h) (after_flag rules waiting word (long_met rules found v h).0 (long_met rules found v h).1).0
      (after_flag rules waiting word (long_met rules found v h).0 (long_met rules found v h).1).1) words

  turn_long : (waiting : Waiting) (word : Text) (h : Held) (words : List Text) (p : Text × Option Text) → use_of word ≡ Some p
      → turn waiting word h words (bytes_eq word dashes) (long_of word) ≡ long_turn waiting word h words p.1 (option_map (named_rule p.0) (sort_of names p.0))
  turn_long waiting word h words p e =
      ap (λ (d : Bool). turn waiting word h words d (long_of word)) (use_no_dashes word p e)
      ∙ (ap (turn waiting word h words false) (sym (use_is_long word) ∙ e) ∙ ap (long_turn waiting word h words p.1) (by_long names p.0))

  -- a word without a hyphen
  abbrev plain_turn : (waiting : Waiting) (word : Text) (h : Held) (words : List Text) → Option Text → Bool
  plain_turn waiting word h words s =
      ok (or_else (option_map_or (λ flags. bundle_fault rules false flags h) s [])
      (step_fault shape 1 (short_or_plain rules waiting word s h).0 (short_or_plain rules waiting word s h).1))
      && clean (after_step rules word (at waiting h) (short_or_plain rules waiting word s h).0 (short_or_plain rules waiting word s h).1) words

  turn_plain : (waiting : Waiting) (word : Text) (h : Held) (words : List Text) → use_of word ≡ None → behind_hyphen word ≡ None
      → turn waiting word h words (bytes_eq word dashes) (long_of word) ≡ plain_turn waiting word h words None
  turn_plain waiting word h words e b =
      ap (λ (d : Bool). turn waiting word h words d (long_of word)) (plain_no_dashes word b)
      ∙ (ap (turn waiting word h words false) (sym (use_is_long word) ∙ e) ∙ ap (plain_turn waiting word h words) (plain_not_short word b))

  -- ---- all words

  abbrev pub NoStray : List Text → Type 0
  NoStray [] = Unit {0}
  NoStray (w ∷ ws) = (is_stray w ≡ false) × NoStray ws

  -- the names that were used are those that have rows
  abbrev pub Agree : List Text → List Row → Type 0
  Agree seen rows = (n : Text) → is_among n seen ≡ has_row n rows

  pub agree_more : (seen : List Text) (rows : List Row) (id : Text) (takes : Bool) (vs : List Text) → Agree seen rows → has_row id rows ≡ false
      → Agree (id ∷ seen) (used (named_rule id takes) vs rows)
  agree_more seen rows id takes vs h fresh n = ap (λ (b : Bool). bytes_eq id n || b) (h n) ∙ sym (used_once id takes vs rows n fresh)

  -- s: what is pending is settled; r: the name has a row; q: it was used
  fresh_use : (s r q c t : Bool) → (s ≡ true → q ≡ r) → (s ≡ true → r ≡ false → c ≡ t) → ((s && not r) && c) ≡ (s && (not q && t))
  fresh_use false r q c t a h = refl
  fresh_use true true q c t a h = ap (λ (b : Bool). not b && t) (sym (a refl))
  fresh_use true false q c t a h = h refl refl ∙ ap (λ (b : Bool). not b && t) (sym (a refl))

  begun_use : (s r q c t : Bool) → (s ≡ true → q ≡ r) → (s ≡ true → c ≡ (not r && t)) → (s && c) ≡ (s && (not q && t))
  begun_use false r q c t a h = refl
  begun_use true r q c t a h = h refl ∙ ap (λ (b : Bool). not b && t) (sym (a refl))

  abbrev Idle : List Text → Type 0
  Idle words = (o : Option (Text × Text)) (rows : List Row) (seen : List Text) → IsOption o → (settles o rows ≡ true → Agree seen (rows_behind o rows))
      → clean (at idle (holds o rows)) words ≡ (settles o rows && takes_words names seen false words)

  abbrev Waits : List Text → Type 0
  Waits words = (id : Text) (rows : List Row) (seen : List Text) → sort_of names id ≡ Some true → Agree seen rows
      → clean (at (option id) (asks id rows)) words ≡ (not (has_row id rows) && takes_words names (id ∷ seen) true words)

  react_ok : (a b : Kinds) → ok (or_else (or_else a b) []) ≡ (ok a && ok b)
  react_ok a b = ok_or_else (or_else a b) [] ∙ (and_true (ok (or_else a b)) ∙ ok_or_else a b)

  once : (id : Text) (takes : Bool) (vs : List Text) (o : Option (Text × Text)) (rows : List Row) → IsOption o
      → ((rs : List Row) → ok (use_fault false (named_rule id takes) vs rs) ≡ not (has_row id rs))
      → ok (or_else (or_else (settle_fault rules false (holds o rows)) (use_fault false (named_rule id takes) vs (settled rules (holds o rows)).rows)) [])
      ≡ (settles o rows && not (has_row id (rows_behind o rows)))
  once id takes vs o rows opt single =
      react_ok (settle_fault rules false (holds o rows)) (use_fault false (named_rule id takes) vs (settled rules (holds o rows)).rows)
      ∙ ap₂ (λ (a b : Bool). a && b) (settle_ok o rows opt) (ap (λ (h : Held). ok (use_fault false (named_rule id takes) vs h.rows)) (settled_is o rows opt) ∙ single (rows_behind o rows))

  idle_word : (word : Text) (words : List Text) → is_stray word ≡ false → Idle words → Waits words → Idle (word ∷ words)
  idle_word word words stray more value_next o rows seen opt agree = turn_idle word (holds o rows) words ∙ go (use_of word) refl
    where
      named : (name : Text) (x : Option Bool) (v : Option Text) → sort_of names name ≡ x
          → long_turn idle word (holds o rows) words v (option_map (named_rule name) x)
          ≡ (settles o rows && (not (is_among name seen) && takes_use x v (takes_words names (name ∷ seen) false words) (takes_words names (name ∷ seen) true words)))
      named name None v e = sym (ap (λ (b : Bool). settles o rows && b) (and_false (not (is_among name seen))) ∙ and_false (settles o rows))
      named name (Some true) (Some t) e =
          let behind : List Row = rows_behind o rows in
          ap₂ (λ (a : Bool) (h : Held). a && clean (at idle (holds None (used (named_rule name true) (t ∷ []) h.rows))) words)
          (once name true (t ∷ []) o rows opt (option_once name t)) (settled_is o rows opt)
          ∙ fresh_use (settles o rows) (has_row name behind) (is_among name seen) (clean (at idle (holds None (used (named_rule name true) (t ∷ []) behind))) words) (takes_words names (name ∷ seen) false words) (λ s. agree s name)
          (λ s r. more None (used (named_rule name true) (t ∷ []) behind) (name ∷ seen) tt (λ _. agree_more seen behind name true (t ∷ []) (agree s) r))
      named name (Some true) None e =
          let behind : List Row = rows_behind o rows in
          ap₂ (λ (a : Bool) (h : Held). a && clean (at (option name) (asks name h.rows)) words)
          (ok_or_else (settle_fault rules false (holds o rows)) [] ∙ (and_true (ok (settle_fault rules false (holds o rows))) ∙ settle_ok o rows opt)) (settled_is o rows opt)
          ∙ begun_use (settles o rows) (has_row name behind) (is_among name seen) (clean (at (option name) (asks name behind)) words) (takes_words names (name ∷ seen) true words) (λ s. agree s name) (λ s. value_next name behind seen e (agree s))
      named name (Some false) (Some t) e = sym (ap (λ (b : Bool). settles o rows && b) (and_false (not (is_among name seen))) ∙ and_false (settles o rows))
      named name (Some false) None e =
          let behind : List Row = rows_behind o rows in
          ap₂ (λ (a : Bool) (h : Held). a && clean (at idle (holds None (used (named_rule name false) [] h.rows))) words)
          (once name false [] o rows opt (flag_once name)) (settled_is o rows opt)
          ∙ fresh_use (settles o rows) (has_row name behind) (is_among name seen) (clean (at idle (holds None (used (named_rule name false) [] behind))) words) (takes_words names (name ∷ seen) false words) (λ s. agree s name)
          (λ s r. more None (used (named_rule name false) [] behind) (name ∷ seen) tt (λ _. agree_more seen behind name false [] (agree s) r))

      go : (u : Option (Text × Option Text)) → use_of word ≡ u → turn idle word (holds o rows) words (bytes_eq word dashes) (long_of word)
          ≡ (settles o rows && takes_word names seen u (λ s w. takes_words names s w words))
      go None e =
          turn_plain idle word (holds o rows) words e (plain_word_is word e stray)
          ∙ (ap (λ (a : Option Rule). ok (option_map_or (λ x. positional_fault rules false x (holds o rows)) a (stray_fault shape)) && clean (to_positional rules (arg_by_index rules 1) word (at idle (holds o rows)) (holds o rows)) words) (by_index names 1)
          ∙ sym (and_false (settles o rows)))
      go (Some p) e = turn_long idle word (holds o rows) words p e ∙ named p.0 (sort_of names p.0) p.1 refl

  pub not_true : (b : Bool) → not b ≡ true → b ≡ false
  not_true true e = sym e
  not_true false e = refl

  wait_word : (word : Text) (words : List Text) → is_stray word ≡ false → Idle words → Waits (word ∷ words)
  wait_word word words stray more id rows seen opt agree = turn_option id word (asks id rows) words ∙ go (use_of word) refl
    where
      failed : (b : Kinds) (rest : Bool) → (ok (or_else (or_else (settle_fault rules false (asks id rows)) b) []) && rest) ≡ false
      failed b rest = ap (λ (x : Bool). x && rest) (react_ok (settle_fault rules false (asks id rows)) b ∙ ap (λ (x : Bool). x && ok b) (asks_fails id rows opt))

      named : (name : Text) (x : Option Bool) (v : Option Text) → long_turn (option id) word (asks id rows) words v (option_map (named_rule name) x) ≡ false
      named name None v = refl
      named name (Some true) (Some t) = failed _ _
      named name (Some true) None =
          ap (λ (x : Bool). x && clean (at (option name) (asks name (settled rules (asks id rows)).rows)) words) (ok_or_else (settle_fault rules false (asks id rows)) [] ∙ (and_true _ ∙ asks_fails id rows opt))
      named name (Some false) (Some t) = refl
      named name (Some false) None = failed _ _

      go : (u : Option (Text × Option Text)) → use_of word ≡ u → turn (option id) word (asks id rows) words (bytes_eq word dashes) (long_of word)
          ≡ (not (has_row id rows) && (not (is_some (behind_hyphen word)) && takes_words names (id ∷ seen) false words))
      go None e =
          let plain = plain_word_is word e stray in
          turn_plain (option id) word (asks id rows) words e plain
          ∙ (ap (λ (a : Option Rule). clean (at (option_word a id word (asks id rows)).1 (option_word a id word (asks id rows)).0) words) (option_there id opt)
          ∙ (ap (λ (b : Bool). clean (at (cond (nat_lt (cond b 1 0) 1) (option id) idle) (holds (Some (id, word)) rows)) words) ((bytes_eq-Decides id id).1 refl)
          ∙ (more (Some (id, word)) rows (id ∷ seen) opt (λ f. agree_more seen rows id true (word ∷ []) agree (not_true (has_row id rows) f))
          ∙ ap (λ (b : Option Text). not (has_row id rows) && (not (is_some b) && takes_words names (id ∷ seen) false words)) (sym plain))))
      go (Some p) e =
          turn_long (option id) word (asks id rows) words p e
          ∙ (named p.0 (sort_of names p.0) p.1
          ∙ sym (ap (λ (b : Bool). not (has_row id rows) && (not b && takes_words names (id ∷ seen) false words)) (use_hyphen word p e) ∙ and_false (not (has_row id rows))))

  pub reads : (words : List Text) → NoStray words → Idle words × Waits words
  reads [] h = (
    λ o rows seen opt agree. clean_end (at idle (holds o rows)) ∙ (settle_ok o rows opt ∙ sym (and_true (settles o rows))),
    λ id rows seen opt agree. clean_end (at (option id) (asks id rows)) ∙ (asks_fails id rows opt ∙ sym (and_false (not (has_row id rows)))),
  )
  reads (word ∷ words) h =
      let behind = reads words h.1 in
      (idle_word word words h.0 behind.0 behind.1, wait_word word words h.0 behind.0)

  -- nothing is held before the first word
  pub reads_all : (words : List Text) → NoStray words → clean (walk_from (record { rows = []; pending = None; skip = 0 })) words ≡ takes_words names [] false words
  reads_all words h = (reads words h).0 None [] [] tt (λ _ n. refl)
