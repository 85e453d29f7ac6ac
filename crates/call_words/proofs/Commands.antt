-- The whole of a parse, of a command with these options and flags.
use Rattle.std.proofs.Common.{◌≡◌, ◌∙◌, ◌⊎◌, inl, inr, ⊎_elim, ◌&&◌, ◌||◌, Bool, cond, not, true, false, refl, sym, ap, ap₂, List, [], ◌∷◌, map, codes, Option, Some, None, is_some, Result, Ok, Err, IfOk, IfErr}
use Rattle.std.specs.List.{list_any}
use Rattle.std.specs.Prelude.{String, string_bytes}
use Rattle.std.proofs.Common.{Global}
use Rattle.std.proofs.lemmas.Bool.{or_parts}
use Rattle.clap.specs.Values.{kind_of}
use Rattle.clap.specs.Kinds.{FailsBy, IsAmong, Kinds, or_else}
use Rattle.clap.specs.Walk.{first_of, rows_after, Row, Rule, has_row, nothing_held, walk, walk_from, with_default}
use Rattle.clap.specs.Simple.{App, Shape, built, entered, new_rule, new_shape, with_rule, names_of}
use Rattle.clap.specs.Takes.{is_given}
use Rattle.clap.specs.Simple.{HasMatchesOf, is_simple, matches_of}
use Rattle.clap.specs.Matches.{first_value, found_of}
use Rattle.clap.specs.declared.parser.matches.ArgMatches.{ArgMatches}
use Rattle.clap.proofs.WalkLemmas.{first_value-rows}
use Rattle.clap.specs.Faults.{built_fault, check_fault, default_fault, defaults_fault, entered_fault, fault_of, is_simple_and_free, level_fault}
use Rattle.clap.specs.declared.builder.action.ArgAction.TheVariants.{Set}
use Rattle.clap.specs.declared.error.Error.{Error}
use Rattle.clap.specs.declared.error.kind.ErrorKind.TheVariants.{OutOfMemory, MissingRequiredArgument}
use Rattle.clap.specs.declared.error.kind.ErrorKind.{ErrorKind}
use Rattle.clap.proofs.OnLiterals.{clap_on_literals}
use Rattle.call_words.specs.Uses.{Text, Named, is_barred, serial_names, takes_words, value_in}
use Rattle.call_words.proofs.Words.{barred_stray, rule}
use Rattle.call_words.proofs.Values.{AreOthers, value_found}
use Rattle.call_words.proofs.Walks.{NoStray, and_true, clean, ok, ok_or_else, reads_all, shape}

abbrev no_kinds : Kinds
no_kinds = []

or_true : (b : Bool) → (b || true) ≡ true
or_true true = refl
or_true false = refl

-- the flags' own defaults pass
no_default : (rows : List Row) (name : Text) (takes : Bool) → default_fault rows (rule (record { name = name; takes_value = takes })) ≡ []
no_default rows name true = ap (λ (b : Bool). cond b no_kinds no_kinds) (or_true (has_row name rows))
no_default rows name false = go (has_row name rows)
  where
    go : (b : Bool) → ◌≡◌ {A = Kinds} (cond (b || false) [] []) []
    go true = refl
    go false = refl

no_defaults : (names : List Named) (rows : List Row) → defaults_fault rows (map rule names) ≡ []
unfolding defaults_fault
no_defaults [] rows = refl
no_defaults (n ∷ ns) rows =
    ap (λ (k : Kinds). or_else k (defaults_fault (with_default rows (rule n)) (map rule ns))) (no_default rows n.name n.takes_value) ∙ no_defaults ns (with_default rows (rule n))

none_required : (names : List Named) (rows : List Row) → list_any (λ (a : Rule). a.required && not (is_given a.id rows)) (map rule names) ≡ false
none_required [] rows = refl
none_required (n ∷ ns) rows = none_required ns rows

no_check : (names : List Named) (rows : List Row) → check_fault (shape names) rows false ≡ []
no_check names rows = ap (λ (b : Bool). cond b (MissingRequiredArgument ∷ []) []) (none_required names rows)

abbrev app : List Named → App
app names = record { top = shape names; subs = [] }

four : (w s d c : Kinds) → d ≡ [] → c ≡ [] → ok (or_else w (or_else [] (or_else s (or_else d c)))) ≡ (ok w && ok s)
four w s d c dn cn =
    ok_or_else w (or_else s (or_else d c))
    ∙ ap (λ (b : Bool). ok w && b) (ok_or_else s (or_else d c) ∙ (ap₂ (λ (x y : Kinds). ok s && ok (or_else x y)) dn cn ∙ and_true (ok s)))

pub whole : (names : List Named) (words : List Text) → ok (built_fault (app names) nothing_held words) ≡ clean names (walk_from nothing_held) words
whole names words = go (walk (map rule names) [] nothing_held words).stopped
  where
    go : (stop : Option (Text × List Text))
        → ok (level_fault (shape names) [] nothing_held words (is_some (entered (app names) stop)) (entered_fault (app names) stop)) ≡ clean names (walk_from nothing_held) words
    go None = four _ _ _ _ (no_defaults names _) (no_check names _)
    go (Some p) = four _ _ _ _ (no_defaults names _) (no_check names _)

-- ---- the command `serial`

abbrev pub option_rule : Text → Rule
option_rule name = record (new_rule name) { long = Some name; action = Some Set }

abbrev pub serial_shape : Shape
serial_shape = record (new_shape (codes "serial")) { no_binary_name = true; disable_help_flag = true; disable_help_subcommand = true; disable_version_flag = true }

abbrev pub serial_app : App
serial_app = with_rule (with_rule (record { top = serial_shape; subs = [] }) (option_rule (codes "stripes"))) (option_rule (codes "faults"))

pub serial_free : is_simple_and_free serial_app ≡ true
unfolding clap_on_literals
serial_free = refl

built_serial : built serial_app ≡ app serial_names
unfolding clap_on_literals
built_serial = refl

no_stray : (words : List Text) → list_any is_barred words ≡ false → NoStray serial_names words
no_stray [] h = tt
no_stray (w ∷ ws) h =
    let parts = or_parts (is_barred w) (list_any is_barred ws) h in
    (barred_stray w parts.0, no_stray ws parts.1)

pub any_map : (words : List (String Global)) → list_any is_barred (map string_bytes words) ≡ list_any (λ (w : String Global). is_barred (string_bytes w)) words
any_map [] = refl
any_map (w ∷ ws) = ap (λ (b : Bool). is_barred (string_bytes w) || b) (any_map ws)

pub serial_fault : (words : List Text) → list_any is_barred words ≡ false → ok (fault_of serial_app words) ≡ takes_words serial_names [] false words
serial_fault words h = ap (λ (a : App). ok (built_fault a nothing_held words)) built_serial ∙ (whole serial_names words ∙ reads_all serial_names words (no_stray words h))

serial_simple : is_simple serial_app ≡ true
unfolding clap_on_literals
serial_simple = refl

-- the values that are found are those of the definition
pub serial_value : (name : Text) (words : List Text) → AreOthers serial_names name → list_any is_barred words ≡ false → takes_words serial_names [] false words ≡ true
    → first_of name (matches_of serial_app words) ≡ value_in serial_names name None words
serial_value name words others h taken =
    ap (λ (a : App). first_of name (rows_after a.top.rules (names_of a) words)) built_serial ∙ value_found serial_names name words (no_stray words h) others taken

pub matched : (a : App) (m : ArgMatches) (name : Text) (words : List Text) → a ≡ serial_app → HasMatchesOf a words m → AreOthers serial_names name → list_any is_barred words ≡ false
    → takes_words serial_names [] false words ≡ true → first_value (found_of m) name ≡ value_in serial_names name None words
matched a m name words same has others h taken =
    first_value-rows (found_of m) name
    ∙ (ap (first_of name) ((has (ap is_simple same ∙ serial_simple)).0 ∙ ap (λ (x : App). matches_of x words) same) ∙ serial_value name words others h taken)

-- ---- what a call of clap then says

some_kind : (k : ErrorKind) (kinds : Kinds) → IsAmong k kinds → ok kinds ≡ false
some_kind k [] h = absurd h
some_kind k (x ∷ xs) h = refl

pub ok_says : {T : Type 0} (r : Result T Error) (kinds : Kinds) (b : Bool) → ok kinds ≡ b → FailsBy kinds r → IfOk r (λ _. b ≡ true)
ok_says (Ok x) kinds b e h = sym e ∙ ap ok h
ok_says (Err x) kinds b e h = tt

pub err_says : {T : Type 0} (r : Result T Error) (kinds : Kinds) (b : Bool) → ok kinds ≡ b → FailsBy kinds r → IfErr r (λ e. (kind_of e ≡ OutOfMemory) ⊎ (b ≡ false))
err_says (Ok x) kinds b e h = tt
err_says (Err x) kinds b e h = ⊎_elim (λ m. inl m) (λ among. inr (sym e ∙ some_kind (kind_of x) kinds among)) h

pub value_says : (r : Result ArgMatches Error) (a : App) (name : Text) (words : List Text) → a ≡ serial_app → AreOthers serial_names name → list_any is_barred words ≡ false
    → IfOk r (HasMatchesOf a words) → IfOk r (λ _. takes_words serial_names [] false words ≡ true) → IfOk r (λ m. first_value (found_of m) name ≡ value_in serial_names name None words)
value_says (Ok m) a name words same others h has taken = matched a m name words same has others h taken
value_says (Err e) a name words same others h has taken = tt
