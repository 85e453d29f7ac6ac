use Rattle.std.proofs.Common.{◌≡◌, ◌∙◌, rules, ap, ap₂, refl, codes, true, false, map, string_bytes, List, []}
use Rattle.clap.specs.Words.{App, Shape, app_of, fault_of, is_simple_and_free, new_app, rule_of, with_rule}
use Rattle.clap.specs.Simple.{app_of_fields, on_top}
use Rattle.call_words.specs.Uses.{Text, serial_names, takes_words}
use Rattle.call_words.proofs.Walks.{ok}
use Rattle.call_words.proofs.Commands.{any_map, err_says, ok_says, option_rule, serial_app, serial_fault, serial_free, value_says}
use Rattle.call_words.proofs.options.parse.Goals as goal

abbrev unnamed : Shape → Shape
unnamed s = record s { no_binary_name = true }

abbrev helpless : Shape → Shape
helpless s = record s { disable_help_flag = true }

abbrev versionless : Shape → Shape
versionless s = record s { disable_version_flag = true }

abbrev topicless : Shape → Shape
topicless s = record s { disable_help_subcommand = true }

pub returns : goal.returns
returns c =
    let stripes_is : rule_of c.action-stripes.result ≡ option_rule (codes "stripes") = search rules in
    let faults_is : rule_of c.action-faults.result ≡ option_rule (codes "faults") = search rules in
    let new_is : app_of c.new-3.result ≡ new_app (codes "serial") = c.new-3.ensures.app in
    let one : app_of c.no_binary_name.result ≡ on_top unnamed (new_app (codes "serial")) = ap app_of_fields c.no_binary_name.ensures ∙ ap (on_top unnamed) new_is in
    let two : app_of c.disable_help_flag.result ≡ on_top helpless (on_top unnamed (new_app (codes "serial"))) = ap app_of_fields c.disable_help_flag.ensures ∙ ap (on_top helpless) one in
    let three : app_of c.disable_version_flag.result ≡ on_top versionless (on_top helpless (on_top unnamed (new_app (codes "serial")))) = ap app_of_fields c.disable_version_flag.ensures ∙ ap (on_top versionless) two in
    let four : app_of c.disable_help_subcommand.result ≡ on_top topicless (on_top versionless (on_top helpless (on_top unnamed (new_app (codes "serial"))))) = ap app_of_fields c.disable_help_subcommand.ensures ∙ ap (on_top topicless) three in
    let command_is : app_of c.in_ok-command.command ≡ serial_app = c.in_ok-command.ensures.shape (search rules)
    ∙ ap₂ with_rule (c.in_ok-arg.ensures.shape (search rules) ∙ ap₂ with_rule four stripes_is) faults_is in
    let parse = c.try_get_matches_from in
    let texts : List Text = map string_bytes c.args.words.now in
    let fails = parse.ensures.kinds (ap is_simple_and_free command_is ∙ serial_free) in
    let same = ap (λ (a : App). fault_of a texts) command_is in
    let exact = serial_fault texts (any_map c.args.words.now ∙ c.requires) in
    let kinds = fault_of (app_of c.in_ok-command.command) texts in
    let none_barred = any_map c.args.words.now ∙ c.requires in
    let took = ok_says parse.result kinds (takes_words serial_names [] false texts) (ap (λ k. ok k) same ∙ exact) fails in
    record {
      taken = took;
      refused = err_says parse.result kinds (takes_words serial_names [] false texts) (ap (λ k. ok k) same ∙ exact) fails;
      stripes = value_says parse.result (app_of c.in_ok-command.command) (codes "stripes") texts command_is (refl, (refl, tt)) none_barred parse.ensures.matches took;
      faults = value_says parse.result (app_of c.in_ok-command.command) (codes "faults") texts command_is (refl, (refl, tt)) none_barred parse.ensures.matches took;
    }
