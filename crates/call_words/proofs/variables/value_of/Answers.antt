use Rattle.std.proofs.Common.{Bool, cond, ◌&&◌, Option, Some, None, ap, sym, arith}
use Rattle.std.specs.List.{before_first, after_first}
use Rattle.std.specs.Str.{bytes_eq}
use Rattle.std.proofs.lemmas.Str.Pattern.{split_parts}
use Rattle.clap.proofs.CutLemmas.{list_any-Lacks}
use Rattle.call_words.specs.Uses.{Text, is_equals}
use Rattle.call_words.proofs.variables.value_of.Goals as goal

pub returns-in-None : goal.returns-in-None
returns-in-None c =
    let name : Text = c.args.name.now in
    let var : Text = c.args.var.now in
    let no : Option Text = None in
    let lacks = split_parts 61 var None c.in-None.ensures.cases (omega arith) in
    sym (ap (λ (b : Bool). cond (b && bytes_eq (before_first is_equals var) name) (Some (after_first is_equals var)) no) (list_any-Lacks 61 var lacks))
