use Rattle.std.proofs.Common.{rules, le-leb}
use Rattle.std.proofs.lemmas.Iterator.Search.{all_from_yields_List}
use Rattle.std.proofs.lemmas.Iterator.Splits.{YieldsList-from_slice_split}
use borrow.Author.Tests.{tests}
use Rattle.workload_text.specs.Grammar.{is_component, is_slash}
use Rattle.workload_text.proofs.field.is_path.Goals as goal

pub returns-then-field-le-MOST_PATH_BYTES : goal.returns-then-field-le-MOST_PATH_BYTES
returns-then-field-le-MOST_PATH_BYTES c =
    rw (le-leb _ _ c.if-field-le-MOST_PATH_BYTES.true) (all_from_yields_List is_component _ _ _ c.all.ensures.ran
    (YieldsList-from_slice_split _ is_slash c.args.field.now c.split.ensures.rest c.split.ensures.done c.split.ensures.closure (λ x r q k. search (rules, tests)))
    (λ x r q k. search (rules, tests)))
