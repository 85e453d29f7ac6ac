use Rattle.std.proofs.Common.{rules}
use Rattle.std.proofs.lemmas.Iterator.Search.{any_from_yields_List}
use Rattle.std.proofs.lemmas.Iterator.Splits.{YieldsList-from_slice_split}
use borrow.Author.Tests.{tests}
use Rattle.workload_text.specs.Reading.{is_empty, is_space}
use Rattle.workload_text.proofs.cut.has_empty_field.Goals as goal

pub returns-in-Some : goal.returns-in-Some
returns-in-Some c =
    rw c.in-Some.is (any_from_yields_List is_empty _ _ _ c.any.ensures.ran
    (YieldsList-from_slice_split _ is_space c.in-Some.text.now c.split.ensures.rest c.split.ensures.done c.split.ensures.closure (λ x r q k. search (rules, tests)))
    (λ x r q k. search (rules, tests)))
