use Rattle.std.proofs.Common.{◌∙◌, sym}
use Rattle.applied_laws.proofs.lists.keys_of_one_page.Goals as goal

pub returns : goal.returns
returns c = λ j k e. sym (c.same_is_equal.ensures.swaps j k) ∙ e
