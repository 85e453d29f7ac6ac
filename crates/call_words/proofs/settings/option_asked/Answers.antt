use Rattle.std.proofs.Common.{◌∙◌, sym}
use Rattle.call_words.proofs.Numbers.{option_within}
use Rattle.call_words.proofs.settings.option_asked.Goals as goal

pub returns-in-Some-option_number-clause-range : goal.returns-in-Some-option_number-clause-range
returns-in-Some-option_number-clause-range c = option_within c.args.name _ c.in-Some-option_number.n (sym c.option_number.ensures ∙ c.in-Some-option_number.is)
