use Rattle.std.proofs.Common.{◌∙◌, sym}
use Rattle.call_words.proofs.Numbers.{setting_within}
use Rattle.call_words.proofs.settings.setting_asked.Goals as goal

pub returns-in-Some-setting_number-clause-range : goal.returns-in-Some-setting_number-clause-range
returns-in-Some-setting_number-clause-range c = setting_within c.args.name _ c.in-Some-setting_number.n (sym c.setting_number.ensures ∙ c.in-Some-setting_number.is)
