use Rattle.std.proofs.Common.{refl}
use Rattle.workload_text.specs.Grammar.{lines_in}
use Rattle.workload_text.proofs.Sound.{text_sound}
use Rattle.workload_text.proofs.Complete.{text_complete}
use Rattle.workload_text.proofs.Refused.{taken, taken_as}
use Rattle.workload_text.proofs.laws.text_is_spelt_or_refused.Goals as goal

pub returns : goal.returns
returns c =
    λ bytes. (
      λ h. taken_as bytes h.1.texts (text_complete bytes h.1.texts h.1.text),
      λ none. let t = taken bytes none in (lines_in t.0, record { texts = t.0; text = text_sound bytes t.0 t.1; lines_are = refl }),
    )
