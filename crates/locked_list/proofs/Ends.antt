-- The one pass that was folded back has its calls in the history.
use Rattle.std.proofs.Common.{◌≡◌, List, [], ◌∷◌, ◌++◌, ap, ◌∙◌}
use Rattle.std.specs.Prelude.{slice_get}
use Rattle.histories.specs.Histories.{History, calls_of}
use Rattle.turn_lock.specs.declared.view.Ended.{Ended}
use Rattle.turn_lock.specs.Seen.{HaveTheirCalls}

pub only_ended : {E : Type 0} (h : History E) (ended before : List (Ended E)) (e : Ended E) → HaveTheirCalls h ended → ended ≡ before ++ e ∷ [] → before ≡ [] → calls_of e.number h ≡ e.mine
only_ended h ended before e calls is none = calls 0 e (ap (λ l. slice_get l 0) (is ∙ ap (λ b. b ++ e ∷ []) none))
