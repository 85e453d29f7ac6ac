use Rattle.std.proofs.Common.{◌≡◌, ℕ, ◌<◌, Some}
use Rattle.std.specs.List.{slice_get}
use Rattle.page_model.specs.declared.entry.Entry.{Entry}
use Rattle.turn_lock.specs.Seen.{PassSeen}
use Rattle.umap_pager.proofs.passes.Passes.have_spare.Given as goal

abbrev pub invariant-loop-stripe : goal.invariant-loop-stripe
invariant-loop-stripe g l = (s : ℕ) (pass : PassSeen _ Entry) → s < l.stripe → slice_get l.self.passes s ≡ Some pass → pass.spare ≡ 0 → ⊥
