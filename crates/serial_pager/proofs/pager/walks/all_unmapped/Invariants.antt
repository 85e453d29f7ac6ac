use Rattle.std.proofs.Common.{◌≡◌, ◌<◌, Some, ℕ, slice_get, true}
use Rattle.page_model.specs.Core.{is_unmapped}
use Rattle.serial_pager.specs.Seen.{StripeSeen}
use Rattle.serial_pager.proofs.pager.walks.all_unmapped.Given as goal

abbrev pub invariant-loop-stripe : goal.invariant-loop-stripe
invariant-loop-stripe g l = (s : ℕ) (x : StripeSeen _) → s < l.stripe → slice_get l.stripes.items s ≡ Some x → is_unmapped x.core l.region ≡ true
