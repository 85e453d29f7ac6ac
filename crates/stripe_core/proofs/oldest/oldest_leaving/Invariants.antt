use Rattle.std.proofs.Common.{◌≡◌, ◌<◌, find, length}
use Rattle.std.specs.Prelude.{IfSome}
use Rattle.stripe_core.specs.InsideOldest.{may_go_below}
use Rattle.stripe_core.proofs.oldest.oldest_leaving.Given as goal

abbrev pub invariant-loop-number : goal.invariant-loop-number
invariant-loop-number g l = record {
  within : IfSome l.oldest (λ f. f < length l.buffer.frames);
  found : l.oldest ≡ find (may_go_below g.S.Store.seen l.buffer l.regions.items l.number) l.buffer.order;
}
