-- A stripe with its journal may go to another thread where the lanes and the journal may; then its lock may be shared. Callers
-- list these lemmas where they start threads.
use denote.RattleType.{RattleType}
use denote.Param.Send.{IsSend, sendable}
use Rattle.std.proofs.Crossing.{crosses}
use Rattle.store_trait.specs.declared.store.Store.{Ghosts}
use Rattle.stripe_core.specs.Crossing.{stripe_send, stripe_field_send}
use Rattle.locked_stripe.specs.contracts.stripe_box.NotedStripe as noted
use Rattle.locked_stripe.specs.contracts.stripe_box.StripeBox as stripe_box

noted_send : (S J : RattleType) (g : Ghosts S.Denot) → IsSend S → IsSend J → IsSend (noted.the_row S J g)
noted_send S J g s j = search (sendable, crosses, stripe_send, stripe_field_send) depth 40

pub box_send : (S J : RattleType) (g : Ghosts S.Denot) → IsSend S → IsSend J → IsSend (stripe_box.the_row S J g)
box_send S J g s j = search (sendable, crosses, noted_send) depth 40
