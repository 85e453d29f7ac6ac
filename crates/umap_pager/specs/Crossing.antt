-- Where lanes and journals may go to other threads, a pager over them may be shared, and its passes may go to other threads.
-- Callers list these lemmas where they start threads.
use denote.RattleType.{RattleType}
use denote.Param.Send.{IsSend, IsSync, sendable}
use Rattle.std.proofs.Crossing.{crosses}
use Rattle.page_model.specs.declared.journal.Journal.{Ghosts as Notes}
use Rattle.store_trait.specs.declared.store.Store.{Ghosts}
use Rattle.region_table.proofs.table.RegionTable.TheSendSync as table_may
use Rattle.region_table.specs.contracts.table.RegionTable as table
use Rattle.std.specs.contracts.sync.Mutex as mutex
use Rattle.stripe_core.proofs.config.StripeConfig.TheSendSync as config_may
use Rattle.stripe_core.specs.contracts.config.StripeConfig as config
use Rattle.turn_lock.specs.contracts.lock.TurnLock as lock
use Rattle.turn_lock.specs.declared.stands.Stands.{Ghosts as Standing}
use Rattle.turn_lock.specs.Crossing.{pass_send, pass_field_send, lock_sync}
use Rattle.locked_stripe.specs.Crossing.{box_send}
use Rattle.locked_stripe.specs.contracts.stripe_box.StripeBox as stripe_box
use Rattle.umap_pager.specs.contracts.pager.Pager as pager
use Rattle.umap_pager.specs.contracts.passes.Passes as passes
use Rattle.umap_pager.specs.contracts.room.EndRoom as room

pub passes_send : (S J : RattleType) (g : Ghosts S.Denot) → IsSend S → IsSend J → IsSend (passes.the_row S J g)
passes_send S J g s j = search (sendable, crosses, pass_send, pass_field_send, box_send) depth 40

-- passes that are a field of another struct
pub passes_field_send : (S J : RattleType) (g : Ghosts S.Denot) → IsSend S → IsSend J → IsSend (passes.the_field S J g).row
passes_field_send S J g s j = search (sendable, crosses, pass_send, pass_field_send, box_send) depth 40

table_sync : IsSync table.the_row
table_sync = table_may.the_sync

config_sync : IsSync config.the_row
config_sync = config_may.the_sync

stripe_lock_sync : (S J E F : RattleType) (g : Ghosts S.Denot) (t : Standing (stripe_box.the_row S J g).Denot E.Denot F.Denot) → IsSend S → IsSend J → IsSync (lock.the_row (stripe_box.the_row S J g) E F t)
stripe_lock_sync S J E F g t s j = lock_sync (stripe_box.the_row S J g) E F t (box_send S J g s j)

room_send : (S J : RattleType) → IsSend S → IsSend J → IsSend (room.the_row S J)
room_send S J s j = search (sendable, crosses) depth 40

kept_room_sync : (S J : RattleType) → IsSend S → IsSend J → IsSync (mutex.the_row (room.the_row S J))
kept_room_sync S J s j = let r : IsSend (room.the_row S J) = room_send S J s j in search (sendable, crosses) depth 20

pub pager_sync : (S J M : RattleType) (g : Ghosts S.Denot) (n : Notes J.Denot M.Denot) → IsSend S → IsSend J → IsSync (pager.the_row S J M g n)
pager_sync S J M g n s j = let k : IsSync (mutex.the_row (room.the_row S J)) = kept_room_sync S J s j in search (sendable, crosses, stripe_lock_sync, table_sync, config_sync) depth 40 fits 20000

-- a pager that is a field of another struct
pub pager_field_sync : (S J M : RattleType) (g : Ghosts S.Denot) (n : Notes J.Denot M.Denot) → IsSend S → IsSend J → IsSync (pager.the_field S J M g n).row
pager_field_sync S J M g n s j = let k : IsSync (mutex.the_row (room.the_row S J)) = kept_room_sync S J s j in search (sendable, crosses, stripe_lock_sync, table_sync, config_sync) depth 40 fits 20000
