-- A stripe may go to another thread where its lanes may. Callers list these lemmas where they start threads.
use denote.RattleType.{RattleType}
use denote.Param.Send.{IsSend, sendable}
use Rattle.std.proofs.Crossing.{crosses}
use Rattle.store_trait.specs.declared.store.Store.{Ghosts}
use Rattle.soft_mmu.proofs.table.PageTable.TheSendSync as table_may
use Rattle.page_buffer.proofs.buffer.PageBuffer.TheSendSync as buffer_may
use Rattle.fault_queue.proofs.queue.FaultQueue.TheSendSync as queue_may
use Rattle.soft_mmu.specs.contracts.table.PageTable as table
use Rattle.page_buffer.specs.contracts.buffer.PageBuffer as buffer
use Rattle.fault_queue.specs.contracts.queue.FaultQueue as queue
use Rattle.std.specs.contracts.snapshot.Snapshot as snapshot
use Rattle.stripe_core.specs.contracts.read_faults.ReadFaults as read_faults
use Rattle.stripe_core.specs.contracts.region.Lane as lane
use Rattle.stripe_core.specs.contracts.region.Region as region
use Rattle.stripe_core.specs.contracts.stripe.Stripe as stripe
use Rattle.stripe_core.specs.contracts.waiting_faults.WaitingFaults as waiting

snapshot_send : (S : RattleType) → IsSend (snapshot.the_row S)
snapshot_send S = record { owned = λ d vs. ((λ vss. (tt, ((λ uss. (tt, tt)), tt))), tt); leaving = λ k f vs. tt }

table_send : IsSend table.the_row
table_send = table_may.the_send

buffer_send : IsSend buffer.the_row
buffer_send = buffer_may.the_send

queue_send : IsSend queue.the_row
queue_send = queue_may.the_send

waiting_send : IsSend waiting.the_row
waiting_send = search (sendable, crosses, queue_send) depth 40

read_faults_send : IsSend read_faults.the_row
read_faults_send = search (sendable, crosses, snapshot_send) depth 40

lane_send : (S : RattleType) → IsSend S → IsSend (lane.the_row S)
lane_send S s = search (sendable, crosses) depth 40

region_send : (S : RattleType) → IsSend S → IsSend (region.the_row S)
region_send S s = search (sendable, crosses, lane_send, read_faults_send) depth 40

pub stripe_send : (S : RattleType) (g : Ghosts S.Denot) → IsSend S → IsSend (stripe.the_row S g)
stripe_send S g s = search (sendable, crosses, snapshot_send, table_send, buffer_send, waiting_send, region_send) depth 40

-- a stripe that is a field of another struct
pub stripe_field_send : (S : RattleType) (g : Ghosts S.Denot) → IsSend S → IsSend (stripe.the_field S g).row
stripe_field_send S g s = search (sendable, crosses, snapshot_send, table_send, buffer_send, waiting_send, region_send) depth 40
