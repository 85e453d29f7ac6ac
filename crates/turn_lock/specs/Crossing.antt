-- Where a value may go to another thread, so may a pass of its lock, and the lock may be shared. Callers list these lemmas
-- where they start threads. No clause can say them of every type, so they stand here and not in a law of `src/laws.rt`.
use denote.RattleType.{RattleType}
use denote.Param.Send.{IsSend, IsSync, Frees, sendable, part_keyless}
use denote.Struct.Struct.{Struct}
use denote.Struct.Owning.{shape}
use Rattle.atomic_table.specs.contracts.owned.Table as table
use Rattle.turn_lock.specs.contracts.view.Terms as terms
use Rattle.atomic_table.proofs.Sent.{seat_keyless, shares_keyless}
use Rattle.atomic_table.specs.contracts.shared.Seat as seat
use Rattle.std.specs.contracts.snapshot.Snapshot as snapshot
use Rattle.atomic_table.specs.contracts.shared.Shared as shared
use Rattle.atomic_table.specs.contracts.send_lease.SendLease as lease
use Rattle.atomic_table.specs.declared.shared.TableRule.{Ghosts as Rule}
use Rattle.std.specs.declared.alloc.Allocator.{Ghosts as Gives}
use Rattle.atomic_table.proofs.Rights.{right_send}
use Rattle.turn_lock.specs.contracts.lock.TurnLock as lock
use Rattle.std.specs.contracts.option.Option as option
use Rattle.std.proofs.Crossing.{crosses}
use Rattle.turn_lock.specs.contracts.pass.Seated as pass
use Rattle.turn_lock.specs.declared.stands.Stands.{Ghosts}

seat_send : (S V : RattleType) → IsSend S → IsSend (seat.the_row S V)
seat_send S V s = record { owned = λ d vs. ((λ vss. (tt, ((λ uss. (tt, tt)), tt))), seat_keyless S s V.coded.code d.table_id d.id d.me); leaving = λ k f vs. tt }

snapshot_send : (S : RattleType) → IsSend (snapshot.the_row S)
snapshot_send S = record { owned = λ d vs. ((λ vss. (tt, ((λ uss. (tt, tt)), tt))), tt); leaving = λ k f vs. tt }

snapshot_sync : (S : RattleType) → IsSync (snapshot.the_row S)
snapshot_sync S = record { shared = λ d b o κ q. part_keyless (snapshot.the_row S) (snapshot_send S) q d b o }

shared_sync : (S V K P : RattleType) (g : Rule P.Denot S.Denot V.Denot K.Denot) → IsSend S → IsSync (shared.the_row S V K P g)
shared_sync S V K P g s = let fields : IsSync (Struct (shape (shared.the_type S V K P g))) = search sendable depth 20 in
    record { shared = λ d b o ν. (fields.shared (d.words, (d.slots, (tt, tt))) b o ν, shares_keyless S s V.coded.code d.table_id (g.holds d.key) d.words d.slots ν) }

lease_sync : (T A : RattleType) (g : Gives A.Denot) → Frees g g.dealloc_token → IsSync (lease.the_row T A g)
lease_sync T A g f = record { shared = λ d b o ν q. part_keyless (lease.the_row T A g) (right_send T A g f) q d b o }

terms_sync : (T : RattleType) → IsSync (terms.the_row T)
terms_sync T = search (sendable, snapshot_sync) depth 20

option_send : (T : RattleType) → IsSend T → IsSend (option.the_row T)
option_send T s = search sendable depth 20

table_field_sync : (S V K P A : RattleType) (g : Rule P.Denot S.Denot V.Denot K.Denot) (a : Gives A.Denot) → IsSend S → IsSync A → Frees a a.dealloc_token → IsSync (table.the_field S V K P A g a).row
table_field_sync S V K P A g a s y f =
    let c : IsSync (shared.the_field S V K P g).row = shared_sync S V K P g s in search (sendable, lease_sync) depth 20

pub pass_send : (T E : RattleType) → IsSend T → IsSend (pass.the_row T E)
pass_send T E s = search (sendable, seat_send, snapshot_send) depth 20

-- a pass that is a field of another struct
pub pass_field_send : (T E : RattleType) → IsSend T → IsSend (pass.the_field T E).row
pass_field_send T E s = search (sendable, seat_send, snapshot_send) depth 20

pub lock_sync : (T E F : RattleType) (g : Ghosts T.Denot E.Denot F.Denot) → IsSend T → IsSync (lock.the_row T E F g)
lock_sync T E F g s =
    let o : IsSend (option.the_row T) = option_send T s in search (sendable, crosses, table_field_sync, terms_sync) depth 40

-- a lock that is a field of another struct
pub lock_field_sync : (T E F : RattleType) (g : Ghosts T.Denot E.Denot F.Denot) → IsSend T → IsSync (lock.the_field T E F g).row
lock_field_sync T E F g s =
    let o : IsSend (option.the_row T) = option_send T s in search (sendable, crosses, table_field_sync, terms_sync) depth 40
