-- Workers and their stations may go to other threads.
use denote.RattleType.{RattleType}
use denote.Ref.{NamedLft}
use denote.Struct.Field.{unit-field}
use denote.Param.Send.{IsSend, IsSync, sendable}
use Rattle.std.proofs.Crossing.{crosses}
use Rattle.turn_lock.specs.Crossing.{pass_field_send, lock_sync}
use Rattle.turn_lock.specs.contracts.pass.Seated as pass
use Rattle.turn_lock.specs.contracts.lock.TurnLock as lock
use Rattle.lock_bench.specs.contracts.tally.Tally as tally
use Rattle.lock_bench.specs.contracts.tally.TallyStands.TheImpl as impl
use Rattle.lock_bench.specs.contracts.worker.Station as station
use Rattle.lock_bench.specs.contracts.worker.Worker as worker

tally_send : IsSend tally.the_row
tally_send = search (sendable, crosses) depth 40

tally_pass_send : IsSend (pass.the_field tally.the_row (unit-field).row).row
tally_pass_send = pass_field_send tally.the_row (unit-field).row tally_send

tally_lock_sync : IsSync (lock.the_row tally.the_row (unit-field).row (unit-field).row impl.ghosts)
tally_lock_sync = lock_sync tally.the_row (unit-field).row (unit-field).row impl.ghosts tally_send

station_send : (a : NamedLft) → IsSend (station.the_row a)
station_send a = search (sendable, tally_pass_send, tally_lock_sync) depth 40

pub worker_send : (r a : NamedLft) (R : RattleType) → IsSync R → IsSend (worker.the_row r a R)
worker_send r a R y = search (sendable, crosses, station_send) depth 40
