use denote.Param.Send.{sendable}
use Rattle.lock_bench.proofs.Sent.{worker_send}
use Rattle.lock_bench.proofs.rounds.time_at.Goals as goal

pub work_all-requires-send-J : goal.work_all-requires-send-J
work_all-requires-send-J g c κs within = search (sendable, worker_send) depth 40
