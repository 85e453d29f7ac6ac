use denote.Param.Send.{sendable}
use Rattle.locked_list.proofs.Sent.{adder_send}
use Rattle.locked_list.proofs.run.work_both.Goals as goal

pub work_two-requires-send-J : goal.work_two-requires-send-J
work_two-requires-send-J g c κs within = search (sendable, adder_send) depth 40
