use denote.Param.Send.{sendable}
use Rattle.locked_list.proofs.Sent.{adder_send}
use Rattle.locked_list.proofs.run.add_all.Goals as goal

pub work_beside-requires-send-W : goal.work_beside-requires-send-W
work_beside-requires-send-W g c κs within = search (sendable, adder_send) depth 40

pub work_beside-requires-send-C : goal.work_beside-requires-send-C
work_beside-requires-send-C g c κs within = search (sendable, adder_send) depth 40
