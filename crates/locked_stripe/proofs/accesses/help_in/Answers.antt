use Rattle.std.proofs.Common.{rules, ◌≡◌, sym, ◌∙◌}
use Rattle.locked_stripe.specs.Terms.{locked_setup}
use Rattle.locked_stripe.proofs.Helping.{helped_served, helped_room}
use Rattle.locked_stripe.proofs.Trying.{stopped_read, stopped_write}
use Rattle.locked_stripe.proofs.accesses.help_in.Goals as goal

pub returns-in-Some-clause-stopped : goal.returns-in-Some-clause-stopped
returns-in-Some-clause-stopped g c =
    stopped_read c.pager_laws.ensures (locked_setup c.args.lock.now) c.args.pass.now c.serve_in.new.pass c.in-Ok.served c.args.key c.in-Some.n c.in-Ok.ensures.served (sym c.failed_read.ensures.exact ∙ c.in-Some.is)

pub returns-then-not-is_room-clause-helped : goal.returns-then-not-is_room-clause-helped
returns-then-not-is_room-clause-helped g c =
    helped_served c.pager_laws.ensures (locked_setup c.args.lock.now) c.args.pass.now c.serve_in.new.pass c.in-Ok.served c.in-Ok.ensures.served (sym c.is_room.ensures.exact ∙ c.if-not-is_room.true)

pub returns-in-Some-failed_write-clause-stopped : goal.returns-in-Some-failed_write-clause-stopped
returns-in-Some-failed_write-clause-stopped g c =
    stopped_write c.pager_laws.ensures (locked_setup c.args.lock.now) c.args.pass.now c.serve_in.new.pass c.make_room_in.new.pass c.in-Ok.served c.in-Ok-make_room_in.back c.args.key c.in-Some-failed_write.failed c.in-Some-failed_write.n c.in-Ok.ensures.served (sym c.is_room.ensures.exact ∙ c.if-not-is_room.false) c.in-Ok-make_room_in.ensures.made (sym c.failed_write.ensures.exact ∙ c.in-Some-failed_write.is)

pub returns-in-None-clause-helped : goal.returns-in-None-clause-helped
returns-in-None-clause-helped g c =
    helped_room c.pager_laws.ensures (locked_setup c.args.lock.now) c.args.pass.now c.serve_in.new.pass c.make_room_in.new.pass c.in-Ok.served c.in-Ok-make_room_in.back c.in-Ok.ensures.served (sym c.is_room.ensures.exact ∙ c.if-not-is_room.false) c.in-Ok-make_room_in.ensures.made
