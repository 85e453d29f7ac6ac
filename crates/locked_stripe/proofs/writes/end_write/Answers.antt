use Rattle.std.proofs.Common.{rules, ◌≡◌, sym, ap}
use Rattle.locked_stripe.proofs.writes.end_write.Goals as goal

pub returns-in-Ok-clause-ok : goal.returns-in-Ok-clause-ok
returns-in-Ok-clause-ok g c = rw (sym (ap (λ t. t.key) c.in-Ok.ensures.start), sym (ap (λ t. t.at) c.in-Ok.ensures.start)) c.wrote.ensures.held

pub returns-in-Err-clause-err : goal.returns-in-Err-clause-err
returns-in-Err-clause-err g c = rw (sym (ap (λ t. t.key) c.in-Err.ensures.start)) c.wrote_badly.ensures.held
