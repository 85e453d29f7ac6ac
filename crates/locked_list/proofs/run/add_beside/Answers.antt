use Rattle.std.proofs.Common.{rules, ◌≡◌, [], ap, sym, ◌∙◌}
use Rattle.histories.specs.Histories.{calls_of}
use Rattle.turn_lock.specs.Seen.{ended_of}
use Rattle.locked_list.proofs.Ends.{only_ended}
use Rattle.locked_list.proofs.run.add_beside.Goals as goal

pub returns-clause-second : goal.returns-clause-second
returns-clause-second g c all =
    let one = c.work_both-first.result.0 in
    let other = c.work_both-first.result.1 in
    let closed = c.close-lines.result.1 in
    let none : one.ended ≡ [] = search rules in
    let number : other.number ≡ 1 = search rules in
    let mine = c.work_both-first.ensures.added.1 all in
    let calls = only_ended closed.history closed.ended one.ended (ended_of other) c.close-lines.ensures.calls (c.close-lines.ensures.ended ∙ ap (λ p. p.ended) c.fold.ensures.this) none in
    ap (λ n. calls_of n closed.history) (sym number) ∙ (calls ∙ mine)
