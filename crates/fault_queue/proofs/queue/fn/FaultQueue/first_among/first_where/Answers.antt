use Rattle.std.proofs.Common.{ℕ, Bool, sym, subst}
use Rattle.page_base.specs.declared.keys.Raise.{Raise}
use Rattle.fault_queue.specs.Queues.{group_region, opens}
use Rattle.fault_queue.specs.contracts.queue.FaultQueue.first_among.T-Fn.{words}
use Rattle.fault_queue.proofs.queue.fn.FaultQueue.first_among.first_where.Goals as goal

pub test-requires : goal.test-requires
test-requires g c =
    let r : Raise = record { key = c.args.key; why = c.args.why } in
    let P : ℕ → Bool → Type 0 = λ n b. (words g.row.T g.T.Fn).pre c.captures.test n b in
    subst (λ n. P n c.is_opening.result) (sym (c.region_of.ensures.exact c.args.why)) (subst (P (group_region r)) (sym (c.is_opening.ensures.exact c.args.key)) c.requires)

pub returns : goal.returns
returns g c =
    let r : Raise = record { key = c.args.key; why = c.args.why } in
    let P : ℕ → Bool → Type 0 = λ n b. (words g.row.T g.T.Fn).post c.captures.test n b c.test.result in
    subst (λ n. P n (opens r)) (c.region_of.ensures.exact c.args.why) (subst (P c.region_of.result) (c.is_opening.ensures.exact c.args.key) c.test.ensures)
