use Rattle.std.proofs.Common.{◌≡◌, ◌+◌, true, false, cond, ℕ, arith, sym, ap, ◌∙◌}
use Rattle.page_base.specs.declared.keys.Raise.{Raise}
use Rattle.fault_queue.specs.Queues.{group_region, opens}
use Rattle.fault_queue.proofs.queue.group.Goals as goal

pub returns-then-is_opening-clause-exact : goal.returns-then-is_opening-clause-exact
returns-then-is_opening-clause-exact c =
    let r : Raise = record { key = c.args.key; why = c.args.why } in
    let yes : opens r ≡ true = sym (c.is_opening.ensures.exact c.args.key) ∙ c.if-is_opening.true in
    ap (λ n. 64 + n) (c.from-region.ensures ∙ c.region_of.ensures.exact c.args.why) ∙ ap (λ b. cond {A = ℕ} b (64 + group_region r) (group_region r)) (sym yes)

pub returns-then-is_opening-clause-below : goal.returns-then-is_opening-clause-below
returns-then-is_opening-clause-below c = let is = c.from-region.ensures ∙ c.region_of.ensures.exact c.args.why in omega (arith, is)

pub returns-else-is_opening-clause-exact : goal.returns-else-is_opening-clause-exact
returns-else-is_opening-clause-exact c =
    let r : Raise = record { key = c.args.key; why = c.args.why } in
    let no : opens r ≡ false = sym (c.is_opening.ensures.exact c.args.key) ∙ c.if-is_opening.false in
    (c.from-region.ensures ∙ c.region_of.ensures.exact c.args.why) ∙ ap (λ b. cond {A = ℕ} b (64 + group_region r) (group_region r)) (sym no)

pub returns-else-is_opening-clause-below : goal.returns-else-is_opening-clause-below
returns-else-is_opening-clause-below c = let is = c.from-region.ensures ∙ c.region_of.ensures.exact c.args.why in omega (arith, is)
