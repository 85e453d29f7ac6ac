use Rattle.std.proofs.Common.{rules, ◌≡◌, false, sym, refl, ◌∙◌, true≢false}
use Rattle.store_trait.specs.FailLanes.{is_listed}
use Rattle.store_trait.proofs.Listed.{by_list, by_inner}
use Rattle.store_trait.proofs.fail_lane.FailLaneStore.read_from_store.Goals as goal

pub returns-then-lists-clause-listed : goal.returns-then-lists-clause-listed
returns-then-lists-clause-listed g c = by_list _ _ _ _ _ _ (search rules) refl (search rules) (search rules) c.fail.ensures.counted

pub returns-in-Ok-clause-listed : goal.returns-in-Ok-clause-listed
returns-in-Ok-clause-listed g c = by_inner _ _ _ _ _ (search rules) (λ fails. absurd (true≢false (sym fails))) (search rules)

pub returns-in-Err-clause-listed : goal.returns-in-Err-clause-listed
returns-in-Err-clause-listed g c = by_inner _ _ _ _ _ (search rules) (λ _. search rules) (search rules)

pub returns-in-Ok-clause-not_read : goal.returns-in-Ok-clause-not_read
returns-in-Ok-clause-not_read g c on =
    let off : is_listed c.saturating_add-self-inside.result c.args.self.now.failing_reads ≡ false = search rules in absurd (true≢false (sym on ∙ off))

pub returns-in-Err-clause-not_read : goal.returns-in-Err-clause-not_read
returns-in-Err-clause-not_read g c on =
    let off : is_listed c.saturating_add-self-inside.result c.args.self.now.failing_reads ≡ false = search rules in absurd (true≢false (sym on ∙ off))
