use Rattle.std.proofs.Common.{sym, arith}
use Rattle.std.proofs.lemmas.Option.{slice_get_within}
use Rattle.page_model.specs.Core.{is_unmapped}
use Rattle.serial_pager.proofs.Walks.{all_by_items}
use Rattle.serial_pager.proofs.pager.walks.all_unmapped.Goals as goal

pub loop-stripe-init : goal.loop-stripe-init
loop-stripe-init g c = λ s x below e. absurd (omega (arith, below))

pub returns : goal.returns
returns g c = record {
  exact = sym (all_by_items (λ x. is_unmapped x.core c.args.region) c.args.stripes.now.items (λ s x e. c.loop-stripe.invariant s x (omega (arith, slice_get_within c.args.stripes.now.items s x e, c.loop-stripe-test.false)) e));
}
