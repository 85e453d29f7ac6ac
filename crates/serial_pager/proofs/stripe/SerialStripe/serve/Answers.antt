use Rattle.std.proofs.Common.{ap, sym, ◌∙◌, ◌≡◌}
use Rattle.page_model.specs.Core.{next}
use Rattle.page_model.specs.declared.seen.Next.TheVariants as serve
use Rattle.serial_pager.proofs.Results.{on_ok}
use Rattle.serial_pager.proofs.Rooms.{something_next}
use Rattle.serial_pager.proofs.stripe.SerialStripe.serve.Goals as goal

pub unreachable-requires : goal.unreachable-requires
unreachable-requires g c =
    let is : next c.args.self.now.core ≡ serve.Nothing = ap (λ v. next v.core) (sym c.self.view_is) ∙ (sym c.next.ensures.exact ∙ c.in-Nothing.is) in
    something_next c.model_laws.ensures c.args.self.now.core c.requires.rest c.requires.waits is

pub returns-in-Room-clause-went : goal.returns-in-Room-clause-went
returns-in-Room-clause-went g c = on_ok c.make_room.result c.make_room.ensures.went (λ w reasons. w c.args.key reasons)
