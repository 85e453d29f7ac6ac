use Rattle.std.proofs.Common.{◌∙◌}
use Rattle.serial_pager.proofs.Pieces.{closes_here, page_here, stripe_here}
use Rattle.serial_pager.proofs.pager.SerialPager.is_closing.Goals as goal

pub is_closing-requires : goal.is_closing-requires
is_closing-requires g c =
    let ins = c.self.inside in
    let s = c.stripe_of-stripe.result in
    let x = c.index.result.now in
    let here = stripe_here ins.config ins.stripes.items ins.spent c.args.self.now c.self.view_is s x c.stripe_of-stripe.ensures.below c.index.ensures in
    record { region = c.model_laws.ensures.pages.region x.core.setup c.args.key (page_here ins.config ins.stripes.items ins.spent c.args.self.now c.self.view_is c.self.invariant.0 s x here c.args.key c.stripe_of-stripe.ensures.stripe c.requires.page) }

pub returns : goal.returns
returns g c =
    let ins = c.self.inside in
    let s = c.stripe_of-stripe.result in
    let x = c.index.result.now in
    let here = stripe_here ins.config ins.stripes.items ins.spent c.args.self.now c.self.view_is s x c.stripe_of-stripe.ensures.below c.index.ensures in
    record { exact = c.is_closing.ensures.exact ∙ closes_here ins.config ins.stripes.items ins.spent c.args.self.now c.self.view_is c.self.invariant.0 s x here c.args.key c.stripe_of-stripe.ensures.stripe c.requires.page c.args.key.region }
