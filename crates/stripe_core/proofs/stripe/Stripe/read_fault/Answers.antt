use Rattle.std.proofs.Common.{◌∙◌, ◌<◌, ap, arith, refl, sym, map, length}
use Rattle.std.proofs.lemmas.Option.{slice_get_read}
use Rattle.page_model.specs.Core.{Core, read_fault, fault_at}
use Rattle.page_model.specs.Setups.{has_page}
use Rattle.stripe_core.specs.Configs.{setup_of}
use Rattle.stripe_core.proofs.Ended.{page_within, region_within}
use Rattle.stripe_core.proofs.Lanes.{seen_at}
use Rattle.stripe_core.proofs.stripe.Stripe.read_fault.Goals as goal

pub get-requires : goal.get-requires
get-requires g c =
    let s = c.self.inside in
    let setup = setup_of s.config.value (map g.S.Store.seen s.lanes.value.items) in
    let has = ap (λ (v : Core). has_page v.setup c.args.key) c.self.view_is ∙ c.requires.page in
    let here : c.args.key.region < length s.regions.items = let n = region_within setup c.args.key has in omega (arith, n, c.self.invariant.1.regions) in
    let is = slice_get_read s.regions.items (length s.regions.items) c.args.key.region c.index.result.now refl here c.index.ensures in
    let size = c.self.invariant.1.faults c.args.key.region c.index.result.now is in
    let within = page_within setup c.args.key has in
    record { own = c.self.invariant.1.shares c.args.key.region c.index.result.now is c.args.key refl has; within = omega (arith, size, within) }

pub returns : goal.returns
returns g c =
    let s = c.self.inside in
    let setup = setup_of s.config.value (map g.S.Store.seen s.lanes.value.items) in
    let has = ap (λ (v : Core). has_page v.setup c.args.key) c.self.view_is ∙ c.requires.page in
    let here : c.args.key.region < length s.regions.items = let n = region_within setup c.args.key has in omega (arith, n, c.self.invariant.1.regions) in
    let is = slice_get_read s.regions.items (length s.regions.items) c.args.key.region c.index.result.now refl here c.index.ensures in
    let seen = ap (λ x. fault_at x c.args.key.page) (seen_at g.S.Store.seen s.regions.items c.args.key.region c.index.result.now is) in
    record { exact = c.get.ensures.exact ∙ (sym seen ∙ ap (λ (v : Core). read_fault v c.args.key) c.self.view_is) }
