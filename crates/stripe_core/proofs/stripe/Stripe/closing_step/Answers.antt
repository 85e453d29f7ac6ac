use Rattle.std.proofs.Common.{true, ◌+◌, ◌<◌, Some, ap, arith, length, length-set, refl, slice_get, ◌≡◌}
use Rattle.std.proofs.lemmas.Option.{slice_get_read}
use Rattle.page_model.specs.Core.{Core, RegionSeen}
use Rattle.page_model.specs.Setups.{regions}
use Rattle.stripe_core.specs.InsideTied.{Tied, CountsWithin}
use Rattle.stripe_core.proofs.Lanes.{changed_seen}
use Rattle.stripe_core.proofs.RegionTies.{reads_kept}
use Rattle.stripe_core.proofs.Sizes.{rezoned}
use Rattle.stripe_core.proofs.stripe.Stripe.closing_step.Goals as goal

pub invariant_of-self : goal.invariant_of-self
invariant_of-self g c =
    let s = c.self.inside in
    let old = c.index_mut.result.now in
    let shapes = ap (λ (v : Core). regions v.setup) c.self.view_is in
    let within : c.args.region < length s.regions.items = omega (arith, shapes, c.self.invariant.1.regions, c.requires.region) in
    let is : slice_get s.regions.items c.args.region ≡ Some old = slice_get_read s.regions.items _ c.args.region old refl within c.index_mut.ensures.value in
    let new = record old { closing = true } in
    let tied : Tied s.table s.buffer _ = rw (reads_kept s.regions.items c.args.region old new is refl) c.self.invariant.0 in
    let counted : CountsWithin s.counts (s.events + 1) = omega (arith, c.self.invariant.4) in
    (tied, rezoned c.args.region old new is refl c.self.invariant.1, c.self.invariant.2, rw (length-set s.regions.items c.args.region new) c.self.invariant.3, counted)

pub returns : goal.returns
returns g c =
    let s = c.self.inside in
    let old = c.index_mut.result.now in
    let shapes = ap (λ (v : Core). regions v.setup) c.self.view_is in
    let within : c.args.region < length s.regions.items = omega (arith, shapes, c.self.invariant.1.regions, c.requires.region) in
    let is : slice_get s.regions.items c.args.region ≡ Some old = slice_get_read s.regions.items _ c.args.region old refl within c.index_mut.ensures.value in
    let regions = changed_seen g.S.Store.seen s.regions.items c.args.region old (record old { closing = true }) (λ (x : RegionSeen). record x { closing = true }) is refl in
    record { step = rw (← c.self.view_is) (cc regions) }
