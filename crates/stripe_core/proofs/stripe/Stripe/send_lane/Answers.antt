use Rattle.std.proofs.Common.{ap, arith, refl, length, length-set, slice_get, slice_set, sym, ◌≡◌, ◌≤◌, ◌+◌, ◌∙◌}
use Rattle.std.specs.Prelude.{vec_capacity}
use Rattle.std.proofs.lemmas.Option.{slice_get_within}
use Rattle.page_model.specs.Core.{Core, Writing, is_home_place, place_passes}
use Rattle.page_model.specs.Core as core
use Rattle.page_model.specs.Steps.{placed}
use Rattle.stripe_core.specs.declared.region.Lane.TheVariants as lane
use Rattle.stripe_core.specs.Parts.{region_seen, place_of}
use Rattle.stripe_core.specs.InsideParts.{reads_of}
use Rattle.stripe_core.specs.InsideTied.{Tied, CountsWithin}
use Rattle.stripe_core.proofs.Lanes.{passing, home_reads_none, changed_seen, seen_at}
use Rattle.stripe_core.proofs.RegionTies.{reads_kept}
use Rattle.stripe_core.proofs.Sizes.{rezoned}
use Rattle.stripe_core.proofs.Writing.{write_step}
use Rattle.stripe_core.proofs.stripe.Stripe.send_lane.Goals as goal

pub swap_lane-requires : goal.swap_lane-requires
swap_lane-requires g c =
    let s = c.self.inside in
    let r = c.args.key.region in
    let home = passing g.S.Store.seen s.regions.items r is_home_place (ap (λ gs. place_passes is_home_place (slice_get gs r)) (ap (λ (v : Core). v.regions) c.self.view_is) ∙ c.requires.home) in
    record { region = slice_get_within s.regions.items r home.region home.is }

pub into_home-lane-requires : goal.into_home-lane-requires
into_home-lane-requires g c =
    let s = c.self.inside in
    let r = c.args.key.region in
    let home = passing g.S.Store.seen s.regions.items r is_home_place (ap (λ gs. place_passes is_home_place (slice_get gs r)) (ap (λ (v : Core). v.regions) c.self.view_is) ∙ c.requires.home) in
    record { home = ap (λ l. is_home_place (place_of g.S.Store.seen l)) (c.swap_lane.ensures.lane home.region home.is) ∙ home.passes }

pub invariant_of-self : goal.invariant_of-self
invariant_of-self g c =
    let s = c.self.inside in
    let r = c.args.key.region in
    let home = passing g.S.Store.seen s.regions.items r is_home_place (ap (λ gs. place_passes is_home_place (slice_get gs r)) (ap (λ (v : Core). v.regions) c.self.view_is) ∙ c.requires.home) in
    let new = record home.region { lane = lane.Writing c.args.key s.events } in
    let reads = reads_kept s.regions.items r home.region new home.is (sym (home_reads_none g.S.Store.seen home.region.lane home.passes)) in
    let tied : Tied s.table s.buffer (reads_of (slice_set s.regions.items r new)) = rw reads c.self.invariant.0 in
    let room : length (slice_set s.regions.items r new) ≤ vec_capacity s.home = let n = length-set s.regions.items r new in omega (arith, n, c.self.invariant.3) in
    let counted : CountsWithin s.counts (s.events + 1) = omega (arith, c.self.invariant.4) in
    rw (c.swap_lane.ensures.regions home.region home.is) (tied, rezoned r home.region new home.is refl c.self.invariant.1, c.self.invariant.2, room, counted)

pub returns-clause-step : goal.returns-clause-step
returns-clause-step g c =
    let s = c.self.inside in
    let r = c.args.key.region in
    let home = passing g.S.Store.seen s.regions.items r is_home_place (ap (λ gs. place_passes is_home_place (slice_get gs r)) (ap (λ (v : Core). v.regions) c.self.view_is) ∙ c.requires.home) in
    let new = record home.region { lane = lane.Writing c.args.key s.events } in
    let regions = changed_seen g.S.Store.seen s.regions.items r home.region new (placed (Writing c.args.key s.events)) home.is refl in
    rw (c.swap_lane.ensures.regions home.region home.is) (write_step g.S.Store.seen _ s.table s.buffer s.queue.raises s.regions.items _ s.evicting s.counts s.events c.args.key c.args.self.now c.self.view_is regions)

pub returns-clause-here : goal.returns-clause-here
returns-clause-here g c =
    let s = c.self.inside in
    let r = c.args.key.region in
    let regs = ap (λ (v : Core). v.regions) c.self.view_is in
    let home = passing g.S.Store.seen s.regions.items r is_home_place (ap (λ gs. place_passes is_home_place (slice_get gs r)) regs ∙ c.requires.home) in
    let was : home.region.lane ≡ lane.Home c.into_home-lane.result = sym (c.swap_lane.ensures.lane home.region home.is) ∙ c.into_home-lane.ensures.is in
    record {
      region = region_seen g.S.Store.seen home.region;
      is = ap (λ gs. slice_get gs r) (sym regs) ∙ seen_at g.S.Store.seen s.regions.items r home.region home.is;
      home = ap (place_of g.S.Store.seen) was ∙ ap (λ x. core.Home (g.S.Store.seen x)) (sym c.of-taken.ensures);
    }
