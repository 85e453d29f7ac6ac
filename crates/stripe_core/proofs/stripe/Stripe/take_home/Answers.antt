use Rattle.std.proofs.Common.{Bool, ap, arith, refl, length, length-set, slice_get, slice_set, sym, ◌≤◌, ◌∙◌}
use Rattle.std.specs.Prelude.{vec_capacity}
use Rattle.std.proofs.lemmas.Option.{slice_get_within}
use Rattle.page_model.specs.Core.{Core, LanePlace, Home, place_passes, writes}
use Rattle.page_model.specs.Steps.{placed}
use Rattle.stripe_core.specs.declared.region.Lane.TheVariants as lane
use Rattle.stripe_core.specs.Parts.{place_of}
use Rattle.stripe_core.specs.InsideParts.{reads_of}
use Rattle.stripe_core.specs.InsideTied.{Tied}
use Rattle.stripe_core.proofs.Lanes.{passing, changed_seen}
use Rattle.stripe_core.proofs.RegionTies.{reads_kept, writes_reads_none}
use Rattle.stripe_core.proofs.Sizes.{rezoned}
use Rattle.stripe_core.proofs.Writing.{regions_step}
use Rattle.stripe_core.proofs.stripe.Stripe.take_home.Goals as goal

pub swap_lane-requires : goal.swap_lane-requires
swap_lane-requires g c =
    let s = c.self.inside in
    let r = c.args.key.region in
    let test : LanePlace → Bool = λ place. writes place c.args.key in
    let out = passing g.S.Store.seen s.regions.items r test (ap (λ gs. place_passes test (slice_get gs r)) (ap (λ (v : Core). v.regions) c.self.view_is) ∙ c.requires.writing) in
    record { region = slice_get_within s.regions.items r out.region out.is }

pub end_write-requires : goal.end_write-requires
end_write-requires g c =
    let s = c.self.inside in
    let r = c.args.key.region in
    let test : LanePlace → Bool = λ place. writes place c.args.key in
    let out = passing g.S.Store.seen s.regions.items r test (ap (λ gs. place_passes test (slice_get gs r)) (ap (λ (v : Core). v.regions) c.self.view_is) ∙ c.requires.writing) in
    record { writes = ap (λ l. test (place_of g.S.Store.seen l)) (c.swap_lane.ensures.lane out.region out.is) ∙ out.passes }

pub invariant_of-self : goal.invariant_of-self
invariant_of-self g c =
    let s = c.self.inside in
    let r = c.args.key.region in
    let test : LanePlace → Bool = λ place. writes place c.args.key in
    let out = passing g.S.Store.seen s.regions.items r test (ap (λ gs. place_passes test (slice_get gs r)) (ap (λ (v : Core). v.regions) c.self.view_is) ∙ c.requires.writing) in
    let new = record out.region { lane = lane.Home c.args.lane } in
    let reads = reads_kept s.regions.items r out.region new out.is (sym (writes_reads_none g.S.Store.seen out.region.lane c.args.key out.passes)) in
    let tied : Tied s.table s.buffer (reads_of (slice_set s.regions.items r new)) = rw reads c.self.invariant.0 in
    let room : length (slice_set s.regions.items r new) ≤ vec_capacity s.home = let n = length-set s.regions.items r new in omega (arith, n, c.self.invariant.3) in
    rw (c.swap_lane.ensures.regions out.region out.is) (tied, rezoned r out.region new out.is refl c.self.invariant.1, c.self.invariant.2, room, c.self.invariant.4)

pub returns : goal.returns
returns g c =
    let s = c.self.inside in
    let r = c.args.key.region in
    let test : LanePlace → Bool = λ place. writes place c.args.key in
    let out = passing g.S.Store.seen s.regions.items r test (ap (λ gs. place_passes test (slice_get gs r)) (ap (λ (v : Core). v.regions) c.self.view_is) ∙ c.requires.writing) in
    let new = record out.region { lane = lane.Home c.args.lane } in
    let regions = changed_seen g.S.Store.seen s.regions.items r out.region new (placed (Home (g.S.Store.seen c.args.lane))) out.is refl in
    record { step = rw (c.swap_lane.ensures.regions out.region out.is) (regions_step g.S.Store.seen _ s.table s.buffer s.queue.raises s.regions.items _ s.evicting s.counts s.events r (placed (Home (g.S.Store.seen c.args.lane))) c.args.self.now c.self.view_is regions) }
