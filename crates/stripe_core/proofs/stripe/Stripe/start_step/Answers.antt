use Rattle.std.proofs.Common.{◌≡◌, ◌∙◌, ◌<◌, ◌≤◌, ◌+◌, ap, arith, refl, sym, subst, None, length, map, slice_get, slice_set, length-set}
use Rattle.std.specs.Prelude.{vec_capacity, find}
use Rattle.std.specs.Option.{is_some}
use Rattle.soft_mmu.specs.Entries.{table_entry}
use Rattle.page_buffer.specs.Frames.{Reserved, resident_key}
use Rattle.page_buffer.specs.Buffers.{with_frame}
use Rattle.fault_queue.specs.Queues.{pending_why, without, is_of}
use Rattle.page_model.specs.Core.{Core, Reading, is_home_place, place_passes, why_or_read}
use Rattle.page_model.specs.Core as core
use Rattle.page_model.specs.Setups.{quota}
use Rattle.page_model.specs.Steps.{on_region, placed, start_read}
use Rattle.stripe_core.specs.Configs.{setup_of}
use Rattle.stripe_core.proofs.Cores.{core_start}
use Rattle.stripe_core.specs.declared.region.Lane.TheVariants as lane
use Rattle.stripe_core.specs.Parts.{region_seen, place_of}
use Rattle.stripe_core.specs.InsideParts.{reads_of}
use Rattle.stripe_core.specs.InsideTied.{Tied, CountsWithin, read_at}
use Rattle.stripe_core.proofs.Lanes.{passing, home_reads_none, changed_seen, reads_changed, read_is, reads_length, seen_at}
use Rattle.stripe_core.proofs.Looks.{at_now, absent_entry}
use Rattle.stripe_core.proofs.ReadTies.{start_tied, pages_kept}
use Rattle.stripe_core.proofs.Sizes.{resized, requeued, rezoned, framed, all_others}
use Rattle.stripe_core.proofs.Waiting.{free_frames_are, pending_is, why_is, no_frame}
use Rattle.std.proofs.lemmas.Option.{slice_get_within}
use Rattle.stripe_core.proofs.Lost.{lost_withdrawn}
use Rattle.stripe_core.proofs.stripe.Stripe.start_step.Goals as goal

pub prove-unreachable-requires : goal.prove-unreachable-requires
prove-unreachable-requires g c =
    let s = c.self.inside in
    let frames = c.self.invariant.1.frames ∙ ap (λ (v : Core). quota v.setup) c.self.view_is in
    let free : c.free-free.result ≡ core.free_frames c.args.self.now = free_frames_are g.S.Store.seen c.args.self.now s.table s.buffer s.regions.items c.free-free.result c.self.invariant.0 (ap (λ (v : Core). v.pages) c.self.view_is) (ap (λ (v : Core). v.regions) c.self.view_is) frames c.free-free.ensures.together in
    absurd (omega (arith, free, c.requires.free, c.if-prove.true))

pub withdraw-why-requires : goal.withdraw-why-requires
withdraw-why-requires g c =
    let s = c.self.inside in
    let P : Core → Type 0 = λ v. is_some (pending_why s.queue.raises c.args.key) ≡ core.is_pending v c.args.key in
    record { pending = subst P c.self.view_is (pending_is s.queue.raises c.args.key) ∙ c.requires.pending }

pub reserve-frame-requires-clause-fresh : goal.reserve-frame-requires-clause-fresh
reserve-frame-requires-clause-fresh g c =
    let s = c.self.inside in
    let at = at_now c.args.self.now s.table s.buffer _ c.args.key c.self.invariant.0 (ap (λ (v : Core). v.pages) c.self.view_is) in
    let absent = absent_entry c.args.self.now s.buffer c.args.key (table_entry s.table c.args.key) at c.requires.absent in
    let home = passing g.S.Store.seen s.regions.items c.args.key.region is_home_place (ap (λ gs. place_passes is_home_place (slice_get gs c.args.key.region)) (ap (λ (v : Core). v.regions) c.self.view_is) ∙ c.requires.home) in
    let none : read_at (reads_of s.regions.items) c.args.key.region ≡ None = read_is s.regions.items c.args.key.region home.region home.is ∙ home_reads_none g.S.Store.seen home.region.lane home.passes in
    no_frame s.table s.buffer (reads_of s.regions.items) c.args.key c.self.invariant.0 absent none

pub swap_lane-requires : goal.swap_lane-requires
swap_lane-requires g c =
    let s = c.self.inside in
    let home = passing g.S.Store.seen s.regions.items c.args.key.region is_home_place (ap (λ gs. place_passes is_home_place (slice_get gs c.args.key.region)) (ap (λ (v : Core). v.regions) c.self.view_is) ∙ c.requires.home) in
    record { region = slice_get_within s.regions.items c.args.key.region home.region home.is }

pub into_home-lane-requires : goal.into_home-lane-requires
into_home-lane-requires g c =
    let s = c.self.inside in
    let home = passing g.S.Store.seen s.regions.items c.args.key.region is_home_place (ap (λ gs. place_passes is_home_place (slice_get gs c.args.key.region)) (ap (λ (v : Core). v.regions) c.self.view_is) ∙ c.requires.home) in
    record { home = ap (λ l. is_home_place (place_of g.S.Store.seen l)) (c.swap_lane.ensures.lane home.region home.is) ∙ home.passes }

pub invariant_of-self : goal.invariant_of-self
invariant_of-self g c =
    let s = c.self.inside in
    let r = c.args.key.region in
    let home = passing g.S.Store.seen s.regions.items r is_home_place (ap (λ gs. place_passes is_home_place (slice_get gs r)) (ap (λ (v : Core). v.regions) c.self.view_is) ∙ c.requires.home) in
    let within : r < length s.regions.items = slice_get_within s.regions.items r home.region home.is in
    let none : read_at (reads_of s.regions.items) r ≡ None = read_is s.regions.items r home.region home.is ∙ home_reads_none g.S.Store.seen home.region.lane home.passes in
    let new = record home.region { lane = lane.Reading c.args.key s.events c.withdraw-why.result c.reserve-frame.result } in
    let has_read : r < length (reads_of s.regions.items) = rw (reads_length s.regions.items) within in
    let started = start_tied s.table s.buffer (reads_of s.regions.items) c.args.key c.reserve-frame.result c.self.invariant.0 c.reserve-frame.ensures.within c.reserve-frame.ensures.free has_read none in
    let tied : Tied s.table (with_frame s.buffer c.reserve-frame.result (Reserved c.args.key)) (reads_of (slice_set s.regions.items r new)) = rw (reads_changed s.regions.items r new) started in
    let queued = all_others _ _ s.queue.raises c.self.invariant.1.queued in
    let sized = rezoned r home.region new home.is refl (requeued (record s.queue { raises = without c.args.key s.queue.raises }) refl queued (lost_withdrawn s.table s.queue c.args.key c.self.invariant.1.lost) (resized (with_frame s.buffer c.reserve-frame.result (Reserved c.args.key)) refl refl (framed s.buffer c.reserve-frame.result (Reserved c.args.key)) c.self.invariant.1)) in
    let room : length (slice_set s.regions.items r new) ≤ vec_capacity s.home = let n = length-set s.regions.items r new in omega (arith, n, c.self.invariant.3) in
    let counts : CountsWithin s.counts (s.events + 1) = omega (arith, c.self.invariant.4) in
    rw (c.reserve-frame.ensures.reserved, c.withdraw-why.ensures.others, c.swap_lane.ensures.regions home.region home.is) (tied, sized, c.self.invariant.2, room, counts)

pub returns-clause-step : goal.returns-clause-step
returns-clause-step g c =
    let s = c.self.inside in
    let r = c.args.key.region in
    let home = passing g.S.Store.seen s.regions.items r is_home_place (ap (λ gs. place_passes is_home_place (slice_get gs r)) (ap (λ (v : Core). v.regions) c.self.view_is) ∙ c.requires.home) in
    let new = record home.region { lane = lane.Reading c.args.key s.events c.withdraw-why.result c.reserve-frame.result } in
    let pages = pages_kept s.table s.buffer (reads_of s.regions.items) c.reserve-frame.result (Reserved c.args.key) c.self.invariant.0 (ap resident_key c.reserve-frame.ensures.free) in
    let why : why_or_read (find (is_of c.args.key) s.queue.raises) ≡ c.withdraw-why.result = why_is s.queue.raises c.args.key c.withdraw-why.result c.withdraw-why.ensures.why in
    let regions = changed_seen g.S.Store.seen s.regions.items r home.region new (placed (Reading c.args.key s.events c.withdraw-why.result)) home.is refl
    ∙ ap (λ w. on_region r (placed (Reading c.args.key s.events w)) (map (region_seen g.S.Store.seen) s.regions.items)) (sym why) in
    let eq = core_start g.S.Store.seen (setup_of s.config.value (map g.S.Store.seen s.lanes.value.items)) s.table s.buffer (with_frame s.buffer c.reserve-frame.result (Reserved c.args.key)) s.queue.raises s.regions.items (slice_set s.regions.items r new) s.evicting s.counts s.events c.args.key pages regions in
    rw (c.reserve-frame.ensures.reserved, c.withdraw-why.ensures.others, c.swap_lane.ensures.regions home.region home.is) (eq ∙ ap (λ (v : Core). start_read v c.args.key) c.self.view_is)

pub returns-clause-here : goal.returns-clause-here
returns-clause-here g c =
    let s = c.self.inside in
    let r = c.args.key.region in
    let regs = ap (λ (v : Core). v.regions) c.self.view_is in
    let home = passing g.S.Store.seen s.regions.items r is_home_place (ap (λ gs. place_passes is_home_place (slice_get gs r)) regs ∙ c.requires.home) in
    let was : home.region.lane ≡ lane.Home c.into_home-lane.result = sym (c.swap_lane.ensures.lane home.region home.is) ∙ c.into_home-lane.ensures.is in
    record {
      region = region_seen g.S.Store.seen home.region;
      is = ap (λ gs. slice_get gs r) (sym regs) ∙ seen_at g.S.Store.seen s.regions.items r home.region home.is;
      home = ap (place_of g.S.Store.seen) was ∙ ap (λ x. core.Home (g.S.Store.seen x)) (sym c.of-taken.ensures);
    }
