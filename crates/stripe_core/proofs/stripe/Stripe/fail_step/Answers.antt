use Rattle.std.proofs.Common.{◌≡◌, ◌∙◌, ◌≤◌, ◌+◌, ap, arith, refl, sym, None, length, map, slice_set, length-set}
use Rattle.std.specs.Prelude.{vec_capacity}
use Rattle.std.proofs.lemmas.Option.{slice_get_within}
use Rattle.page_buffer.specs.Frames.{Free}
use Rattle.page_buffer.specs.Buffers.{frame_of, with_frame}
use Rattle.page_model.specs.Core.{Core, is_reading}
use Rattle.page_model.specs.Core as core
use Rattle.page_model.specs.Setups.{has_page}
use Rattle.page_model.specs.Steps.{on_region, read_missed, read_failed}
use Rattle.stripe_core.proofs.Cores.{core_fail}
use Rattle.stripe_core.specs.Configs.{setup_of}
use Rattle.stripe_core.specs.Parts.{region_seen, place_of}
use Rattle.stripe_core.specs.InsideParts.{reads_of, read_of}
use Rattle.stripe_core.specs.InsideTied.{Tied, CountsWithin}
use Rattle.stripe_core.proofs.Ended.{ended, failed_seen, page_within}
use Rattle.stripe_core.proofs.Lanes.{passing, changed_seen, reads_changed}
use Rattle.stripe_core.proofs.ReadTies.{is_kept, fail_tied, pages_kept}
use Rattle.stripe_core.proofs.Sizes.{resized, refaulted, framed}
use Rattle.stripe_core.proofs.stripe.Stripe.fail_step.Goals as goal

pub fail_read-requires : goal.fail_read-requires
fail_read-requires g c =
    let s = c.self.inside in
    let r = c.args.key.region in
    let out = passing g.S.Store.seen s.regions.items r (λ p. core.reads p c.args.key) (ap (λ (v : Core). is_reading v c.args.key) c.self.view_is ∙ c.requires.reading) in
    record {
      region = slice_get_within s.regions.items r out.region out.is;
      page =
          λ x is.
          let size = c.self.invariant.1.faults r x is in
          let has = ap (λ (v : Core). has_page v.setup c.args.key) c.self.view_is ∙ c.requires.page in
          let within = page_within (setup_of s.config.value (map g.S.Store.seen s.lanes.value.items)) c.args.key has in
          (omega (arith, size, within), c.self.invariant.1.shares r x is c.args.key refl has);
    }

pub into_read-read-requires : goal.into_read-read-requires
into_read-read-requires g c =
    let s = c.self.inside in
    let out = passing g.S.Store.seen s.regions.items c.args.key.region (λ p. core.reads p c.args.key) (ap (λ (v : Core). is_reading v c.args.key) c.self.view_is ∙ c.requires.reading) in
    record { reads = ap (λ l. core.reads (place_of g.S.Store.seen l) c.args.key) (c.fail_read.ensures.lane out.region out.is) ∙ out.passes }

pub unreserve-requires : goal.unreserve-requires
unreserve-requires g c =
    let s = c.self.inside in
    let out = passing g.S.Store.seen s.regions.items c.args.key.region (λ p. core.reads p c.args.key) (ap (λ (v : Core). is_reading v c.args.key) c.self.view_is ∙ c.requires.reading) in
    let kept = ended s.table s.buffer s.regions.items c.args.key out.region c.into_read-read.ensures.is.0 c.into_read-read.result.why c.into_read-read.result.frame c.self.invariant.0 out.is (sym (c.fail_read.ensures.lane out.region out.is) ∙ c.into_read-read.ensures.is.1) in
    record { reserved = (is_kept (frame_of s.buffer c.into_read-read.result.frame) c.args.key kept.frame).2 }

pub invariant_of-self : goal.invariant_of-self
invariant_of-self g c =
    let s = c.self.inside in
    let r = c.args.key.region in
    let f = c.into_read-read.result.frame in
    let out = passing g.S.Store.seen s.regions.items r (λ p. core.reads p c.args.key) (ap (λ (v : Core). is_reading v c.args.key) c.self.view_is ∙ c.requires.reading) in
    let kept = ended s.table s.buffer s.regions.items c.args.key out.region c.into_read-read.ensures.is.0 c.into_read-read.result.why f c.self.invariant.0 out.is (sym (c.fail_read.ensures.lane out.region out.is) ∙ c.into_read-read.ensures.is.1) in
    let done = c.fail_read.ensures.regions out.region out.is in
    let none : read_of done.0.lane ≡ None = ap read_of done.1.place in
    let tied : Tied s.table (with_frame s.buffer f Free) (reads_of (slice_set s.regions.items r done.0)) = rw (reads_changed s.regions.items r done.0, none) (fail_tied s.table s.buffer (reads_of s.regions.items) c.args.key f c.self.invariant.0 kept) in
    let sized = refaulted r out.region done.0 out.is done.1.share (ap length done.1.read_faults ∙ length-set out.region.read_faults.numbers c.args.key.page c.faults-faults.result) (resized (with_frame s.buffer f Free) refl refl (framed s.buffer f Free) c.self.invariant.1) in
    let room : length (slice_set s.regions.items r done.0) ≤ vec_capacity s.home = let n = length-set s.regions.items r done.0 in omega (arith, n, c.self.invariant.3) in
    let counts : CountsWithin (record s.counts { faults = s.counts.faults + 1 }) (s.events + 1) = omega (arith, c.self.invariant.4) in
    rw (c.unreserve.ensures.free, done.2) (tied, sized, c.self.invariant.2, room, counts)

pub returns-clause-step : goal.returns-clause-step
returns-clause-step g c =
    let s = c.self.inside in
    let r = c.args.key.region in
    let f = c.into_read-read.result.frame in
    let out = passing g.S.Store.seen s.regions.items r (λ p. core.reads p c.args.key) (ap (λ (v : Core). is_reading v c.args.key) c.self.view_is ∙ c.requires.reading) in
    let kept = ended s.table s.buffer s.regions.items c.args.key out.region c.into_read-read.ensures.is.0 c.into_read-read.result.why f c.self.invariant.0 out.is (sym (c.fail_read.ensures.lane out.region out.is) ∙ c.into_read-read.ensures.is.1) in
    let done = c.fail_read.ensures.regions out.region out.is in
    let seen = g.S.Store.seen c.args.lane in
    let region = failed_seen g.S.Store.seen out.region c.args.lane c.args.key c.faults-faults.result done.0 done.1 in
    let pages = pages_kept s.table s.buffer (reads_of s.regions.items) f Free c.self.invariant.0 (is_kept (frame_of s.buffer f) c.args.key kept.frame).1 in
    let regions = changed_seen g.S.Store.seen s.regions.items r out.region done.0 (read_missed c.args.key seen c.faults-faults.result) out.is region
    ∙ ap (λ n. on_region r (read_missed c.args.key seen n) (map (region_seen g.S.Store.seen) s.regions.items)) c.faults-faults.ensures in
    let eq = core_fail g.S.Store.seen (setup_of s.config.value (map g.S.Store.seen s.lanes.value.items)) s.table s.buffer (with_frame s.buffer f Free) s.queue.raises s.regions.items (slice_set s.regions.items r done.0) s.evicting s.counts s.events c.args.key seen seen.count pages regions in
    rw (c.unreserve.ensures.free, done.2) (eq ∙ ap (λ (v : Core). read_failed v c.args.key seen seen.count) c.self.view_is)
