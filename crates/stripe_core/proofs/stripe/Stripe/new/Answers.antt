use Rattle.std.proofs.Common.{◌≡◌, ◌∙◌, ◌≤◌, [], ap, arith, length, map, refl, subst, sym}
use Rattle.std.specs.Prelude.{vec_capacity}
use Rattle.page_base.specs.Pages.{on_mark, off_mark}
use Rattle.page_buffer.specs.Buffers.{all_free}
use Rattle.page_model.specs.Core.{Core}
use Rattle.page_model.specs.Setups.{quota}
use Rattle.page_model.specs.Stands.{StandsFor}
use Rattle.stripe_core.specs.Configs.{setup_of}
use Rattle.stripe_core.specs.InsideMade.{regions_made}
use Rattle.stripe_core.specs.InsideTied.{CountsWithin}
use Rattle.stripe_core.proofs.Fresh.{core_fresh, faults_length, fresh_sized, fresh_tied, made_length, setup_fits}
use Rattle.stripe_core.proofs.stripe.Stripe.new.Goals as goal

pub new-requires : goal.new-requires
new-requires g c = record { can = (map g.S.Store.seen c.args.lanes.items, c.requires.can) }

pub regions_of-regions-requires-clause-fits : goal.regions_of-regions-requires-clause-fits
regions_of-regions-requires-clause-fits g c = let n = ap length c.into_vec.ensures in omega (arith, n, c.len.ensures, c.in-Ok.ensures.exact)

pub regions_of-regions-requires-clause-one_each : goal.regions_of-regions-requires-clause-one_each
regions_of-regions-requires-clause-one_each g c =
    faults_length c.args.lanes.items g.S.Store.seen c.args.config.now.shapes.items c.in-Ok-new.parts.faults.items c.in-Ok-new.ensures.none c.requires.can.lane_count ∙ sym (ap length c.into_vec.ensures)

pub invariant_of-result : goal.invariant_of-result
invariant_of-result g c =
    let config = c.args.config.now in
    let lanes = c.args.lanes.items in
    let faults = c.in-Ok-new.parts.faults.items in
    let setup = setup_of config (map g.S.Store.seen lanes) in
    let on : c.marks-marks.result.on ≡ on_mark (quota setup) config.high = c.marks-marks.ensures.on ∙ ap (λ n. on_mark n config.high) c.quota.ensures.quota in
    let off : c.marks-marks.result.off ≡ off_mark (quota setup) config.low = c.marks-marks.ensures.off ∙ ap (λ n. off_mark n config.low) c.quota.ensures.quota in
    let tied = fresh_tied config.shapes.items config.layout.page_size (quota setup) (length config.shapes.items) lanes faults in
    let sized = fresh_sized g.S.Store.seen config lanes faults c.in-Ok-new.parts.queue c.marks-marks.result c.requires.can c.in-Ok-new.ensures.none c.in-Ok-new.ensures.shares c.in-Ok-new.ensures.raises c.in-Ok-new.ensures.capacity on off in
    let as_many = made_length lanes faults (faults_length lanes g.S.Store.seen config.shapes.items faults c.in-Ok-new.ensures.none c.requires.can.lane_count) in
    let home = c.regions_of-regions.ensures.home in
    let same_lanes = ap length c.into_vec.ensures in
    let room : length (regions_made lanes faults) ≤ vec_capacity c.regions_of-regions.result.1 = omega (arith, as_many, home, same_lanes) in
    let counts : CountsWithin c.none.result 0 = rw c.none.ensures (omega arith) in
    rw (c.of.ensures, c.of-first.ensures, c.in-Ok-new.ensures.table, c.in-Ok-new.ensures.buffer, c.regions_of-regions.ensures.made, c.into_vec.ensures) (tied, sized, c.regions_of-regions.ensures.emptied, room, counts)

pub returns-clause-fresh : goal.returns-clause-fresh
returns-clause-fresh g c =
    let config = c.args.config.now in
    let eq = core_fresh g.S.Store.seen config c.args.lanes.items c.in-Ok-new.parts.faults.items (all_free (quota (setup_of config [])) config.layout.page_size (length config.shapes.items)) refl c.requires.can c.in-Ok-new.ensures.none in
    rw (c.of.ensures, c.of-first.ensures, c.in-Ok-new.ensures.table, c.in-Ok-new.ensures.buffer, c.in-Ok-new.ensures.raises, c.regions_of-regions.ensures.made, c.into_vec.ensures, c.none.ensures) eq

pub returns-clause-stands : goal.returns-clause-stands
returns-clause-stands g c =
    let config = c.args.config.now in
    let setup = setup_of config (map g.S.Store.seen c.args.lanes.items) in
    let some : 1 ≤ quota setup = let q : c.quota.result ≡ quota setup = c.quota.ensures.quota in omega (arith, q, c.quota.ensures.some) in
    let fits = setup_fits g.S.Store.seen config c.args.lanes.items c.requires.can some config.layout.large_pages config.layout.small_pages (λ s page. g.met.S.Store.whole_pages s page) in
    let P : Core → Type 0 = λ v. StandsFor [] v in
    subst P (sym (returns-clause-fresh g c)) (c.fresh_stands.ensures setup fits)
