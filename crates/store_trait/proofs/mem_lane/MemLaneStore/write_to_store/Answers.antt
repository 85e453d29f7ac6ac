use Rattle.std.proofs.Common.{ℕ, ◌/◌, refl, ap, ◌∙◌}
use Rattle.page_base.specs.ListSeen.{spliced}
use Rattle.store_trait.specs.MemLanes.{lane_origin}
use Rattle.store_trait.proofs.Rows.{memory_changes, memory_written}
use Rattle.store_trait.proofs.mem_lane.MemLaneStore.write_to_store.Goals as goal

pub returns-clause-written : goal.returns-clause-written
returns-clause-written c =
    let s = c.args.self.now in
    let place = c.requires.place in
    memory_written (lane_origin s) s.kept.items c.args.buf.now (c.args.off / s.page_size) s.some_stripe refl place.one_page (s.reaches (c.args.off / s.page_size) place.of_lane) place.of_lane _
    (c.write_at.ensures.items ∙ ap (λ (a : ℕ). spliced s.kept.items a c.args.buf.now) c.start_of-start.ensures.start)

pub returns-clause-others : goal.returns-clause-others
returns-clause-others c =
    let s = c.args.self.now in
    let place = c.requires.place in
    memory_changes (lane_origin s) s.kept.items c.args.buf.now (c.args.off / s.page_size) s.some_stripe refl place.one_page (s.reaches (c.args.off / s.page_size) place.of_lane) place.of_lane _
    (c.write_at.ensures.items ∙ ap (λ (a : ℕ). spliced s.kept.items a c.args.buf.now) c.start_of-start.ensures.start)
