use Rattle.std.proofs.Common.{ℕ, ◌+◌, ◌-◌, ◌/◌, List, take, drop, ap, ◌∙◌}
use Rattle.store_trait.specs.Memory.{page_bytes, memory_told}
use Rattle.store_trait.specs.MemLanes.{lane_origin}
use Rattle.store_trait.proofs.Told.{told_of_page, is_page_of}
use Rattle.store_trait.proofs.mem_lane.MemLaneStore.read_from_store.Goals as goal

pub returns-clause-bytes : goal.returns-clause-bytes
returns-clause-bytes c =
    let s = c.args.self.now in
    is_page_of (memory_told (lane_origin s) s.kept.items) (c.args.off / s.page_size) _ c.copy_from_slice.new.self
    (told_of_page (lane_origin s) (λ (p : ℕ). page_bytes s.page_size s.kept.items (p / s.stripes)) (c.args.off / s.page_size) c.requires.place.of_lane)
    (c.copy_from_slice.ensures.after
    ∙ ap (λ (xs : List ℕ). take (c.start_of-start.result + s.page_size - c.start_of-start.result) (drop c.start_of-start.result xs)) c.as_slice.ensures
    ∙ ap (λ (at : ℕ). take (at + s.page_size - at) (drop at s.kept.items)) c.start_of-start.ensures.start)
