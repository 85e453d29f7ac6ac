use Rattle.std.proofs.Common.{ℕ, ◌/◌, List, Some, sym, ap, ◌∙◌}
use Rattle.store_trait.specs.Memory.{page_bytes}
use Rattle.store_trait.specs.MemLanes.{lane_origin}
use Rattle.store_trait.proofs.Told.{told_of_page}
use Rattle.store_trait.proofs.mem_lane.MemLane.page.Goals as goal

pub returns-clause-bytes : goal.returns-clause-bytes
returns-clause-bytes c =
    let s = c.args.self.now in
    told_of_page (lane_origin s) (λ (p : ℕ). page_bytes s.page_size s.kept.items (p / s.stripes)) c.args.page c.requires
    ∙ ap (λ (xs : List ℕ). Some (page_bytes s.page_size xs (c.args.page / s.stripes))) (sym c.as_slice.ensures)
