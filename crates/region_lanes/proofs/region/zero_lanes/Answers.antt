use Rattle.std.proofs.Common.{◌≡◌, ◌∙◌, List, ℕ, refl, sym, ap}
use Rattle.page_base.specs.ListSeen.{ListSeen}
use Rattle.region_lanes.proofs.OneRegion.{zero_shares}
use Rattle.region_lanes.proofs.region.zero_lanes.Goals as goal

pub returns-in-Ok-split : goal.returns-in-Ok-split
returns-in-Ok-split c =
    let store = c.new-store.result in
    zero_shares c.args.layout.now c.args.region c.args.bytes store.page_size c.args.layout.now.stripes store.contents.items c.in-Ok-split.lanes.items
    (c.new-store.ensures.page_size ∙ c.page_size.ensures) refl
    (ap (λ (l : ListSeen ℕ). l.items) c.new-store.ensures.contents ∙ c.from_vec.ensures.items ∙ (c.in-Ok.ensures.items_if_clones_equal (λ y e. e)))
    c.in-Ok-split.ensures.lanes
