use Rattle.std.proofs.Common.{◌≡◌, List, [], map, sym, ap, ◌∙◌, arith, rules}
use Rattle.std.specs.Prelude.{vec_len}
use Rattle.std.proofs.lemmas.Grind.{common_steps}
use Rattle.std.proofs.lemmas.Simd.{map-map}
use Rattle.page_base.specs.Lanes.{LaneSeen}
use Rattle.page_base.specs.ListSeen.{ListSeen}
use Rattle.store_trait.specs.FailLanes.{FailSeen, fail_seen}
use Rattle.store_trait.specs.MemLanes.{lane_seen}
use Rattle.store_trait.specs.declared.mem_lane.MemLane.{MemLane}
use Rattle.worked_cases.proofs.Planned.{done, none_left, fail_origins, mem_origins}
use Rattle.worked_cases.proofs.serial.planned_lanes.Goals as goal

pub returns : goal.returns
returns c =
    let none : vec_len c.rows.rows ≡ 0 = first_of (search rules, grind (arith, common_steps)) in
    let empty : c.rows.rows.items ≡ [] = none_left c.rows.rows.items (omega (arith, none, c.rows.rows.ok.0)) in
    ap (λ (rs : List (ListSeen (FailSeen MemLane))). map (λ (row : List LaneSeen). map (λ (l : LaneSeen). l.origin) row) (map (λ (row : ListSeen (FailSeen MemLane)). map (fail_seen lane_seen) row.items) rs)) c.from_vec.ensures.items
    ∙ map-map (λ (row : List LaneSeen). map (λ (l : LaneSeen). l.origin) row) (λ (row : ListSeen (FailSeen MemLane)). map (fail_seen lane_seen) row.items) c.rows.planned.items
    ∙ done fail_origins mem_origins c.rows.planned.items c.rows.rows.items (map mem_origins c.args.lanes.stripes.items) empty c.rows.invariant
    ∙ sym (map-map (λ (row : List LaneSeen). map (λ (l : LaneSeen). l.origin) row) (λ (row : ListSeen MemLane). map lane_seen row.items) c.args.lanes.stripes.items)
