use Rattle.std.proofs.Common.{◌≡◌, List, [], map, sym, ap, ◌∙◌, arith, rules}
use Rattle.std.specs.Prelude.{vec_len}
use Rattle.std.proofs.lemmas.Grind.{common_steps}
use Rattle.std.proofs.lemmas.Simd.{map-map}
use Rattle.page_base.specs.Lanes.{LaneSeen}
use Rattle.store_trait.specs.FailLanes.{FailSeen, fail_seen}
use Rattle.store_trait.specs.MemLanes.{lane_seen}
use Rattle.store_trait.specs.declared.mem_lane.MemLane.{MemLane}
use Rattle.worked_cases.proofs.Planned.{done, none_left, fail_origin, mem_origin}
use Rattle.worked_cases.proofs.serial.planned_row.Goals as goal

pub returns : goal.returns
returns c =
    let none : vec_len c.lanes.lanes ≡ 0 = first_of (search rules, grind (arith, common_steps)) in
    let empty : c.lanes.lanes.items ≡ [] = none_left c.lanes.lanes.items (omega (arith, none, c.lanes.lanes.ok.0)) in
    ap (λ (ls : List (FailSeen MemLane)). map (λ (l : LaneSeen). l.origin) (map (fail_seen lane_seen) ls)) c.from_vec.ensures.items
    ∙ map-map (λ (l : LaneSeen). l.origin) (fail_seen lane_seen) c.lanes.planned.items
    ∙ done fail_origin mem_origin c.lanes.planned.items c.lanes.lanes.items (map mem_origin c.args.row.items) empty c.lanes.invariant
    ∙ sym (map-map (λ (l : LaneSeen). l.origin) lane_seen c.args.row.items)
