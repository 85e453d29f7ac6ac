use Rattle.std.proofs.Common.{◌≡◌, ◌+◌, ◌++◌, ◌∷◌, [], List, length, get_or, ap, ◌∙◌, arith, length-append}
use Rattle.page_base.specs.ListSeen.{ListSeen}
use Rattle.store_trait.specs.declared.mem_lane.MemLane.{MemLane}
use Rattle.script_run.specs.Contents.{rows_in}
use Rattle.script_run.proofs.Zeros.{puts_more}
use Rattle.script_run.proofs.memory.put_lanes.Goals as goal

pub lanes-preserved : goal.lanes-preserved
lanes-preserved c =
    let rows : List (ListSeen MemLane) = c.lanes.rows in
    let k = c.len.result in
    let lane = c.in-Some.lane in
    let left : length c.lanes.lanes.items ≡ length c.pop.new.self.items + 1 = ap (length {A = MemLane}) c.in-Some.ensures.items ∙ length-append c.pop.new.self.items (lane ∷ []) in
    let all : length c.args.lanes.items ≡ length c.lanes.lanes.items + length c.lanes.invariant.done = ap (length {A = MemLane}) c.lanes.invariant.all ∙ length-append c.lanes.lanes.items c.lanes.invariant.done in
    let at : k ≡ length c.pop.new.self.items = omega (arith, c.len.ensures, c.pop.new.self.ok.0) in
    puts_more c.args.lanes.items c.lanes.lanes.items c.pop.new.self.items lane (rows_in c.args.rows.now) rows (get_or rows k c.index-rows-len.result) c.put.new.self k
    c.in-Some.ensures.items at (omega (arith, at, left, all, c.requires, c.lanes.auto.rows)) (ap (λ (r : ListSeen MemLane). get_or rows k r) c.index-rows-len.is)
    (c.put.ensures.items ∙ ap (λ (ls : List MemLane). ls ++ lane ∷ []) c.reserve.ensures.items) c.lanes.invariant
