use Rattle.std.proofs.Common.{arith}
use Rattle.sparse_store.proofs.Joining.{moves_begin, moves_more}
use Rattle.sparse_store.proofs.join.rows_of.Goals as goal

pub lanes-init : goal.lanes-init
lanes-init g c = moves_begin (λ row. row.items) (λ lane. lane.parts.items) c.args.lanes.items c.reverse.new.self.items c.args.rows c.reverse.ensures.items c.requires.empty (omega (arith, c.requires.room, c.args.lanes.ok.0))

pub lanes-preserved : goal.lanes-preserved
lanes-preserved g c =
    moves_more (λ row. row.items) (λ lane. lane.parts.items) c.args.lanes.items c.lanes.lanes.items c.pop.new.self.items c.in-Some.lane c.into_parts.result c.lanes.rows c.put.new.self
    c.in-Some.ensures.items c.into_parts.ensures c.put.ensures.items c.put.ensures.spare c.lanes.invariant
