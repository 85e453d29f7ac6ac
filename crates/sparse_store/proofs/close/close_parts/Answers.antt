use Rattle.sparse_store.proofs.ClosingParts.{begins, next_out, one_more}
use Rattle.sparse_store.proofs.close.close_parts.Goals as goal

pub parts-init : goal.parts-init
parts-init g c = begins g.F.Part.Part.seen c.args.parts.items (g.F.Folder.seen c.args.folder.now) c.requires.out

pub close_part-requires : goal.close_part-requires
close_part-requires g c =
    record { out = next_out g.F.Part.Part.seen c.args.parts.items c.parts.parts.items c.pop.new.self.items c.in-Some.part (g.F.Folder.seen c.args.folder.now) (g.F.Folder.seen c.parts.folder) c.in-Some.ensures.items c.parts.invariant }

pub parts-preserved : goal.parts-preserved
parts-preserved g c =
    one_more g.F.Part.Part.seen c.args.parts.items c.parts.parts.items c.pop.new.self.items c.in-Some.part (g.F.Folder.seen c.args.folder.now) (g.F.Folder.seen c.parts.folder) c.in-Some.ensures.items c.parts.invariant
    c.requires.apart (g.F.Folder.seen c.close_part.new.self) c.close_part.ensures.closed c.close_part.ensures.later c.close_part.ensures.faults
