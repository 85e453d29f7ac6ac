use Rattle.file_store.specs.InsideMemParts.{extent_of}
use Rattle.file_store.proofs.PartRanges.{range_written, range_differs}
use Rattle.file_store.proofs.mem_part.MemPartPart.write_at.Goals as goal

pub returns-clause-written : goal.returns-clause-written
returns-clause-written c =
    let s = c.args.self.now in
    rw c.write_at.ensures.items (range_written (extent_of s.path.items s.shape) c.args.place s.bytes.items c.args.buf.now s.sized c.requires.range)

pub returns-clause-others : goal.returns-clause-others
returns-clause-others c =
    let s = c.args.self.now in
    rw c.write_at.ensures.items (range_differs (extent_of s.path.items s.shape) c.args.place s.bytes.items c.args.buf.now s.sized c.requires.range)
