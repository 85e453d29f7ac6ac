use Rattle.std.proofs.Common.{◌+◌, ◌-◌, length, take, drop, ℕ, List, ap, ◌∙◌}
use Rattle.file_store.specs.InsideMemParts.{extent_of}
use Rattle.file_store.proofs.PartRanges.{copied}
use Rattle.file_store.proofs.mem_part.MemPartPart.read_at.Goals as goal

pub returns-clause-bytes : goal.returns-clause-bytes
returns-clause-bytes c =
    let s = c.args.self.now in
    copied (extent_of s.path.items s.shape) c.args.place (length c.args.buf.now) s.bytes.items c.copy_from_slice.new.self c.copy_from_slice.ensures.len c.requires.range (c.copy_from_slice.ensures.after ∙ ap (λ (xs : List ℕ). take (c.args.place + length c.args.buf.now - c.args.place) (drop c.args.place xs)) c.as_slice.ensures)
