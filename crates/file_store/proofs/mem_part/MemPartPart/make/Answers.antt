use Rattle.file_store.proofs.PartRanges.{zeroed}
use Rattle.file_store.proofs.mem_part.MemPartPart.make.Goals as goal

pub returns-clause-zeroed : goal.returns-clause-zeroed
returns-clause-zeroed c = zeroed _ c.args.self.now.bytes.items (c.args.self.now.zeros c.requires.not_made)
