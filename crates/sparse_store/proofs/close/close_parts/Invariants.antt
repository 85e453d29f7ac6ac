use Rattle.std.proofs.Common.{vec_len}
use Rattle.sparse_store.proofs.ClosingParts.{ClosesSome}
use Rattle.sparse_store.proofs.close.close_parts.Given as goal

abbrev pub invariant-parts : goal.invariant-parts
invariant-parts g l = ClosesSome g.F.Part.Part.seen l.fn.parts.items l.parts.items (g.F.Folder.seen l.fn.folder) (g.F.Folder.seen l.folder)

abbrev pub decreases-parts : goal.decreases-parts
decreases-parts g l = vec_len l.parts
