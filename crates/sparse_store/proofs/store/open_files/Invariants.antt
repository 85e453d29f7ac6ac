use Rattle.sparse_store.proofs.OpeningFiles.{OpensSome}
use Rattle.sparse_store.proofs.store.open_files.Given as goal

abbrev pub invariant-loop-number : goal.invariant-loop-number
invariant-loop-number g l = OpensSome g.F.Part.Part.seen l.dir.items l.shape l.number l.parts (g.F.Folder.seen l.fn.folder) (g.F.Folder.seen l.folder)
