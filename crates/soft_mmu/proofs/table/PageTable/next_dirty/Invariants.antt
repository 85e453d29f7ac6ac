use Rattle.soft_mmu.proofs.NextDirty.{HasCome}
use Rattle.soft_mmu.proofs.table.PageTable.next_dirty.Given as goal

abbrev pub invariant-loop-region : goal.invariant-loop-region
invariant-loop-region l = HasCome l.self-inside.regions.items l.fn.after l.region l.from
