use Rattle.std.proofs.Common.{◌≡◌, ◌+◌, ◌≤◌, replicate, vec_capacity}
use Rattle.soft_mmu.specs.declared.entry.PageEntry.TheVariants.{Absent}
use Rattle.soft_mmu.proofs.region.RegionPages.absent.Given as goal

abbrev pub invariant-loop : goal.invariant-loop
invariant-loop l = record {
  full : l.leaves.items ≡ replicate l.counter (replicate 512 Absent);
  room : l.full + 1 ≤ vec_capacity l.leaves;
}
