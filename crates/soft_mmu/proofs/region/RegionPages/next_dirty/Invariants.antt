use Rattle.std.proofs.Common.{◌≡◌, ℕ, ◌+◌, ◌*◌, ◌<◌, ◌≤◌, false, slice_index_or}
use Rattle.soft_mmu.specs.declared.entry.PageEntry.TheVariants.{Absent}
use Rattle.soft_mmu.specs.Entries.{is_dirty}
use Rattle.soft_mmu.specs.InsideLeaves.{entries_of}
use Rattle.soft_mmu.proofs.region.RegionPages.next_dirty.Given as goal

abbrev pub invariant-loop-at : goal.invariant-loop-at
invariant-loop-at l = record {
  small : l.place < 512;
  come : l.from ≤ 512 * l.at + l.place;
  none : (k : ℕ) → l.from ≤ k → k < 512 * l.at + l.place → is_dirty (slice_index_or (entries_of l.self-inside.leaves.items) k Absent) ≡ false;
}
