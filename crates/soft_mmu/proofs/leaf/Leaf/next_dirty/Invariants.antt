use Rattle.std.proofs.Common.{◌≡◌, ℕ, ◌<◌, ◌≤◌, false, slice_index_or}
use Rattle.soft_mmu.specs.declared.entry.PageEntry.TheVariants.{Absent}
use Rattle.soft_mmu.specs.Entries.{is_dirty}
use Rattle.soft_mmu.proofs.leaf.Leaf.next_dirty.Given as goal

abbrev pub invariant-loop-place : goal.invariant-loop-place
invariant-loop-place l =
    (k : ℕ) → l.from ≤ k → k < l.place → is_dirty (slice_index_or l.self-inside.words.items k Absent) ≡ false
