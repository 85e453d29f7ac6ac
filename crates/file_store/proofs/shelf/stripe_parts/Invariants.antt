use Rattle.std.proofs.Common.{◌≡◌, ◌≤◌, ◌+◌, ℕ, length, Some, slice_get}
use Rattle.file_store.specs.InsideFolders.{stripe_seen}
use Rattle.file_store.specs.InsideMemSeen.{mem_seen}
use Rattle.file_store.specs.FailingCalls.{AreListedFor}
use Rattle.file_store.proofs.shelf.stripe_parts.Given as goal

abbrev pub invariant-loop-stripe : goal.invariant-loop-stripe
invariant-loop-stripe l = record {
  room : l.stripes ≤ l.parts.spare + l.stripe;
  count : length l.parts.items ≡ l.stripe;
  each : (s : ℕ) (part : _) → slice_get l.parts.items s ≡ Some part → mem_seen part ≡ stripe_seen l.path l.cut s l.bytes;
  lists : AreListedFor l.path l.failing l.parts.items;
}
