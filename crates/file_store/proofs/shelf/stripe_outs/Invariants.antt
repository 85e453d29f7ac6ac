use Rattle.std.proofs.Common.{◌≡◌, ◌≤◌, ◌+◌, map}
use Rattle.std.specs.List.{range_with_len}
use Rattle.file_store.specs.Folders.{stripe_name}
use Rattle.file_store.specs.InsideMemFolders.{out_in}
use Rattle.file_store.proofs.shelf.stripe_outs.Given as goal

abbrev pub invariant-loop-stripe : goal.invariant-loop-stripe
invariant-loop-stripe l = record {
  room : l.stripes ≤ l.outs.spare + l.stripe;
  names : out_in l.outs.items ≡ map (stripe_name l.path l.cut) (range_with_len 0 l.stripe);
}
