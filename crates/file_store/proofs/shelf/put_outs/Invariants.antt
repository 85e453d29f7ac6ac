use Rattle.std.proofs.Common.{◌≡◌, ◌≤◌, ◌+◌, ◌++◌, vec_len, vec_capacity}
use Rattle.file_store.specs.InsideMemFolders.{out_in}
use Rattle.file_store.proofs.shelf.put_outs.Given as goal

abbrev pub invariant-moving : goal.invariant-moving
invariant-moving l = record {
  room : vec_len l.outs + vec_len l.more ≤ vec_capacity l.outs;
  all : out_in l.outs.items ++ out_in l.more.items ≡ out_in l.fn.outs.items ++ out_in l.fn.more.items;
}

abbrev pub decreases-moving : goal.decreases-moving
decreases-moving l = vec_len l.more
