use Rattle.std.proofs.Common.{◌≡◌, ◌+◌, ◌++◌, length, map, drop, string_bytes}
use Rattle.std.specs.Vec.Iter.{into_iter_items, into_iter_len}
use Rattle.call_words.proofs.call.behind_name.Given as goal

-- the words so far, and those that are still to come
abbrev pub invariant-words : goal.invariant-words
invariant-words l = record {
  all : length l.words.items + into_iter_len l.args + 1 ≡ into_iter_len l.fn.args;
  bytes : drop 1 (map string_bytes (into_iter_items l.fn.args)) ≡ l.words.items ++ map string_bytes (into_iter_items l.args);
}

abbrev pub decreases-words : goal.decreases-words
decreases-words l = into_iter_len l.args
