-- What a source gives and a sink takes, and what contracts see of those in memory.
use Rattle.std.specs.Prelude.{ℕ, ◌+◌, ◌-◌, ◌^◌, ◌==◌, ◌||◌, nat_lt, min, Bool, if◌then◌else◌, List, ◌++◌, length, take, drop, Option, Some, None, is_some}
use Rattle.std.specs.List.{list_any, find}
use Rattle.std.specs.Io.KnownBytes.{Appends}
use Rattle.file_store.specs.declared.sink.FailingWrite.{FailingWrite}

-- known bytes grow by a front part of these
abbrev pub AppendsFront : Option (List ℕ) → Option (List ℕ) → List ℕ → Type 0
AppendsFront old new bytes = (n : ℕ) × Appends old new (take n bytes)

-- one more; a count that can show no more stands
abbrev pub one_counted : ℕ → ℕ
one_counted n = min (n + 1) (2 ^ 64 - 1)

-- ---- a source in memory

pub record SourceSeen : Type 0 where
  pub left : List ℕ
  pub failing : List ℕ  -- the numbers of the reads that fail, one_counted from 1
  pub reads : ℕ  -- so many were made
  pub faults : ℕ  -- so many of them failed

-- the next read fails
abbrev pub read_fails : SourceSeen → Bool
read_fails s = list_any (λ n. n == one_counted s.reads) s.failing

-- the source behind a read into so much room
abbrev pub after_read : SourceSeen → (room : ℕ) → SourceSeen
after_read s room =
    if read_fails s then record s { reads = one_counted s.reads; faults = one_counted s.faults }
    else record s { reads = one_counted s.reads; left = drop room s.left }

-- ---- a sink in memory

pub record SinkSeen : Type 0 where
  pub written : List ℕ
  pub spare : ℕ  -- so many more bytes find room
  pub failing : List FailingWrite
  pub writes : ℕ  -- so many were made
  pub faults : ℕ  -- so many of them failed

-- the failing write of this number, the first where there are more
abbrev pub failing_at : List FailingWrite → (number : ℕ) → Option FailingWrite
failing_at failing number = find (λ (f : FailingWrite). f.number == number) failing

-- the next write of these bytes fails: it is to, or there isn't the room
abbrev pub write_fails : SinkSeen → List ℕ → Bool
write_fails s bytes = is_some (failing_at s.failing (one_counted s.writes)) || nat_lt s.spare (length bytes)

-- how many bytes a write takes at most, that may be to fail
abbrev pub most_taken : Option FailingWrite → List ℕ → ℕ
most_taken None bytes = length bytes
most_taken (Some f) bytes = f.takes

-- what the next write takes of these bytes
abbrev pub taken : SinkSeen → List ℕ → List ℕ
taken s bytes = take (min (most_taken (failing_at s.failing (one_counted s.writes)) bytes) s.spare) bytes

-- the sink behind a write of these bytes
abbrev pub after_write : SinkSeen → List ℕ → SinkSeen
after_write s bytes = record s {
  written = s.written ++ taken s bytes;
  spare = s.spare - length (taken s bytes);
  writes = one_counted s.writes;
  faults = (if write_fails s bytes then one_counted s.faults else s.faults);
}
