-- Lanes that fail at stated calls.
use Rattle.std.specs.Prelude.{◌≡◌, ℕ, ◌+◌, ◌-◌, ◌^◌, min, Bool, true, false, ◌==◌, List, Result, IsErr}
use Rattle.std.specs.List.{list_any}
use Rattle.page_base.specs.Lanes.{LaneSeen, Rose}

-- such a lane: the lane inside, the numbers of the reads and of the writes that fail, how many of each were made, and how
-- many of them failed because they are listed
pub record FailSeen (S : Type 0) : Type 0 where
  pub inner : S
  pub failing_reads : List ℕ
  pub failing_writes : List ℕ
  pub reads : ℕ
  pub writes : ℕ
  pub failed : ℕ

-- one more, up to the last value that a count can show
abbrev pub one_more : ℕ → ℕ
one_more n = min (n + 1) (2 ^ 64 - 1)

-- the number is on the list
abbrev pub is_listed : ℕ → List ℕ → Bool
is_listed n list = list_any (λ m. m == n) list

module _ {S : Type 0} where
  -- none was made so far
  abbrev pub fresh_lane : S → List ℕ → List ℕ → FailSeen S
  fresh_lane inner reads writes = record { inner = inner; failing_reads = reads; failing_writes = writes; reads = 0; writes = 0; failed = 0 }

  -- what contracts see of such a lane: what the lane inside tells, and the faults of both
  abbrev pub fail_seen : (S → LaneSeen) → FailSeen S → LaneSeen
  fail_seen seen l = record { origin = (seen l.inner).origin; told = (seen l.inner).told; count = min (l.failed + (seen l.inner).count) (2 ^ 64 - 1) }

  -- but for the lane inside, the call counted a read and changed nothing
  abbrev pub read_more : FailSeen S → FailSeen S → FailSeen S
  read_more old new = record old { reads = one_more old.reads; inner = new.inner; failed = new.failed }

  -- but for the lane inside, the call counted a write and changed nothing
  abbrev pub written_more : FailSeen S → FailSeen S → FailSeen S
  written_more old new = record old { writes = one_more old.writes; inner = new.inner; failed = new.failed }

  -- the read, or the write, that was counted last is on the list
  abbrev pub read_is_listed : (old new : FailSeen S) → Bool
  read_is_listed old new = is_listed new.reads old.failing_reads

  abbrev pub write_is_listed : (old new : FailSeen S) → Bool
  write_is_listed old new = is_listed new.writes old.failing_writes

  -- Where the call is listed it failed, and the lane inside is as it was. Else it is the call of the lane inside, and fails
  -- only where that one's count of faults rose
  pub record FailsWhereListed (seen : S → LaneSeen) (listed : Bool) (old new : FailSeen S) {A E : Type 0} (result : Result A E) : Type 0 where
    pub fails : listed ≡ true → IsErr result
    pub untouched : listed ≡ true → new.inner ≡ old.inner
    pub counted : listed ≡ true → new.failed ≡ one_more old.failed
    pub passes_on : listed ≡ false → IsErr result → Rose (seen old.inner).count (seen new.inner).count
    pub not_counted : listed ≡ false → new.failed ≡ old.failed
