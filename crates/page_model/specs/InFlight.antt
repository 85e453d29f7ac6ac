-- I/O in flight: a read or a write of a region's lane that has started and not ended. A lane has at most one.
use Rattle.std.specs.Prelude.{ℕ, Bool, true, false, not, ◌&&◌, ◌==◌, if◌then◌else◌, List, [], ◌∷◌, Option, Some, None, is_none, ◌≡◌}
use Rattle.std.specs.Bool.{beq, OnTrue}
use Rattle.histories.specs.Histories.{History}
use Rattle.page_base.specs.declared.keys.Key.{Key}
use Rattle.page_base.specs.Pages.{same}
use Rattle.page_model.specs.declared.entry.Entry.{Entry}
use Rattle.page_model.specs.declared.entry.Entry.TheVariants.{StartRead, Filled, ReadFailed, WriteFailed, StartWrite, Written}
use Rattle.page_model.specs.Setups.{Setup, is_told}
use Rattle.page_model.specs.Memory.{flat}

-- The start: the history before it, so that its place is `length before`; who made it; the page; and whether it is a write.
pub record InFlight : Type 0 where
  pub before : History Entry
  pub owner : ℕ
  pub key : Key
  pub writes : Bool

-- in region r: this start, where it is of r, else what was in flight
abbrev pub started : InFlight → ℕ → Option InFlight → Option InFlight
started t r before = if t.key.region == r then Some t else before

-- in region r: nothing, where this page is of r, else what was in flight
abbrev pub ended : Key → ℕ → Option InFlight → Option InFlight
ended k r before = if k.region == r then None else before

-- the last start of a page of region r, where no end of a page of r stands after it
abbrev pub in_flight : History Entry → ℕ → Option InFlight
in_flight [] r = None
in_flight ((o, StartRead k) ∷ h) r = started (record { before = h; owner = o; key = k; writes = false }) r (in_flight h r)
in_flight ((o, StartWrite k why) ∷ h) r = started (record { before = h; owner = o; key = k; writes = true }) r (in_flight h r)
in_flight ((o, Filled k) ∷ h) r = ended k r (in_flight h r)
in_flight ((o, ReadFailed k n) ∷ h) r = ended k r (in_flight h r)
in_flight ((o, Written k at bytes) ∷ h) r = ended k r (in_flight h r)
in_flight ((o, WriteFailed k n) ∷ h) r = ended k r (in_flight h r)
in_flight (e ∷ h) r = in_flight h r

-- the region's lane is home
abbrev pub is_home : History Entry → ℕ → Bool
is_home h r = is_none (in_flight h r)

abbrev pub is_read_of : Option InFlight → Key → Bool
is_read_of None k = false
is_read_of (Some t) k = same t.key k && not t.writes

abbrev pub is_write_of : Option InFlight → Key → Bool
is_write_of None k = false
is_write_of (Some t) k = same t.key k && t.writes

-- page k is being read
abbrev pub is_reading : History Entry → Key → Bool
is_reading h k = is_read_of (in_flight h k.region) k

-- page k is being written
abbrev pub is_writing : History Entry → Key → Bool
is_writing h k = is_write_of (in_flight h k.region) k

abbrev pub is_a_read : Option InFlight → Bool
is_a_read None = false
is_a_read (Some t) = not t.writes

abbrev pub before_of : Option InFlight → History Entry
before_of None = []
before_of (Some t) = t.before

-- the history before the start of what is in flight in region r
abbrev pub before_start : History Entry → ℕ → History Entry
before_start h r = before_of (in_flight h r)

abbrev pub is_own : Option InFlight → ℕ → Key → Bool → Bool
is_own None o k writes = false
is_own (Some t) o k writes = t.owner == o && (same t.key k && beq t.writes writes)

-- owner o has started what is in flight: a write of page k, or a read of it
abbrev pub MayEnd : History Entry → ℕ → Key → Bool → Type 0
MayEnd h o k writes = is_own (in_flight h k.region) o k writes ≡ true

-- a write's bytes are those that the page held when the write started, where told
abbrev pub WritesTaken : Setup → History Entry → Key → List ℕ → Type 0
WritesTaken s h k bytes = OnTrue (is_told s k) (bytes ≡ flat s (before_start h k.region) k)
