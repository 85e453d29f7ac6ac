-- Which entry may come next, and which histories are legal.
use Rattle.std.specs.Prelude.{◌≡◌, ℕ, ◌+◌, Bool, true, false, nat_lt, nat_le, List, [], ◌∷◌, length, Some}
use Rattle.histories.specs.Histories.{History}
use Rattle.page_base.specs.declared.keys.Key.{Key}
use Rattle.page_base.specs.declared.keys.Why.{Why}
use Rattle.page_base.specs.declared.keys.Why.TheVariants.{Read, Write, Protected, Ahead}
use Rattle.page_model.specs.declared.entry.Cause.{Cause}
use Rattle.page_model.specs.declared.entry.Cause.TheVariants.{Pressure, Flush, Unmap}
use Rattle.page_model.specs.declared.entry.Entry.{Entry}
use Rattle.page_model.specs.declared.entry.Entry.TheVariants.{Load, Save, Raised, StartRead, Filled, Opened, Dropped, ReadFailed, WriteFailed, StartWrite, Evicted, Written, Hint, Closing, Unmapped}
use Rattle.page_model.specs.declared.seen.Next.TheVariants as serve
use Rattle.page_model.specs.Setups.{Setup, regions, has_page, is_writable}
use Rattle.page_model.specs.Memory.{LoadsLatest}
use Rattle.page_model.specs.InFlight.{is_home, is_reading, is_writing, before_start, MayEnd, WritesTaken}
use Rattle.page_model.specs.Residents.{is_resident}
use Rattle.page_model.specs.Faults.{pending, is_pending}
use Rattle.page_model.specs.Bits.{is_protected, is_dirty}
use Rattle.page_model.specs.Closings.{is_closing, is_unmapped, is_quiet}
use Rattle.page_model.specs.Evictions.{has_pressure, pick}
use Rattle.page_model.specs.Serving.{next_of, hint_answer}
use Rattle.page_model.specs.StoreFaults.{CountsRise}

-- an access covers at least one byte, ends inside its page, and finds the page resident in a region that isn't closing
pub record MayAccess (s : Setup) (h : History Entry) (k : Key) (place len : ℕ) : Type 0 where
  pub some : nat_lt 0 len ≡ true
  pub inside : nat_le (place + len) s.page_size ≡ true
  pub resident : is_resident h k ≡ true
  pub not_closing : is_closing h k.region ≡ false

-- and a store finds it unprotected, in a region that may be stored to
pub record MayStore (s : Setup) (h : History Entry) (k : Key) : Type 0 where
  pub writable : is_writable s k.region ≡ true
  pub unprotected : is_protected h k ≡ false

-- a missing page is raised to be read, and a protected one to be opened
abbrev pub MayRaiseFor : Setup → History Entry → Key → Why → Type 0
MayRaiseFor s h k Read = is_resident h k ≡ false
MayRaiseFor s h k Ahead = is_resident h k ≡ false
MayRaiseFor s h k Write = (is_resident h k ≡ false) × (is_writable s k.region ≡ true)
MayRaiseFor s h k Protected = (is_resident h k ≡ true) × (is_protected h k ≡ true) × (is_writable s k.region ≡ true)

-- a page is raised once, and not while it is being read
pub record MayRaise (s : Setup) (h : History Entry) (k : Key) (why : Why) : Type 0 where
  pub not_closing : is_closing h k.region ≡ false
  pub not_pending : is_pending h k ≡ false
  pub not_reading : is_reading h k ≡ false
  pub room : nat_lt (length (pending h)) s.faults ≡ true
  pub fits : MayRaiseFor s h k why

-- the page is the pick, and memory is short
pub record IsPick (s : Setup) (h : History Entry) (k : Key) : Type 0 where
  pub pressure : has_pressure s h ≡ true
  pub pick : pick h ≡ Some k

abbrev pub MayWriteFor : Setup → History Entry → Key → Cause → Type 0
MayWriteFor s h k Pressure = IsPick s h k
MayWriteFor s h k Unmap = is_closing h k.region ≡ true
MayWriteFor s h k Flush = Unit {0}

-- a dirty resident page is written back, by a lane that is home
pub record MayStartWrite (s : Setup) (h : History Entry) (k : Key) (why : Cause) : Type 0 where
  pub home : is_home h k.region ≡ true
  pub resident : is_resident h k ≡ true
  pub dirty : is_dirty h k ≡ true
  pub fits : MayWriteFor s h k why

abbrev pub MayEvictFor : Setup → History Entry → Key → Cause → Type 0
MayEvictFor s h k Pressure = IsPick s h k
MayEvictFor s h k Unmap = is_closing h k.region ≡ true
MayEvictFor s h k Flush = ⊥

-- a clean resident page leaves, and not while it is being written
pub record MayEvict (s : Setup) (h : History Entry) (k : Key) (why : Cause) : Type 0 where
  pub resident : is_resident h k ≡ true
  pub clean : is_dirty h k ≡ false
  pub not_writing : is_writing h k ≡ false
  pub fits : MayEvictFor s h k why

-- a write that ends well says where it started and what it wrote
pub record MayFinishWrite (s : Setup) (h : History Entry) (o : ℕ) (k : Key) (at : ℕ) (bytes : List ℕ) : Type 0 where
  pub ends : MayEnd h o k true
  pub place : at ≡ length (before_start h k.region)
  pub taken : WritesTaken s h k bytes

-- a region is unmapped once, when it is closing and nothing of it is left
pub record MayUnmap (h : History Entry) (r : ℕ) : Type 0 where
  pub closing : is_closing h r ≡ true
  pub first : is_unmapped h r ≡ false
  pub quiet : is_quiet h r ≡ true

-- the entry may come next, made by owner o
abbrev pub MayFollow : Setup → History Entry → ℕ → Entry → Type 0
MayFollow s h o (Load k place bytes) = MayAccess s h k place (length bytes) × LoadsLatest s h k place bytes
MayFollow s h o (Save k place bytes) = MayAccess s h k place (length bytes) × MayStore s h k
MayFollow s h o (Raised k why) = MayRaise s h k why
MayFollow s h o (StartRead k) = (is_home h k.region ≡ true) × (next_of s h ≡ serve.Read k)
MayFollow s h o (Filled k) = MayEnd h o k false
MayFollow s h o (Opened k) = next_of s h ≡ serve.Open k
MayFollow s h o (Dropped k) = next_of s h ≡ serve.Drop k
MayFollow s h o (ReadFailed k n) = MayEnd h o k false × CountsRise s h k.region n
MayFollow s h o (WriteFailed k n) = MayEnd h o k true × CountsRise s h k.region n
MayFollow s h o (StartWrite k why) = MayStartWrite s h k why
MayFollow s h o (Evicted k why) = MayEvict s h k why
MayFollow s h o (Written k at bytes) = MayFinishWrite s h o k at bytes
MayFollow s h o (Hint k a) = a ≡ hint_answer s h k
MayFollow s h o (Closing r) = is_closing h r ≡ false
MayFollow s h o (Unmapped r) = MayUnmap h r

-- the entry is of a page or a region of this stripe
abbrev pub is_of_stripe : Setup → Entry → Bool
is_of_stripe s (Load k place bytes) = has_page s k
is_of_stripe s (Save k place bytes) = has_page s k
is_of_stripe s (Raised k why) = has_page s k
is_of_stripe s (StartRead k) = has_page s k
is_of_stripe s (Filled k) = has_page s k
is_of_stripe s (Opened k) = has_page s k
is_of_stripe s (Dropped k) = has_page s k
is_of_stripe s (ReadFailed k n) = has_page s k
is_of_stripe s (WriteFailed k n) = has_page s k
is_of_stripe s (StartWrite k why) = has_page s k
is_of_stripe s (Evicted k why) = has_page s k
is_of_stripe s (Written k at bytes) = has_page s k
is_of_stripe s (Hint k a) = has_page s k
is_of_stripe s (Closing r) = nat_lt r (regions s)
is_of_stripe s (Unmapped r) = nat_lt r (regions s)

-- each entry may follow the history before it
abbrev pub IsLegal : Setup → History Entry → Type 0
IsLegal s [] = Unit {0}
IsLegal s (e ∷ h) = IsLegal s h × (is_of_stripe s e.1 ≡ true) × MayFollow s h e.0 e.1
