-- Entries: the one that a note is, and what kind it is of.
use Rattle.std.specs.Prelude.{ℕ, Bool, true, false, ◌==◌, Option, Some, None, List, filter}
use Rattle.histories.specs.Histories.{History, calls_of}
use Rattle.page_base.specs.declared.keys.Key.{Key}
use Rattle.page_model.specs.declared.entry.Entry.{Entry}
use Rattle.page_model.specs.declared.entry.Entry.TheVariants as entry
use Rattle.page_model.specs.declared.entry.Entry.TheVariants.{Load, Save, Raised, StartRead, Filled, Opened, Dropped, ReadFailed, WriteFailed, StartWrite, Evicted, Written, Hint, Closing, Unmapped}
use Rattle.page_model.specs.declared.note.Note.{Note}
use Rattle.page_model.specs.declared.note.Note.TheVariants as note

-- the entry that a note is
abbrev pub entry_of : Note → Entry
entry_of (note.Load k place bytes) = entry.Load k place bytes.now
entry_of (note.Save k place bytes) = entry.Save k place bytes.now
entry_of (note.Raised k why) = entry.Raised k why
entry_of (note.StartRead k) = entry.StartRead k
entry_of (note.Filled k) = entry.Filled k
entry_of (note.Opened k) = entry.Opened k
entry_of (note.Dropped k) = entry.Dropped k
entry_of (note.ReadFailed k n) = entry.ReadFailed k n
entry_of (note.WriteFailed k n) = entry.WriteFailed k n
entry_of (note.StartWrite k why) = entry.StartWrite k why
entry_of (note.Evicted k why) = entry.Evicted k why
entry_of (note.Written k at bytes) = entry.Written k at bytes.now
entry_of (note.Hint k a) = entry.Hint k a
entry_of (note.Closing r) = entry.Closing r
entry_of (note.Unmapped r) = entry.Unmapped r

-- the page that an entry is of
abbrev pub key_of : Entry → Option Key
key_of (Load k place bytes) = Some k
key_of (Save k place bytes) = Some k
key_of (Raised k why) = Some k
key_of (StartRead k) = Some k
key_of (Filled k) = Some k
key_of (Opened k) = Some k
key_of (Dropped k) = Some k
key_of (ReadFailed k n) = Some k
key_of (WriteFailed k n) = Some k
key_of (StartWrite k why) = Some k
key_of (Evicted k why) = Some k
key_of (Written k at bytes) = Some k
key_of (Hint k a) = Some k
key_of (Closing r) = None
key_of (Unmapped r) = None

abbrev pub region_or : ℕ → Option Key → ℕ
region_or r None = r
region_or r (Some k) = k.region

-- the region that an entry is of
abbrev pub region_of : Entry → ℕ
region_of (Closing r) = r
region_of (Unmapped r) = r
region_of e = region_or 0 (key_of e)

-- a start of a read or of a write
abbrev pub is_start : Entry → Bool
is_start (StartRead k) = true
is_start (StartWrite k why) = true
is_start e = false

-- an end of a read or of a write
abbrev pub is_end : Entry → Bool
is_end (Filled k) = true
is_end (ReadFailed k n) = true
is_end (Written k at bytes) = true
is_end (WriteFailed k n) = true
is_end e = false

-- a store call failed
abbrev pub is_fault : Entry → Bool
is_fault (ReadFailed k n) = true
is_fault (WriteFailed k n) = true
is_fault e = false

-- what a caller asks for itself, and not for the service of faults
abbrev pub is_access : Entry → Bool
is_access (Load k place bytes) = true
is_access (Save k place bytes) = true
is_access (Hint k a) = true
is_access e = false

-- the accesses of one owner, the newest first
abbrev pub accesses_of : ℕ → History Entry → List Entry
accesses_of o h = filter is_access (calls_of o h)

-- the page lies in this stripe
abbrev pub lies_in : (stripe : Key → ℕ) → ℕ → Option Key → Bool
lies_in stripe s None = false
lies_in stripe s (Some k) = stripe k == s

-- those entries that are of a page of one stripe
abbrev pub of_stripe : (stripe : Key → ℕ) → ℕ → List Entry → List Entry
of_stripe stripe s es = filter (λ e. lies_in stripe s (key_of e)) es
