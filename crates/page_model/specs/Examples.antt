-- Worked histories of one region of memory with three pages of 64 bytes, written oldest first: legal ones, and wrong ones.
use Rattle.std.specs.Prelude.{ℕ, true, List, [], ◌∷◌, ◌++◌, reverse, replicate, Some}
use Rattle.histories.specs.Histories.{History, by}
use Rattle.page_base.specs.declared.keys.Key.{Key}
use Rattle.page_base.specs.declared.keys.Why.TheVariants.{Read, Write, Protected}
use Rattle.page_base.specs.Backings.{in_memory}
use Rattle.page_base.specs.Lanes.{LaneSeen, all_there}
use Rattle.page_model.specs.declared.entry.Cause.TheVariants.{Pressure, Flush, Unmap}
use Rattle.page_model.specs.declared.entry.HintAnswer.TheVariants as answer
use Rattle.page_model.specs.declared.entry.Entry.{Entry}
use Rattle.page_model.specs.declared.entry.Entry.TheVariants.{Load, Save, Raised, StartRead, Filled, Opened, Dropped, ReadFailed, WriteFailed, StartWrite, Evicted, Written, Hint, Closing, Unmapped}
use Rattle.page_model.specs.Entries.{accesses_of}
use Rattle.page_model.specs.Setups.{Setup}

-- memory that begins with zeros
abbrev pub memory_lane : LaneSeen
memory_lane = record {
  origin = record { backing = in_memory; region = 0; pages = 3; page_size = 64; group = 1; stripes = 1; stripe = 0; there = all_there };
  told = replicate 3 (Some (replicate 64 0));
  count = 0;
}

-- one stripe with this many frames, whose marks are 90 and 70 percent
abbrev pub stripe_with : ℕ → Setup
stripe_with frames = record {
  page_size = 64;
  stripes = 1;
  frames = frames;
  number = 0;
  faults = 64;
  high = 90;
  low = 70;
  shapes = record { pages = 3; group = 1; writable = true } ∷ [];
  lanes = memory_lane ∷ [];
}

abbrev pub page : ℕ → Key
page n = record { region = 0; page = n }

-- these entries of owner 1, the oldest first, as a history
abbrev pub history_of : List Entry → History Entry
history_of entries = by 1 (reverse entries)

-- a page of 64 bytes that begins with this one, and is zeros else
abbrev pub begins : ℕ → List ℕ
begins byte = byte ∷ replicate 63 0

-- four frames, of which two are to be in use before it evicts, and one when it stops
abbrev pub early_evictor : Setup
early_evictor = record (stripe_with 4) { high = 50; low = 25 }

-- ---- parts of histories

-- page n is read in for a load
abbrev pub loaded_in : ℕ → List Entry
loaded_in n = Raised (page n) Read ∷ StartRead (page n) ∷ Filled (page n) ∷ []

-- a page is read in ahead, for a hint
abbrev pub read_ahead : List Entry
read_ahead = Hint (page 0) answer.Raised ∷ StartRead (page 0) ∷ Filled (page 0) ∷ []

-- a page's read fails, as the lane's fault number n
abbrev pub a_failed_read : ℕ → List Entry
a_failed_read n = Raised (page 0) Read ∷ StartRead (page 0) ∷ ReadFailed (page 0) n ∷ []

-- a page is read in for a store, and a_store to
abbrev pub a_store : ℕ → List Entry
a_store byte = Raised (page 0) Write ∷ StartRead (page 0) ∷ Filled (page 0) ∷ Save (page 0) 0 (byte ∷ []) ∷ []

-- ---- legal ones

-- two pages take turns in one frame: the dirty one is written back before it leaves; the region is unmapped at the end
abbrev pub two_pages_in_one_frame : List Entry
two_pages_in_one_frame =
    a_store 170
    ++ (Raised (page 1) Read ∷ StartWrite (page 0) Pressure ∷ Written (page 0) 5 (begins 170) ∷ Evicted (page 0) Pressure
    ∷ StartRead (page 1) ∷ Filled (page 1) ∷ Load (page 1) 0 (0 ∷ [])
    ∷ Raised (page 0) Read ∷ Evicted (page 1) Pressure ∷ StartRead (page 0) ∷ Filled (page 0) ∷ Load (page 0) 0 (170 ∷ [])
    ∷ Closing 0 ∷ Evicted (page 0) Unmap ∷ Unmapped 0 ∷ [])

-- while a page is written back it is a_store to again, and so reopened
abbrev pub reopened : List Entry
reopened =
    a_store 1
    ++ (StartWrite (page 0) Flush ∷ Raised (page 0) Protected ∷ Opened (page 0) ∷ Save (page 0) 0 (2 ∷ []) ∷ [])

-- the write that had started leaves it dirty, and the next one clean
abbrev pub reopened_while_written : List Entry
reopened_while_written = reopened ++ (Written (page 0) 4 (begins 1) ∷ StartWrite (page 0) Flush ∷ Written (page 0) 9 (begins 2) ∷ [])

-- the same by two owners: owner 1 evicts, owner 2 stores and then flushes
abbrev pub evictor_and_flusher : List (ℕ × Entry)
evictor_and_flusher =
    (2, Raised (page 0) Write) ∷ (2, StartRead (page 0)) ∷ (2, Filled (page 0)) ∷ (2, Save (page 0) 0 (1 ∷ []))
    ∷ (1, StartWrite (page 0) Pressure) ∷ (2, Raised (page 0) Protected) ∷ (2, Opened (page 0)) ∷ (2, Save (page 0) 0 (2 ∷ []))
    ∷ (1, Written (page 0) 4 (begins 1)) ∷ (2, StartWrite (page 0) Flush) ∷ (2, Written (page 0) 9 (begins 2)) ∷ []

-- three pages are hinted at where two faults may be pending
abbrev pub three_hints : List Entry
three_hints = Hint (page 0) answer.Raised ∷ Hint (page 1) answer.Raised ∷ Hint (page 2) answer.Full ∷ []

-- faults of the store are numbered upwards
abbrev pub reads_fail_twice : List Entry
reads_fail_twice = a_failed_read 1 ++ a_failed_read 2

-- the history after the first of these reads, and after both
abbrev pub after_one_read : History Entry
after_one_read = history_of (a_failed_read 1)

abbrev pub after_two_reads : History Entry
after_two_reads = history_of reads_fail_twice

abbrev pub two_pages : History Entry
two_pages = history_of two_pages_in_one_frame

-- the accesses among them alone
abbrev pub by_one_owner : History Entry
by_one_owner = by 0 (accesses_of 1 two_pages)

-- till the greatest number, which may come again
abbrev pub reads_fail_at_the_greatest_number : List Entry
reads_fail_at_the_greatest_number = a_failed_read 18446744073709551615 ++ a_failed_read 18446744073709551615

-- a write back fails, and leaves its page dirty
abbrev pub a_failed_write : List Entry
a_failed_write = a_store 1 ++ (StartWrite (page 0) Flush ∷ WriteFailed (page 0) 1 ∷ [])

-- so it may be tried again
abbrev pub write_fails_twice : List Entry
write_fails_twice = a_failed_write ++ (StartWrite (page 0) Flush ∷ WriteFailed (page 0) 2 ∷ [])

-- what was read ahead is protected, and is opened for a store to its last byte
abbrev pub read_ahead_and_opened : List Entry
read_ahead_and_opened = read_ahead ++ (Raised (page 0) Protected ∷ Opened (page 0) ∷ Save (page 0) 63 (1 ∷ []) ∷ [])

-- eviction begins with as many pages as the high mark says
abbrev pub evicted_at_the_high_mark : List Entry
evicted_at_the_high_mark = loaded_in 0 ++ (loaded_in 1 ++ Evicted (page 0) Pressure ∷ [])

-- and goes on down to the low mark
abbrev pub evicted_down_to_the_low_mark : List Entry
evicted_down_to_the_low_mark = loaded_in 0 ++ (loaded_in 1 ++ (loaded_in 2 ++ (Evicted (page 0) Pressure ∷ Evicted (page 1) Pressure ∷ [])))

-- a dirty page is the oldest, and a clean one the newest
abbrev pub dirty_then_clean : List Entry
dirty_then_clean = a_store 1 ++ loaded_in 1

-- the clean page is the pick while the dirty one is being written
abbrev pub evicted_beside_a_write : List Entry
evicted_beside_a_write = dirty_then_clean ++ (StartWrite (page 0) Flush ∷ Evicted (page 1) Pressure ∷ [])

-- a page leaves before the fault that would have opened it is served: the fault is stale
abbrev pub left_behind : List Entry
left_behind =
    a_store 1
    ++ (StartWrite (page 0) Flush ∷ Raised (page 0) Protected ∷ Written (page 0) 4 (begins 1) ∷ Evicted (page 0) Pressure ∷ [])

-- it is dropped, and raised again as what it is now
abbrev pub stale_fault_dropped : List Entry
stale_fault_dropped = left_behind ++ (Dropped (page 0) ∷ Raised (page 0) Write ∷ [])

-- a region closes while a fault of it is pending
abbrev pub closing_with_a_fault : List Entry
closing_with_a_fault = Raised (page 0) Read ∷ Closing 0 ∷ []

-- the faults of a region that closes are dropped
abbrev pub dropped_before_unmapping : List Entry
dropped_before_unmapping = closing_with_a_fault ++ (Dropped (page 0) ∷ Unmapped 0 ∷ [])

-- a hint finds its page being read
abbrev pub hint_while_read : List Entry
hint_while_read = Raised (page 0) Read ∷ StartRead (page 0) ∷ Hint (page 0) answer.Pending ∷ []

-- a hint finds its region closing, whatever else holds of the page
abbrev pub hints_while_closing : List Entry
hints_while_closing = loaded_in 0 ++ (Closing 0 ∷ Hint (page 0) answer.Closed ∷ Hint (page 1) answer.Closed ∷ [])

-- ---- wrong ones: accesses

abbrev pub load_of_a_byte_that_nobody_stored : List Entry
load_of_a_byte_that_nobody_stored = loaded_in 0 ++ Load (page 0) 0 (7 ∷ []) ∷ []

abbrev pub load_of_an_absent_page : List Entry
load_of_an_absent_page = Load (page 0) 0 (0 ∷ []) ∷ []

abbrev pub load_past_the_page : List Entry
load_past_the_page = loaded_in 0 ++ Load (page 0) 64 (0 ∷ []) ∷ []

abbrev pub load_of_no_byte : List Entry
load_of_no_byte = loaded_in 0 ++ Load (page 0) 0 [] ∷ []

abbrev pub store_to_a_protected_page : List Entry
store_to_a_protected_page = loaded_in 0 ++ Save (page 0) 0 (1 ∷ []) ∷ []

abbrev pub store_to_a_page_read_ahead : List Entry
store_to_a_page_read_ahead = read_ahead ++ Save (page 0) 0 (1 ∷ []) ∷ []

-- ---- wrong ones: faults, and how they are served

abbrev pub raised_twice : List Entry
raised_twice = Raised (page 0) Read ∷ Raised (page 0) Read ∷ []

abbrev pub raised_while_resident : List Entry
raised_while_resident = loaded_in 0 ++ Raised (page 0) Read ∷ []

abbrev pub read_that_nobody_raised : List Entry
read_that_nobody_raised = StartRead (page 0) ∷ []

abbrev pub later_fault_served_first : List Entry
later_fault_served_first = Raised (page 0) Read ∷ Raised (page 1) Read ∷ StartRead (page 1) ∷ []

abbrev pub one_page_over_the_quota : List Entry
one_page_over_the_quota = loaded_in 0 ++ loaded_in 1

abbrev pub stale_fault_opened : List Entry
stale_fault_opened = left_behind ++ Opened (page 0) ∷ []

abbrev pub dropped_while_wanted : List Entry
dropped_while_wanted = Raised (page 0) Read ∷ Dropped (page 0) ∷ []

abbrev pub read_while_closing : List Entry
read_while_closing = closing_with_a_fault ++ StartRead (page 0) ∷ []

-- ---- wrong ones: answers to hints

abbrev pub hint_raises_past_the_bound : List Entry
hint_raises_past_the_bound = Hint (page 0) answer.Raised ∷ Hint (page 1) answer.Raised ∷ Hint (page 2) answer.Raised ∷ []

abbrev pub hint_finds_a_page_that_is_being_read_present : List Entry
hint_finds_a_page_that_is_being_read_present = Raised (page 0) Read ∷ StartRead (page 0) ∷ Hint (page 0) answer.Present ∷ []

abbrev pub hint_finds_a_page_pending_that_nobody_raised : List Entry
hint_finds_a_page_pending_that_nobody_raised = Hint (page 0) answer.Pending ∷ []

abbrev pub hint_finds_a_page_of_a_closing_region_present : List Entry
hint_finds_a_page_of_a_closing_region_present = loaded_in 0 ++ (Closing 0 ∷ Hint (page 0) answer.Present ∷ [])

-- ---- wrong ones: reads and writes of the store

abbrev pub second_io_on_one_lane : List Entry
second_io_on_one_lane = Raised (page 0) Read ∷ Raised (page 1) Read ∷ StartRead (page 0) ∷ StartRead (page 1) ∷ []

abbrev pub end_by_another_owner : List (ℕ × Entry)
end_by_another_owner = (1, Raised (page 0) Read) ∷ (1, StartRead (page 0)) ∷ (2, Filled (page 0)) ∷ []

abbrev pub write_back_of_bytes_stored_after_its_start : List Entry
write_back_of_bytes_stored_after_its_start = reopened ++ Written (page 0) 4 (begins 2) ∷ []

abbrev pub clean_page_written_back : List Entry
clean_page_written_back = loaded_in 0 ++ StartWrite (page 0) Flush ∷ []

abbrev pub fault_number_repeated : List Entry
fault_number_repeated = a_failed_read 1 ++ a_failed_read 1

abbrev pub fault_number_of_the_start : List Entry
fault_number_of_the_start = a_failed_read 0

abbrev pub write_fault_number_repeated : List Entry
write_fault_number_repeated = a_failed_write ++ (StartWrite (page 0) Flush ∷ WriteFailed (page 0) 1 ∷ [])

-- ---- wrong ones: evictions

abbrev pub newest_page_evicted : List Entry
newest_page_evicted = loaded_in 0 ++ (loaded_in 1 ++ Evicted (page 1) Pressure ∷ [])

abbrev pub eviction_without_pressure : List Entry
eviction_without_pressure = loaded_in 0 ++ Evicted (page 0) Pressure ∷ []

abbrev pub evicted_below_the_high_mark : List Entry
evicted_below_the_high_mark = loaded_in 0 ++ Evicted (page 0) Pressure ∷ []

abbrev pub evicted_below_the_low_mark : List Entry
evicted_below_the_low_mark = evicted_at_the_high_mark ++ Evicted (page 1) Pressure ∷ []

abbrev pub evicted_for_a_flush : List Entry
evicted_for_a_flush = loaded_in 0 ++ Evicted (page 0) Flush ∷ []

abbrev pub evicted_while_written : List Entry
evicted_while_written = dirty_then_clean ++ (StartWrite (page 0) Flush ∷ Evicted (page 0) Pressure ∷ [])

abbrev pub evicted_after_a_failed_write : List Entry
evicted_after_a_failed_write = a_failed_write ++ Evicted (page 0) Pressure ∷ []

abbrev pub clean_after_reopening : List Entry
clean_after_reopening = reopened ++ (Written (page 0) 4 (begins 1) ∷ Evicted (page 0) Pressure ∷ [])

-- ---- wrong ones: closing and unmapping

abbrev pub closed_twice : List Entry
closed_twice = Closing 0 ∷ Closing 0 ∷ []

abbrev pub unmapped_with_a_page_left : List Entry
unmapped_with_a_page_left = loaded_in 0 ++ (Closing 0 ∷ Unmapped 0 ∷ [])

abbrev pub unmapped_with_a_fault_left : List Entry
unmapped_with_a_fault_left = closing_with_a_fault ++ Unmapped 0 ∷ []

abbrev pub unmapped_while_in_use : List Entry
unmapped_while_in_use = Unmapped 0 ∷ []
