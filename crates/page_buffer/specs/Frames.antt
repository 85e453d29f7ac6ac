-- What a frame of the buffer holds.
use Rattle.std.specs.Prelude.{ℕ, Bool, true, false, List, [], ◌++◌, length, take, drop, Option, Some, None}
use Rattle.page_base.specs.declared.keys.Key.{Key}
use Rattle.page_base.specs.Pages.{same}

-- A frame is free, or reserved for a page that is being read, or it holds a resident page with its bytes.
pub data FrameSeen : Type 0 where
  Free : FrameSeen
  Reserved : (key : Key) → FrameSeen
  Resident : (key : Key) (bytes : List ℕ) → FrameSeen

abbrev pub is_free : FrameSeen → Bool
is_free Free = true
is_free (Reserved key) = false
is_free (Resident key bytes) = false

abbrev pub is_reserved : FrameSeen → Bool
is_reserved Free = false
is_reserved (Reserved key) = true
is_reserved (Resident key bytes) = false

abbrev pub is_resident : FrameSeen → Bool
is_resident Free = false
is_resident (Reserved key) = false
is_resident (Resident key bytes) = true

-- the frame is reserved for the page, or holds it
abbrev pub is_for : Key → FrameSeen → Bool
is_for key Free = false
is_for key (Reserved other) = same other key
is_for key (Resident other bytes) = same other key

-- the resident page, if one is there
abbrev pub resident_key : FrameSeen → Option Key
resident_key Free = None
resident_key (Reserved key) = None
resident_key (Resident key bytes) = Some key

-- the page that the frame is for, which says nothing of a free frame
abbrev pub page_of : FrameSeen → Key
page_of Free = record { region = 0; page = 0 }
page_of (Reserved key) = key
page_of (Resident key bytes) = key

abbrev pub bytes_of : FrameSeen → List ℕ
bytes_of Free = []
bytes_of (Reserved key) = []
bytes_of (Resident key bytes) = bytes

-- `new` over the first bytes of `old`, at the length of `old`
abbrev pub refilled : List ℕ → List ℕ → List ℕ
refilled old new = take (length old) (new ++ drop (length new) old)

-- the frame with its bytes written over
abbrev pub with_bytes : FrameSeen → List ℕ → FrameSeen
with_bytes Free new = Free
with_bytes (Reserved key) new = Reserved key
with_bytes (Resident key bytes) new = Resident key (refilled bytes new)
