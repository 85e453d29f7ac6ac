-- The frames of a buffer, and the order in which its pages were filled.
use Rattle.std.specs.Prelude.{ℕ, ◌++◌, ◌==◌, ◌&&◌, Bool, true, false, not, List, [], ◌∷◌, length, replicate, filter, map, count_by, slice_index_or, slice_set, nat_le, if◌then◌else◌, ◌≡◌, All, Option, Some, None}
use Rattle.index_lists.specs.Lists as lists
use Rattle.std.specs.List.{list_any}
use Rattle.page_base.specs.declared.keys.Key.{Key}
use Rattle.page_base.specs.declared.keys.Marks.{Marks}
use Rattle.page_base.specs.Pages.{same}
use Rattle.page_buffer.specs.Frames.{FrameSeen, Free, Resident, with_bytes, page_of, resident_key, is_free, is_reserved, is_for}

pub record BufferSeen : Type 0 where
  pub page_size : ℕ  -- the bytes of a page
  pub regions : ℕ  -- the regions are the numbers below this
  pub frames : List FrameSeen  -- by number, as many as the quota
  pub order : List ℕ  -- the frames with resident pages in order of filling, the oldest first
  pub residents : List Key  -- the resident pages in that order
  pub clean : List Bool  -- by number of frame, which says nothing of a frame that has no resident page

-- a buffer of so many free frames
abbrev pub all_free : (quota page_size regions : ℕ) → BufferSeen
all_free quota page_size regions = record {
  page_size = page_size;
  regions = regions;
  frames = replicate quota Free;
  order = [];
  residents = [];
  clean = replicate quota false;
}

-- what a frame holds
abbrev pub frame_of : BufferSeen → ℕ → FrameSeen
frame_of b frame = slice_index_or b.frames frame Free

-- the page that a frame is for
abbrev pub key_of_frame : BufferSeen → ℕ → Key
key_of_frame b frame = page_of (frame_of b frame)

-- a frame is reserved for the page or holds it
abbrev pub has_frame_for : BufferSeen → Key → Bool
has_frame_for b key = list_any (is_for key) b.frames

abbrev pub free_frames : BufferSeen → ℕ
free_frames b = count_by is_free b.frames

abbrev pub reserved_frames : BufferSeen → ℕ
reserved_frames b = count_by is_reserved b.frames

-- the buffer with another content of one frame, all else as before
abbrev pub with_frame : BufferSeen → ℕ → FrameSeen → BufferSeen
with_frame b frame content = record b { frames = slice_set b.frames frame content }

-- the buffer with the page of a reserved frame resident, the newest in the order, and clean or dirty
abbrev pub filled : BufferSeen → ℕ → List ℕ → Bool → BufferSeen
filled b frame bytes clean =
    let key = key_of_frame b frame in
    record b {
      frames = slice_set b.frames frame (Resident key bytes);
      order = b.order ++ frame ∷ [];
      residents = b.residents ++ key ∷ [];
      clean = slice_set b.clean frame clean;
    }

-- the buffer with the page of a frame clean or dirty
abbrev pub marked : BufferSeen → ℕ → Bool → BufferSeen
marked b frame clean = record b { clean = slice_set b.clean frame clean }

-- the pages but one, in their order
abbrev pub without : Key → List Key → List Key
without key = filter (λ (other : Key). not (same other key))

-- the buffer with the page of a frame gone
abbrev pub released : BufferSeen → ℕ → BufferSeen
released b frame =
    record b {
      frames = slice_set b.frames frame Free;
      order = lists.without frame b.order;
      residents = without (key_of_frame b frame) b.residents;
    }

-- the buffer with the bytes of one page written over, all else as before
abbrev pub with_page : BufferSeen → ℕ → List ℕ → BufferSeen
with_page b frame bytes = with_frame b frame (with_bytes (frame_of b frame) bytes)

-- the frame is for a page of the region
abbrev pub is_of_region : BufferSeen → (region frame : ℕ) → Bool
is_of_region b region frame = (key_of_frame b frame).region == region

abbrev pub is_clean : BufferSeen → ℕ → Bool
is_clean b frame = slice_index_or b.clean frame false

abbrev pub is_page : Option Key → Key → Bool
is_page None key = false
is_page (Some other) key = same key other

-- the frame is for a clean page of the region, which isn't this one
abbrev pub is_clean_but : BufferSeen → ℕ → Option Key → ℕ → Bool
is_clean_but b region but frame = is_of_region b region frame && is_clean b frame && not (is_page but (key_of_frame b frame))

-- each frame in the order has a resident page, the resident pages are those of the frames, in the order, and each frame has a mark
pub record IsFillOrder (b : BufferSeen) : Type 0 where
  pub resident : All (λ frame. resident_key (frame_of b frame) ≡ Some (key_of_frame b frame)) b.order
  pub pages : b.residents ≡ map (key_of_frame b) b.order
  pub marks : length b.clean ≡ length b.frames

-- whether a stripe evicts_further, by its resident pages: from the upper mark on, not from the lower mark down, and in between as before
abbrev pub evicts_further : Bool → Marks → ℕ → Bool
evicts_further before marks residents = if nat_le marks.on residents then true else (if nat_le residents marks.off then false else before)
