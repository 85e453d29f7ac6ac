-- How the fields of a buffer are seen, and what holds of them between calls. No contract cites this.
use Rattle.std.specs.Prelude.{ℕ, ◌≡◌, ◌≢◌, ◌==◌, ◌<◌, ◌≤◌, cond, List, length, map, count_by, slice_index_or, All}
use Rattle.std.specs.List.{AllPairs}
use Rattle.page_base.specs.declared.keys.Key.{Key}
use Rattle.frame_arena.specs.Frames.{ArenaSeen, home}
use Rattle.index_lists.specs.Orders.{OrderSeen, group_of}
use Rattle.page_buffer.specs.declared.frame.Use.{Use}
use Rattle.page_buffer.specs.declared.frame.Use.TheVariants as in_use
use Rattle.page_buffer.specs.declared.frame.Frame.{Frame}
use Rattle.page_buffer.specs.Frames.{FrameSeen, Free, Reserved, Resident, page_of, is_free, is_resident, is_for}

abbrev pub seen_as : Use → List ℕ → FrameSeen
seen_as in_use.Free bytes = Free
seen_as (in_use.Reserved key) bytes = Reserved key
seen_as (in_use.Resident key) bytes = Resident key bytes

abbrev pub frame_seen : Frame → FrameSeen
frame_seen f = seen_as f.used f.page.bytes

abbrev pub frames_seen : List Frame → List FrameSeen
frames_seen frames = map frame_seen frames

-- the page that a frame is for, by its number
abbrev pub key_in : List FrameSeen → ℕ → Key
key_in frames frame = page_of (slice_index_or frames frame Free)

-- the order is kept by the numbers of the frames
abbrev pub residents_seen : List FrameSeen → List ℕ → List Key
residents_seen frames order = map (key_in frames) order

-- all frames of the arena are out, and here
pub record HasAll (arena : ArenaSeen) (frames : List Frame) : Type 0 where
  pub out : home arena ≡ 0
  pub many : length frames ≡ arena.frames
  pub mine : All (λ (f : Frame). f.page.arena ≡ arena.arena) frames

-- a page has one frame at the most, and the order has each frame with a resident page once, and no other
pub record IsOrdered (frames : List FrameSeen) (order : List ℕ) : Type 0 where
  pub once : (key : Key) → count_by (is_for key) frames ≤ 1
  pub placed : (frame : ℕ) → count_by (λ other. other == frame) order ≡ cond (is_resident (slice_index_or frames frame Free)) 1 0
  pub residents : length order ≡ count_by is_resident frames

-- the order is over the numbers of the frames, and a frame's group is the region of its page
pub record IsLinked (frames : List FrameSeen) (o : OrderSeen) : Type 0 where
  pub numbers : o.numbers ≡ length frames
  pub region : (frame : ℕ) → 1 ≤ count_by (λ other. other == frame) o.order → group_of o frame ≡ (key_in frames frame).region

-- the free list has each free frame once
pub record IsListed (frames : List FrameSeen) (free : List ℕ) : Type 0 where
  pub frees : length free ≡ count_by is_free frames
  pub within : (i d : ℕ) → i < length free → slice_index_or free i d < length frames
  pub are_free : (i d : ℕ) → i < length free → slice_index_or frames (slice_index_or free i d) Free ≡ Free
  pub apart : AllPairs (λ (f g : ℕ). f ≢ g) free

pub record IsSound (arena : ArenaSeen) (frames : List Frame) (o : OrderSeen) (free : List ℕ) (resident : ℕ) : Type 0 where
  pub few : length frames < 4294967296
  pub rooms : HasAll arena frames
  pub linked : IsLinked (frames_seen frames) o
  pub pages : IsOrdered (frames_seen frames) o.order
  pub counted : resident ≡ length o.order
  pub list : IsListed (frames_seen frames) free
