-- Which frame's page may leave, by the parts of a stripe.
use Rattle.std.specs.Prelude.{ℕ, ◌&&◌, ◌||◌, Bool, false, not, List, slice_get, Option, Some, None, nat_lt}
use Rattle.page_base.specs.Lanes.{LaneSeen}
use Rattle.page_buffer.specs.Buffers.{BufferSeen, key_of_frame, is_clean, is_of_region}
use Rattle.page_model.specs.Core.{LanePlace, writes, is_home_place}
use Rattle.stripe_core.specs.declared.region.Region.{Region}
use Rattle.stripe_core.specs.Parts.{place_of}

-- with its region's lane at this place: the page isn't being written, and is clean or has its lane home
abbrev pub goes : BufferSeen → LanePlace → ℕ → Bool
goes b place frame = not (writes place (key_of_frame b frame)) && (is_clean b frame || is_home_place place)

-- the same, of the pages of one region
abbrev pub goes_of : BufferSeen → LanePlace → (region frame : ℕ) → Bool
goes_of b place region frame = is_of_region b region frame && goes b place frame

abbrev pub goes_from : {S : Type 0} → (S → LaneSeen) → BufferSeen → Option (Region S) → ℕ → Bool
goes_from seen b None frame = false
goes_from seen b (Some g) frame = goes b (place_of seen g.lane) frame

-- the page of the frame may leave
abbrev pub may_go : {S : Type 0} → (S → LaneSeen) → BufferSeen → List (Region S) → ℕ → Bool
may_go seen b gs frame = goes_from seen b (slice_get gs (key_of_frame b frame).region) frame

-- the same, of the regions below a bound
abbrev pub may_go_below : {S : Type 0} → (S → LaneSeen) → BufferSeen → List (Region S) → ℕ → ℕ → Bool
may_go_below seen b gs bound frame = nat_lt (key_of_frame b frame).region bound && may_go seen b gs frame
