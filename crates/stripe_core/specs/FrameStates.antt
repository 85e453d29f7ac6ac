-- What a frame shows.
use Rattle.std.specs.Prelude.{ℕ, Bool, if◌then◌else◌, slice_get, Option, Some, None, option_map}
use Rattle.page_model.specs.declared.seen.Pick.{Pick}
use Rattle.page_model.specs.Core.{Core, pick_of, is_home}
use Rattle.stripe_core.specs.declared.answers.FrameState.{FrameState}
use Rattle.stripe_core.specs.declared.answers.FrameState.TheVariants as frame

abbrev pub state_of : Pick → Bool → FrameState
state_of p home = if p.dirty then (if home then frame.Dirty p.key else frame.Away p.key) else frame.Clean p.key

abbrev pub state_shown : Core → Option Pick → FrameState
state_shown c None = frame.Empty
state_shown c (Some p) = state_of p (is_home c p.key.region)

-- what the i-th frame shows: frames go by the order in which their pages were filled, and those past the last page are empty
abbrev pub frame_state : Core → ℕ → FrameState
frame_state c i = state_shown c (option_map pick_of (slice_get c.pages i))
