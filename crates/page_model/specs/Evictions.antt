-- Memory pressure, which page leaves, and which a flush writes next. The marks are shares of the frames that the stripe has.
use Rattle.std.specs.Prelude.{◌+◌, Bool, false, not, ◌&&◌, ◌||◌, nat_lt, nat_le, ◌==◌, [], ◌∷◌, length, find, filter, Option}
use Rattle.histories.specs.Histories.{History}
use Rattle.page_base.specs.declared.keys.Key.{Key}
use Rattle.page_base.specs.KeyOrder.{is_past, least}
use Rattle.page_base.specs.Pages.{on_mark, off_mark}
use Rattle.page_model.specs.declared.entry.Entry.{Entry}
use Rattle.page_model.specs.declared.entry.Entry.TheVariants.{Filled, Evicted}
use Rattle.page_model.specs.Setups.{Setup}
use Rattle.page_model.specs.InFlight.{is_home, is_writing}
use Rattle.page_model.specs.Residents.{residents, without, frames_held, free_frames}
use Rattle.page_model.specs.Bits.{is_dirty}

-- a fill left as many pages resident as the high mark or more, and no later eviction as few as the low mark or fewer
abbrev pub is_evicting : Setup → History Entry → Bool
is_evicting s [] = false
is_evicting s ((o, Filled k) ∷ h) = nat_le (on_mark (frames_held s h) s.high) (length (residents h) + 1) || is_evicting s h
is_evicting s ((o, Evicted k why) ∷ h) = nat_lt (off_mark (frames_held s h) s.low) (length (without k (residents h))) && is_evicting s h
is_evicting s (e ∷ h) = is_evicting s h

abbrev pub has_pressure : Setup → History Entry → Bool
has_pressure s h = is_evicting s h || free_frames s h == 0

-- the page may leave, or may be written so that it can leave
abbrev pub can_leave : History Entry → Key → Bool
can_leave h k = not (is_writing h k) && (not (is_dirty h k) || is_home h k.region)

-- the oldest resident page that isn't being written, and is clean or has its lane home
abbrev pub pick : History Entry → Option Key
pick h = find (can_leave h) (residents h)

-- the least dirty page past a key, of all where none is given: the next that a flush writes
abbrev pub next_dirty : History Entry → Option Key → Option Key
next_dirty h after = least (filter (λ (k : Key). is_dirty h k && is_past after k) (residents h))
