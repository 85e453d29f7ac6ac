-- Which fault is served next, and what a hint is answered.
use Rattle.std.specs.Prelude.{Bool, not, ◌&&◌, ◌||◌, nat_lt, nat_le, if◌then◌else◌, length, find, Option, Some, None}
use Rattle.std.specs.List.{list_any}
use Rattle.histories.specs.Histories.{History}
use Rattle.page_base.specs.declared.keys.Key.{Key}
use Rattle.page_base.specs.declared.keys.Raise.{Raise}
use Rattle.page_model.specs.declared.entry.Entry.{Entry}
use Rattle.page_model.specs.declared.entry.HintAnswer.{HintAnswer}
use Rattle.page_model.specs.declared.entry.HintAnswer.TheVariants as answer
use Rattle.page_model.specs.declared.seen.Next.{Next}
use Rattle.page_model.specs.declared.seen.Next.TheVariants as serve
use Rattle.page_model.specs.Setups.{Setup}
use Rattle.page_model.specs.InFlight.{is_home, is_reading}
use Rattle.page_model.specs.Residents.{is_resident, free_frames}
use Rattle.page_model.specs.Faults.{is_protected_why, pending, is_pending}
use Rattle.page_model.specs.Bits.{is_protected}
use Rattle.page_model.specs.Closings.{is_closing}

-- a fault that nobody waits for any more: its region is closing, or the protected page has left
abbrev pub is_stale : History Entry → Raise → Bool
is_stale h p = is_closing h p.key.region || is_protected_why p.why && not (is_resident h p.key)

-- a fault that can be served now: its page is protected and to be opened, or is to be read into a free frame by a lane that is home
abbrev pub is_servable : Setup → History Entry → Raise → Bool
is_servable s h p =
    if is_protected_why p.why
    then is_resident h p.key && is_protected h p.key
    else nat_lt 0 (free_frames s h) && is_home h p.key.region

-- a read that waits, with its lane home
abbrev pub waits_for_room : History Entry → Raise → Bool
waits_for_room h p = not (is_protected_why p.why) && is_home h p.key.region

-- what is done, by the first stale fault, the first servable one, and whether a read waits for room
abbrev pub chosen : Option Raise → Option Raise → Bool → Next
chosen (Some p) servable waiting = serve.Drop p.key
chosen None (Some p) waiting = if is_protected_why p.why then serve.Open p.key else serve.Read p.key
chosen None None waiting = if waiting then serve.Room else serve.Nothing

-- the first stale fault is dropped; else the first servable one is served; else a read may wait for room
abbrev pub next_of : Setup → History Entry → Next
next_of s h =
    chosen (find (is_stale h) (pending h)) (find (is_servable s h) (pending h))
    (list_any (waits_for_room h) (pending h))

-- the first answer that applies
abbrev pub first_answer : (closing present pending full : Bool) → HintAnswer
first_answer closing present pending full =
    if closing then answer.Closed else
    (if present then answer.Present else
    (if pending then answer.Pending else
    (if full then answer.Full else answer.Raised)))

abbrev pub hint_answer : Setup → History Entry → Key → HintAnswer
hint_answer s h k =
    first_answer (is_closing h k.region) (is_resident h k) (is_pending h k || is_reading h k)
    (nat_le s.faults (length (pending h)))
