-- Which entries an answer tells of, in how many holds, and what was next.
use Rattle.std.specs.Prelude.{ℕ, ⊤, Bool, true, false, ◌&&◌, ◌⊎◌, if◌then◌else◌, List, [], ◌∷◌, ◌≡◌, Option, Some, None}
use Rattle.histories.specs.Histories.{History}
use Rattle.page_base.specs.Pages.{same}
use Rattle.page_base.specs.declared.keys.Key.{Key}
use Rattle.page_model.specs.declared.entry.Entry.{Entry}
use Rattle.page_model.specs.declared.entry.Entry.TheVariants as entry
use Rattle.page_model.specs.declared.entry.Cause.TheVariants.{Pressure}
use Rattle.page_model.specs.declared.seen.Next.{Next}
use Rattle.page_model.specs.declared.seen.Next.TheVariants as serve
use Rattle.page_model.specs.Faults.{last_why}
use Rattle.page_model.specs.Legal.{IsLegal}
use Rattle.page_model.specs.Serving.{next_of}
use Rattle.page_model.specs.Setups.{Setup, Fits}
use Rattle.page_model.specs.Evictions.{has_pressure, pick}
use Rattle.locked_stripe.specs.declared.answers.Served.{Served}
use Rattle.locked_stripe.specs.declared.answers.Served.TheVariants as served
use Rattle.locked_stripe.specs.declared.answers.Back.{Back}
use Rattle.locked_stripe.specs.declared.answers.Back.TheVariants as back

abbrev pub served_entries : Served → List Entry
served_entries served.Nothing = []
served_entries served.Room = []
served_entries (served.Dropped k) = entry.Dropped k ∷ []
served_entries (served.Opened k) = entry.Opened k ∷ []
served_entries (served.Filled k why) = entry.Filled k ∷ entry.StartRead k ∷ []
served_entries (served.ReadFailed k n) = entry.ReadFailed k n ∷ entry.StartRead k ∷ []

abbrev pub served_holds : Served → ℕ
served_holds served.Nothing = 1
served_holds served.Room = 1
served_holds (served.Dropped k) = 1
served_holds (served.Opened k) = 1
served_holds (served.Filled k why) = 2
served_holds (served.ReadFailed k n) = 2

abbrev pub served_next : Served → Next
served_next served.Nothing = serve.Nothing
served_next served.Room = serve.Room
served_next (served.Dropped k) = serve.Drop k
served_next (served.Opened k) = serve.Open k
served_next (served.Filled k why) = serve.Read k
served_next (served.ReadFailed k n) = serve.Read k

abbrev pub back_entries : (at : ℕ) → List ℕ → Back → List Entry
back_entries at bytes back.Nothing = []
back_entries at bytes (back.Evicted k) = entry.Evicted k Pressure ∷ []
back_entries at bytes (back.Written k) = entry.Written k at bytes ∷ entry.StartWrite k Pressure ∷ []
back_entries at bytes (back.WriteFailed k n) = entry.WriteFailed k n ∷ entry.StartWrite k Pressure ∷ []

abbrev pub back_holds : Back → ℕ
back_holds back.Nothing = 1
back_holds (back.Evicted k) = 1
back_holds (back.Written k) = 2
back_holds (back.WriteFailed k n) = 2

-- the page that may leave for room, where one has to
abbrev pub leaving : Bool → Option Key → Option Key
leaving false k = None
leaving true k = k

abbrev pub back_leaving : Back → Option Key
back_leaving back.Nothing = None
back_leaving (back.Evicted k) = Some k
back_leaving (back.Written k) = Some k
back_leaving (back.WriteFailed k n) = Some k

-- under pressure the pick
abbrev pub leaving_of : Setup → History Entry → Option Key
leaving_of s h = leaving (has_pressure s h) (pick h)

-- the fault of the page that was read in was raised so
abbrev pub FilledFor : History Entry → Served → Type 0
FilledFor h (served.Filled k why) = why ≡ last_why h k
FilledFor h s = ⊤

-- a hold found this history, in which this was next
pub record Finds (u : Setup) (h : History Entry) (n : Next) : Type 0 where
  pub fits : Fits u
  pub legal : IsLegal u h
  pub next : next_of u h ≡ n

-- a hold found this history, in which this page had to leave, or none
pub record FindsLeaving (u : Setup) (h : History Entry) (k : Option Key) : Type 0 where
  pub leaves : leaving_of u h ≡ k
