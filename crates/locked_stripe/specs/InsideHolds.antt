-- What one hold did with a pass, and what those of a service and of making room did.
use Rattle.std.specs.Prelude.{ℕ, ◌+◌, ◌≡◌, false, List, [], ◌∷◌, ◌++◌, Some}
use Rattle.histories.specs.Histories.{History, by, Others}
use Rattle.page_base.specs.declared.keys.Key.{Key}
use Rattle.page_base.specs.declared.keys.Why.{Why}
use Rattle.page_model.specs.declared.entry.Cause.TheVariants.{Pressure}
use Rattle.page_model.specs.declared.entry.Entry.{Entry}
use Rattle.page_model.specs.declared.entry.Entry.TheVariants.{StartRead, Filled, StartWrite}
use Rattle.page_model.specs.declared.seen.Next.TheVariants as serve
use Rattle.page_model.specs.Faults.{last_why}
use Rattle.page_model.specs.Setups.{Setup}
use Rattle.turn_lock.specs.Seen.{PassSeen}
use Rattle.locked_stripe.specs.declared.answers.Served.{Served}
use Rattle.locked_stripe.specs.declared.answers.Back.{Back}
use Rattle.locked_stripe.specs.Answers.{served_entries, served_holds, served_next, back_entries, back_holds, back_leaving, Finds, FindsLeaving}

module _ {T E : Type 0} where
  -- one hold: it found the history h, and ended with these entries: one or none
  pub record OneHold (old new : PassSeen T E) (h : History E) (own : List E) : Type 0 where
    pub others : Others old.number old.seen h
    pub after : new ≡ record old { holds = old.holds + 1; seen = by old.number own ++ h; mine = own ++ old.mine; inside = false }

module _ {T : Type 0} where
  -- a hold made this entry
  abbrev pub Makes : (old new : PassSeen T Entry) → Entry → Type 0
  Makes old new e = (h : History Entry) × OneHold old new h (e ∷ [])

  -- the first hold of a service was all of it
  abbrev pub ServesAtOnce : Setup → (old new : PassSeen T Entry) → Served → Type 0
  ServesAtOnce u old new s =
      (served_holds s ≡ 1) × ((h : History Entry) × OneHold old new h (served_entries s) × Finds u h (served_next s))

  -- it began to read this page in, which was next
  abbrev pub BeginsRead : Setup → (old new : PassSeen T Entry) → Key → Type 0
  BeginsRead u old new k = (h : History Entry) × OneHold old new h (StartRead k ∷ []) × Finds u h (serve.Read k)

  -- a read ended well, of a page whose fault was raised so
  abbrev pub Fills : (old new : PassSeen T Entry) → Key → Why → Type 0
  Fills old new k why = (h : History Entry) × OneHold old new h (Filled k ∷ []) × (why ≡ last_why h k)

  -- the first hold of making room was all of it
  abbrev pub RoomAtOnce : Setup → (old new : PassSeen T Entry) → Back → Type 0
  RoomAtOnce u old new b =
      (back_holds b ≡ 1) × ((h : History Entry) × OneHold old new h (back_entries 0 [] b) × FindsLeaving u h (back_leaving b))

  -- it began to write this page back, which had to leave
  abbrev pub BeginsWrite : Setup → (old new : PassSeen T Entry) → Key → Type 0
  BeginsWrite u old new k = (h : History Entry) × OneHold old new h (StartWrite k Pressure ∷ []) × FindsLeaving u h (Some k)
