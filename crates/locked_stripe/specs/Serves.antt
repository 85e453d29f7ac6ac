-- What a service and making room did in their stripe.
use Rattle.std.specs.Prelude.{ℕ, ◌≡◌, List}
use Rattle.histories.specs.Histories.{History, GoesOn, Others}
use Rattle.page_model.specs.declared.entry.Entry.{Entry}
use Rattle.page_model.specs.Setups.{Setup}
use Rattle.turn_lock.specs.Seen.{PassSeen}
use Rattle.locked_stripe.specs.declared.answers.Served.{Served}
use Rattle.locked_stripe.specs.declared.answers.Back.{Back}
use Rattle.locked_stripe.specs.Answers.{served_next, served_holds, served_entries, FilledFor, back_leaving, back_holds, back_entries, Finds, FindsLeaving}
use Rattle.locked_stripe.specs.Holds.{PassGrew}

module _ {T : Type 0} where
  -- its first hold found the history `first`, and what was next there is what the answer says
  pub record ServesOne (u : Setup) (old new : PassSeen T Entry) (s : Served) : Type 0 where
    pub first : History Entry
    pub others : Others old.number old.seen first
    pub next : Finds u first (served_next s)
    pub onward : GoesOn first new.seen
    pub grew : PassGrew old new (served_holds s) (served_entries s)
    pub why : FilledFor new.seen s

  -- its first hold found the history `first`, and the page that had to leave there is the answer's
  pub record MakesRoom (u : Setup) (old new : PassSeen T Entry) (b : Back) : Type 0 where
    pub first : History Entry
    pub others : Others old.number old.seen first
    pub leaves : FindsLeaving u first (back_leaving b)
    pub onward : GoesOn first new.seen
    pub at : ℕ
    pub bytes : List ℕ
    pub grew : PassGrew old new (back_holds b) (back_entries at bytes b)
