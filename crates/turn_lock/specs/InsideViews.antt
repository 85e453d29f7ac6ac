-- What each step of the lock makes of a pass's view.
use Rattle.std.specs.Prelude.{ℕ, ◌+◌, ◌-◌, true, false, List, [], ◌∷◌, ◌++◌, Option, Some, None}
use Rattle.histories.specs.Histories.{History, by}
use Rattle.turn_lock.specs.declared.view.Terms.{Terms}
use Rattle.turn_lock.specs.declared.view.Ended.{Ended}
use Rattle.turn_lock.specs.declared.view.Turn.{Turn}
use Rattle.turn_lock.specs.declared.view.Turn.TheVariants.{Out, Waits, Inside}
use Rattle.turn_lock.specs.declared.view.View.{View}
use Rattle.turn_lock.specs.Seen.{longer}

-- the ticket that was drawn, where one was
abbrev pub ticket_of : Turn → ℕ
ticket_of Out = 0
ticket_of (Waits n) = n
ticket_of (Inside n) = n

abbrev pub seats_of : {T : Type 0} → Option (Terms T) → ℕ
seats_of (Some k) = k.seats
seats_of None = 0

module _ {T E : Type 0} where
  abbrev pub opened : Terms T → View T E
  opened k = record { live = true; terms = Some k; number = 0; spare = k.seats - 1; holds = 0; seen = []; before = []; mine = []; ended = []; turn = Out }

  abbrev pub spent_view : View T E
  spent_view = record { live = false; terms = None; number = 0; spare = 0; holds = 0; seen = []; before = []; mine = []; ended = []; turn = Out }

  abbrev pub waiting : View T E → ℕ → View T E
  waiting v t = record v { turn = Waits t; holds = v.holds + 1 }

  abbrev pub entered : View T E → History E → View T E
  entered v log = record v { turn = Inside (ticket_of v.turn); seen = log }

  abbrev pub given_view : View T E → List E → View T E
  given_view v es = record v { turn = Out; seen = by v.number es ++ v.seen; mine = es ++ v.mine }

  -- the number that comes next: those below it are drawn
  abbrev pub next_number : View T E → ℕ
  next_number v = seats_of v.terms - v.spare

  abbrev pub less_spare : View T E → View T E
  less_spare v = record v { spare = v.spare - 1 }

  abbrev pub new_view : View T E → View T E
  new_view v = record { live = true; terms = v.terms; number = next_number v; spare = 0; holds = 0; seen = v.seen; before = v.seen; mine = []; ended = []; turn = Out }

  abbrev pub end_of : View T E → Ended E
  end_of w = record { number = w.number; mine = w.mine; holds = w.holds; seen = w.seen }

  abbrev pub folded_view : View T E → View T E → View T E
  folded_view v w = record v { seen = longer v.seen w.seen; before = v.seen; ended = v.ended ++ end_of w ∷ [] }
