-- What a call did with a pass, in however many holds.
use Rattle.std.specs.Prelude.{ℕ, ◌+◌, ◌≡◌, false, List, ◌++◌}
use Rattle.histories.specs.Histories.{Grew}
use Rattle.turn_lock.specs.Seen.{PassSeen}

module _ {T E : Type 0} where
  -- a call: it saw more, and made these entries in so many holds
  pub record PassGrew (old new : PassSeen T E) (times : ℕ) (own : List E) : Type 0 where
    pub seen : Grew old.number old.seen new.seen own
    pub after : new ≡ record old { holds = old.holds + times; seen = new.seen; mine = own ++ old.mine; inside = false }
