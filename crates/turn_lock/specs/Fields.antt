-- How the fields of a lock and of a pass are seen.
use Rattle.std.specs.Prelude.{ℕ}
use Rattle.atomic_table.specs.Seated.{TableId}
use Rattle.turn_lock.specs.declared.view.Terms.{Terms}
use Rattle.turn_lock.specs.declared.view.View.{View}
use Rattle.turn_lock.specs.Seen.{LockSeen, PassSeen}
use Rattle.turn_lock.specs.Views.{is_inside}

module _ {T : Type 0} where
  abbrev pub lock_seen : TableId → Terms T → LockSeen T
  lock_seen table terms = record { table = table; origin = terms.origin.value; seats = terms.seats; holds = terms.holds }

module _ {T E : Type 0} where
  abbrev pub pass_seen : TableId → Terms T → ℕ → View T E → PassSeen T E
  pass_seen table terms out v = record {
    lock = lock_seen table terms;
    number = v.number;
    spare = v.spare;
    out = out;
    holds = v.holds;
    seen = v.seen;
    mine = v.mine;
    ended = v.ended;
    inside = is_inside v.turn;
  }
