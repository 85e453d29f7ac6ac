-- What ties the fields of a pass to its view and its seat.
use Rattle.std.specs.Prelude.{◌≡◌, ℕ, ◌+◌, ◌≤◌, Bool, true, false, List, [], ◌∷◌, length, Option, Some, None}
use Rattle.atomic_table.specs.Table.{Me}
use Rattle.histories.specs.Histories.{calls_of}
use Rattle.turn_lock.specs.declared.view.Terms.{Terms}
use Rattle.turn_lock.specs.declared.view.Turn.{Turn}
use Rattle.turn_lock.specs.declared.view.Turn.TheVariants.{Out, Waits, Inside}
use Rattle.turn_lock.specs.declared.view.View.{View}

abbrev pub waits_for_turn : Turn → Bool
waits_for_turn Out = false
waits_for_turn (Waits n) = true
waits_for_turn (Inside n) = false

module _ {T : Type 0} where
  -- in a hold the value is out of the slot, which the pass's seat has
  abbrev pub slots_of : Turn → List (ℕ × Option T)
  slots_of Out = []
  slots_of (Waits n) = []
  slots_of (Inside n) = (0, None) ∷ []

module _ {T E : Type 0} where
  -- the pass's fields are those of its view, which is live and doesn't wait
  pub record IsSound (me : Me (Option T) (View T E)) (terms : Terms T) (number spare out left : ℕ) : Type 0 where
    pub live : me.0.live ≡ true
    pub told : me.0.terms ≡ Some terms
    pub number_is : me.0.number ≡ number
    pub spare_is : me.0.spare ≡ spare
    pub left_is : left + me.0.holds ≡ terms.holds
    pub out_is : number ≡ 0 → out + length me.0.ended + spare + 1 ≡ terms.seats
    pub fits : out + length me.0.ended + spare + 1 ≤ terms.seats
    pub settled : waits_for_turn me.0.turn ≡ false
    pub slots : me.1 ≡ slots_of me.0.turn
    pub own : calls_of me.0.number me.0.seen ≡ me.0.mine
