-- What each kind of step tells the pass that makes it: of the step, the seat before, the number found and the seat after.
use Rattle.std.specs.Prelude.{◌≡◌, ◌≢◌, ℕ, ◌+◌, ◌*◌, ◌^◌, ◌<◌, ◌≤◌, List, [], ◌∷◌, length, Option, Some, None}
use Rattle.atomic_table.specs.Seated.{TableId}
use Rattle.atomic_table.specs.Table.{Me, Step, rest}
use Rattle.histories.specs.Histories.{History, calls_of, GoesOn}
use Rattle.turn_lock.specs.declared.view.Terms.{Terms}
use Rattle.turn_lock.specs.declared.view.View.{View}
use Rattle.turn_lock.specs.Seen.{HaveTheirCalls, HaveTheirParts, MadeAtMost, AreNumbered, OwnersAreKnown}
use Rattle.turn_lock.specs.InsideViews.{ticket_of, seats_of, waiting, entered, given_view}

-- the seat is at this table, which has two words and one slot
abbrev pub SitsAt : (seat table : TableId) → Type 0
SitsAt seat table = (seat ≡ table) × (table.words ≡ 2) × (table.slots ≡ 1)

module _ {T E : Type 0} where
  -- the number found is its ticket
  abbrev pub drew : Step (Option T) → Me (Option T) (View T E) → ℕ → Me (Option T) (View T E) → Type 0
  drew st m r n = n ≡ (waiting m.0 r, m.1)

  -- the entries stand, and the slot is at home again
  abbrev pub gave : List E → Step (Option T) → Me (Option T) (View T E) → ℕ → Me (Option T) (View T E) → Type 0
  gave es st m r n = n ≡ (given_view m.0 es, rest m.1)

  -- what the rule says of a live view
  pub record Known (v : View T E) : Type 0 where
    pub own : calls_of v.number v.seen ≡ v.mine
    pub parts : HaveTheirParts v.seen v.ended
    pub grew : GoesOn v.before v.seen
    pub room : v.number ≡ 0 → length v.ended + v.spare + 1 ≤ seats_of v.terms

  abbrev pub learned : Step (Option T) → Me (Option T) (View T E) → ℕ → Me (Option T) (View T E) → Type 0
  learned st m r n = (n ≡ m) × Known m.0

module _ {T E F : Type 0} (stands : History E → T → Type 0) (fixed : T → F) where
  -- what a pass of the view v finds at its turn: the history so far, and the value
  pub record Found (v : View T E) (log : History E) (x : T) : Type 0 where
    pub start : GoesOn v.seen log
    pub mine : calls_of v.number log ≡ v.mine
    pub value : stands log x
    pub same : (k : Terms T) → v.terms ≡ Some k → (fixed x ≡ fixed k.origin.value) × (length log < k.seats * k.holds) × (k.seats * k.holds < 2 ^ 62)

  -- where its own ticket is served it has the value in the slot that it took, and else nothing changed
  abbrev pub looked : Step (Option T) → Me (Option T) (View T E) → ℕ → Me (Option T) (View T E) → Type 0
  looked st m r n =
      (r ≡ ticket_of m.0.turn → (log : History E) × (x : T) × (n ≡ (entered m.0 log, (0, Some x) ∷ m.1)) × Found m.0 log x)
      × (r ≢ ticket_of m.0.turn → n ≡ m)

  -- the pass of the view v is in a hold, and has the value x out of the slot
  abbrev pub Enters : View T E → T → Me (Option T) (View T E) → Type 0
  Enters v x m = (log : History E) × (m ≡ (entered v log, (0, None) ∷ [])) × Found v log x

  -- what a first pass of the view v that is alone knows of the value at the end
  pub record Closes (terms : Terms T) (v : View T E) (x : T) : Type 0 where
    pub value : stands v.seen x
    pub same : fixed x ≡ fixed terms.origin.value
    pub mine : calls_of 0 v.seen ≡ v.mine
    pub calls : HaveTheirCalls v.seen v.ended
    pub parts : HaveTheirParts v.seen v.ended
    pub holds : MadeAtMost terms.holds v.ended
    pub numbers : AreNumbered v.ended
    pub owners : OwnersAreKnown v.seen v.ended
    pub few : length v.seen ≤ terms.seats * terms.holds
