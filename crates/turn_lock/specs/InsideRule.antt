-- The rule that holds between any two atomic steps of a lock.
-- Word 0 is the next ticket, word 1 the ticket that is served. The slot is at home while nobody is in a hold.
-- There is one history, which exists here alone. Each view has seen a part of it that it goes on from, and one has seen
-- all of it. The queue and the numbers are kept as sums over all views, so that a step of one view changes one summand.
use Rattle.std.specs.Prelude.{◌≡◌, ◌≢◌, ℕ, ◌+◌, ◌*◌, ◌^◌, ◌<◌, ◌≤◌, Bool, true, false, ◌==◌, ◌&&◌, ltb, List, [], ◌∷◌, length, Option, Some}
use mathlib.Core.Option.{some}
use lib.ListN.{get_elem?}
use Rattle.atomic_table.specs.Table.{State}
use Rattle.histories.specs.Histories.{History, calls_of, GoesOn}
use Rattle.turn_lock.specs.declared.view.Terms.{Terms}
use Rattle.turn_lock.specs.declared.view.Ended.{Ended}
use Rattle.turn_lock.specs.declared.view.Turn.{Turn}
use Rattle.turn_lock.specs.declared.view.Turn.TheVariants.{Out, Waits, Inside}
use Rattle.turn_lock.specs.declared.view.View.{View}
use Rattle.turn_lock.specs.Views.{is_inside}

abbrev pub one_if : Bool → ℕ
one_if true = 1
one_if false = 0

-- f of each, added up
abbrev pub total : {A : Type 0} → (A → ℕ) → List A → ℕ
total f [] = 0
total f (x ∷ xs) = f x + total f xs

-- 1 where t is below n, and else 0
abbrev pub below : ℕ → ℕ → ℕ
below t n = one_if (ltb t n)

-- 1 where the pass has the ticket t, and else 0
abbrev pub has_ticket : ℕ → Turn → ℕ
has_ticket t Out = 0
has_ticket t (Waits n) = one_if (n == t)
has_ticket t (Inside n) = one_if (n == t)

module _ {E : Type 0} where
  abbrev pub ended_holds : List (Ended E) → ℕ
  ended_holds [] = 0
  ended_holds (e ∷ es) = e.holds + ended_holds es

  abbrev pub ended_times : ℕ → List (Ended E) → ℕ
  ended_times n [] = 0
  ended_times n (e ∷ es) = one_if (e.number == n) + ended_times n es

  -- each ended pass has its calls in the history, and made no more holds than it may
  abbrev pub EndedWell : History E → ℕ → List (Ended E) → Type 0
  EndedWell log most [] = Unit {0}
  EndedWell log most (e ∷ es) = (calls_of e.number log ≡ e.mine) × (e.holds ≤ most) × EndedWell log most es

module _ {E : Type 0} where
  -- each ended pass had seen a part of this
  abbrev pub HaveSeen : History E → List (Ended E) → Type 0
  HaveSeen seen [] = Unit {0}
  HaveSeen seen (e ∷ es) = GoesOn e.seen seen × HaveSeen seen es

module _ {T E : Type 0} where
  -- the holds that a pass and those folded into it made
  abbrev pub made : View T E → ℕ
  made v = v.holds + ended_holds v.ended

  -- how often a pass and those folded into it have the number n
  abbrev pub bears : ℕ → View T E → ℕ
  bears n v = one_if (v.live && (v.number == n)) + ended_times n v.ended

  -- how many passes a view speaks of
  abbrev pub seats : View T E → ℕ
  seats v = one_if v.live + length v.ended

  -- what the rule says of one view, where so many numbers were drawn and this ticket is served
  pub record Sits (log : History E) (terms : Terms T) (drawn serving : ℕ) (v : View T E) : Type 0 where
    pub start : GoesOn v.seen log
    pub mine : v.live ≡ true → calls_of v.number log ≡ v.mine
    pub own : v.live ≡ true → calls_of v.number v.seen ≡ v.mine
    pub told : v.live ≡ true → v.terms ≡ Some terms
    pub within : v.live ≡ true → v.holds ≤ terms.holds
    pub first : v.live ≡ true → v.number ≡ 0 → drawn + v.spare ≡ terms.seats
    pub others : v.live ≡ true → v.number ≢ 0 → (v.spare ≡ 0) × (v.ended ≡ [])
    pub spent : v.live ≡ false → (v.seen ≡ []) × (v.turn ≡ Out) × (v.holds ≡ 0)
    pub ended : EndedWell log terms.holds v.ended
    pub parts : HaveSeen v.seen v.ended
    pub grew : GoesOn v.before v.seen
    pub inside : (t : ℕ) → v.turn ≡ Inside t → (t ≡ serving) × (v.seen ≡ log)

module _ {T E F : Type 0} (stands : History E → T → Type 0) (fixed : T → F) where
  pub record Kept (terms : Terms T) (s : State (Option T) (View T E)) : Type 0 where
    pub log : History E
    pub drawn : ℕ
    pub tickets : ℕ
    pub serving : ℕ
    pub words : s.words ≡ tickets ∷ serving ∷ []
    -- the tickets from the one that is served to the last one drawn are each with one pass
    pub queue : (t : ℕ) → total (λ v. has_ticket t v.turn) s.views + below t serving ≡ below t tickets
    -- the numbers below `drawn` are each of one pass
    pub numbers : (n : ℕ) → total (bears n) s.views ≡ below n drawn
    pub seated : total seats s.views ≡ drawn
    pub some_spare : drawn ≤ terms.seats
    pub made_in_all : total made s.views ≡ tickets
    pub short : length log ≤ serving
    pub owners : (o : ℕ) → drawn ≤ o → calls_of o log ≡ []
    pub known : (j : ℕ) × (v : View T E) × (get_elem? s.views j ≡ some v) × (v.seen ≡ log)
    pub each : (j : ℕ) (v : View T E) → get_elem? s.views j ≡ some v → Sits log terms drawn serving v
    -- where nobody is in a hold, the value is at home and stands for the history
    pub home : ((j : ℕ) (v : View T E) → get_elem? s.views j ≡ some v → is_inside v.turn ≡ false)
        → (x : T) × (get_elem? s.homes 0 ≡ some (some (Some x))) × stands log x × (fixed x ≡ fixed terms.origin.value)
    pub small : terms.seats * terms.holds < 2 ^ 62
