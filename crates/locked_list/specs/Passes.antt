-- The passes of one owner.
use Rattle.std.specs.Prelude.{◌≡◌, ℕ, List, slice_get, slice_set}
use Rattle.std.specs.Option.{IfSome}
use Rattle.turn_lock.specs.Seen.{PassSeen, holding}

-- the items are as before but for this one at a place
abbrev pub IsSetAt : {A : Type 0} (old : List A) (place : ℕ) (item : A) (new : List A) → Type 0
IsSetAt old place item new = new ≡ slice_set old place item

-- the owner's pass at a place is in a hold, and is this one then
abbrev pub HoldsAt : {T E : Type 0} (passes : List (PassSeen T E)) (at : ℕ) (lent : PassSeen T E) → Type 0
HoldsAt passes at lent = IfSome (slice_get passes at) (λ p. lent ≡ holding p lent.seen)
