-- The lanes of all stripes, one after another: which there are, and whether one of them failed.
use Rattle.std.proofs.Common.{◌≡◌, ◌⊎◌, inl, inr, ℕ, zero, suc, ◌<◌, ◌≤◌, Bool, true, false, ◌||◌, List, [], ◌∷◌, ◌++◌, length, get_or, refl, sym, ap, subst, ◌∙◌, arith}
use Rattle.std.specs.Prelude.{nat_lt}
use Rattle.std.specs.List.{Contains}
use Rattle.std.proofs.lemmas.Bool.{cases_lt, lt-ltb}
use Rattle.page_base.specs.Lanes.{LaneSeen}
use Rattle.script_run.specs.Contents.{no_lane}
use Rattle.script_run.specs.FitsSerial.{lane_at}
use Rattle.region_lanes.specs.Closings.{rows_flat, any_fault}

-- a lane that is one of them has a stripe and a region
pub record IsLaneAt (rows : List (List LaneSeen)) (l : LaneSeen) : Type 0 where
  pub s : ℕ
  pub r : ℕ
  pub stripe : s < length rows
  pub region : r < length (get_or rows s [])
  pub is : lane_at rows s r ≡ l

in_either : (xs ys : List LaneSeen) (l : LaneSeen) → Contains (xs ++ ys) l → Contains xs l ⊎ Contains ys l
in_either [] ys l has = inr has
in_either (x ∷ xs) ys l (zero, h, is) = inl (0, omega arith, is)
in_either (x ∷ xs) ys l (suc k, h, is) = elim (in_either xs ys l (k, omega (arith, h), is)) [
  | inl left ↦ inl (suc left.0, omega (arith, left.1), left.2)
  | inr right ↦ inr right
]

-- what a list contains by one default, it has by another
read_either : (xs : List LaneSeen) (k : ℕ) (c d : LaneSeen) → k < length xs → get_or xs k c ≡ get_or xs k d
read_either [] k c d h = absurd (omega (arith, h))
read_either (x ∷ xs) zero c d h = refl
read_either (x ∷ xs) (suc k) c d h = read_either xs k c d (omega (arith, h))

pub lane_of_all : (rows : List (List LaneSeen)) (l : LaneSeen) → Contains (rows_flat rows) l → IsLaneAt rows l
lane_of_all [] l has = absurd (omega (arith, has.1))
lane_of_all (row ∷ rows) l has = elim (in_either row (rows_flat rows) l has) [
  | inl here ↦ record { s = 0; r = here.0; stripe = omega arith; region = here.1; is = read_either row here.0 no_lane l here.1 ∙ here.2 }
  | inr there ↦
      let at = lane_of_all rows l there in
      record { s = suc at.s; r = at.r; stripe = omega (arith, at.stripe); region = at.region; is = at.is }
]

-- ---- faults

or_true : (a b : Bool) → b ≡ true → a || b ≡ true
or_true true b e = refl
or_true false b e = e

or_front : (b x y : Bool) → (x ≡ true → y ≡ true) → b || x ≡ true → b || y ≡ true
or_front true x y more e = refl
or_front false x y more e = more e

fault_front : (xs ys : List LaneSeen) → any_fault xs ≡ true → any_fault (xs ++ ys) ≡ true
fault_front [] ys e = absurd (cc)
fault_front (x ∷ xs) ys e = or_front (nat_lt 0 x.count) (any_fault xs) (any_fault (xs ++ ys)) (fault_front xs ys) e

fault_behind : (xs ys : List LaneSeen) → any_fault ys ≡ true → any_fault (xs ++ ys) ≡ true
fault_behind [] ys e = e
fault_behind (x ∷ xs) ys e = or_true (nat_lt 0 x.count) (any_fault (xs ++ ys)) (fault_behind xs ys e)

fault_in : (row : List LaneSeen) (r : ℕ) → 0 < (get_or row r no_lane).count → any_fault row ≡ true
fault_in [] r some = absurd (omega (arith, some))
fault_in (l ∷ ls) zero some = ap (λ b. b || any_fault ls) (lt-ltb 0 l.count some)
fault_in (l ∷ ls) (suc r) some = or_true (nat_lt 0 l.count) (any_fault ls) (fault_in ls r some)

-- a lane with a fault is one of them
pub fault_at : (rows : List (List LaneSeen)) (s r : ℕ) → 0 < (lane_at rows s r).count → any_fault (rows_flat rows) ≡ true
fault_at [] s r some = absurd (omega (arith, some))
fault_at (row ∷ rows) zero r some = fault_front row (rows_flat rows) (fault_in row r some)
fault_at (row ∷ rows) (suc s) r some = fault_behind row (rows_flat rows) (fault_at rows s r some)
