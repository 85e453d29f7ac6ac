-- The parts that are out behind closed lanes.
use Rattle.std.proofs.Common.{◌≡◌, ◌≢◌, ◌⊎◌, inl, inr, ℕ, zero, suc, ◌+◌, ◌<◌, ◌≤◌, Bool, true, false, not, cond, List, [], ◌∷◌, length, slice_index_or, refl, sym, ap, subst, ◌∙◌, arith, rules}
use Rattle.std.specs.List.{Contains, filter, AllByRecursion}
use Rattle.std.proofs.lemmas.Bool.{cases_Bool, both_ways}
use Rattle.page_base.specs.Backings.{Backing, in_memory, in_file, in_files}
use Rattle.page_base.specs.Lanes.{LaneSeen}
use Rattle.file_store.specs.Parts.{PartName, PartSeen}
use Rattle.file_store.specs.Shelves.{Shelf, same_part, without}
use Rattle.file_store.specs.FileLanes.{part_of, backing_path, IsInFile}
use Rattle.region_lanes.specs.Closings.{IsOut, IsOutIn, out_behind, out_without, AllOut, EachIsClosed, AreDistinct, ClosesIn, ClosesLane, ClosesAll}

in_front : {X : Type 0} (x y : X) (xs : List X) → Contains xs x → Contains (y ∷ xs) x
in_front x y xs has = (suc has.0, omega (arith, has.1), has.2)

first_in : {X : Type 0} (x : X) (xs : List X) → Contains (x ∷ xs) x
first_in x xs = (0, omega arith, refl)

at_front : {X : Type 0} (p : X → Bool) (y : X) (ys : List X) (x : X) → Contains (y ∷ filter p ys) x → p y ≡ true → (Contains (filter p ys) x → Contains ys x × (p x ≡ true)) → Contains (y ∷ ys) x × (p x ≡ true)
at_front p y ys x (zero, h, is) hit rest = (subst (λ (z : _). Contains (y ∷ ys) z) is (first_in y ys), subst (λ (z : _). p z ≡ true) is hit)
at_front p y ys x (suc k, h, is) hit rest = let was = rest (k, omega arith, is) in (in_front x y ys was.0, was.1)

-- what a filter keeps was there and passes
kept_was : {X : Type 0} (p : X → Bool) (xs : List X) (x : X) → Contains (filter p xs) x → Contains xs x × (p x ≡ true)
kept_was p [] x has = absurd (omega (arith, has.1))
kept_was p (y ∷ ys) x has = elim (cases_Bool (p y)) [
  | inr miss ↦
      let rest = kept_was p ys x (subst (λ (b : Bool). Contains (cond b (y ∷ filter p ys) (filter p ys)) x) miss has) in
      (in_front x y ys rest.0, rest.1)
  | inl hit ↦ at_front p y ys x (subst (λ (b : Bool). Contains (cond b (y ∷ filter p ys) (filter p ys)) x) hit has) hit (kept_was p ys x)
]

gone : (b : Backing) (part : PartSeen) (old new : Shelf) (x : PartName) → ClosesIn b part old new → Contains new.out x → Contains old.out x × (b ≡ in_file (backing_path b) → same_part x part.name ≡ false)
gone in_memory part old new x closes has = (subst (λ (s : Shelf). Contains s.out x) closes has, λ is. absurd (apart is))
  where
    apart : in_memory ≡ in_file [] → ⊥
    apart e = cc
gone (in_file path) part old new x closes has =
    let kept = kept_was (λ y. not (same_part y part.name)) old.out x (subst (λ (o : List PartName). Contains o x) closes.out has) in
    (kept.0, λ is. flipped (same_part x part.name) kept.1)
  where
    flipped : (b : Bool) → not b ≡ true → b ≡ false
    flipped true e = absurd (cc)
    flipped false e = refl
gone (in_files path file) part old new x closes has = absurd closes

still : (ls : List LaneSeen) (old new : Shelf) (x : PartName) → ClosesAll ls old new → Contains new.out x → Contains old.out x × ((l : LaneSeen) → Contains ls l → IsInFile l → same_part x (part_of l).name ≡ false)
still [] old new x closes has = (subst (λ (s : Shelf). Contains s.out x) closes has, λ l there. absurd (omega (arith, there.1)))
still (m ∷ ls) old new x closes has =
    let later = still ls closes.0 new x closes.2 has in
    let first = gone m.origin.backing (part_of m) old closes.0 x closes.1 later.0 in
    (first.0, each first.1 later.1)
  where
    each : (IsInFile m → same_part x (part_of m).name ≡ false) → ((l : LaneSeen) → Contains ls l → IsInFile l → same_part x (part_of l).name ≡ false) → (l : LaneSeen) → Contains (m ∷ ls) l → IsInFile l → same_part x (part_of l).name ≡ false
    each here there l (zero, h, is) file = subst (λ (k : LaneSeen). IsInFile k → same_part x (part_of k).name ≡ false) is here file
    each here there l (suc k, h, is) file = there l (k, omega arith, is) file

pub none_out : (ls : List LaneSeen) (old new : Shelf) → EachIsClosed ls old.out → ClosesAll ls old new → new.out ≡ []
none_out ls old new each closes = empty new.out (λ x has.
    let was = still ls old new x closes has in
    let its = each x was.0 in
    both_ways (same_part x (part_of its.0).name) (was.1 its.0 its.1 its.2.0) its.2.1)
  where
    empty : (out : List PartName) → ((x : PartName) → Contains out x → ⊥) → out ≡ []
    empty [] none = refl
    empty (x ∷ xs) none = absurd (none x (first_in x xs))

-- ---- in turn

stays : {X : Type 0} (p : X → Bool) (xs : List X) (x : X) → Contains xs x → p x ≡ true → Contains (filter p xs) x
stays p [] x has passes = absurd (omega (arith, has.1))
stays p (y ∷ ys) x (zero, h, is) passes = subst (λ (b : Bool). Contains (cond b (y ∷ filter p ys) (filter p ys)) x) (sym (subst (λ (z : _). p z ≡ true) (sym is) passes)) (subst (λ (z : _). Contains (y ∷ filter p ys) z) is (first_in y (filter p ys)))
stays p (y ∷ ys) x (suc k, h, is) passes = elim (cases_Bool (p y)) [
  | inl hit ↦ subst (λ (b : Bool). Contains (cond b (y ∷ filter p ys) (filter p ys)) x) (sym hit) (in_front x y (filter p ys) (stays p ys x (k, omega arith, is) passes))
  | inr miss ↦ subst (λ (b : Bool). Contains (cond b (y ∷ filter p ys) (filter p ys)) x) (sym miss) (stays p ys x (k, omega arith, is) passes)
]

out_still : (b c : Backing) (x y : PartName) (out : List PartName) → (b ≡ in_file (backing_path b) → c ≡ in_file (backing_path c) → same_part y x ≡ false) → IsOutIn c y out → IsOutIn c y (out_without b x out)
out_still b in_memory x y out apart is = tt
out_still b (in_files path file) x y out apart is = absurd is
out_still in_memory (in_file path) x y out apart is = is
out_still (in_files own file) (in_file path) x y out apart is = is
out_still (in_file own) (in_file path) x y out apart is = stays (λ z. not (same_part z x)) out y is (ap not (apart refl refl))

pub out_in_turn : (ls : List LaneSeen) (out : List PartName) → AllByRecursion (λ (l : LaneSeen). IsOut l out) ls → AreDistinct ls → AllOut ls out
out_in_turn [] out all distinct = tt
out_in_turn (l ∷ ls) out all distinct = (all.0, out_in_turn ls (out_behind l out) (each ls distinct.0 all.1) distinct.1)
  where
    each : (ms : List LaneSeen) → AllByRecursion (λ (m : LaneSeen). IsInFile l → IsInFile m → same_part (part_of m).name (part_of l).name ≡ false) ms → AllByRecursion (λ (m : LaneSeen). IsOut m out) ms → AllByRecursion (λ (m : LaneSeen). IsOut m (out_behind l out)) ms
    each [] apart is = tt
    each (m ∷ ms) apart is = (out_still l.origin.backing m.origin.backing (part_of l).name (part_of m).name out apart.0 is.0, each ms apart.1 is.1)
