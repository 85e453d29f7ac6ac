-- Parts closed one by one.
use Rattle.std.proofs.Common.{◌≡◌, ◌≢◌, inl, inr, ℕ, zero, suc, ◌+◌, ◌<◌, ◌≤◌, Bool, true, false, not, cond, List, [], ◌∷◌, ◌++◌, map, length, slice_get, Option, Some, None, refl, sym, ap, subst, ◌∙◌, arith, append_assoc, append-nil, length-append}
use Rattle.std.specs.Option.{IfSome}
use Rattle.std.specs.Prelude.{◌||◌, nat_lt}
use Rattle.std.specs.List.{Contains, filter}
use Rattle.std.specs.Str.{bytes_eq}
use Rattle.std.proofs.lemmas.Bool.{cases_Bool, ltb-true, and_left}
use Rattle.std.proofs.lemmas.List.{map-append}
use Rattle.std.proofs.lemmas.Slice.Eq.{bytes_eq-Decides}
use Rattle.page_base.specs.Lanes.{Rose}
use Rattle.file_store.specs.Parts.{PartName, PartSeen, WhereTold}
use Rattle.file_store.specs.Shelves.{Shelf, FolderSeen, file_at, same_part, without, PutsBack, Closes}
use Rattle.sparse_store.specs.Closings.{AreAllOut, ClosesEach, any_fault}
use Rattle.sparse_store.specs.InsideStores.{AreApart}
use Rattle.sparse_store.proofs.PartLists.{some_is, inside_of, at_left, at_right}

-- ---- parts that are out

in_front : {X : Type 0} (x y : X) (xs : List X) → Contains xs x → Contains (y ∷ xs) x
in_front x y xs has = (suc has.0, omega (arith, has.1), has.2)

first_in : {X : Type 0} (x : X) (xs : List X) → Contains (x ∷ xs) x
first_in x xs = (0, omega arith, refl)

stays : {X : Type 0} (p : X → Bool) (xs : List X) (x : X) → Contains xs x → p x ≡ true → Contains (filter p xs) x
stays p [] x has passes = absurd (omega (arith, has.1))
stays p (y ∷ ys) x (zero, h, is) passes = subst (λ (b : Bool). Contains (cond b (y ∷ filter p ys) (filter p ys)) x) (sym (subst (λ (z : _). p z ≡ true) (sym is) passes)) (subst (λ (z : _). Contains (y ∷ filter p ys) z) is (first_in y (filter p ys)))
stays p (y ∷ ys) x (suc k, h, is) passes = elim (cases_Bool (p y)) [
  | inl hit ↦ subst (λ (b : Bool). Contains (cond b (y ∷ filter p ys) (filter p ys)) x) (sym hit) (in_front x y (filter p ys) (stays p ys x (k, omega arith, is) passes))
  | inr miss ↦ subst (λ (b : Bool). Contains (cond b (y ∷ filter p ys) (filter p ys)) x) (sym miss) (stays p ys x (k, omega arith, is) passes)
]

pub other_path : (a b : List ℕ) → a ≢ b → bytes_eq a b ≡ false
other_path a b apart = elim (cases_Bool (bytes_eq a b)) [
  | inl hit ↦ absurd (apart ((bytes_eq-Decides a b).0 hit))
  | inr miss ↦ miss
]

pub other_part : (x y : PartName) → bytes_eq x.path y.path ≡ false → same_part x y ≡ false
other_part x y miss = and_left _ _ miss

-- ---- one part more

module _ (ps : List PartSeen) (p : PartSeen) (ds : List PartSeen) (apart : AreApart ((ps ++ p ∷ []) ++ ds)) where
  at_last : slice_get ((ps ++ p ∷ []) ++ ds) (length ps) ≡ Some p
  at_last = at_left (ps ++ p ∷ []) ds (length ps) p (at_right ps (p ∷ []) 0 (length ps) p (omega arith) refl)

  off_done : (k : ℕ) (q : PartSeen) → slice_get ds k ≡ Some q → p.name.path ≢ q.name.path
  off_done k q got e =
      let at : slice_get ((ps ++ p ∷ []) ++ ds) (length (ps ++ p ∷ []) + k) ≡ Some q = at_right (ps ++ p ∷ []) ds k (length (ps ++ p ∷ []) + k) q refl got in
      omega (arith, apart (length ps) (length (ps ++ p ∷ []) + k) p q at_last at e, length-append ps (p ∷ []))

  off_left : (k : ℕ) (q : PartSeen) → slice_get ps k ≡ Some q → q.name.path ≢ p.name.path
  off_left k q got e =
      let at : slice_get ((ps ++ p ∷ []) ++ ds) k ≡ Some q = at_left (ps ++ p ∷ []) ds k q (at_left ps (p ∷ []) k q got) in
      omega (arith, apart k (length ps) q p at at_last e, inside_of ps k q got)

  closes_more : (old now new : Shelf) → ClosesEach ds old now → Closes p now new → ClosesEach (p ∷ ds) old new
  closes_more old now new so_far one = record {
    back = backs;
    elsewhere = λ path none. one.elsewhere path (none 0 p refl) ∙ so_far.elsewhere path (λ k q got. none (suc k) q got);
    out = one.out ∙ ap (without p.name) so_far.out;
  }
    where
      backs : (k : ℕ) (q : PartSeen) → slice_get (p ∷ ds) k ≡ Some q → PutsBack q.made q.name.extent q.told (file_at old.files q.name.path) (file_at new.files q.name.path)
      backs zero q got =
          subst (λ (x : PartSeen). PutsBack x.made x.name.extent x.told (file_at old.files x.name.path) (file_at new.files x.name.path)) (some_is got)
          (subst (λ (f : Option (List ℕ)). PutsBack p.made p.name.extent p.told f (file_at new.files p.name.path)) (so_far.elsewhere p.name.path off_done) one.back)
      backs (suc k) q got =
          subst (λ (f : Option (List ℕ)). PutsBack q.made q.name.extent q.told (file_at old.files q.name.path) f) (sym (one.elsewhere q.name.path (λ e. off_done k q got (sym e)))) (so_far.back k q got)

  still_out : (now new : Shelf) → AreAllOut (ps ++ p ∷ []) now.out → Closes p now new → AreAllOut ps new.out
  still_out now new all one k q got =
      subst (λ (out : List PartName). Contains out q.name) (sym one.out)
      (stays (λ x. not (same_part x p.name)) now.out q.name (all k q (at_left ps (p ∷ []) k q got))
      (ap not (other_part q.name p.name (other_path q.name.path p.name.path (off_left k q got)))))

last_out : (ps : List PartSeen) (p : PartSeen) (out : List PartName) → AreAllOut (ps ++ p ∷ []) out → Contains out p.name
last_out ps p out all = all (length ps) p (at_right ps (p ∷ []) 0 (length ps) p (omega arith) refl)

-- ---- the loop

pub record ClosesSome {P : Type 0} (seen : P → PartSeen) (all left : List P) (before now : FolderSeen) : Type 0 where
  pub done : List P
  pub whole_list : all ≡ left ++ done
  pub closed : WhereTold (ClosesEach (map seen done)) before.told now.told
  pub out : IfSome now.told (λ s. AreAllOut (map seen left) s.out)
  pub later : before.count ≤ now.count
  pub faults : any_fault (map seen done) ≡ true → Rose before.count now.count

none_closed : (t : Option Shelf) → WhereTold (ClosesEach []) t t
none_closed None = tt
none_closed (Some s) = record { back = λ k p got. absurd (cc); elsewhere = λ path none. refl; out = refl }

pub begins : {P : Type 0} (seen : P → PartSeen) (all : List P) (before : FolderSeen) → IfSome before.told (λ s. AreAllOut (map seen all) s.out) → ClosesSome seen all all before before
begins seen all before out = record {
  done = [];
  whole_list = sym (append-nil all);
  closed = none_closed before.told;
  out = out;
  later = omega arith;
  faults = λ any. absurd (cc);
}

module _ {P : Type 0} (seen : P → PartSeen) (all left rest : List P) (x : P) (before now : FolderSeen) (last : left ≡ rest ++ x ∷ []) (i : ClosesSome seen all left before now) where
  split_ : map seen left ≡ map seen rest ++ seen x ∷ []
  split_ = ap (map seen) last ∙ map-append seen rest (x ∷ [])

  pub next_out : IfSome now.told (λ s. Contains s.out (seen x).name)
  next_out = go now.told i.out
    where
      go : (t : Option Shelf) → IfSome t (λ s. AreAllOut (map seen left) s.out) → IfSome t (λ s. Contains s.out (seen x).name)
      go None out = tt
      go (Some s) out = last_out (map seen rest) (seen x) s.out (subst (λ (ps : List PartSeen). AreAllOut ps s.out) split_ out)

  pub one_more : AreApart (map seen all) → (new : FolderSeen) → WhereTold (Closes (seen x)) now.told new.told → now.count ≤ new.count → (0 < (seen x).count → Rose now.count new.count) → ClosesSome seen all rest before new
  one_more apart new closes later rose = record {
    done = x ∷ i.done;
    whole_list = i.whole_list ∙ ap (λ (xs : List P). xs ++ i.done) last ∙ append_assoc rest (x ∷ []) i.done;
    closed = go before.told now.told new.told i.closed closes;
    out = outs now.told new.told i.out closes;
    later = omega (arith, i.later, later);
    faults = λ any. faulty any;
  }
    where
      whole_ : map seen all ≡ (map seen rest ++ seen x ∷ []) ++ map seen i.done
      whole_ = ap (map seen) i.whole_list ∙ map-append seen left i.done ∙ ap (λ (ps : List PartSeen). ps ++ map seen i.done) split_

      each_apart : AreApart ((map seen rest ++ seen x ∷ []) ++ map seen i.done)
      each_apart = subst AreApart whole_ apart

      go : (t u v : Option Shelf) → WhereTold (ClosesEach (map seen i.done)) t u → WhereTold (Closes (seen x)) u v → WhereTold (ClosesEach (map seen (x ∷ i.done))) t v
      go None None None a b = tt
      go None None (Some v) a b = absurd b
      go None (Some u) v a b = absurd a
      go (Some t) None v a b = absurd a
      go (Some t) (Some u) None a b = absurd b
      go (Some t) (Some u) (Some v) a b = closes_more (map seen rest) (seen x) (map seen i.done) each_apart t u v a b

      outs : (u v : Option Shelf) → IfSome u (λ s. AreAllOut (map seen left) s.out) → WhereTold (Closes (seen x)) u v → IfSome v (λ s. AreAllOut (map seen rest) s.out)
      outs u None out b = tt
      outs None (Some v) out b = absurd b
      outs (Some u) (Some v) out b = still_out (map seen rest) (seen x) (map seen i.done) each_apart u v (subst (λ (ps : List PartSeen). AreAllOut ps u.out) split_ out) b

      faulty : any_fault (map seen (x ∷ i.done)) ≡ true → Rose before.count new.count
      faulty any = elim (cases_Bool (nat_lt 0 (seen x).count)) [
        | inl some ↦ omega (arith, rose (ltb-true 0 (seen x).count some), i.later, later)
        | inr none ↦ omega (arith, i.faults (subst (λ (b : Bool). (b || any_fault (map seen i.done)) ≡ true) none any), later)
      ]

pub all_closed : {P : Type 0} (seen : P → PartSeen) (all left : List P) (before now : FolderSeen) → left ≡ [] → ClosesSome seen all left before now → WhereTold (ClosesEach (map seen all)) before.told now.told
all_closed {P} seen all left before now none i =
    subst (λ (ps : List P). WhereTold (ClosesEach (map seen ps)) before.told now.told) (sym (i.whole_list ∙ ap (λ (xs : List P). xs ++ i.done) none)) i.closed

pub all_faults : {P : Type 0} (seen : P → PartSeen) (all left : List P) (before now : FolderSeen) → left ≡ [] → ClosesSome seen all left before now → any_fault (map seen all) ≡ true → Rose before.count now.count
all_faults {P} seen all left before now none i any =
    i.faults (subst (λ (ps : List P). any_fault (map seen ps) ≡ true) (i.whole_list ∙ ap (λ (xs : List P). xs ++ i.done) none) any)
