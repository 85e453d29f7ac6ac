-- Ended passes: their calls, holds and numbers.
use Rattle.std.proofs.Common.{◌≡◌, ◌≢◌, ℕ, zero, suc, ◌+◌, ◌*◌, ◌≤◌, Bool, true, false, eqb, List, [], ◌∷◌, ◌++◌, length, Option, Some, sym, refl, ap, subst, ◌∙◌, arith, eq-eqb, ne_eqb, add-mul, one-mul}
use Rattle.std.specs.Prelude.{slice_get}
use mathlib.Core.Logic.{dite}
use native.Mathlib.Decide.{ℕ_discrete}
use Rattle.histories.specs.Histories.{History, calls_of, by, GoesOn}
use Rattle.turn_lock.specs.declared.view.Ended.{Ended}
use Rattle.turn_lock.specs.InsideHistoryLaws.{HistoryLaws}
use Rattle.turn_lock.specs.InsideRule.{one_if, below, ended_holds, ended_times, EndedWell, HaveSeen}
use Rattle.turn_lock.specs.Seen.{HaveTheirCalls, HaveTheirParts, MadeAtMost, AreNumbered, OwnersAreKnown}
use Rattle.turn_lock.proofs.Sums.{below_yes, below_no, below_most}

pub some_one : {A : Type 0} (a b : A) → ◌≡◌ {A = Option A} (Some a) (Some b) → a ≡ b
some_one a b e = cc

pub one_if_most : (b : Bool) → one_if b ≤ 1
one_if_most true = omega arith
one_if_most false = omega arith

module _ {E : Type 0} where
  pub ended_few : (log : History E) (most : ℕ) (es : List (Ended E)) → EndedWell log most es → ended_holds es ≤ length es * most
  ended_few log most [] h = omega arith
  ended_few log most (e ∷ es) h = let r = ended_few log most es h.2 in let a = h.1 in let d : (1 + length es) * most ≡ 1 * most + length es * most = add-mul 1 (length es) most in let o : 1 * most ≡ most = one-mul most in
      let s : suc (length es) ≡ 1 + length es = omega arith in let z : ℕ = length es * most in rw (s, d, o) (omega arith)

  -- entries of one who is no ended pass
  pub ended_more : (laws : HistoryLaws E) (log : History E) (most o : ℕ) (new : List E) (es : List (Ended E)) → ended_times o es ≡ 0 → EndedWell log most es → EndedWell (by o new ++ log) most es
  ended_more laws log most o new [] none h = tt
  ended_more laws log most o new (e ∷ es) none h = (
    laws.calls_of_both e.number (by o new) log ∙ (ap (λ (l : List E). l ++ calls_of e.number log) (laws.calls_of_one.others e.number o new (λ is. let x = ap one_if (eq-eqb e.number o is) in absurd (omega arith))) ∙ h.0),
    h.1,
    ended_more laws log most o new es (let a = one_if_most (eqb e.number o) in omega arith) h.2,
  )

  pub ended_snoc : (log : History E) (most : ℕ) (es : List (Ended E)) (e : Ended E) → EndedWell log most es → (calls_of e.number log ≡ e.mine) × (e.holds ≤ most) → EndedWell log most (es ++ e ∷ [])
  ended_snoc log most [] e h n = (n.0, n.1, tt)
  ended_snoc log most (x ∷ xs) e h n = (h.0, h.1, ended_snoc log most xs e h.2 n)

  pub parts_more : (laws : HistoryLaws E) (seen log : History E) (es : List (Ended E)) → GoesOn seen log → HaveSeen seen es → HaveSeen log es
  parts_more laws seen log [] g h = tt
  parts_more laws seen log (e ∷ es) g h = (laws.goes_on.trans e.seen seen log h.0 g, parts_more laws seen log es g h.1)

  pub parts_snoc : (seen : History E) (es : List (Ended E)) (e : Ended E) → HaveSeen seen es → GoesOn e.seen seen → HaveSeen seen (es ++ e ∷ [])
  parts_snoc seen [] e h g = (g, tt)
  parts_snoc seen (x ∷ xs) e h g = (h.0, parts_snoc seen xs e h.1 g)

  pub their_parts : (seen : History E) (es : List (Ended E)) → HaveSeen seen es → HaveTheirParts seen es
  their_parts seen [] h i e is = absurd cc
  their_parts seen (x ∷ xs) h zero e is = subst (λ (y : Ended E). GoesOn y.seen seen) (some_one x e is) h.0
  their_parts seen (x ∷ xs) h (suc i) e is = their_parts seen xs h.1 i e is

  pub holds_snoc : (es : List (Ended E)) (e : Ended E) → ended_holds (es ++ e ∷ []) ≡ ended_holds es + e.holds
  holds_snoc [] e = omega arith
  holds_snoc (x ∷ xs) e = let r = holds_snoc xs e in omega arith

  pub times_snoc : (n : ℕ) (es : List (Ended E)) (e : Ended E) → ended_times n (es ++ e ∷ []) ≡ ended_times n es + one_if (eqb e.number n)
  times_snoc n [] e = omega arith
  times_snoc n (x ∷ xs) e = let r = times_snoc n xs e in omega arith

  pub their_calls : (log : History E) (most : ℕ) (es : List (Ended E)) → EndedWell log most es → HaveTheirCalls log es
  their_calls log most [] h i e at = absurd (cc)
  their_calls log most (x ∷ xs) h zero e at = let is : x ≡ e = some_one x e at in ap (λ (y : Ended E). calls_of y.number log) (sym is) ∙ (h.0 ∙ ap (λ (y : Ended E). y.mine) is)
  their_calls log most (x ∷ xs) h (suc i) e at = their_calls log most xs h.2 i e at

  pub their_holds : (log : History E) (most : ℕ) (es : List (Ended E)) → EndedWell log most es → MadeAtMost most es
  their_holds log most [] h i e at = absurd (cc)
  their_holds log most (x ∷ xs) h zero e at = let is : x.holds ≡ e.holds = ap (λ (y : Ended E). y.holds) (some_one x e at) in let a = h.1 in omega arith
  their_holds log most (x ∷ xs) h (suc i) e at = their_holds log most xs h.2 i e at

  times_at : (es : List (Ended E)) (i : ℕ) (e : Ended E) → slice_get es i ≡ Some e → 1 ≤ ended_times e.number es
  times_at [] i e at = absurd (cc)
  times_at (x ∷ xs) zero e at = let is = ap one_if (eq-eqb x.number e.number (ap (λ (y : Ended E). y.number) (some_one x e at))) in omega arith
  times_at (x ∷ xs) (suc i) e at = let r = times_at xs i e at in omega arith

  times_two : (es : List (Ended E)) (i j : ℕ) (e f : Ended E) → slice_get es i ≡ Some e → slice_get es j ≡ Some f → e.number ≡ f.number → ended_times e.number es ≤ 1 → i ≡ j
  times_two [] i j e f at there same few = absurd (cc)
  times_two (x ∷ xs) zero zero e f at there same few = refl
  times_two (x ∷ xs) zero (suc j) e f at there same few =
      let is = ap one_if (eq-eqb x.number e.number (ap (λ (y : Ended E). y.number) (some_one x e at))) in let r = times_at xs j f there in
      let s : ended_times f.number xs ≡ ended_times e.number xs = ap (λ n. ended_times n xs) (sym same) in absurd (omega arith)
  times_two (x ∷ xs) (suc i) zero e f at there same few =
      let is = ap one_if (eq-eqb x.number e.number (ap (λ (y : Ended E). y.number) (some_one x f there) ∙ sym same)) in let r = times_at xs i e at in absurd (omega arith)
  times_two (x ∷ xs) (suc i) (suc j) e f at there same few = ap suc (times_two xs i j e f at there same (let a = one_if_most (eqb x.number e.number) in omega arith))

  times_none : (es : List (Ended E)) (o : ℕ) → ((i : ℕ) (e : Ended E) → slice_get es i ≡ Some e → e.number ≢ o) → ended_times o es ≡ 0
  times_none [] o h = refl
  times_none (x ∷ xs) o h = let a = ap one_if (ne_eqb x.number o (h 0 x refl)) in let r = times_none xs o (λ i e at. h (suc i) e at) in omega arith

  -- the first pass has number 0, and with the ended ones it has each number below `drawn` once
  pub numbered : (es : List (Ended E)) (drawn : ℕ) → drawn ≡ 1 + length es → ((n : ℕ) → one_if (eqb 0 n) + ended_times n es ≡ below n drawn) → AreNumbered es
  numbered es drawn many once = record {
    within = λ i e at. let a = times_at es i e at in let b = once e.number in let c = below_most e.number drawn in let d = below_yes e.number drawn (omega arith) in (
      dite (ℕ_discrete 0 e.number) (λ is. let z = ap one_if (eq-eqb 0 e.number is) in absurd (omega arith)) (λ no. omega arith),
      omega arith,
    );
    differ = λ i j e f at there same. times_two es i j e f at there same (let b = once e.number in let c = below_most e.number drawn in omega arith);
  }

  pub owners_known : (log : History E) (es : List (Ended E)) (drawn : ℕ) → ((n : ℕ) → one_if (eqb 0 n) + ended_times n es ≡ below n drawn) → ((o : ℕ) → drawn ≤ o → calls_of o log ≡ []) → OwnersAreKnown log es
  owners_known log es drawn once owners o not_first none =
      let a = times_none es o none in let b = once o in let c = ap one_if (ne_eqb 0 o (λ is. not_first (sym is))) in owners o (below_no o drawn (omega arith))
