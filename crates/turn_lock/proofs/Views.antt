-- Lists of views of which one changes, and what the rule says of two views.
use Rattle.std.proofs.Common.{◌≡◌, ◌≢◌, ℕ, zero, suc, ◌+◌, ◌-◌, ◌*◌, ◌<◌, ◌≤◌, Bool, true, false, ◌&&◌, eqb, List, [], ◌∷◌, length, set, Option, sym, refl, ap, ◌∙◌, subst, ⊎_elim, arith, true≢false, eq-eqb, add-mul, one-mul}
use mathlib.Core.Logic.{dite}
use mathlib.Core.Option.{some, some-injective, some-ne-none}
use native.Mathlib.Decide.{ℕ_discrete}
use lib.ListN.{get_elem?}
use Rattle.atomic_table.specs.Table.{State}
use Rattle.atomic_table.proofs.Lists.{at_set, set_here, set_else}
use Rattle.histories.specs.Histories.{History}
use Rattle.turn_lock.specs.declared.view.Terms.{Terms}
use Rattle.turn_lock.specs.declared.view.Turn.{Turn}
use Rattle.turn_lock.specs.declared.view.Turn.TheVariants.{Out, Waits, Inside}
use Rattle.turn_lock.specs.declared.view.View.{View}
use Rattle.turn_lock.specs.Views.{is_inside}
use Rattle.turn_lock.specs.InsideRule.{one_if, total, has_ticket, ended_holds, ended_times, made, bears, seats, Kept}
use Rattle.turn_lock.proofs.Sums.{total_at, total_two, total_times, below_yes, below_most}
use Rattle.turn_lock.proofs.Endings.{ended_few}

module _ {A : Type 0} where
  pub at_length : (l : List A) (j : ℕ) (v : A) → get_elem? l j ≡ some v → j < length l
  at_length [] j v e = absurd (some-ne-none v (sym e))
  at_length (x ∷ xs) zero v e = omega arith
  at_length (x ∷ xs) (suc j) v e = let r = at_length xs j v e in omega arith

  -- two readings of one place
  pub one_there : (l : List A) (i j : ℕ) (v u : A) → get_elem? l i ≡ some v → get_elem? l j ≡ some u → j ≡ i → v ≡ u
  one_there l i j v u at e is = some-injective v u (sym at ∙ (ap (λ n. get_elem? l n) (sym is) ∙ e))

  -- what each other has, and the new one
  pub each_set : (l : List A) (id : ℕ) (w : A) (Q : A → Type 0) → ((j : ℕ) (u : A) → j ≢ id → get_elem? l j ≡ some u → Q u) → Q w → (j : ℕ) (u : A) → get_elem? (set l id w) j ≡ some u → Q u
  each_set l id w Q others mine j u e =
      ⊎_elim (λ (x : (j ≡ id) × (w ≡ u)). subst Q x.1 mine) (λ (x : (j ≢ id) × (get_elem? l j ≡ some u)). others j u x.0 x.1) (at_set l id j w u e)

few_holds : (b : Bool) (h n eh most : ℕ) → (b ≡ true → h ≤ most) → (b ≡ false → h ≡ 0) → eh ≤ n * most → h + eh ≤ (one_if b + n) * most
few_holds true h n eh most a z r = let d : (1 + n) * most ≡ 1 * most + n * most = add-mul 1 n most in let o : 1 * most ≡ most = one-mul most in let q = a refl in rw (d, o) (omega arith)
few_holds false h n eh most a z r = let q = z refl in let s : 0 + n ≡ n = omega arith in rw s (omega arith)

module _ {T E : Type 0} where
  pub live_bears : (v : View T E) (n : ℕ) → v.live ≡ true → n ≡ v.number → bears n v ≡ 1 + ended_times n v.ended
  live_bears v n live is = let a : one_if (v.live && eqb v.number n) ≡ one_if (true && eqb v.number n) = ap (λ b. one_if (b && eqb v.number n)) live in
      let b : one_if (eqb v.number n) ≡ 1 = ap one_if (eq-eqb v.number n (sym is)) in omega arith

  -- one view has seen all, also after a step of one that keeps what it has seen
  pub known_set : (views : List (View T E)) (id : ℕ) (v w : View T E) (log : History E) → get_elem? views id ≡ some v → w.seen ≡ v.seen → (j : ℕ) (u : View T E) → get_elem? views j ≡ some u → u.seen ≡ log
      → (i : ℕ) × (x : View T E) × (get_elem? (set views id w) i ≡ some x) × (x.seen ≡ log)
  known_set views id v w log at same j u e is = dite (ℕ_discrete j id)
      (λ here. (id, w, set_here views id w (at_length views id v at), same ∙ (ap (λ x. x.seen) (one_there views id j v u at e here) ∙ is)))
      (λ apart. (j, u, set_else views id j w apart ∙ e, is))

  -- nobody is in a hold after a step of one who wasn't, so nobody was
  pub were_out : (views : List (View T E)) (id : ℕ) (v w : View T E) → get_elem? views id ≡ some v → is_inside v.turn ≡ false
      → ((j : ℕ) (u : View T E) → get_elem? (set views id w) j ≡ some u → is_inside u.turn ≡ false)
      → (j : ℕ) (u : View T E) → get_elem? views j ≡ some u → is_inside u.turn ≡ false
  were_out views id v w at out h j u e = dite (ℕ_discrete j id)
      (λ here. ap (λ (x : View T E). is_inside x.turn) (sym (one_there views id j v u at e here)) ∙ out)
      (λ apart. h j u (set_else views id j w apart ∙ e))

module _ {T E F : Type 0} (stands : History E → T → Type 0) (fixed : T → F) (terms : Terms T) (s : State (Option T) (View T E)) (k : Kept stands fixed terms s) where
  -- the tickets drawn are at most the holds that all passes may make
  pub few : k.tickets ≤ terms.seats * terms.holds
  few =
      let a = total_times made seats terms.holds s.views
      (λ j v e. let sits = k.each j v e in few_holds v.live v.holds (length v.ended) (ended_holds v.ended) terms.holds sits.within (λ off. (sits.spent off).2) (ended_few k.log terms.holds v.ended sits.ended)) in
      let m = k.made_in_all in
      let b : total seats s.views * terms.holds ≡ k.drawn * terms.holds = ap (λ (n : ℕ). n * terms.holds) k.seated in
      let rest : (terms.seats - k.drawn) + k.drawn ≡ terms.seats = let r = k.some_spare in omega arith in
      let c : (terms.seats - k.drawn) * terms.holds + k.drawn * terms.holds ≡ terms.seats * terms.holds = sym (add-mul (terms.seats - k.drawn) k.drawn terms.holds) ∙ ap (λ (n : ℕ). n * terms.holds) rest in
      let x : ℕ = k.drawn * terms.holds in let y : ℕ = (terms.seats - k.drawn) * terms.holds in let z : ℕ = terms.seats * terms.holds in omega arith

  -- a ticket is with one pass
  pub alone : (t : ℕ) (i j : ℕ) (v u : View T E) → get_elem? s.views i ≡ some v → get_elem? s.views j ≡ some u → has_ticket t v.turn ≡ 1 → has_ticket t u.turn ≡ 1 → j ≢ i → ⊥
  alone t i j v u at e one two apart =
      let a = total_two (λ (x : View T E). has_ticket t x.turn) s.views j i u v apart e at in let q = k.queue t in let m = below_most t k.tickets in omega arith

  -- a ticket that a pass has was drawn
  pub served : (t : ℕ) (i : ℕ) (v : View T E) → get_elem? s.views i ≡ some v → has_ticket t v.turn ≡ 1 → t < k.tickets
  served t i v at one = let a = total_at (λ (x : View T E). has_ticket t x.turn) s.views i v at in let q = k.queue t in below_yes t k.tickets (omega arith)

  -- where the ticket that is served is with one who waits, nobody is in a hold
  pub not_inside : (t id : ℕ) (v : View T E) → get_elem? s.views id ≡ some v → has_ticket t v.turn ≡ 1 → k.serving ≡ t → is_inside v.turn ≡ false
      → (j : ℕ) (u : View T E) → get_elem? s.views j ≡ some u → is_inside u.turn ≡ false
  not_inside t id v at one now out j u e = cases u.turn refl
    where
      cases : (turn : Turn) → u.turn ≡ turn → is_inside turn ≡ false
      cases Out is = refl
      cases (Waits n) is = refl
      cases (Inside n) is = dite (ℕ_discrete j id)
          (λ here. absurd (true≢false (sym (ap is_inside is) ∙ (ap (λ (x : View T E). is_inside x.turn) (sym (one_there s.views id j v u at e here)) ∙ out))))
          (λ apart. absurd (alone t id j v u at e one (ap (has_ticket t) is ∙ ap one_if (eq-eqb n t (((k.each j u e).inside n is).0 ∙ now))) apart))

  -- a live view's number is of no other view and of no pass that ended in one
  pub other_number : (i j : ℕ) (v u : View T E) → get_elem? s.views i ≡ some v → get_elem? s.views j ≡ some u → v.live ≡ true → j ≢ i → bears v.number u ≡ 0
  other_number i j v u at e live apart =
      let a = total_two (bears v.number) s.views j i u v apart e at in let q = k.numbers v.number in let m = below_most v.number k.drawn in
      let b = live_bears v v.number live refl in omega arith

  pub two_numbers : (i j : ℕ) (v u : View T E) → get_elem? s.views i ≡ some v → get_elem? s.views j ≡ some u → v.live ≡ true → u.live ≡ true → j ≢ i → u.number ≢ v.number
  two_numbers i j v u at e live on apart same =
      let a = other_number i j v u at e live apart in let d = live_bears u v.number on (sym same) in omega arith

  -- a live view's number was drawn
  pub number_drawn : (id : ℕ) (v : View T E) → get_elem? s.views id ≡ some v → v.live ≡ true → v.number < k.drawn
  number_drawn id v at live =
      let a = total_at (bears v.number) s.views id v at in let q = k.numbers v.number in let b = live_bears v v.number live refl in below_yes v.number k.drawn (omega arith)

  -- and no pass that ended in it has it
  pub none_ended : (id : ℕ) (v : View T E) → get_elem? s.views id ≡ some v → v.live ≡ true → ended_times v.number v.ended ≡ 0
  none_ended id v at live =
      let a = total_at (bears v.number) s.views id v at in let q = k.numbers v.number in let b = live_bears v v.number live refl in let m = below_most v.number k.drawn in omega arith
