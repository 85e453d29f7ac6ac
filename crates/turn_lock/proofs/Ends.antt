-- A new table keeps the rule, and what the rule says of a table that is closed.
use Rattle.std.proofs.Common.{◌≡◌, ◌≢◌, ℕ, zero, suc, ◌+◌, ◌*◌, ◌^◌, ◌≤◌, Bool, true, false, ◌&&◌, eqb, List, [], ◌∷◌, ◌++◌, map, length, Option, Some, sym, refl, ap, ◌∙◌, subst, arith, true≢false, length-append, mul-le-mul}
use mathlib.Core.Logic.{dite}
use mathlib.Core.Option.{some, some-injective, some-ne-none}
use native.Mathlib.Decide.{ℕ_discrete, dec_lt}
use lib.ListN.{get_elem?}
use Rattle.std.proofs.lemmas.Bool.{le-ltb, lt-ltb}
use Rattle.atomic_table.specs.Table.{State, opening, Final, Seen}
use Rattle.histories.specs.Histories.{History, calls_of, GoesOn}
use Rattle.turn_lock.specs.declared.view.Terms.{Terms}
use Rattle.turn_lock.specs.declared.view.Turn.TheVariants.{Out}
use Rattle.turn_lock.specs.declared.view.View.{View}
use Rattle.turn_lock.specs.Views.{is_inside}
use Rattle.turn_lock.specs.InsideViews.{opened}
use Rattle.turn_lock.specs.InsideRule.{one_if, total, below, ended_times, EndedWell, bears, seats, Sits, Kept}
use Rattle.turn_lock.specs.InsidePlays.{Closes}
use Rattle.turn_lock.proofs.Sums.{total_two, total_one, below_next}
use Rattle.turn_lock.proofs.Endings.{their_calls, their_parts, their_holds, numbered, owners_known}
use Rattle.turn_lock.proofs.Views.{one_there, few}

module _ {E : Type 0} where
  begins_empty : (log seen : History E) → GoesOn seen log → log ≡ [] → seen ≡ []
  begins_empty log [] s e = refl
  begins_empty log (x ∷ xs) s e = let a : length log ≡ length (s.0 ++ x ∷ xs) = ap length s.1 in let b = length-append s.0 (x ∷ xs) in let d : length log ≡ 0 = ap length e in absurd (omega arith)

off_if : (b : Bool) (n : ℕ) → one_if b + n ≡ 0 → b ≡ false
off_if true n e = absurd (omega arith)
off_if false n e = refl

none_if : {A : Type 0} (b : Bool) (l : List A) → one_if b + length l ≡ 0 → l ≡ []
none_if b [] e = refl
none_if b (x ∷ l) e = absurd (omega arith)

module _ {T E F : Type 0} (stands : History E → T → Type 0) (fixed : T → F) (terms : Terms T) where
  abbrev S : Type 0
  S = State (Option T) (View T E)

  pub begins : (x : T) (xs : List (Option T)) → xs ≡ Some x ∷ [] → 1 ≤ terms.seats → terms.seats ≤ 1048576 → terms.holds ≤ 2 ^ 40 → stands [] x → fixed x ≡ fixed terms.origin.value
      → Kept stands fixed terms (opening (0 ∷ 0 ∷ []) xs (opened terms))
  begins x xs is some_seat seats_fit holds_fit ok same =
      let v : View T E = opened terms in record {
        log = [];
        drawn = 1;
        tickets = 0;
        serving = 0;
        words = refl;
        queue = λ t. omega arith;
        numbers = numbers_first;
        seated = refl;
        some_spare = some_seat;
        made_in_all = refl;
        short = omega arith;
        owners = λ o far. refl;
        known = (0, v, refl, refl);
        each = λ j u e. only v (Sits [] terms 1 0) (record {
          start = ([], refl);
          mine = λ _. refl;
          own = λ _. refl;
          told = λ _. refl;
          within = λ _. omega arith;
          first = λ _ _. omega arith;
          others = λ _ n. absurd (n refl);
          spent = λ off. absurd (true≢false off);
          ended = tt;
          parts = tt;
          grew = ([], refl);
          inside = λ t on. absurd (true≢false (sym (ap is_inside on)));
        }) j u e;
        home = λ _. (x, ap (λ l. get_elem? (map some l) 0) is, ok, same);
        small = let m : terms.seats * terms.holds ≤ 1048576 * 2 ^ 40 = mul-le-mul seats_fit holds_fit in let y : ℕ = terms.seats * terms.holds in omega arith;
      }
    where
      only : (v : View T E) (Q : View T E → Type 0) → Q v → (j : ℕ) (u : View T E) → get_elem? (v ∷ []) j ≡ some u → Q u
      only v Q q zero u e = subst Q (some-injective v u e) q
      only v Q q (suc j) u e = absurd (some-ne-none u (sym e))

      numbers_first : (n : ℕ) → (one_if (eqb 0 n) + 0) + 0 ≡ below n 1
      numbers_first n = let a = below_next n 0 in let z : below n 0 ≡ 0 = ap one_if (le-ltb n 0 (omega arith)) in omega arith

  in_order : (s : S) (k : Kept stands fixed terms s) → k.serving ≤ k.tickets
  in_order s k = dite (dec_lt k.tickets k.serving)
      (λ more. let q = k.queue k.tickets in let one : below k.tickets k.serving ≡ 1 = ap one_if (lt-ltb k.tickets k.serving more) in let none : below k.tickets k.tickets ≡ 0 = ap one_if (le-ltb k.tickets k.tickets (omega arith)) in absurd (omega arith))
      (λ no. omega arith)

  pub closes : (id : ℕ) (v : View T E) (ws : List ℕ) (xs : List (Option T)) → v.live ≡ true → v.number ≡ 0 → v.turn ≡ Out → length v.ended + v.spare + 1 ≡ terms.seats → Final (Seen (Kept stands fixed terms) id v) ws xs
      → (x : T) × (get_elem? xs 0 ≡ some (Some x)) × Closes stands fixed terms v x
  closes id v ws xs live first out all final =
      let s = final.0 in
      let k = final.1.0 in
      let at = final.1.1 in
      let sits = k.each id v at in
      let drawn : k.drawn ≡ 1 + length v.ended = let a = sits.first live first in omega arith in
      let nothing : (j : ℕ) (u : View T E) → get_elem? s.views j ≡ some u → j ≢ id → seats u ≡ 0 = λ j u e apart.
      (let a = total_two seats s.views j id u v apart e at in let q = k.seated in let l : one_if v.live ≡ 1 = ap one_if live in omega arith) in
      let others : (j : ℕ) (u : View T E) → get_elem? s.views j ≡ some u → j ≢ id → u.live ≡ false = λ j u e apart. off_if u.live (length u.ended) (nothing j u e apart) in
      let known = k.known in
      let whole : v.seen ≡ k.log = dite (ℕ_discrete known.0 id)
      (λ here. ap (λ (u : View T E). u.seen) (one_there s.views id known.0 v known.1 at known.2 here) ∙ known.3)
      (λ apart. let none : k.log ≡ [] = sym known.3 ∙ ((k.each known.0 known.1 known.2).spent (others known.0 known.1 known.2 apart)).0 in begins_empty k.log v.seen sits.start none ∙ sym none) in
      let home = k.home (λ j u e. dite (ℕ_discrete j id)
      (λ here. ap (λ (u : View T E). is_inside u.turn) (sym (one_there s.views id j v u at e here)) ∙ ap is_inside out)
      (λ apart. ap is_inside ((k.each j u e).spent (others j u e apart)).1)) in
      let bears_none : (n : ℕ) (j : ℕ) (u : View T E) → get_elem? s.views j ≡ some u → j ≢ id → bears n u ≡ 0 = λ n j u e apart.
      (let a : one_if (u.live && eqb u.number n) ≡ 0 = ap (λ b. one_if (b && eqb u.number n)) (others j u e apart) in
      let b : ended_times n u.ended ≡ 0 = ap (ended_times n) (none_if u.live u.ended (nothing j u e apart)) in omega arith) in
      let once : (n : ℕ) → one_if (eqb 0 n) + ended_times n v.ended ≡ below n k.drawn = λ n.
      (let a : total (bears n) s.views ≡ bears n v = total_one (bears n) s.views id v at (λ j u e apart. bears_none n j u e apart) in let q = k.numbers n in
      let c : one_if (v.live && eqb v.number n) ≡ one_if (eqb 0 n) = ap (λ b. one_if (b && eqb v.number n)) live ∙ ap (λ m. one_if (eqb m n)) first in omega arith) in (
        home.0,
        final.4 0 (Some home.0) home.1,
        record {
          value = subst (λ l. stands l home.0) (sym whole) home.2;
          same = home.3;
          mine = ap (λ n. calls_of n v.seen) (sym first) ∙ sits.own live;
          calls = their_calls v.seen terms.holds v.ended (subst (λ l. EndedWell l terms.holds v.ended) (sym whole) sits.ended);
          parts = their_parts v.seen v.ended sits.parts;
          holds = their_holds k.log terms.holds v.ended sits.ended;
          numbers = numbered v.ended k.drawn drawn once;
          owners = owners_known v.seen v.ended k.drawn once (λ o far. ap (calls_of o) whole ∙ k.owners o far);
          few = let a = in_order s k in let b = k.short in let c = few stands fixed terms s k in let e : length v.seen ≡ length k.log = ap length whole in let y : ℕ = terms.seats * terms.holds in omega arith;
        },
      )
