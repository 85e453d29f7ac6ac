-- Splitting a pass off, folding one back and learning keep the rule.
use Rattle.std.proofs.Common.{◌≡◌, ◌≢◌, ℕ, ◌+◌, ◌-◌, ◌<◌, ◌≤◌, true, ◌&&◌, eqb, cond, List, [], ◌∷◌, ◌++◌, length, get_or, set, Option, sym, refl, ap, ◌∙◌, subst, ⊎_elim, arith, true≢false, append-nil, length-append}
use mathlib.Core.Logic.{dite}
use mathlib.Core.Option.{some, none}
use native.Mathlib.Decide.{ℕ_discrete, dec_lt}
use lib.ListN.{get_elem?}
use Rattle.std.proofs.lemmas.Bool.{le-ltb, lt-ltb}
use Rattle.atomic_table.specs.Table.{State, Me, step, Act, keeps, Valid, stepped, Allows, carried_after, Splits, Joins}
use Rattle.atomic_table.proofs.Lists.{at_set, at_snoc, at_longer, set_here, set_else, set_again}
use Rattle.histories.specs.Histories.{History, calls_of, GoesOn}
use Rattle.turn_lock.specs.InsideHistoryLaws.{HistoryLaws}
use Rattle.turn_lock.specs.declared.view.Terms.{Terms}
use Rattle.turn_lock.specs.declared.view.Ended.{Ended}
use Rattle.turn_lock.specs.declared.view.Turn.TheVariants.{Out}
use Rattle.turn_lock.specs.declared.view.View.{View}
use Rattle.turn_lock.specs.Seen.{longer}
use Rattle.turn_lock.specs.Views.{is_inside}
use Rattle.turn_lock.specs.InsideViews.{seats_of, next_number, less_spare, new_view, end_of, folded_view, spent_view}
use Rattle.turn_lock.specs.InsideRule.{one_if, has_ticket, ended_holds, ended_times, made, bears, seats, HaveSeen, Sits, Kept}
use Rattle.turn_lock.specs.InsidePlays.{learned}
use Rattle.turn_lock.proofs.Sums.{total_set, total_at, total_snoc, below_next}
use Rattle.turn_lock.proofs.Endings.{ended_snoc, parts_more, parts_snoc, their_parts, holds_snoc, times_snoc}
use Rattle.turn_lock.proofs.Views.{at_length, one_there, each_set, known_set, were_out, two_numbers, number_drawn}

empty : {A : Type 0} (l : List A) → length l ≡ 0 → l ≡ []
empty [] e = refl
empty (x ∷ l) e = absurd (omega arith)

module _ {E : Type 0} where
  -- one who made nothing in the whole made nothing in a part
  none_before : (laws : HistoryLaws E) (o : ℕ) (seen log : History E) → GoesOn seen log → calls_of o log ≡ [] → calls_of o seen ≡ []
  none_before laws o seen log g nothing = empty (calls_of o seen) (let e : calls_of o g.0 ++ calls_of o seen ≡ calls_of o log = sym (ap (calls_of o) g.1 ∙ laws.calls_of_both o g.0 seen) in
      let a : length (calls_of o g.0 ++ calls_of o seen) ≡ length (calls_of o log) = ap length e in let b = length-append (calls_of o g.0) (calls_of o seen) in
      let c : length (calls_of o log) ≡ 0 = ap length nothing in omega arith)

  -- one who made no entry from f to h made none from f to g, which lies between
  same_between : (laws : HistoryLaws E) (o : ℕ) (f g h : History E) → GoesOn f g → GoesOn g h → calls_of o f ≡ calls_of o h → calls_of o g ≡ calls_of o f
  same_between laws o f g h p q same =
      let e : calls_of o p.0 ++ calls_of o f ≡ calls_of o g = sym (ap (calls_of o) p.1 ∙ laws.calls_of_both o p.0 f) in
      let d : calls_of o q.0 ++ calls_of o g ≡ calls_of o h = sym (ap (calls_of o) q.1 ∙ laws.calls_of_both o q.0 g) in
      let a : length (calls_of o p.0 ++ calls_of o f) ≡ length (calls_of o g) = ap length e in let a' = length-append (calls_of o p.0) (calls_of o f) in
      let b : length (calls_of o q.0 ++ calls_of o g) ≡ length (calls_of o h) = ap length d in let b' = length-append (calls_of o q.0) (calls_of o g) in
      let c : length (calls_of o f) ≡ length (calls_of o h) = ap length same in
      let none : calls_of o p.0 ≡ [] = empty (calls_of o p.0) (omega arith) in
      sym e ∙ ap (λ (l : List E). l ++ calls_of o f) none

  whole_is : (xs ys : History E) → GoesOn xs ys → length ys ≤ length xs → xs ≡ ys
  whole_is xs ys s short = let l = length-append s.0 xs in let e : length ys ≡ length (s.0 ++ xs) = ap length s.1 in
      let is : s.0 ≡ [] = empty s.0 (omega arith) in sym (s.1 ∙ ap (λ (l : History E). l ++ xs) is)

  longer_cases : (P : History E → Type 0) (xs ys : History E) → (length xs < length ys → P ys) → (length ys ≤ length xs → P xs) → P (longer xs ys)
  longer_cases P xs ys more less = dite (dec_lt (length xs) (length ys))
      (λ lt. subst (λ b. P (cond b ys xs)) (sym (lt-ltb (length xs) (length ys) lt)) (more lt))
      (λ ge. subst (λ b. P (cond b ys xs)) (sym (le-ltb (length xs) (length ys) (omega arith))) (less (omega arith)))

module _ {T E F : Type 0} (stands : History E → T → Type 0) (fixed : T → F) (terms : Terms T) where
  abbrev S : Type 0
  S = State (Option T) (View T E)

  -- the number that comes next
  next_is : (s : S) (k : Kept stands fixed terms s) (id : ℕ) (v : View T E) → get_elem? s.views id ≡ some v → v.live ≡ true → v.number ≡ 0 → next_number v ≡ k.drawn
  next_is s k id v at live first = let sits = k.each id v at in let a = sits.first live first in let b : next_number v ≡ terms.seats - v.spare = ap (λ o. seats_of o - v.spare) (sits.told live) in omega arith

  pub splits : (laws : HistoryLaws E) (id : ℕ) (v : View T E) → v.live ≡ true → 0 < v.spare → Splits (Kept stands fixed terms) id v (less_spare v) (new_view v)
  splits laws id v live some_spare s k at =
      let w : View T E = less_spare v in
      let new : View T E = new_view v in
      let sits = k.each id v at in
      let first : v.number ≡ 0 = dite (ℕ_discrete v.number 0) (λ e. e) (λ ne. let z = (sits.others live ne).0 in absurd (omega arith)) in
      let next = next_is s k id v at live first in
      let seated = sits.first live first in
      let drawn : 0 < k.drawn = let z = number_drawn stands fixed terms s k id v at live in omega arith in
      let number : k.drawn ≡ new.number = sym next in
      let views : List (View T E) = set s.views id w in
      let known = known_set s.views id v w k.log at refl k.known.0 k.known.1 k.known.2 k.known.3 in
      record {
        log = k.log;
        drawn = k.drawn + 1;
        tickets = k.tickets;
        serving = k.serving;
        words = k.words;
        queue = λ t. let f = λ (u : View T E). has_ticket t u.turn in let a = total_set f s.views id v w at in let b = total_snoc f views new in let q = k.queue t in omega arith;
        numbers = λ n. let a = total_set (bears n) s.views id v w at in let b = total_snoc (bears n) views new in let q = k.numbers n in let d = below_next n k.drawn in
            let c : bears n new ≡ one_if (eqb k.drawn n) + 0 = ap (λ m. one_if (eqb m n) + 0) next in omega arith;
        seated = let a = total_set seats s.views id v w at in let b = total_snoc seats views new in let q = k.seated in omega arith;
        some_spare = omega arith;
        made_in_all = let a = total_set made s.views id v w at in let b = total_snoc made views new in let q = k.made_in_all in omega arith;
        short = k.short;
        owners = λ o far. k.owners o (omega arith);
        known = (known.0, known.1, at_longer views (new ∷ []) known.0 known.1 known.2, known.3);
        each = λ j u e. ⊎_elim
            (λ (old : get_elem? views j ≡ some u). ⊎_elim
            (λ (is : (j ≡ id) × (w ≡ u)). subst (Sits k.log terms (k.drawn + 1) k.serving) is.1 (record {
              start = sits.start;
              mine = sits.mine;
              own = sits.own;
              told = sits.told;
              within = sits.within;
              first = λ _ _. omega arith;
              others = λ _ n. absurd (n first);
              spent = sits.spent;
              ended = sits.ended;
              parts = sits.parts;
              grew = sits.grew;
              inside = sits.inside;
            }))
            (λ (is : (j ≢ id) × (get_elem? s.views j ≡ some u)). let theirs = k.each j u is.1 in record {
              start = theirs.start;
              mine = theirs.mine;
              own = theirs.own;
              told = theirs.told;
              within = theirs.within;
              first = λ on zeroth. absurd (two_numbers stands fixed terms s k id j v u at is.1 live on is.0 (zeroth ∙ sym first));
              others = theirs.others;
              spent = theirs.spent;
              ended = theirs.ended;
              parts = theirs.parts;
              grew = theirs.grew;
              inside = theirs.inside;
            })
            (at_set s.views id j w u old))
            (λ (is : new ≡ u). subst (Sits k.log terms (k.drawn + 1) k.serving) is (record {
              start = sits.start;
              mine = λ _. k.owners new.number (omega arith);
              own = λ _. none_before laws new.number v.seen k.log sits.start (k.owners new.number (omega arith));
              told = λ _. sits.told live;
              within = λ _. omega arith;
              first = λ _ zeroth. absurd (omega arith);
              others = λ _ _. (refl, refl);
              spent = λ off. absurd (true≢false off);
              ended = tt;
              parts = tt;
              grew = ([], refl);
              inside = λ t on. absurd (true≢false (sym (ap is_inside on)));
            }))
            (at_snoc views new u j e);
        home = λ h. k.home (λ j u e. dite (ℕ_discrete j id)
            (λ here. ap (λ (x : View T E). is_inside x.turn) (sym (one_there s.views id j v u at e here)) ∙ h id w (at_longer views (new ∷ []) id w (set_here s.views id w (at_length s.views id v at))))
            (λ apart. h j u (at_longer views (new ∷ []) j u (set_else s.views id j w apart ∙ e))));
        small = k.small;
      }

  pub learns : (id : ℕ) (me : Me (Option T) (View T E)) (slots : ℕ) → me.0.live ≡ true → Allows (Kept stands fixed terms) slots id me 0 (λ n. n) (learned (step slots 0 0 0 none) me)
  learns id me slots live s k _ at fits =
      let v = me.0 in let sits = k.each id v at in
      let P : List ℕ → Type 0 = λ ws. (w : View T E) × (a : Act (Option T)) × Valid s.homes me.1 a × Kept stands fixed terms (stepped (record s { words = ws }) 0 (get_or ws 0 0) id me.1 w a) × learned (step slots 0 0 0 none) me (get_or ws 0 0) (w, carried_after me.1 a) in
      subst P (sym k.words) (
        v,
        keeps,
        tt,
        subst (Kept stands fixed terms) (λ i. record { words = k.words i; homes = s.homes; views = sym (set_again s.views id v at) i }) k,
        (
          refl,
          record {
            own = sits.own live;
            parts = their_parts v.seen v.ended sits.parts;
            grew = sits.grew;
            room = λ first. let a = total_at seats s.views id v at in let q = k.seated in let b = sits.first live first in let l : one_if v.live ≡ 1 = ap one_if live in let d : seats_of v.terms ≡ terms.seats = ap seats_of (sits.told live) in omega arith;
          },
        ),
      )

  pub folds : (laws : HistoryLaws E) (id : ℕ) (v : View T E) (other : ℕ) (w : View T E) → v.live ≡ true → v.number ≡ 0 → w.live ≡ true → w.turn ≡ Out → Joins (Kept stands fixed terms) id v other w (folded_view v w) spent_view
  folds laws id v other w live first on out s k at apart there =
      let x : View T E = folded_view v w in
      let middle : List (View T E) = set s.views id x in
      let at' : get_elem? s.views other ≡ some w = sym (set_else s.views id other x apart) ∙ there in
      let sits = k.each id v at in
      let theirs = k.each other w at' in
      let e : Ended E = end_of w in
      let none_ended : w.ended ≡ [] = (theirs.others on (λ zeroth. two_numbers stands fixed terms s k id other v w at at' live on apart (zeroth ∙ sym first))).1 in
      let views : List (View T E) = set middle other spent_view in
      let here : get_elem? views id ≡ some x = set_else middle other id spent_view (λ is. apart (sym is)) ∙ set_here s.views id x (at_length s.views id v at) in
      let one : one_if w.live ≡ 1 = ap one_if on in
      let long : length w.ended ≡ 0 = ap length none_ended in record {
        log = k.log;
        drawn = k.drawn;
        tickets = k.tickets;
        serving = k.serving;
        words = k.words;
        queue = λ t. let f = λ (u : View T E). has_ticket t u.turn in let a = total_set f s.views id v x at in let b = total_set f middle other w spent_view there in let q = k.queue t in let z : has_ticket t w.turn ≡ 0 = ap (has_ticket t) out in omega arith;
        numbers = λ n. let a = total_set (bears n) s.views id v x at in let b = total_set (bears n) middle other w spent_view there in let q = k.numbers n in let c = times_snoc n v.ended e in
            let d : ended_times n w.ended ≡ 0 = ap (ended_times n) none_ended in let y : one_if (w.live && eqb w.number n) ≡ one_if (eqb w.number n) = ap (λ l. one_if (l && eqb w.number n)) on in omega arith;
        seated = let a = total_set seats s.views id v x at in let b = total_set seats middle other w spent_view there in let q = k.seated in let c = length-append v.ended (e ∷ []) in omega arith;
        some_spare = k.some_spare;
        made_in_all = let a = total_set made s.views id v x at in let b = total_set made middle other w spent_view there in let q = k.made_in_all in let c = holds_snoc v.ended e in let d : ended_holds w.ended ≡ 0 = ap ended_holds none_ended in omega arith;
        short = k.short;
        owners = k.owners;
        known = let j = k.known.0 in let u = k.known.1 in let is = k.known.2 in let seen = k.known.3 in dite (ℕ_discrete j id)
            (λ e. let all : v.seen ≡ k.log = ap (λ (y : View T E). y.seen) (one_there s.views id j v u at is e) ∙ seen in
            (id, x, here, longer_cases (λ l. l ≡ k.log) v.seen w.seen (λ lt. let l = laws.goes_on.length_ w.seen k.log theirs.start in let m : length v.seen ≡ length k.log = ap length all in absurd (omega arith)) (λ _. all)))
            (λ ne. dite (ℕ_discrete j other)
            (λ e. let all : w.seen ≡ k.log = ap (λ (y : View T E). y.seen) (one_there s.views other j w u at' is e) ∙ seen in
            (id, x, here, longer_cases (λ l. l ≡ k.log) v.seen w.seen (λ _. all) (λ le. whole_is v.seen k.log sits.start (let m : length w.seen ≡ length k.log = ap length all in omega arith))))
            (λ no. (j, u, set_else middle other j spent_view no ∙ (set_else s.views id j x ne ∙ is), seen)));
        each = each_set middle other spent_view (Sits k.log terms k.drawn k.serving)
            (λ i y _ is. each_set s.views id x (Sits k.log terms k.drawn k.serving) (λ j u _ d. k.each j u d)
            (record {
              start = longer_cases (λ l. GoesOn l k.log) v.seen w.seen (λ _. theirs.start) (λ _. sits.start);
              mine = sits.mine;
              own = λ _. longer_cases (λ l. calls_of v.number l ≡ v.mine) v.seen w.seen
                  (λ lt. same_between laws v.number v.seen w.seen k.log (laws.shorter v.seen w.seen k.log sits.start theirs.start (omega arith)) theirs.start (sits.own live ∙ sym (sits.mine live)) ∙ sits.own live)
                  (λ _. sits.own live);
              told = sits.told;
              within = sits.within;
              first = sits.first;
              others = λ _ n. absurd (n first);
              spent = λ off. absurd (true≢false (sym live ∙ off));
              ended = ended_snoc k.log terms.holds v.ended e sits.ended (theirs.mine on, theirs.within on);
              parts = longer_cases (λ l. HaveSeen l (v.ended ++ e ∷ [])) v.seen w.seen
                  (λ lt. parts_snoc w.seen v.ended e (parts_more laws v.seen w.seen v.ended (laws.shorter v.seen w.seen k.log sits.start theirs.start (omega arith)) sits.parts) ([], refl))
                  (λ le. parts_snoc v.seen v.ended e sits.parts (laws.shorter w.seen v.seen k.log theirs.start sits.start le));
              grew = longer_cases (λ l. GoesOn v.seen l) v.seen w.seen (λ lt. laws.shorter v.seen w.seen k.log sits.start theirs.start (omega arith)) (λ _. ([], refl));
              inside = λ t is. let z = sits.inside t is in (z.0, longer_cases (λ l. l ≡ k.log) v.seen w.seen (λ lt. let l = laws.goes_on.length_ w.seen k.log theirs.start in let m : length v.seen ≡ length k.log = ap length z.1 in absurd (omega arith)) (λ _. z.1));
            }) i y is)
            (record {
              start = (k.log, sym (append-nil k.log));
              mine = λ off. absurd (true≢false (sym off));
              own = λ off. absurd (true≢false (sym off));
              told = λ off. absurd (true≢false (sym off));
              within = λ off. absurd (true≢false (sym off));
              first = λ off. absurd (true≢false (sym off));
              others = λ off. absurd (true≢false (sym off));
              spent = λ _. (refl, refl, refl);
              ended = tt;
              parts = tt;
              grew = ([], refl);
              inside = λ t is. absurd (true≢false (sym (ap is_inside is)));
            });
        home = λ h. k.home (were_out s.views id v x at (h id x here) (were_out middle other w spent_view there (ap is_inside out) h));
        small = k.small;
      }
