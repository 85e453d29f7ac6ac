-- The three steps of a hold keep the rule: drawing a ticket, looking which is served, giving the value back.
use Rattle.std.proofs.Common.{◌≡◌, ◌≢◌, ℕ, suc, ◌+◌, ◌*◌, ◌%◌, ◌^◌, ◌<◌, ◌≤◌, true, false, eqb, List, [], ◌∷◌, ◌++◌, length, get_or, Option, Some, sym, refl, ap, ◌∙◌, subst, arith, true≢false, length-append, eq-eqb}
use mathlib.Core.Logic.{dite}
use mathlib.Core.Option.{some, none}
use native.Mathlib.Decide.{ℕ_discrete}
use lib.ListN.{get_elem?}
use Rattle.std.proofs.Common.{⊎_elim}
use Rattle.atomic_table.specs.Table.{Me, step, Act, keeps, takes, gives, Valid, stepped, Allows, put_back, carried_after}
use Rattle.atomic_table.proofs.Lists.{at_set, set_here, set_again}
use Rattle.histories.specs.Histories.{History, calls_of, by}
use Rattle.turn_lock.specs.InsideHistoryLaws.{HistoryLaws}
use Rattle.turn_lock.specs.declared.view.Terms.{Terms}
use Rattle.turn_lock.specs.declared.view.Turn.TheVariants.{Out, Waits, Inside}
use Rattle.turn_lock.specs.declared.view.View.{View}
use Rattle.turn_lock.specs.Views.{is_inside}
use Rattle.turn_lock.specs.InsideViews.{ticket_of, waiting, entered, given_view}
use Rattle.turn_lock.specs.InsideRule.{one_if, has_ticket, ended_times, made, bears, seats, Sits, Kept}
use Rattle.turn_lock.specs.InsidePlays.{drew, looked, gave}
use Rattle.turn_lock.proofs.Sums.{total_set, below_next, one_at}
use Rattle.turn_lock.proofs.Endings.{ended_more, parts_more, some_one}
use Rattle.turn_lock.proofs.Views.{at_length, each_set, live_bears, known_set, were_out, few, alone, served, not_inside, other_number, number_drawn, none_ended}

length_by : {E : Type 0} (o : ℕ) (es : List E) → length (by o es) ≡ length es
length_by o [] = refl
length_by o (e ∷ es) = ap suc (length_by o es)

module _ {T E F : Type 0} (stands : History E → T → Type 0) (fixed : T → F) (terms : Terms T) where
  abbrev M : Type 0
  M = Me (Option T) (View T E)

  pub draws : (id : ℕ) (me : M) (slots : ℕ) → me.0.live ≡ true → me.0.turn ≡ Out → me.0.holds < terms.holds
      → Allows (Kept stands fixed terms) slots id me 0 (λ n. (n + 1) % 2 ^ 64) (drew (step slots 0 1 0 none) me)
  draws id me slots live out room s k _ at fits =
      let v = me.0 in
      let w : View T E = waiting v k.tickets in
      let most = few stands fixed terms s k in let small = k.small in
      let n : (k.tickets + 1) % 2 ^ 64 ≡ k.tickets + 1 = omega arith in
      let P : List ℕ → Type 0 = λ ws. (w : View T E) × (a : Act (Option T)) × Valid s.homes me.1 a × Kept stands fixed terms (stepped (record s { words = ws }) 0 ((get_or ws 0 0 + 1) % 2 ^ 64) id me.1 w a) × drew (step slots 0 1 0 none) me (get_or ws 0 0) (w, carried_after me.1 a) in
      subst P (sym k.words) (
        w,
        keeps,
        tt,
        record {
          log = k.log;
          drawn = k.drawn;
          tickets = k.tickets + 1;
          serving = k.serving;
          words = ap (λ (x : ℕ). x ∷ k.serving ∷ []) n;
          queue = λ t. let a = total_set (λ (u : View T E). has_ticket t u.turn) s.views id v w at in let q = k.queue t in let z : has_ticket t v.turn ≡ 0 = ap (has_ticket t) out in
              let b = below_next t k.tickets in omega arith;
          numbers = λ m. let a = total_set (bears m) s.views id v w at in let q = k.numbers m in omega arith;
          seated = let a = total_set seats s.views id v w at in let q = k.seated in omega arith;
          some_spare = k.some_spare;
          made_in_all = let a = total_set made s.views id v w at in let q = k.made_in_all in omega arith;
          short = k.short;
          owners = k.owners;
          known = known_set s.views id v w k.log at refl k.known.0 k.known.1 k.known.2 k.known.3;
          each = each_set s.views id w (Sits k.log terms k.drawn k.serving) (λ j u _ e. k.each j u e)
              (let sits = k.each id v at in record {
                start = sits.start;
                mine = sits.mine;
                own = sits.own;
                told = sits.told;
                within = λ _. omega arith;
                first = sits.first;
                others = sits.others;
                spent = λ off. absurd (true≢false (sym live ∙ off));
                ended = sits.ended;
                parts = sits.parts;
                grew = sits.grew;
                inside = λ t is. absurd (true≢false (sym (ap is_inside is)));
              });
          home = λ h. k.home (were_out s.views id v w at (ap is_inside out) h);
          small = k.small;
        },
        refl,
      )

  pub looks : (laws : HistoryLaws E) (id : ℕ) (me : M) (slots t : ℕ) → me.0.live ≡ true → me.0.turn ≡ Waits t
      → Allows (Kept stands fixed terms) slots id me 1 (λ n. n) (looked stands fixed (step slots 1 0 0 none) me)
  looks laws id me slots t live waits s k _ at fits =
      let v = me.0 in
      let mine : ticket_of v.turn ≡ t = ap ticket_of waits in
      let P : List ℕ → Type 0 = λ ws. (w : View T E) × (a : Act (Option T)) × Valid s.homes me.1 a × Kept stands fixed terms (stepped (record s { words = ws }) 1 (get_or ws 1 0) id me.1 w a) × looked stands fixed (step slots 1 0 0 none) me (get_or ws 1 0) (w, carried_after me.1 a) in
      subst P (sym k.words) (dite (ℕ_discrete k.serving t)
      (λ now.
      let one : has_ticket t v.turn ≡ 1 = ap (has_ticket t) waits ∙ one_at t in
      let out : (j : ℕ) (u : View T E) → get_elem? s.views j ≡ some u → is_inside u.turn ≡ false = λ j u e. not_inside stands fixed terms s k t id v at one now (ap is_inside waits) j u e in
      let found = k.home out in
      let x : T = found.0 in
      let w : View T E = entered v k.log in
      let sits = k.each id v at in (
        w,
        takes 0 (Some x),
        found.1,
        record {
          log = k.log;
          drawn = k.drawn;
          tickets = k.tickets;
          serving = k.serving;
          words = refl;
          queue = λ n. let a = total_set (λ (u : View T E). has_ticket n u.turn) s.views id v w at in let q = k.queue n in let z : has_ticket n v.turn ≡ one_if (eqb t n) = ap (has_ticket n) waits in
              let y : has_ticket n w.turn ≡ one_if (eqb t n) = ap (λ m. one_if (eqb m n)) mine in omega arith;
          numbers = λ m. let a = total_set (bears m) s.views id v w at in let q = k.numbers m in omega arith;
          seated = let a = total_set seats s.views id v w at in let q = k.seated in omega arith;
          some_spare = k.some_spare;
          made_in_all = let a = total_set made s.views id v w at in let q = k.made_in_all in omega arith;
          short = k.short;
          owners = k.owners;
          known = (id, w, set_here s.views id w (at_length s.views id v at), refl);
          each = each_set s.views id w (Sits k.log terms k.drawn k.serving) (λ j u _ e. k.each j u e)
              (record {
                start = ([], refl);
                mine = sits.mine;
                own = sits.mine;
                told = sits.told;
                within = sits.within;
                first = sits.first;
                others = sits.others;
                spent = λ off. absurd (true≢false (sym live ∙ off));
                ended = sits.ended;
                parts = parts_more laws v.seen k.log v.ended sits.start sits.parts;
                grew = laws.goes_on.trans v.before v.seen k.log sits.grew sits.start;
                inside = λ n is. (sym (ap ticket_of is) ∙ (mine ∙ sym now), refl);
              });
          home = λ h. absurd (true≢false (h id w (set_here s.views id w (at_length s.views id v at))));
          small = k.small;
        },
        (
          (λ _. (
            k.log,
            x,
            refl,
            record {
              start = sits.start;
              mine = sits.mine live;
              value = found.2;
              same = λ n is. let e : terms ≡ n = some_one terms n (sym (sits.told live) ∙ is) in
                  let most = few stands fixed terms s k in let le = k.short in let lt = served stands fixed terms s k t id v at one in
                  subst (λ (m : Terms T). (fixed x ≡ fixed m.origin.value) × (length k.log < m.seats * m.holds) × (m.seats * m.holds < 2 ^ 62)) e (found.3, (let y : ℕ = terms.seats * terms.holds in omega arith), k.small);
            },
          )),
          (λ no. absurd (no (now ∙ sym mine))),
        ),
      ))
      (λ later. (
        v,
        keeps,
        tt,
        subst (Kept stands fixed terms) (λ i. record { words = k.words i; homes = s.homes; views = sym (set_again s.views id v at) i }) k,
        ((λ hit. absurd (later (hit ∙ mine))), (λ _. refl)),
      )))

  pub gives_turn : (laws : HistoryLaws E) (id : ℕ) (me : M) (slots t : ℕ) (x : T) (es : List E) → slots ≡ 1 → me.0.live ≡ true → me.0.turn ≡ Inside t → me.1 ≡ (0, Some x) ∷ [] → length es ≤ 1
      → stands (by me.0.number es ++ me.0.seen) x → fixed x ≡ fixed terms.origin.value
      → Allows (Kept stands fixed terms) slots id me 1 (λ n. (n + 1) % 2 ^ 64) (gave es (step slots 1 1 0 none) me)
  gives_turn laws id me slots t x es one_slot live inside holds few_new ok same s k wide at fits =
      let v = me.0 in
      let w : View T E = given_view v es in
      let sits = k.each id v at in
      let now = (sits.inside t inside).0 in
      let whole = (sits.inside t inside).1 in
      let one : has_ticket t v.turn ≡ 1 = ap (has_ticket t) inside ∙ one_at t in
      let new : History E = by v.number es in
      let long : length new ≡ length es = length_by v.number es in
      let most = few stands fixed terms s k in let small = k.small in let lt = served stands fixed terms s k t id v at one in
      let n : (k.serving + 1) % 2 ^ 64 ≡ k.serving + 1 = omega arith in
      let drawn : v.number < k.drawn = number_drawn stands fixed terms s k id v at live in
      let none_is : ended_times v.number v.ended ≡ 0 = none_ended stands fixed terms s k id v at live in
      let P : List ℕ → Type 0 = λ ws. (w : View T E) × (a : Act (Option T)) × Valid s.homes me.1 a × Kept stands fixed terms (stepped (record s { words = ws }) 1 ((get_or ws 1 0 + 1) % 2 ^ 64) id me.1 w a) × gave es (step slots 1 1 0 none) me (get_or ws 1 0) (w, carried_after me.1 a) in
      subst P (sym k.words) (
        w,
        gives,
        tt,
        record {
          log = new ++ k.log;
          drawn = k.drawn;
          tickets = k.tickets;
          serving = k.serving + 1;
          words = ap (λ (x : ℕ). k.tickets ∷ x ∷ []) n;
          queue = λ m. let a = total_set (λ (u : View T E). has_ticket m u.turn) s.views id v w at in let q = k.queue m in
              let z : has_ticket m v.turn ≡ one_if (eqb k.serving m) = ap (has_ticket m) inside ∙ ap (λ i. one_if (eqb i m)) now in let b = below_next m k.serving in omega arith;
          numbers = λ m. let a = total_set (bears m) s.views id v w at in let q = k.numbers m in omega arith;
          seated = let a = total_set seats s.views id v w at in let q = k.seated in omega arith;
          some_spare = k.some_spare;
          made_in_all = let a = total_set made s.views id v w at in let q = k.made_in_all in omega arith;
          short = let a = length-append new k.log in let b = k.short in omega arith;
          owners = λ o far. laws.calls_of_both o new k.log ∙ (ap (λ (l : List E). l ++ calls_of o k.log) (laws.calls_of_one.others o v.number es (λ (is : o ≡ v.number). omega arith)) ∙ k.owners o far);
          known = (id, w, set_here s.views id w (at_length s.views id v at), ap (λ (l : History E). new ++ l) whole);
          each = λ j u e. ⊎_elim
              (λ (is : (j ≡ id) × (w ≡ u)). subst (Sits (new ++ k.log) terms k.drawn (k.serving + 1)) is.1 (record {
                start = ([], ap (λ (l : History E). new ++ l) (sym whole));
                mine = λ _. laws.calls_of_both v.number new k.log ∙ (ap (λ (l : List E). calls_of v.number new ++ l) (sits.mine live) ∙ ap (λ (l : List E). l ++ v.mine) (laws.calls_of_one.own v.number es));
                own = λ _. laws.calls_of_both v.number new v.seen ∙ (ap (λ (l : List E). calls_of v.number new ++ l) (sits.own live) ∙ ap (λ (l : List E). l ++ v.mine) (laws.calls_of_one.own v.number es));
                told = sits.told;
                within = sits.within;
                first = sits.first;
                others = sits.others;
                spent = λ off. absurd (true≢false (sym live ∙ off));
                ended = ended_more laws k.log terms.holds v.number es v.ended none_is sits.ended;
                parts = parts_more laws v.seen (new ++ v.seen) v.ended (new, refl) sits.parts;
                grew = laws.goes_on.trans v.before v.seen (new ++ v.seen) sits.grew (new, refl);
                inside = λ n is. absurd (true≢false (sym (ap is_inside is)));
              }))
              (λ (is : (j ≢ id) × (get_elem? s.views j ≡ some u)). let theirs = k.each j u is.1 in let apart = other_number stands fixed terms s k id j v u at is.1 live is.0 in record {
                start = laws.goes_on.trans u.seen k.log (new ++ k.log) theirs.start (new, refl);
                mine = λ on. let differs : u.number ≡ v.number → ⊥ = λ e. (let b = live_bears u v.number on (sym e) in omega arith) in
                    laws.calls_of_both u.number new k.log ∙ (ap (λ (l : List E). l ++ calls_of u.number k.log) (laws.calls_of_one.others u.number v.number es differs) ∙ theirs.mine on);
                own = theirs.own;
                told = theirs.told;
                within = theirs.within;
                first = theirs.first;
                others = theirs.others;
                spent = theirs.spent;
                ended = ended_more laws k.log terms.holds v.number es u.ended (omega arith) theirs.ended;
                parts = theirs.parts;
                grew = theirs.grew;
                inside = λ n on. let z = theirs.inside n on in absurd (alone stands fixed terms s k t id j v u at is.1 one (ap (has_ticket t) on ∙ ap one_if (eq-eqb n t (z.0 ∙ sym now))) is.0);
              })
              (at_set s.views id j w u e);
          home = λ _. (x, ap (λ c. get_elem? (put_back s.homes c) 0) holds ∙ set_here s.homes 0 (some (Some x)) (omega arith), subst (λ (l : History E). stands (new ++ l) x) whole ok, same);
          small = k.small;
        },
        refl,
      )
