-- Lemmas on a history that grows by an owner's entries.
use Rattle.std.proofs.Common.{◌≡◌, ℕ, true, false, ◌==◌, cond, List, [], ◌∷◌, ◌++◌, refl, ap, sym, subst, ◌∙◌, append_assoc, append-nil}
use Rattle.std.proofs.lemmas.Bool.{eqb-true}
use Rattle.histories.specs.Histories.{History, calls_of, by, GoesOn, Others, Grew, IsNew}
use Rattle.histories.specs.Relations.{GrowingAddsUp, GrownKnows, NewStays}
use Rattle.histories.proofs.Calls.{calls_append, calls_own}
use Rattle.histories.proofs.Tails.{goes_on_trans}

module _ {E : Type 0} where
  grew_twice : (o : ℕ) (f g h : History E) (first second : List E) → Grew o f g first → Grew o g h second → Grew o f h (second ++ first)
  grew_twice o f g h first second a b = record {
    later = b.later ++ a.later;
    is = b.is ∙ (ap (λ (w : History E). b.later ++ w) a.is ∙ sym (append_assoc b.later a.later f));
    own_are = calls_append o b.later a.later ∙ (ap (λ (x : List E). x ++ calls_of o a.later) b.own_are ∙ ap (λ (x : List E). second ++ x) a.own_are);
  }

  grew_after : (o : ℕ) (old found : History E) (own : List E) → Others o old found → Grew o old (by o own ++ found) own
  grew_after o old found own w = record {
    later = by o own ++ w.later;
    is = ap (λ (x : History E). by o own ++ x) w.is ∙ sym (append_assoc (by o own) w.later old);
    own_are = calls_append o (by o own) w.later ∙ (ap (λ (x : List E). x ++ calls_of o w.later) (calls_own o own) ∙ (ap (λ (x : List E). own ++ x) w.none ∙ append-nil own));
  }

  grew_calls : (o : ℕ) (old new : History E) (own : List E) → Grew o old new own → calls_of o new ≡ own ++ calls_of o old
  grew_calls o old new own w = ap (calls_of o) w.is ∙ (calls_append o w.later old ∙ ap (λ (x : List E). x ++ calls_of o old) w.own_are)

  -- the newest own entry is new
  newest : (o : ℕ) (later old : History E) (e : E) (own : List E) → calls_of o later ≡ e ∷ own → IsNew (o, e) old (later ++ old)
  newest o [] old e own is = absurd cc
  newest o (x ∷ later) old e own is = at (x.0 == o) refl (λ f. newest o later old e own f) is
    where
      at : (b : _) → (x.0 == o) ≡ b → (calls_of o later ≡ e ∷ own → IsNew (o, e) old (later ++ old)) → cond b (x.1 ∷ calls_of o later) (calls_of o later) ≡ e ∷ own → IsNew (o, e) old (x ∷ later ++ old)
      at true b rest f =
          let n : x.0 ≡ o = eqb-true x.0 o b in
          let m : x.1 ≡ e = cc in
          let is : x ≡ (o, e) = ap (λ (p : ℕ). (p, x.1)) n ∙ ap (λ (y : E). (o, y)) m in
          record { later = []; older = later ++ old; is = ap (λ (y : ℕ × E). y ∷ later ++ old) is; past = (later, refl) }
      at false b rest f = let w = rest f in record { later = x ∷ w.later; older = w.older; is = ap (λ (l : History E). x ∷ l) w.is; past = w.past }

  new_past : (x : ℕ × E) (e f g h : History E) → GoesOn e f → GoesOn g h → IsNew x f g → IsNew x e h
  new_past x e f g h before after n = record {
    later = after.0 ++ n.later;
    older = n.older;
    is = after.1 ∙ (ap (λ (w : History E). after.0 ++ w) n.is ∙ sym (append_assoc after.0 n.later (x ∷ n.older)));
    past = goes_on_trans e f n.older before n.past;
  }

  pub growing_adds_up : GrowingAddsUp E
  growing_adds_up = record {
    none = λ o h. record { later = []; is = refl; own_are = refl };
    others = λ o old new w. record { later = w.later; is = w.is; own_are = w.none };
    after_others = grew_after;
    twice = grew_twice;
  }

  pub grown_knows : GrownKnows E
  grown_knows = record {
    goes_on = λ o old new own w. (w.later, w.is);
    others = λ o old new w. record { later = w.later; is = w.is; none = w.own_are };
    calls = grew_calls;
    newest = λ o old new e own w. subst (λ (h : History E). IsNew (o, e) old h) (sym w.is) (newest o w.later old e own w.own_are);
  }

  pub new_stays : NewStays E
  new_stays = new_past
