-- Lemmas on stretches of a history that one owner made alone.
use Rattle.std.proofs.Common.{◌≡◌, ℕ, Bool, true, ◌==◌, cond, List, [], ◌∷◌, ◌++◌, length, refl, ap, sym, subst, ◌∙◌, arith, append_assoc, length-append}
use Rattle.std.specs.List.{list_all}
use Rattle.std.proofs.lemmas.Bool.{and_parts, eqb-true}
use Rattle.std.proofs.lemmas.List.Folds.{list_all-append}
use Rattle.histories.specs.Histories.{History, calls_of, by, GoesOn, Grew, Alone}
use Rattle.histories.specs.Relations.{OneLater, AloneIsOwn}

module _ {E : Type 0} where
  heads_same : (a b xs ys : List E) → length a ≡ length b → a ++ xs ≡ b ++ ys → a ≡ b
  heads_same [] [] xs ys n e = refl
  heads_same [] (y ∷ b) xs ys n e = absurd (omega (arith, n))
  heads_same (x ∷ a) [] xs ys n e = absurd (omega (arith, n))
  heads_same (x ∷ a) (y ∷ b) xs ys n e =
      let hs : x ≡ y = cc in
      let ts : a ++ xs ≡ b ++ ys = cc in
      let m : length a ≡ length b = omega (arith, n) in
      let r = heads_same a b xs ys m ts in cc

  heads : (a b xs : List E) → a ++ xs ≡ b ++ xs → a ≡ b
  heads a b xs e =
      let n : length (a ++ xs) ≡ length (b ++ xs) = ap length e in
      let p = length-append a xs in
      let q = length-append b xs in
      heads_same a b xs xs (omega (arith, n, p, q)) e

module _ {E : Type 0} where
  all_own : (o : ℕ) (later : History E) → list_all (λ (x : ℕ × E). x.0 == o) later ≡ true → later ≡ by o (calls_of o later)
  all_own o [] a = refl
  all_own o (x ∷ later) a =
      let parts = and_parts (x.0 == o) (list_all (λ (y : ℕ × E). y.0 == o) later) a in
      let r = all_own o later parts.1 in
      let n : x.0 ≡ o = eqb-true x.0 o parts.0 in
      subst (λ (b : Bool). x ∷ later ≡ by o (cond b (x.1 ∷ calls_of o later) (calls_of o later))) (sym parts.0)
      (ap (λ (l : History E). x ∷ l) r ∙ ap (λ (m : ℕ). (m, x.1) ∷ by o (calls_of o later)) n)

  alone_own : (o : ℕ) (old new : History E) (own : List E) → Grew o old new own → Alone o old new → new ≡ by o own ++ old
  alone_own o old new own w a =
      let same : a.later ≡ w.later = heads a.later w.later old (sym a.is ∙ w.is) in
      let mine : a.later ≡ by o own = all_own o a.later a.alone ∙ ap (by o) (ap (calls_of o) same ∙ w.own_are) in
      a.is ∙ ap (λ (l : History E). l ++ old) mine

  pub record Parts (o : ℕ) (f g h : History E) : Type 0 where
    pub first : Alone o f g
    pub second : Alone o g h

  alone_parts : (o : ℕ) (f g h : History E) → GoesOn f g → GoesOn g h → Alone o f h → Parts o f g h
  alone_parts o f g h p q a =
      let is : h ≡ (q.0 ++ p.0) ++ f = q.1 ∙ (ap (λ (w : History E). q.0 ++ w) p.1 ∙ sym (append_assoc q.0 p.0 f)) in
      let same : a.later ≡ q.0 ++ p.0 = heads a.later (q.0 ++ p.0) f (sym a.is ∙ is) in
      let both = and_parts (list_all (λ (x : ℕ × E). x.0 == o) q.0) (list_all (λ (x : ℕ × E). x.0 == o) p.0)
      (sym (list_all-append (λ (x : ℕ × E). x.0 == o) q.0 p.0) ∙ (ap (list_all (λ (x : ℕ × E). x.0 == o)) (sym same) ∙ a.alone)) in
      record {
        first = record { later = p.0; is = p.1; alone = both.1 };
        second = record { later = q.0; is = q.1; alone = both.0 };
      }

  pub one_later : OneLater E
  one_later = heads {E = ℕ × E}

  pub alone_is_own : AloneIsOwn E
  alone_is_own = record {
    own = alone_own;
    same = λ o old new w a. alone_own o old new [] (record { later = w.later; is = w.is; own_are = w.none }) a;
    first = λ o f g h p q a. (alone_parts o f g h p q a).first;
    second = λ o f g h p q a. (alone_parts o f g h p q a).second;
  }
