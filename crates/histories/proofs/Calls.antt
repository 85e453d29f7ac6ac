-- Lemmas on the calls of an owner.
use Rattle.std.proofs.Common.{◌≡◌, ℕ, true, false, eqb, cond, List, [], ◌∷◌, ◌++◌, length, refl, ap, sym, ◌∙◌, arith, append_assoc, length-append, eq-eqb, ne_eqb}
use Rattle.histories.specs.Histories.{History, calls_of, by, GoesOn, Others}

module _ {E : Type 0} where
  pub calls_append : (o : ℕ) (later old : History E) → calls_of o (later ++ old) ≡ calls_of o later ++ calls_of o old
  calls_append o [] old = refl
  calls_append o (x ∷ later) old = let r = calls_append o later old in
      elim (eqb x.0 o) as (λ b. cond b (x.1 ∷ calls_of o (later ++ old)) (calls_of o (later ++ old)) ≡ cond b (x.1 ∷ calls_of o later) (calls_of o later) ++ calls_of o old) [ true ↦ ap (λ (l : List E). x.1 ∷ l) r | false ↦ r ]

  pub calls_own : (o : ℕ) (entries : List E) → calls_of o (by o entries) ≡ entries
  calls_own o [] = refl
  calls_own o (e ∷ es) = rw (eq-eqb o o refl) (ap (λ (l : List E). e ∷ l) (calls_own o es))

  pub calls_other : (o p : ℕ) (entries : List E) → (o ≡ p → ⊥) → calls_of o (by p entries) ≡ []
  calls_other o p [] n = refl
  calls_other o p (e ∷ es) n = rw (ne_eqb p o (λ q. n (sym q))) (calls_other o p es n)

  nothing_left : (l : List E) → length l ≡ 0 → l ≡ []
  nothing_left [] e = refl
  nothing_left (x ∷ l) e = absurd (omega (arith, e))

  pub others_alone : (o : ℕ) (old new : History E) → GoesOn old new → calls_of o old ≡ calls_of o new → Others o old new
  others_alone o old new g same = record {
    later = g.0;
    is = g.1;
    none = nothing_left (calls_of o g.0) (let e : calls_of o g.0 ++ calls_of o old ≡ calls_of o new = sym (ap (calls_of o) g.1 ∙ calls_append o g.0 old) in
        let n : length (calls_of o g.0 ++ calls_of o old) ≡ length (calls_of o new) = ap length e in let m = length-append (calls_of o g.0) (calls_of o old) in
        let x : length (calls_of o old) ≡ length (calls_of o new) = ap length same in omega arith);
  }

  pub others_same : (o : ℕ) (old new : History E) → Others o old new → calls_of o new ≡ calls_of o old
  others_same o old new w = ap (calls_of o) w.is ∙ (calls_append o w.later old ∙ ap (λ (l : List E). l ++ calls_of o old) w.none)

  pub others_trans : (o : ℕ) (f g h : History E) → Others o f g → Others o g h → Others o f h
  others_trans o f g h a b = record {
    later = b.later ++ a.later;
    is = b.is ∙ (ap (λ (w : History E). b.later ++ w) a.is ∙ sym (append_assoc b.later a.later f));
    none = calls_append o b.later a.later ∙ (ap (λ (l : List E). l ++ calls_of o a.later) b.none ∙ a.none);
  }
