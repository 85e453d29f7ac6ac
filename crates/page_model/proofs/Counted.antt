-- The numbers of faults of the store.
use Rattle.std.proofs.Common.{Bool, [], ap, arith, cond, false, inl, inr, max, nat_lt, refl, subst, sym, true, ℕ, ◌++◌, ◌==◌, ◌∙◌, ◌∷◌, ◌<◌, ◌≡◌, ◌≤◌}
use Rattle.std.proofs.Math.Nat.{le-max_left, le-max_right}
use Rattle.std.proofs.lemmas.Bool.{cases_Bool, cond-true, eq-eqb, eqb-true, false_from_ne_true, ltb-true, or_cases, or_from}
use Rattle.std.specs.List.{list_any}
use Rattle.histories.specs.Histories.{History, HasNew}
use Rattle.page_base.specs.Pages.{same}
use Rattle.page_base.specs.declared.keys.Key.{Key}
use Rattle.page_model.specs.declared.entry.Entry.{Entry}
use Rattle.page_model.specs.declared.entry.Entry.TheVariants.{ReadFailed, WriteFailed}
use Rattle.page_model.specs.Laws.{FaultsAreCounted, IsCounted, ReadFaultIsNew, is_fault_of}
use Rattle.page_model.specs.Legal.{IsLegal}
use Rattle.page_model.specs.Setups.{Setup, first_count}
use Rattle.page_model.specs.StoreFaults.{CountsRise, last_fault, read_fault}
use Rattle.page_model.proofs.Keys.{same-true}
use Rattle.page_model.proofs.Prefixes.{legal_below}

at_least : (b : Bool) (m x y : ℕ) → y ≤ x → y ≤ cond b (max m x) x
at_least true m x y le = let top = le-max_right m x in omega (arith, le, top)
at_least false m x y le = le

first_least : (s : Setup) (h : History Entry) (r : ℕ) → first_count s r ≤ last_fault s h r
first_least s [] r = omega arith
first_least s ((o, ReadFailed k n) ∷ h) r = at_least (k.region == r) n (last_fault s h r) (first_count s r) (first_least s h r)
first_least s ((o, WriteFailed k n) ∷ h) r = at_least (k.region == r) n (last_fault s h r) (first_count s r) (first_least s h r)
first_least s (x ∷ h) r = first_least s h r

grows : (s : Setup) (later g : History Entry) (r : ℕ) → last_fault s g r ≤ last_fault s (later ++ g) r
grows s [] g r = omega arith
grows s ((o, ReadFailed k n) ∷ later) g r = at_least (k.region == r) n (last_fault s (later ++ g) r) (last_fault s g r) (grows s later g r)
grows s ((o, WriteFailed k n) ∷ later) g r = at_least (k.region == r) n (last_fault s (later ++ g) r) (last_fault s g r) (grows s later g r)
grows s (x ∷ later) g r = grows s later g r

-- a number that was above all before, now that it is counted
counted : (s : Setup) (later g h : History Entry) (r n : ℕ) → CountsRise s g r n → last_fault s h r ≡ max n (last_fault s g r) → IsCounted s (later ++ h) r n
counted s later g h r n rise is = record {
  most = let a = le-max_left n (last_fault s g r) in let b = grows s later h r in omega (arith, a, b, is);
  above = elim (or_cases (nat_lt (last_fault s g r) n) (n == 18446744073709551615) rise) [
    | inl lt ↦ let a = first_least s g r in let b = ltb-true (last_fault s g r) n lt in inl (omega (arith, a, b))
    | inr top ↦ inr (eqb-true n 18446744073709551615 top)
  ];
}

-- the number of a new fault is above the first count, or the greatest
rises : (s : Setup) (h : History Entry) (r n : ℕ) → CountsRise s h r n → max n (last_fault s h r) ≤ first_count s r → first_count s r < 18446744073709551615 → ⊥
rises s h r n rise le lt =
    let least = le-max_left n (last_fault s h r) in
    elim (or_cases (nat_lt (last_fault s h r) n) (n == 18446744073709551615) rise) [
      | inl above ↦ let a = ltb-true (last_fault s h r) n above in let b = first_least s h r in omega (arith, a, b, least, le)
      | inr top ↦ let a = eqb-true n 18446744073709551615 top in omega (arith, a, least, le, lt)
    ]

elsewhere : (s : Setup) (h : History Entry) (q r n : ℕ) → CountsRise s h q n → cond (q == r) (max n (last_fault s h r)) (last_fault s h r) ≤ first_count s r → first_count s r < 18446744073709551615 → (q == r) ≡ false
elsewhere s h q r n rise le lt = false_from_ne_true (q == r) (λ t. rises s h r n (subst (λ (x : ℕ). CountsRise s h x n) (eqb-true q r t) rise) (subst (λ b. cond b (max n (last_fault s h r)) (last_fault s h r) ≤ first_count s r) t le) lt)

still_least : (s : Setup) (h : History Entry) (r n : ℕ) (b : Bool) → cond b (max n (last_fault s h r)) (last_fault s h r) ≤ first_count s r → last_fault s h r ≤ first_count s r
still_least s h r n b le = let a = at_least b n (last_fault s h r) (last_fault s h r) (omega arith) in omega (arith, a, le)

no_fault : (s : Setup) (h : History Entry) (r : ℕ) → IsLegal s h → last_fault s h r ≤ first_count s r → first_count s r < 18446744073709551615 → list_any (is_fault_of r) h ≡ false
no_fault s [] r l le lt = refl
no_fault s ((o, ReadFailed k n) ∷ h) r l le lt = or_from (k.region == r) (list_any (is_fault_of r) h) (elsewhere s h k.region r n l.2.1 le lt) (no_fault s h r l.0 (still_least s h r n (k.region == r) le) lt)
no_fault s ((o, WriteFailed k n) ∷ h) r l le lt = or_from (k.region == r) (list_any (is_fault_of r) h) (elsewhere s h k.region r n l.2.1 le lt) (no_fault s h r l.0 (still_least s h r n (k.region == r) le) lt)
no_fault s (x ∷ h) r l le lt = no_fault s h r l.0 le lt

pub faults_counted : FaultsAreCounted
faults_counted = record {
  read = λ s later g o n k l. counted s later g ((o, ReadFailed k n) ∷ g) k.region n (legal_below s later ((o, ReadFailed k n) ∷ g) l).2.1 (cond-true (k.region == k.region) (max n (last_fault s g k.region)) (last_fault s g k.region) (eq-eqb k.region k.region refl));
  write = λ s later g o n k l. counted s later g ((o, WriteFailed k n) ∷ g) k.region n (legal_below s later ((o, WriteFailed k n) ∷ g) l).2.1 (cond-true (k.region == k.region) (max n (last_fault s g k.region)) (last_fault s g k.region) (eq-eqb k.region k.region refl));
  first = first_least;
  none = no_fault;
  grows = λ s g h r p. subst (λ (w : History Entry). last_fault s g r ≤ last_fault s w r) (sym p.1) (grows s p.0 g r);
}

-- ---- failed reads

later_fault : (later old : History Entry) (k : Key) (n : ℕ) → read_fault (later ++ old) k ≡ n → (n ≡ read_fault old k → ⊥) → HasNew (λ (x : ℕ × Entry). x.1 ≡ ReadFailed k n) old (later ++ old)
later_fault [] old k n is differs = absurd (differs (sym is))
later_fault ((o, ReadFailed j m) ∷ later) old k n is differs = elim (cases_Bool (same j k)) [
  | inl e ↦
      let jk : j ≡ k = same-true j k e in
      let mn : m ≡ n = subst (λ b. cond b m (read_fault (later ++ old) k) ≡ n) e is in
      ((o, ReadFailed j m), record { later = []; older = later ++ old; is = refl; past = (later, refl) }, ap (λ (q : Key). ReadFailed q m) jk ∙ ap (λ (q : ℕ). ReadFailed k q) mn)
  | inr e ↦
      let x = later_fault later old k n (subst (λ b. cond b m (read_fault (later ++ old) k) ≡ n) e is) differs in
      (x.0, record { later = (o, ReadFailed j m) ∷ x.1.later; older = x.1.older; is = ap (λ (w : History Entry). (o, ReadFailed j m) ∷ w) x.1.is; past = x.1.past }, x.2)
]
later_fault (e ∷ later) old k n is differs =
    let x = later_fault later old k n is differs in
    (x.0, record { later = e ∷ x.1.later; older = x.1.older; is = ap (λ (w : History Entry). e ∷ w) x.1.is; past = x.1.past }, x.2)

pub fault_is_new : ReadFaultIsNew
fault_is_new old new k p differs =
    subst (λ (w : History Entry). HasNew (λ (x : ℕ × Entry). x.1 ≡ ReadFailed k (read_fault new k)) old w) (sym p.1)
    (later_fault p.0 old k (read_fault new k) (sym (ap (λ (w : History Entry). read_fault w k) p.1)) differs)
