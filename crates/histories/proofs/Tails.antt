-- Lemmas on one history going on to another.
use Rattle.std.proofs.Common.{◌≡◌, ◌≤◌, ◌-◌, [], ◌∷◌, ◌++◌, length, drop, refl, ap, sym, ◌∙◌, arith, append_assoc, length-append}
use Rattle.histories.specs.Histories.{History, first, GoesOn}

module _ {E : Type 0} where
  pub goes_on_trans : (f g h : History E) → GoesOn f g → GoesOn g h → GoesOn f h
  goes_on_trans f g h p q = (q.0 ++ p.0, q.1 ∙ (ap (λ (w : History E). q.0 ++ w) p.1 ∙ sym (append_assoc q.0 p.0 f)))

  pub length-goes_on : (g h : History E) → GoesOn g h → length g ≤ length h
  length-goes_on g h p = let e : length h ≡ length (p.0 ++ g) = ap length p.1 in let n = length-append p.0 g in omega arith

  tails : (a b f g : History E) → a ++ g ≡ b ++ f → length f ≤ length g → GoesOn f g
  tails [] b f g e le = (b, e)
  tails (x ∷ a) [] f g e le = let n : length ((x ∷ a) ++ g) ≡ length f = ap length e in let m = length-append a g in absurd (omega arith)
  tails (x ∷ a) (y ∷ b) f g e le = tails a b f g (cc) le

  pub shorter : (f g h : History E) → GoesOn f h → GoesOn g h → length f ≤ length g → GoesOn f g
  shorter f g h p q le = tails q.0 p.0 f g (sym q.1 ∙ p.1) le

  drop_whole : (later g : History E) → drop (length later) (later ++ g) ≡ g
  drop_whole [] g = refl
  drop_whole (x ∷ later) g = drop_whole later g

  pub first_prefix : (g h : History E) → GoesOn g h → first (length g) h ≡ g
  first_prefix g h p =
      let e : length h ≡ length (p.0 ++ g) = ap length p.1 in let m = length-append p.0 g in
      let n : length h - length g ≡ length p.0 = omega arith in
      ap (λ m. drop m h) n ∙ (ap (λ (w : History E). drop (length p.0) w) p.1 ∙ drop_whole p.0 g)
