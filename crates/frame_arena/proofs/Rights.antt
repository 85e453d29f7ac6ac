-- Rights to lifetimes are made, parted, and never had twice. Assumes `Logic`.
use Rattle.std.proofs.Common.{◌≡◌, ℕ, zero, suc, ◌+◌, ◌<◌, List, [], ◌∷◌, length, drop, refl, sym, ap, subst, arith, Bool, true, false}
use lib.Dec.{T, eqb, eqb→eq, eqb_refl}
use seplogic.Ra.Ura.{Ura}
use base.Fraction.{full_share}
use base.Logic.{ent, sep, emp, ex, guard, never, never_e, via, id⊢, snd∗}
use base.Fml.{flft}
use types.Logic.{Logic, sem}
use types.Kit.{join, ‵, raw, later, some, given, ◌$◌, ◌∵◌, !, qed, by, move, keep, use0, use2, fjoin, await, updating, now, show, check, done, pick, learn}
use types.Tokens.{lft_new, lft_end}
use denote.Steps.{nothing}
use Rattle.frame_arena.specs.InsideOwnership.{rights, first_right}

module _ {M : Type 1} {𝓤 : Ura M} (𝓛 : Logic 𝓤) where
  open 𝓛 use {H}

  abbrev pub Fresh : ℕ → List ℕ → Type 0
  Fresh n ls = length ls ≡ n

  pub rights_new : (n : ℕ) → ent 𝓤 (emp 𝓤) (H.⇛ (ex 𝓤 (λ (ls : List ℕ). guard 𝓤 (length ls ≡ n) (sem 𝓛 (rights ls)))))
  rights_new zero =
      qed 𝓛 [] ∵ updating ! $ now ! $ nothing ! $ show ! (λ (ls : List ℕ). guard 𝓤 (length ls ≡ 0) (sem 𝓛 (rights ls))) [] $ check ! refl $ done !
  rights_new (suc n) =
      qed 𝓛 [] ∵ updating ! $ lft_new ! tt (λ a. use0 𝓛 (later (some (λ (ls : List ℕ). given (length ls ≡ n) (‵ (rights ls))))) (rights_new n) $ await ! tt $
      pick ! (λ ls. learn ! (λ long. move ! (1 ∷ 0 ∷ []) $ fjoin ! $ now ! $
      show ! (λ (ls : List ℕ). guard 𝓤 (length ls ≡ suc n) (sem 𝓛 (rights ls))) (a ∷ ls) $ check ! (ap suc long) $ done !)))

  one : (k : ℕ) → k + 1 ≡ suc k
  one k = omega arith

  pub rights_tear : (n : ℕ) (ls : List ℕ) → n < length ls
      → ent 𝓤 (sem 𝓛 (rights (drop n ls))) (sep 𝓤 (sem 𝓛 (first_right (drop n ls))) (sem 𝓛 (rights (drop (n + 1) ls))))
  rights_tear n [] h = absurd (omega arith)
  rights_tear zero (a ∷ ls) h = id⊢ 𝓤 _
  rights_tear (suc n) (a ∷ ls) h =
      let next : n + 1 + 1 ≡ suc n + 1 = omega arith in
      subst (λ (k : ℕ). ent 𝓤 (sem 𝓛 (rights (drop n ls))) (sep 𝓤 (sem 𝓛 (first_right (drop n ls))) (sem 𝓛 (rights (drop k (a ∷ ls)))))) next
      (subst (λ (k : ℕ). ent 𝓤 (sem 𝓛 (rights (drop n ls))) (sep 𝓤 (sem 𝓛 (first_right (drop n ls))) (sem 𝓛 (rights (drop k (a ∷ ls)))))) (sym (one (n + 1))) (rights_tear n ls (omega arith)))

  right_twice : (ls : List ℕ) → ent 𝓤 (sep 𝓤 (sem 𝓛 (first_right ls)) (sem 𝓛 (first_right ls))) (H.⇛ (never 𝓤))
  right_twice [] = via 𝓤 _ (snd∗ 𝓤 (sem 𝓛 (first_right [])) _) (never_e 𝓤 _)
  right_twice (a ∷ ls) =
      qed 𝓛 (‵ (flft (a ∷ []) full_share) ∷ ‵ (flft (a ∷ []) full_share) ∷ []) ∵ updating ! $ lft_end ! tt $ now ! $ move ! (1 ∷ 0 ∷ []) $ by ! (𝓛.lfts.lft-dead (a ∷ []) full_share)

  abbrev pub Differ : List ℕ → ℕ → ℕ → Type 1
  Differ ls n m = ent 𝓤 (sep 𝓤 (sem 𝓛 (first_right (drop n ls))) (sem 𝓛 (first_right (drop m ls)))) (H.⇛ (guard 𝓤 (n ≡ m → ⊥) (sep 𝓤 (sem 𝓛 (first_right (drop n ls))) (sem 𝓛 (first_right (drop m ls))))))

  differ_same : (ls : List ℕ) (n : ℕ) → Differ ls n n
  differ_same ls n =
      qed 𝓛 (‵ (first_right (drop n ls)) ∷ ‵ (first_right (drop n ls)) ∷ []) ∵ updating ! $ use2 𝓛 (later (raw (never 𝓤))) (right_twice (drop n ls)) $ await ! tt $ now ! $ keep ! (0 ∷ []) $ by ! (never_e 𝓤 _)

  differ_by : (ls : List ℕ) (n m : ℕ) (t : Bool) → eqb n m ≡ t → Differ ls n m
  differ_by ls n m true e = subst (λ (k : ℕ). Differ ls n k) (eqb→eq n m (subst T (sym e) tt)) (differ_same ls n)
  differ_by ls n m false e =
      qed 𝓛 (‵ (first_right (drop n ls)) ∷ ‵ (first_right (drop m ls)) ∷ []) ∵ updating ! $ now ! $
      check ! (λ (same : n ≡ m). subst T e (subst (λ (k : ℕ). T (eqb n k)) same (eqb_refl n))) $ join ! $ done !

  pub rights_differ : (ls : List ℕ) (n m : ℕ) → Differ ls n m
  rights_differ ls n m = differ_by ls n m (eqb n m) refl
