-- Bytes are cut and joined, and lie in a block. Assumes `Logic`.
use Rattle.std.proofs.Common.{◌≡◌, ℕ, ◌+◌, ◌≤◌, List, [], ◌∷◌, ◌++◌, length, take, drop, refl, sym, take-append-drop, length-take-le}
use seplogic.Ra.Ura.{Ura}
use base.Fraction.{full_share}
use base.Logic.{ent, sep, via, snd∗, id⊢, never, never_e}
use base.Fml.{feq}
use types.Logic.{Logic, sem}
use types.Kit.{Goal, Seq, Item, given, learn, ‵, ◌⊛◌, ◌$◌, ◌∵◌, !, qed, move, drop as drop_entry, use1, use2, split, fsplit, fjoin, feq_l, feq_i, rewrite, done}
use denote.RawPtr.{Ptr, block_ptr, null_ptr, ◌+ₚ◌, in_a_block}
use denote.RawPtr.Bytes.{bytes, bytes_apart, bytes_whole, bytes_cut, bytes_glue}
use Rattle.frame_arena.specs.InsideOwnership.{IsPlaced, lies}

module _ {M : Type 1} {𝓤 : Ura M} (𝓛 : Logic 𝓤) where
  run_apart : (b o : ℕ) (xs : List ℕ) → ent 𝓤 (sem 𝓛 (lies (block_ptr b o) xs)) (sem 𝓛 (bytes full_share xs b o))
  run_apart b o xs = via 𝓤 _ (bytes_apart 𝓛 full_share (length xs) xs b o) (snd∗ 𝓤 (sem 𝓛 (feq ℕ (length xs) (length xs))) (sem 𝓛 (bytes full_share xs b o)))

  run_whole : (b o : ℕ) (xs : List ℕ) → ent 𝓤 (sem 𝓛 (bytes full_share xs b o)) (sem 𝓛 (lies (block_ptr b o) xs))
  run_whole b o xs =
      qed 𝓛 (‵ (bytes full_share xs b o) ∷ []) ∵ feq_i ! ℕ (length xs) (length xs) refl $ fjoin ! $
      use1 𝓛 (‵ (lies (block_ptr b o) xs)) (bytes_whole 𝓛 full_share (length xs) xs b o) $ done !

  -- a run is its front and its back
  pub run_cut : (n : ℕ) (p : Ptr) (xs : List ℕ) → n ≤ length xs
      → ent 𝓤 (sem 𝓛 (lies p xs)) (sep 𝓤 (sem 𝓛 (lies p (take n xs))) (sem 𝓛 (lies (p +ₚ n) (drop n xs))))
  run_cut n p xs h =
      qed 𝓛 (‵ (lies p xs) ∷ []) ∵ in_a_block ! p (λ r. lies r xs) (id⊢ 𝓤 (never 𝓤)) (λ b o at.
      use1 𝓛 (‵ (bytes full_share xs b o)) (run_apart b o xs) $
      rewrite ! 0 (λ ys. ‵ (bytes full_share ys b o)) (sym (take-append-drop n xs)) refl $
      use1 𝓛 (‵ (bytes full_share (take n xs) b o) ⊛ ‵ (bytes full_share (drop n xs) b (o + length (take n xs)))) (bytes_cut 𝓛 full_share (take n xs) (drop n xs) b o) $ split ! $
      use1 𝓛 (‵ (lies (block_ptr b o) (take n xs))) (run_whole b o (take n xs)) $
      rewrite ! 0 (λ r. ‵ (lies r (take n xs))) (sym at) refl $
      rewrite ! 1 (λ k. ‵ (bytes full_share (drop n xs) b (o + k))) (length-take-le n xs h) refl $ move ! (1 ∷ []) $
      use1 𝓛 (‵ (lies (block_ptr b (o + n)) (drop n xs))) (run_whole b (o + n) (drop n xs)) $
      rewrite ! 0 (λ r. ‵ (lies (r +ₚ n) (drop n xs))) (sym at) refl $ move ! (1 ∷ 0 ∷ []) $ types.Kit.join ! $ done !)

  -- two runs that meet are one
  pub run_glue : (p q : Ptr) (xs ys : List ℕ) → q ≡ p +ₚ length xs
      → ent 𝓤 (sep 𝓤 (sem 𝓛 (lies p xs)) (sem 𝓛 (lies q ys))) (sem 𝓛 (lies p (xs ++ ys)))
  run_glue p q xs ys meet =
      qed 𝓛 (‵ (lies p xs) ∷ ‵ (lies q ys) ∷ []) ∵ rewrite ! 1 (λ r. ‵ (lies r ys)) meet refl $
      in_a_block ! p (λ r. lies r xs) (id⊢ 𝓤 (never 𝓤)) (λ b o at.
      use1 𝓛 (‵ (bytes full_share xs b o)) (run_apart b o xs) $ move ! (1 ∷ 0 ∷ []) $
      rewrite ! 0 (λ r. ‵ (lies (r +ₚ length xs) ys)) at refl $
      use1 𝓛 (‵ (bytes full_share ys b (o + length xs))) (run_apart b (o + length xs) ys) $ move ! (1 ∷ 0 ∷ []) $
      use2 𝓛 (‵ (bytes full_share (xs ++ ys) b o)) (bytes_glue 𝓛 full_share xs ys b o) $
      use1 𝓛 (‵ (lies (block_ptr b o) (xs ++ ys))) (run_whole b o (xs ++ ys)) $
      rewrite ! 0 (λ r. ‵ (lies r (xs ++ ys))) (sym at) refl $ done !)

-- bytes lie in a block, and not at null
module _ {M : Type 1} {𝓤 : Ura M} {𝓛 : Logic 𝓤} {K : Type 0} {Γ : List (Item 𝓤)} {G : Goal 𝓤 𝓛.H} where
  pub placed : K → (p : Ptr) (xs : List ℕ) → (IsPlaced p → Seq K 𝓛 (‵ (lies p xs) ∷ Γ) G) → Seq K 𝓛 (‵ (lies p xs) ∷ Γ) G
  placed t (block_ptr b o) xs k = k refl
  placed t null_ptr xs k = use1 𝓛 (given ⊥ (‵ (lies null_ptr xs))) (never_e 𝓤 _) $ learn t (λ none. absurd none)
