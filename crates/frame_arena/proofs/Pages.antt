-- A page is a `Vec` that lies in the block: what it owns is its bytes. Assumes `Logic`.
use Rattle.frame_arena.proofs.Steps.{◌≡◌, ℕ, ◌-◌, ◌*◌, ◌+◌, ◌^◌, ◌<◌, List, [], ◌∷◌, length, refl, arith, ent, Logic, sem, Ptr, block_ptr, Fml, ftrue, ‵, ◌⊛◌, ◌$◌, ◌∵◌, !, qed, done, move, drop, use0, use1, use2, split, fjoin, flt_i, rewrite, u8, nothing, RattleType, byte-laws}
use seplogic.Ra.Ura.{Ura}
use mir.Syntax.{Ty, w8, ty_int, ty_array}
use base.Logic.{emp}
use base.Fml.{flt, fsep, froom}
use denote.Param.Laws.{Laws}
use Rattle.std_alloc.specs.Vec.Ownership.{lodged}
use Rattle.std_alloc.specs.contracts.vec.Vec as Vec
use Rattle.std_alloc.specs.contracts.vec.lodged.Lodged as Lodged
use Rattle.std_alloc.specs.contracts.vec.lodged.LodgedAllocator.TheImpl.{ghosts}
use Rattle.std_alloc.proofs.vec.Vec.TheLaws as of_vec
use Rattle.std_alloc.proofs.vec.lodged.Lodged.TheLaws as of_lodged
use Rattle.frame_arena.specs.InsideOwnership.{lies}
use Rattle.frame_arena.proofs.Vecs.{around, taken_out, put_in}

abbrev pub Page : RattleType
Page = Vec.the_row u8 Lodged.the_row ghosts

abbrev pub page-laws : Laws Page
page-laws = of_vec.the_row_laws u8 Lodged.the_row ghosts byte-laws of_lodged.the_row_laws

-- nobody frees a page
abbrev unfreed : Ty → Ptr → Fml
unfreed _ _ = ftrue

module _ {M : Type 1} {𝓤 : Ura M} (𝓛 : Logic 𝓤) where
  -- a full block has no room behind its bytes
  full : (b o n k : ℕ) → n < 2 ^ 63 → 0 ≡ k → ent 𝓤 (emp 𝓤) (sem 𝓛 (fsep (flt (n * 1) (2 ^ 63)) (fsep (froom (ty_array (ty_int w8) k) b (o + n * 1)) ftrue)))
  full b o n k small none =
      let byte = ty_int w8 in let end = o + n * 1 in
      qed 𝓛 [] ∵ nothing ! $ use0 𝓛 (‵ (froom (ty_array byte 0) b end)) (𝓛.laws.room_nil byte b end) $ rewrite ! 0 (λ i. ‵ (froom (ty_array byte i) b end)) none refl $ fjoin ! $
      flt_i ! (n * 1) (2 ^ 63) (omega arith) $ fjoin ! $ done !

  pub page_in : (b o : ℕ) (bytes : List ℕ) → 0 < length bytes → length bytes < 2 ^ 63
      → ent 𝓤 (sem 𝓛 (lies (block_ptr b o) bytes)) (sem 𝓛 (lodged u8 (block_ptr b o) (length bytes) (length bytes) bytes))
  page_in b o bytes some small =
      let n = length bytes in let none : 0 ≡ n - n = omega arith in
      qed 𝓛 (‵ (lies (block_ptr b o) bytes) ∷ []) ∵ use0 𝓛 (‵ (around unfreed (block_ptr b o) n n)) (full b o n (n - n) small none) $ move ! (1 ∷ 0 ∷ []) $
      use2 𝓛 (‵ (lodged u8 (block_ptr b o) n n bytes)) (put_in 𝓛 unfreed n bytes (block_ptr b o) some) $ done !

  pub page_out : (p : Ptr) (cap : ℕ) (bytes : List ℕ) → 0 < cap → ent 𝓤 (sem 𝓛 (lodged u8 p (length bytes) cap bytes)) (sem 𝓛 (lies p bytes))
  page_out p cap bytes some =
      qed 𝓛 (‵ (lodged u8 p (length bytes) cap bytes) ∷ []) ∵ use1 𝓛 (‵ (lies p bytes) ⊛ ‵ (around unfreed p (length bytes) cap)) (taken_out 𝓛 unfreed cap bytes p some) $
      split ! $ move ! (1 ∷ []) $ drop ! $ done !
