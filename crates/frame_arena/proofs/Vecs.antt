-- What a `Vec` of bytes owns is its bytes and the rest of its block, whatever frees the block. Assumes `Logic`.
use Rattle.frame_arena.proofs.Steps.{ℕ, ◌-◌, ◌*◌, ◌^◌, ◌<◌, List, [], ◌∷◌, length, true, sym, subst, ent, sep, never, Logic, sem, Fml, fsep, Ptr, block_ptr, ◌+ₚ◌, ‵, ◌$◌, ◌∵◌, !, qed, done, move, fsplit, fjoin, join, u8}
use mathlib.Core.Bool.{Bool}
use seplogic.Ra.Ura.{Ura}
use mir.Syntax.{Ty, ty_array}
use mir.Raw.{raw as bare}
use base.Logic.{via, snd∗, fst∗, never_e}
use base.Fml.{flt}
use denote.Memory.{lone}
use denote.RawPtr.{null_ptr, room_for, in_block}
use Rattle.std.specs.Allocator.{block_with_items}
use Rattle.std_alloc.specs.Vec.Ownership.{vec_owns, owns_if}
use Rattle.std_alloc.proofs.VecSteps.Opens.{is_live}
use Rattle.frame_arena.specs.InsideOwnership.{lies}

-- the bound on the block's size, the room behind its n bytes, and what gives the block back
abbrev pub around : (Ty → Ptr → Fml) → Ptr → ℕ → ℕ → Fml
around frees p n cap = fsep (flt (cap * 1) (2 ^ 63)) (fsep (room_for (bare (ty_array (lone u8.mir) (cap - n))) (p +ₚ n * 1)) (frees (bare (ty_array (lone u8.mir) cap)) p))

module _ {M : Type 1} {𝓤 : Ura M} (𝓛 : Logic 𝓤) (frees : Ty → Ptr → Fml) (cap : ℕ) (bytes : List ℕ) where
  -- with a block, where the test says that there is one
  abbrev held : Ptr → Bool → Fml
  held p there = fsep (flt (cap * 1) (2 ^ 63)) (in_block p (owns_if there (block_with_items frees u8 p (length bytes) cap bytes)))

  abbrev parts : Ptr → Type 1
  parts p = ent 𝓤 (sem 𝓛 (held p true)) (sep 𝓤 (sem 𝓛 (lies p bytes)) (sem 𝓛 (around frees p (length bytes) cap)))

  abbrev whole : Ptr → Type 1
  whole p = ent 𝓤 (sep 𝓤 (sem 𝓛 (lies p bytes)) (sem 𝓛 (around frees p (length bytes) cap))) (sem 𝓛 (held p true))

  part : (p : Ptr) → parts p
  part null_ptr = via 𝓤 (never 𝓤) (snd∗ 𝓤 (sem 𝓛 (flt (cap * 1) (2 ^ 63))) (never 𝓤)) (never_e 𝓤 _)
  part (block_ptr b o) = qed 𝓛 (‵ (held (block_ptr b o) true) ∷ []) ∵ fsplit ! $ move ! (1 ∷ []) $ fsplit ! $ move ! (2 ∷ 1 ∷ []) $ fjoin ! $ move ! (1 ∷ 0 ∷ []) $ join ! $ done !

  unite : (p : Ptr) → whole p
  unite null_ptr = via 𝓤 (never 𝓤) (fst∗ 𝓤 (never 𝓤) (sem 𝓛 (around frees null_ptr (length bytes) cap))) (never_e 𝓤 _)
  unite (block_ptr b o) =
      qed 𝓛 (‵ (lies (block_ptr b o) bytes) ∷ ‵ (around frees (block_ptr b o) (length bytes) cap) ∷ []) ∵ move ! (1 ∷ []) $ fsplit ! $ move ! (2 ∷ 1 ∷ []) $ fjoin ! $ move ! (1 ∷ 0 ∷ []) $ fjoin ! $ done !

  pub taken_out : (p : Ptr) → 0 < cap → ent 𝓤 (sem 𝓛 (vec_owns frees u8 p (length bytes) cap bytes)) (sep 𝓤 (sem 𝓛 (lies p bytes)) (sem 𝓛 (around frees p (length bytes) cap)))
  taken_out p some = subst (λ (y : Bool). ent 𝓤 (sem 𝓛 (held p y)) (sep 𝓤 (sem 𝓛 (lies p bytes)) (sem 𝓛 (around frees p (length bytes) cap)))) (sym (is_live cap some)) (part p)

  pub put_in : (p : Ptr) → 0 < cap → ent 𝓤 (sep 𝓤 (sem 𝓛 (lies p bytes)) (sem 𝓛 (around frees p (length bytes) cap))) (sem 𝓛 (vec_owns frees u8 p (length bytes) cap bytes))
  put_in p some = subst (λ (y : Bool). ent 𝓤 (sep 𝓤 (sem 𝓛 (lies p bytes)) (sem 𝓛 (around frees p (length bytes) cap))) (sem 𝓛 (held p y))) (sym (is_live cap some)) (unite p)
