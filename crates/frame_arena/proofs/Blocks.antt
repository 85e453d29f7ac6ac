-- A block of the heap is its bytes and what can take them back. Assumes `Logic`.
use Rattle.frame_arena.proofs.Steps.{◌≡◌, ℕ, ◌<◌, List, [], ◌∷◌, length, refl, sym, arith, ent, sep, Logic, sem, Fml, fsep, feq, ‵, ◌⊛◌, ◌$◌, ◌∵◌, !, qed, done, move, use1, use2, split, fsplit, fjoin, feq_i, feq_l, rewrite, u8, RattleType, byte-laws, Val, Vec, word, made, nothing}
use seplogic.Ra.Ura.{Ura}
use base.Logic.{wand}
use base.Fml.{fex}
use types.Kit.{frame, each, assume, show}
use denote.Param.Laws.{Laws}
use Rattle.std.specs.declared.alloc.Global.{Global}
use Rattle.std.specs.contracts.alloc.Global as heap
use Rattle.std.specs.contracts.impls.GlobalAllocator.TheImpl.{ghosts}
use Rattle.std.proofs.alloc.Global.TheLaws as of_heap
use Rattle.std.specs.Vec.{with_items}
use Rattle.std.proofs.lemmas.List.{with_items_is}
use Rattle.std_alloc.specs.Vec.Ownership.{vec_owns}
use Rattle.std_alloc.specs.contracts.vec.Vec as Of
use Rattle.std_alloc.proofs.vec.Vec.TheLaws as of_vec
use Rattle.frame_arena.specs.InsideOwnership.{Span, lies, fills}
use Rattle.frame_arena.specs.contracts.shell.Shell as Shell
use Rattle.frame_arena.specs.contracts.shell.Shell.TheInside as Fields
use Rattle.frame_arena.specs.declared.shell.Shell.TheInside.{Inside}
use Rattle.frame_arena.proofs.Vecs.{around, taken_out, put_in}

abbrev pub Block : RattleType
Block = Of.the_row u8 heap.the_row ghosts

abbrev pub block-laws : Laws Block
block-laws = of_vec.the_row_laws u8 heap.the_row ghosts byte-laws of_heap.the_row_laws

-- a shell that has its block again, with these bytes in it
abbrev pub refilled_with : List ℕ → List Val → Fml
refilled_with bytes words = fex Inside (λ shell. fsep (feq (List ℕ) shell.block.items bytes) ((Fields.the_row).own_val shell words))

module _ {M : Type 1} {𝓤 : Ura M} (𝓛 : Logic 𝓤) (block : Vec ℕ Global) (u : Val) where
  abbrev words : List Val
  words = word (Block ∷ []) (u ∷ [], tt) ∷ []

  abbrev span : Span
  span = record { start = block.ptr; size = block.len }

  -- any bytes that fill the span make it whole
  pub emptied : 0 < block.len → ent 𝓤 (sem 𝓛 (Block.own_val block (u ∷ []))) (sep 𝓤 (sem 𝓛 (lies block.ptr block.items)) (sem 𝓛 (Shell.the_own span words)))
  emptied some =
      let frees = ghosts.dealloc_token block.alloc in
      let room : 0 < block.cap = omega (arith, block.ok.1) in
      let Owns = λ (n : ℕ) (bytes : List ℕ). vec_owns frees u8 block.ptr n block.cap bytes in
      let Around = λ (n : ℕ). around frees block.ptr n block.cap in
      qed 𝓛 (‵ (Block.own_val block (u ∷ [])) ∷ []) ∵ fsplit ! $ move ! (1 ∷ []) $ rewrite ! 0 (λ n. ‵ (Owns n block.items)) block.ok.0 refl $
      use1 𝓛 (‵ (lies block.ptr block.items) ⊛ ‵ (Around (length block.items))) (taken_out 𝓛 frees block.cap block.items block.ptr room) $ split ! $ frame ! $
      rewrite ! 0 (λ n. ‵ (Around n)) (sym block.ok.0) refl $
      -- [what is around the bytes; the fields]
      each ! (λ bytes. wand 𝓤 (sem 𝓛 (fills span bytes)) (sem 𝓛 (refilled_with bytes words))) (λ bytes. assume ! (‵ (fills span bytes)) $ fsplit ! $ feq_l ! (λ long.
      let full = with_items block bytes in
      let same : full.items ≡ bytes = with_items_is block bytes long in
      move ! (1 ∷ []) $ rewrite ! 0 (λ n. ‵ (Around n)) (sym long) refl $ move ! (1 ∷ 0 ∷ []) $
      use2 𝓛 (‵ (Owns (length bytes) bytes)) (put_in 𝓛 frees block.cap bytes block.ptr room) $
      rewrite ! 0 (λ n. ‵ (Owns n bytes)) long refl $ rewrite ! 0 (λ xs. ‵ (Owns block.len xs)) (sym same) refl $ move ! (1 ∷ 0 ∷ []) $ fjoin ! $
      nothing ! $ move ! (1 ∷ 0 ∷ []) $ fjoin ! $ made ! (Block ∷ []) (full, tt) (u ∷ [], tt) $
      show ! (λ shell. sem 𝓛 (fsep (feq (List ℕ) shell.block.items bytes) ((Fields.the_row).own_val shell words))) (record { block = full }) $
      feq_i ! (List ℕ) full.items bytes same $ frame ! $ done !))
