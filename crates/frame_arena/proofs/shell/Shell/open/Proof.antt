-- `open` takes the bytes out, and keeps what awaits them. Assumes `Logic`.
use Rattle.frame_arena.proofs.Steps.{◌<◌, List, [], ◌∷◌, ◌++◌, refl, walked, ended, nothing_left, Goes-blank, Val, id⊢, emp, ftrue, WpFn, fact_i, tables, ‵, ◌⊛◌, prop, ◌$◌, !, by, move, drop, use1, split, fsplit, fjoin, fpack, regoal, agg, enter, of_opd, no_more, and_then, returns, alloc_all, pass_all, free_all, look_at, get, sets, yes, plain, nothing, Stays, walk_of, stay_dropped, word, no_word, ghostly, paired, in_a_word}
use denote.Laws.{Typed}
use denote.Param.{layout}
use denote.Struct.Struct.{as_fields}
use Rattle.frame_arena.specs.InsideOwnership.{lies}
use Rattle.frame_arena.proofs.Blocks.{Block, block-laws, emptied}
use Rattle.frame_arena.proofs.Cuts.{placed}
use Rattle.frame_arena.specs.contracts.piece.Piece.{the_row as Piece}
use Rattle.frame_arena.specs.contracts.shell.Shell as Shell
use Rattle.frame_arena.specs.contracts.shell.Shell.open as f
use Rattle.frame_arena.specs.contracts.shell.Shell.open.Key.{name as #self}
use Rattle.frame_arena.proofs.shell.Shell.open.Statement.{statement}
use Rattle.frame_arena.proofs.shell.Shell.open.Code as code

abbrev spent : Stays f.ended.signature.params f.ended.kept
spent = (stay_dropped (plain (λ _. Block)) yes, tt)

pub open_spec : {M : Type 1} → statement M
open_spec 𝓤 𝓛 𝓜 𝓡 wired =
    let c = f.clauses 𝓛 𝓜.mem 𝓡.returns in let 𝓣 = tables 𝓤 𝓛.H 𝓜 𝓡 𝓡.env in
    walked 𝓛 f.ended spent c 𝓜 𝓡 (Goes-blank 𝓛 0 (plain (λ _. Block)) yes (λ _ _ _. tt), tt)
    #self code.function (code.unfolded 𝓤 𝓛.H 𝓜 𝓡 wired) (λ z. 0 < z.0.3.0.len) (λ z. id⊢ 𝓤 _) (λ z some_bytes.
    let block = z.0.3.0 in let words = z.0.4 in let S = Shell.the_row in
    let piece : Piece.Denot = record { place = block.ptr; bytes = block.items } in
    let shell : S.Denot = record { start = block.ptr; size = block.len } in
    let Run = λ (us : List Val). prop (WpFn 𝓤 𝓛.H 𝓣.C 𝓣.Λ code.function us ((walk_of 𝓛 f.ended spent c).post z)) in
    fsplit ! $ in_a_word ! Block block-laws block words.0 (λ u is good. move ! (1 ∷ []) $ drop ! $
    -- [the block; the tokens]
    let w = word (Block ∷ []) (u ∷ [], tt) in let good_w = as_fields (layout Block ∷ []) (u ∷ []) (good, tt) in
    use1 𝓛 (‵ (lies piece.place piece.bytes) ⊛ ‵ (Shell.the_own shell (w ∷ []))) (emptied 𝓛 block u some_bytes) $ split ! $
    placed ! piece.place piece.bytes (λ at_block.
    ghostly ! $ move ! (1 ∷ []) $ nothing ! $ fpack ! (Typed S.mir (w ∷ [])) (λ _. ftrue) (good_w, tt) $ fjoin ! $ move ! (1 ∷ 0 ∷ []) $ paired ! Piece S piece shell no_word w $
    -- [both; the tokens]
    regoal ! Run (λ i. is i ++ []) refl $
    enter ! _ _ _ _ _ $ alloc_all ! (λ l. pass_all ! refl (good, tt) $
    sets ! (agg ! (no_more !)) refl (tt, tt) $
    sets ! (of_opd ! (get ! refl)) refl good $
    sets ! (agg ! (and_then ! (get ! refl) (no_more !))) refl good_w $
    sets ! (agg ! (and_then ! (get ! refl) (and_then ! (get ! refl) (no_more !)))) refl (as_fields (layout Piece ∷ layout S ∷ []) (no_word ∷ w ∷ []) ((tt, tt), (good_w, tt))) $
    returns ! (look_at ! 0 refl) $ free_all ! refl $
    by ! (ended 𝓛 f.ended spent c z (word (Piece ∷ S ∷ []) (no_word ∷ [], (w ∷ [], tt))) (piece, shell) (tt, tt) (tt, tt) (nothing_left 𝓛 1) (fact_i 𝓤 _ (emp 𝓤) (refl, refl, at_block, refl, refl)))))))
