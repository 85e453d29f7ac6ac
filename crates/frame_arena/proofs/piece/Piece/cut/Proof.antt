-- `cut` parts the bytes, and runs nothing. Assumes `Logic`.
use Rattle.frame_arena.proofs.Steps.{◌≤◌, List, [], ◌∷◌, ◌++◌, length, take, refl, walked, ended, nothing_left, Goes-blank, drop_first, Val, id⊢, emp, WpFn, fact_i, tables, ‵, ◌⊛◌, prop, ◌$◌, !, by, move, drop, use1, split, fsplit, feq_l, flt_l, regoal, agg, enter, no_more, and_then, returns, alloc_all, pass_all, free_all, look_at, get, sets, usize, yes, ◌+ₚ◌, plain, Stays, walk_of, stay_dropped, word, no_word, ghostly, opened, paired}
use Rattle.frame_arena.specs.InsideOwnership.{lies}
use Rattle.frame_arena.proofs.Cuts.{run_cut}
use Rattle.frame_arena.specs.contracts.piece.Piece.{the_row as Piece}
use Rattle.frame_arena.specs.contracts.piece.Piece.cut as f
use Rattle.frame_arena.specs.contracts.piece.Piece.cut.Key.{name as #self}
use Rattle.frame_arena.proofs.piece.Piece.cut.Statement.{statement}
use Rattle.frame_arena.proofs.piece.Piece.cut.Code as code

abbrev spent : Stays f.ended.signature.params f.ended.kept
spent = (stay_dropped (plain (λ _. Piece)) yes, (stay_dropped (plain (λ _. usize)) yes, tt))

pub cut_spec : {M : Type 1} → statement M
cut_spec 𝓤 𝓛 𝓜 𝓡 wired =
    let c = f.clauses 𝓛 𝓜.mem 𝓡.returns in let 𝓣 = tables 𝓤 𝓛.H 𝓜 𝓡 𝓡.env in
    walked 𝓛 f.ended spent c 𝓜 𝓡 (Goes-blank 𝓛 0 (plain (λ _. Piece)) yes (λ _ _ _. tt), (Goes-blank 𝓛 0 (plain (λ _. usize)) yes (λ _ _ _. tt), tt))
    #self code.function (code.unfolded 𝓤 𝓛.H 𝓜 𝓡 wired) (λ z. z.0.3.1.0 ≤ length z.0.3.0.bytes) (λ z. id⊢ 𝓤 _) (λ z within.
    let piece = z.0.3.0 in let mid = z.0.3.1.0 in let words = z.0.4 in
    let front : Piece.Denot = record { place = piece.place; bytes = take mid piece.bytes } in
    let back : Piece.Denot = record { place = piece.place +ₚ mid; bytes = drop_first mid piece.bytes } in
    let Run = λ (us : List Val). prop (WpFn 𝓤 𝓛.H 𝓣.C 𝓣.Λ code.function us ((walk_of 𝓛 f.ended spent c).post z)) in
    fsplit ! $ opened ! words.0 (λ is₀. move ! (1 ∷ []) $ fsplit ! $ fsplit ! $ feq_l ! (λ is₁. flt_l ! (λ fits. drop ! $
    -- [the bytes; the tokens]
    regoal ! Run (λ i. is₀ i ++ (is₁ i ++ [])) refl $
    enter ! _ _ _ _ _ $ alloc_all ! (λ l. pass_all ! refl ((tt, tt), ((tt, record { fits = fits }), tt)) $
    sets ! (agg ! (no_more !)) refl (tt, tt) $
    sets ! (agg ! (no_more !)) refl (tt, tt) $
    sets ! (agg ! (and_then ! (get ! refl) (and_then ! (get ! refl) (no_more !)))) refl (tt, (tt, (tt, tt))) $
    use1 𝓛 (‵ (lies front.place front.bytes) ⊛ ‵ (lies back.place back.bytes)) (run_cut 𝓛 mid piece.place piece.bytes within) $ split ! $
    ghostly ! $ move ! (1 ∷ []) $ ghostly ! $ move ! (1 ∷ 0 ∷ []) $ paired ! Piece Piece front back no_word no_word $
    returns ! (look_at ! 0 refl) $ free_all ! refl $
    by ! (ended 𝓛 f.ended spent c z (word (Piece ∷ Piece ∷ []) (no_word ∷ [], (no_word ∷ [], tt))) (front, back) (tt, (tt, tt)) (tt, (tt, tt)) (nothing_left 𝓛 2) (fact_i 𝓤 _ (emp 𝓤) (refl, refl, refl, refl))))))))
