-- `join` glues the bytes, and runs nothing. Assumes `Logic`.
use Rattle.frame_arena.proofs.Steps.{◌≡◌, List, [], ◌∷◌, ◌++◌, length, refl, walked, ended, nothing_left, Goes-blank, Val, id⊢, emp, WpFn, fact_i, tables, ‵, prop, ◌$◌, !, by, move, drop, use2, fsplit, regoal, agg, enter, no_more, returns, alloc_all, pass_all, free_all, look_at, sets, yes, ◌+ₚ◌, plain, Stays, walk_of, stay_dropped, no_word, ghostly, opened}
use Rattle.frame_arena.specs.InsideOwnership.{lies}
use Rattle.frame_arena.proofs.Cuts.{run_glue}
use Rattle.frame_arena.specs.contracts.piece.Piece.{the_row as Piece}
use Rattle.frame_arena.specs.contracts.piece.Piece.join as f
use Rattle.frame_arena.specs.contracts.piece.Piece.join.Key.{name as #self}
use Rattle.frame_arena.proofs.piece.Piece.join.Statement.{statement}
use Rattle.frame_arena.proofs.piece.Piece.join.Code as code

abbrev spent : Stays f.ended.signature.params f.ended.kept
spent = (stay_dropped (plain (λ _. Piece)) yes, (stay_dropped (plain (λ _. Piece)) yes, tt))

pub join_spec : {M : Type 1} → statement M
join_spec 𝓤 𝓛 𝓜 𝓡 wired =
    let c = f.clauses 𝓛 𝓜.mem 𝓡.returns in let 𝓣 = tables 𝓤 𝓛.H 𝓜 𝓡 𝓡.env in let goes = Goes-blank 𝓛 0 (plain (λ _. Piece)) yes (λ _ _ _. tt) in
    walked 𝓛 f.ended spent c 𝓜 𝓡 (goes, (goes, tt)) #self code.function (code.unfolded 𝓤 𝓛.H 𝓜 𝓡 wired)
    (λ z. z.0.3.1.0.place ≡ z.0.3.0.place +ₚ length z.0.3.0.bytes) (λ z. id⊢ 𝓤 _) (λ z meet.
    let front = z.0.3.0 in let back = z.0.3.1.0 in let words = z.0.4 in
    let both : Piece.Denot = record { place = front.place; bytes = front.bytes ++ back.bytes } in
    let Run = λ (us : List Val). prop (WpFn 𝓤 𝓛.H 𝓣.C 𝓣.Λ code.function us ((walk_of 𝓛 f.ended spent c).post z)) in
    fsplit ! $ opened ! words.0 (λ is₀. move ! (1 ∷ []) $ fsplit ! $ opened ! words.1.0 (λ is₁. move ! (1 ∷ []) $ drop ! $
    -- [the back's bytes; the front's; the tokens]
    regoal ! Run (λ i. is₀ i ++ (is₁ i ++ [])) refl $
    enter ! _ _ _ _ _ $ alloc_all ! (λ l. pass_all ! refl ((tt, tt), ((tt, tt), tt)) $
    sets ! (agg ! (no_more !)) refl (tt, tt) $
    move ! (1 ∷ 0 ∷ []) $ use2 𝓛 (‵ (lies both.place both.bytes)) (run_glue 𝓛 front.place back.place front.bytes back.bytes meet) $ ghostly ! $
    returns ! (look_at ! 0 refl) $ free_all ! refl $ by ! (ended 𝓛 f.ended spent c z no_word both (tt, (tt, tt)) (tt, (tt, tt)) (nothing_left 𝓛 2) (fact_i 𝓤 _ (emp 𝓤) (refl, refl)))))))
