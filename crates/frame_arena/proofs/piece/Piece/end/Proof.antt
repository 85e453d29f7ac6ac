-- `end` runs nothing. Assumes `Logic`.
use Rattle.frame_arena.proofs.Steps.{◌≡◌, List, [], ◌∷◌, ◌++◌, refl, walked, ended, nothing_left, Goes-blank, Val, id⊢, emp, WpFn, tables, prop, ◌$◌, !, by, drop, fsplit, feq_i, regoal, enter, of_opd, returns, alloc_all, pass_all, free_all, look_at, sets, yes, plain, Stays, walk_of, stay_dropped, opened}
use mir.Val.{vunit}
use types.Run.{unit_lit}
use Rattle.frame_arena.specs.contracts.piece.Piece.{the_row as Piece}
use Rattle.frame_arena.specs.contracts.piece.Piece.end as f
use Rattle.frame_arena.specs.contracts.piece.Piece.end.Key.{name as #self}
use Rattle.frame_arena.proofs.piece.Piece.end.Statement.{statement}
use Rattle.frame_arena.proofs.piece.Piece.end.Code as code

abbrev spent : Stays f.ended.signature.params f.ended.kept
spent = (stay_dropped (plain (λ _. Piece)) yes, tt)

pub end_spec : {M : Type 1} → statement M
end_spec 𝓤 𝓛 𝓜 𝓡 wired =
    let c = f.clauses 𝓛 𝓜.mem 𝓡.returns in let 𝓣 = tables 𝓤 𝓛.H 𝓜 𝓡 𝓡.env in
    walked 𝓛 f.ended spent c 𝓜 𝓡 (Goes-blank 𝓛 0 (plain (λ _. Piece)) yes (λ _ _ _. tt), tt) #self code.function (code.unfolded 𝓤 𝓛.H 𝓜 𝓡 wired) (λ z. z.0.3.0.bytes ≡ []) (λ z. id⊢ 𝓤 _) (λ z empty.
    let words = z.0.4 in
    let Run = λ (us : List Val). prop (WpFn 𝓤 𝓛.H 𝓣.C 𝓣.Λ code.function us ((walk_of 𝓛 f.ended spent c).post z)) in
    fsplit ! $ opened ! words.0 (λ is. drop ! $ drop ! $
    -- [the tokens]
    regoal ! Run (λ i. is i ++ []) refl $
    enter ! _ _ _ _ _ $ alloc_all ! (λ l. pass_all ! refl ((tt, tt), tt) $
    sets ! (of_opd ! (unit_lit !)) refl (tt, tt) $
    returns ! (look_at ! 0 refl) $ free_all ! refl $ feq_i ! (List Val) (vunit ∷ []) (vunit ∷ []) refl $ by ! (ended 𝓛 f.ended spent c z vunit tt (tt, tt) (tt, tt) (nothing_left 𝓛 1) (id⊢ 𝓤 (emp 𝓤))))))
