-- `close` gives the bytes to what awaits them. Assumes `Logic`.
use Rattle.frame_arena.proofs.Steps.{◌≡◌, ℕ, List, [], ◌∷◌, ◌++◌, length, refl, ap, ◌∙◌, subst, walked, ended, nothing_left, Goes-blank, Val, id⊢, emp, WpFn, fact_i, tables, sem, ‵, prop, ◌$◌, !, by, move, drop, use1, use2, fsplit, fjoin, fpick, feq_i, feq_l, rewrite, regoal, sub, whole, enter, of_opd, fld, stop, returns, alloc_all, pass_all, free_all, look_at, get, get_in, sets, yes, plain, Stays, walk_of, stay_dropped, word, opened, apart, in_a_word}
use base.Logic.{all_e, apply∗}
use base.Fml.{fwand}
use denote.Laws.{Typed}
use Rattle.frame_arena.specs.InsideOwnership.{lies, fills}
use Rattle.frame_arena.proofs.Blocks.{Block, block-laws, refilled_with}
use Rattle.frame_arena.specs.contracts.piece.Piece.{the_row as Piece}
use Rattle.frame_arena.specs.contracts.shell.Shell as Shell
use Rattle.frame_arena.specs.contracts.shell.Shell.close as f
use Rattle.frame_arena.specs.contracts.shell.Shell.close.Key.{name as #self}
use Rattle.frame_arena.proofs.shell.Shell.close.Statement.{statement}
use Rattle.frame_arena.proofs.shell.Shell.close.Code as code

abbrev spent : Stays f.ended.signature.params f.ended.kept
spent = (stay_dropped (plain (λ _. Shell.the_row)) yes, (stay_dropped (plain (λ _. Piece)) yes, tt))

pub close_spec : {M : Type 1} → statement M
close_spec 𝓤 𝓛 𝓜 𝓡 wired =
    let c = f.clauses 𝓛 𝓜.mem 𝓡.returns in let 𝓣 = tables 𝓤 𝓛.H 𝓜 𝓡 𝓡.env in
    walked 𝓛 f.ended spent c 𝓜 𝓡 (Goes-blank 𝓛 0 (plain (λ _. Shell.the_row)) yes (λ _ _ _. tt), (Goes-blank 𝓛 0 (plain (λ _. Piece)) yes (λ _ _ _. tt), tt))
    #self code.function (code.unfolded 𝓤 𝓛.H 𝓜 𝓡 wired) (λ z. (z.0.3.1.0.place ≡ z.0.3.0.start) × (length z.0.3.1.0.bytes ≡ z.0.3.0.size)) (λ z. id⊢ 𝓤 _) (λ z asked.
    let span = z.0.3.0 in let bytes = z.0.3.1.0.bytes in let words = z.0.4 in
    let Run = λ (us : List Val). prop (WpFn 𝓤 𝓛.H 𝓣.C 𝓣.Λ code.function us ((walk_of 𝓛 f.ended spent c).post z)) in
    let Awaits = λ (xs : List ℕ). fwand (fills span xs) (refilled_with xs words.0) in
    fsplit ! $ move ! (1 ∷ []) $ fsplit ! $ opened ! words.1.0 (λ is₁. move ! (1 ∷ []) $ drop ! $
    rewrite ! 0 (λ p. ‵ (lies p bytes)) asked.0 refl $ feq_i ! ℕ (length bytes) span.size asked.1 $ fjoin ! $
    -- [bytes that fill the span; the shell; the tokens]
    move ! (1 ∷ []) $ fsplit ! $ fpick ! (λ typed. drop ! $
    use1 𝓛 (‵ (Awaits bytes)) (all_e 𝓤 (λ xs. sem 𝓛 (Awaits xs)) bytes) $ move ! (1 ∷ 0 ∷ []) $
    use2 𝓛 (‵ (refilled_with bytes words.0)) (apply∗ 𝓤 (sem 𝓛 (fills span bytes)) (sem 𝓛 (refilled_with bytes words.0))) $
    fpick ! (λ shell. fsplit ! $ feq_l ! (λ same. apart ! (Block ∷ []) (shell.block, tt) words.0 (λ fields is₀. fsplit ! $ move ! (1 ∷ []) $ drop ! $ in_a_word ! Block block-laws shell.block fields.0 (λ u is good.
    -- [the block; the tokens]
    let is_word : words.0 ≡ word (Block ∷ []) (u ∷ [], tt) ∷ [] = is₀ ∙ ap (λ us. word (Block ∷ []) (us, tt) ∷ []) is in
    regoal ! Run (λ i. is_word i ++ (is₁ i ++ [])) refl $
    enter ! _ _ _ _ _ $ alloc_all ! (λ l. pass_all ! refl ((subst (Typed (Shell.the_row).mir) is_word typed).0, ((tt, tt), tt)) $
    sets ! (of_opd ! (get_in ! (fld ! refl (stop !)) (sub ! 0 refl (whole !)))) refl good $
    sets ! (of_opd ! (get ! refl)) refl good $
    returns ! (look_at ! 0 refl) $ free_all ! refl $ by ! (ended 𝓛 f.ended spent c z u shell.block (tt, (tt, tt)) (tt, (tt, tt)) (nothing_left 𝓛 2) (fact_i 𝓤 _ (emp 𝓤) same))))))))))
