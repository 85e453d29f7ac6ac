-- `into_page` hands the bytes to `lodge`. Assumes `Logic`.
use Rattle.frame_arena.proofs.Steps.{◌≡◌, ℕ, ◌^◌, ◌<◌, ◌≤◌, List, [], ◌∷◌, ◌++◌, length, refl, sym, ap, ◌∙◌, subst, arith, w64, Vec, walked, ended, nothing_left, Goes-blank, framed, Val, vint, vptr, id⊢, emp, sep, never, ftrue, fsep, flft, full_share, WpFn, fact, fact_i, tables, sem, ‵, raw, ◌⊛◌, some, later, prop, at_ret, ◌$◌, !, by, move, drop, use0, use1, use2, split, join, fsplit, fjoin, feq_l, flt_l, pick, await, rewrite, regoal, enter, of_opd, no_more, and_then, first, blocks, exec, returns, alloc_all, pass_all, free_all, look_at, get, sets, lands_last, env, u8, usize, RawPtr, yes, owns, Ptr, block_ptr, ptr_val, in_a_block, plain, nothing, heard, only, calls_at_last, triple_of, Stays, walk_of, stay_dropped, Fitting, opened, in_a_word, byte-laws, handed}
use denote.Plain.{uint_Makes}
use denote.RawPtr.{rawptr_Makes}
use denote.Steps.{owned}
use Rattle.std_alloc.specs.declared.vec.lodged.Lodged.{Lodged}
use Rattle.std_alloc.specs.Vec.Ownership.{lodged}
use Rattle.std_alloc.specs.contracts.vec.lodge as g
use Rattle.std_alloc.proofs.vec.lodge.Met.{met}
use Rattle.frame_arena.specs.InsideOwnership.{lies}
use Rattle.frame_arena.proofs.Pages.{Page, page-laws, page_in}
use Rattle.frame_arena.specs.contracts.piece.Piece.{the_row as Piece}
use Rattle.frame_arena.specs.contracts.piece.Piece.into_page as f
use Rattle.frame_arena.specs.contracts.piece.Piece.into_page.Key.{name as #self}
use Rattle.frame_arena.proofs.piece.Piece.into_page.Statement.{statement}
use Rattle.frame_arena.proofs.piece.Piece.into_page.Code as code

abbrev spent : Stays f.ended.signature.params f.ended.kept
spent = (stay_dropped (plain (λ _. Piece)) yes, (stay_dropped (plain (λ _. RawPtr)) yes, (stay_dropped (plain (λ _. usize)) yes, tt)))

pub into_page_spec : {M : Type 1} → statement M
into_page_spec 𝓤 𝓛 𝓜 𝓡 wired =
    let c = f.clauses 𝓛 𝓜.mem 𝓡.returns in let 𝓣 = tables 𝓤 𝓛.H 𝓜 𝓡 𝓡.env in
    let G = triple_of 𝓛 (g.signature u8) (g.spec u8 𝓛 𝓜.mem 𝓡.returns) in
    walked 𝓛 f.ended spent c 𝓜 𝓡
    (Goes-blank 𝓛 0 (plain (λ _. Piece)) yes (λ _ _ _. tt), (Goes-blank 𝓛 0 (plain (λ _. RawPtr)) yes (λ _ _ _. tt), (Goes-blank 𝓛 0 (plain (λ _. usize)) yes (λ _ _ _. tt), tt)))
    #self code.function (code.unfolded 𝓤 𝓛.H 𝓜 𝓡 wired)
    (λ z. (z.0.3.0.place ≡ z.0.3.1.0) × (length z.0.3.0.bytes ≡ z.0.3.1.1.0) × (0 < z.0.3.1.1.0) × (z.0.3.1.1.0 < 2 ^ 63)) (λ z. id⊢ 𝓤 _) (λ z asked.
    let bytes = z.0.3.0.bytes in let at = z.0.3.1.0 in let size = z.0.3.1.1.0 in let words = z.0.4 in let n = length bytes in
    let some_bytes : 0 < n = let same = asked.1 in omega (arith, same, asked.2) in
    let small : n < 2 ^ 63 = let same = asked.1 in omega (arith, same, asked.3) in
    let wide : n < 2 ^ 64 = omega arith in
    let Run = λ (us : List Val). prop (WpFn 𝓤 𝓛.H 𝓣.C 𝓣.Λ code.function us ((walk_of 𝓛 f.ended spent c).post z)) in
    fsplit ! $ opened ! words.0 (λ is₀. move ! (1 ∷ []) $ fsplit ! $ feq_l ! (λ is₁. fsplit ! $ fsplit ! $ feq_l ! (λ is₂. flt_l ! (λ fits. drop ! $
    -- [the bytes; the tokens]
    rewrite ! 0 (λ p. ‵ (lies p bytes)) asked.0 refl $ in_a_block ! at (λ p. lies p bytes) (id⊢ 𝓤 (never 𝓤)) (λ b o placed.
    regoal ! Run (λ i. is₀ i ++ ((is₁ ∙ ap (λ p. ptr_val p ∷ []) placed) i ++ ((is₂ ∙ ap (λ k. vint w64 k ∷ []) (sym asked.1)) i ++ []))) refl $
    enter ! _ _ _ _ _ $ alloc_all ! (λ l. pass_all ! refl ((tt, tt), ((tt, tt), ((tt, record { fits = wide }), tt))) $
    first ! $ blocks ! $
    let passed : Ptr × (ℕ × (ℕ × Unit {0})) = (block_ptr b o, (n, (n, tt))) in let in_words : List Val × (List Val × (List Val × Unit {0})) = (vptr b o ∷ [], (vint w64 n ∷ [], (vint w64 n ∷ [], tt))) in
    let y : G.Ghost = ((([], tt), (full_share, tt), tt, passed, in_words), bytes) in
    let Fits = (n ≡ n) × (n ≤ n) × (n < 2 ^ 63) in
    use1 𝓛 (‵ (lodged u8 (block_ptr b o) n n bytes)) (page_in 𝓛 b o bytes some_bytes small) $ use0 𝓛 (raw (fact 𝓤 Fits)) (fact_i 𝓤 Fits (emp 𝓤) (refl, omega arith, small)) $ join ! $
    nothing ! $ owned ! usize _ (uint_Makes 𝓛 w64) n _ (refl, wide) $ fjoin ! $ owned ! usize _ (uint_Makes 𝓛 w64) n _ (refl, wide) $ fjoin ! $
    owned ! RawPtr _ (rawptr_Makes 𝓛) (block_ptr b o) _ refl $ fjoin ! $
    use2 𝓛 (raw (G.pre y)) (handed 𝓛 (owns (RawPtr ∷ usize ∷ usize ∷ []) passed in_words) (sep 𝓤 (fact 𝓤 Fits) (sem 𝓛 (lodged u8 (block_ptr b o) n n bytes)))) $
    calls_at_last ! (framed 𝓤 𝓛.H 𝓜 𝓣) G (met 𝓤 𝓛 𝓜 𝓡 (code.calls-std_alloc::vec::lodge 𝓡.env wired) u8 byte-laws) y (and_then ! (get ! refl) (and_then ! (get ! refl) (and_then ! (get ! refl) (no_more !)))) (λ v.
    let Made = λ (r : Vec ℕ Lodged). (r.items ≡ bytes) × (r.len ≡ n) × (r.cap ≡ n) × (r.ptr ≡ block_ptr b o) in
    use1 𝓛 (later (some (λ (r : Vec ℕ Lodged). ((‵ (flft [] full_share) ⊛ ‵ ftrue) ⊛ ‵ (Page.own_val r (v ∷ []))) ⊛ some (λ (ws : Unit {0} × (Unit {0} × (Unit {0} × Unit {0}))). ‵ (fsep ftrue (fsep ftrue (fsep ftrue ftrue))) ⊛ raw (fact 𝓤 (Made r)))))) (id⊢ 𝓤 _) $
    await ! tt $ pick ! (λ r. split ! $ move ! (1 ∷ []) $ pick ! (λ ws. split ! $ drop ! $ heard ! (Made r) (λ is. split ! $ drop ! $ in_a_word ! Page page-laws r (v ∷ []) (λ u same good.
    -- [the page; the tokens]
    let good_v = subst (Fitting Page) (sym (ap only same)) good in
    lands_last ! refl good_v $ exec ! 𝓣.C 𝓣.Λ (env code.Mir.locals l) code.Mir.t-2 (at_ret _ ((walk_of 𝓛 f.ended spent c).post z)) $
    sets ! (of_opd ! (get ! refl)) refl good_v $
    rewrite ! 0 (λ w. ‵ (Page.own_val r (w ∷ []))) (sym (ap only same)) refl $
    returns ! (look_at ! 0 refl) $ free_all ! refl $
    by ! (ended 𝓛 f.ended spent c z v r (tt, (tt, (tt, tt))) (tt, (tt, (tt, tt))) (nothing_left 𝓛 3) (fact_i 𝓤 _ (emp 𝓤) (is.3 ∙ sym placed, is.0, is.1 ∙ asked.1)))))))))))))))
