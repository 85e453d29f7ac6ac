-- `from_page` takes the bytes that `dislodge` hands back. Assumes `Logic`.
use Rattle.frame_arena.proofs.Steps.{◌≡◌, ℕ, ◌<◌, List, [], ◌∷◌, ◌++◌, refl, ap, arith, walked, ended, nothing_left, Goes-blank, framed, Val, id⊢, emp, ftrue, fsep, flft, full_share, WpFn, fact, fact_i, tables, sem, ‵, raw, ◌⊛◌, some, later, prop, ◌$◌, !, by, move, drop, use1, use2, split, split3, fsplit, feq_l, flt_l, fjoin, pick, await, rewrite, regoal, agg, enter, of_opd, no_more, and_then, returns, alloc_all, pass_all, free_all, look_at, get, sets, lands_as, u8, usize, yes, plain, nothing, only, calls_at, triple_of, Stays, walk_of, stay_dropped, no_word, ghostly, in_a_word, byte-laws, handed}
use Rattle.std_alloc.specs.Vec.Ownership.{lodged}
use Rattle.std_alloc.specs.contracts.vec.lodged.Vec+T+Lodged.dislodge as g
use Rattle.std_alloc.proofs.vec.lodged.Vec+T+Lodged.dislodge.Met.{met}
use Rattle.frame_arena.specs.InsideOwnership.{lies}
use Rattle.frame_arena.proofs.Pages.{Page, page-laws, page_out}
use Rattle.frame_arena.specs.contracts.piece.Piece.{the_row as Piece}
use Rattle.frame_arena.specs.contracts.piece.Piece.from_page as f
use Rattle.frame_arena.specs.contracts.piece.Piece.from_page.Key.{name as #self}
use Rattle.frame_arena.proofs.piece.Piece.from_page.Statement.{statement}
use Rattle.frame_arena.proofs.piece.Piece.from_page.Code as code

abbrev spent : Stays f.ended.signature.params f.ended.kept
spent = (stay_dropped (plain (λ _. Page)) yes, tt)

pub from_page_spec : {M : Type 1} → statement M
from_page_spec 𝓤 𝓛 𝓜 𝓡 wired =
    let c = f.clauses 𝓛 𝓜.mem 𝓡.returns in let 𝓣 = tables 𝓤 𝓛.H 𝓜 𝓡 𝓡.env in
    let G = triple_of 𝓛 (g.signature u8) (g.spec u8 𝓛 𝓜.mem 𝓡.returns) in
    walked 𝓛 f.ended spent c 𝓜 𝓡 (Goes-blank 𝓛 0 (plain (λ _. Page)) yes (λ _ _ _. tt), tt)
    #self code.function (code.unfolded 𝓤 𝓛.H 𝓜 𝓡 wired) (λ z. 0 < z.0.3.0.len) (λ z. id⊢ 𝓤 _) (λ z some_bytes.
    let page = z.0.3.0 in let words = z.0.4 in
    let piece : Piece.Denot = record { place = page.ptr; bytes = page.items } in
    let Run = λ (us : List Val). prop (WpFn 𝓤 𝓛.H 𝓣.C 𝓣.Λ code.function us ((walk_of 𝓛 f.ended spent c).post z)) in
    fsplit ! $ in_a_word ! Page page-laws page words.0 (λ u is good. move ! (1 ∷ []) $ drop ! $
    -- [the page; the tokens]
    regoal ! Run (λ i. is i ++ []) refl $
    enter ! _ _ _ _ _ $ alloc_all ! (λ l. pass_all ! refl (good, tt) $
    sets ! (of_opd ! (get ! refl)) refl good $
    let y : G.Ghost = ((([], tt), (full_share, tt), tt, (page, tt), (u ∷ [], tt)), tt) in
    nothing ! $ nothing ! $ move ! (2 ∷ 0 ∷ []) $ fjoin ! $ use2 𝓛 (raw (G.pre y)) (handed 𝓛 (fsep (Page.own_val page (u ∷ [])) ftrue) (sem 𝓛 ftrue)) $
    calls_at ! (framed 𝓤 𝓛.H 𝓜 𝓣) G (met 𝓤 𝓛 𝓜 𝓡 (code.calls-std_alloc::vec::lodged::Vec+T+Lodged::dislodge 𝓡.env wired) u8 byte-laws) y (and_then ! (get ! refl) (no_more !)) (λ v.
    let Bytes = λ (n : ℕ). ‵ (lodged u8 page.ptr n page.cap page.items) in
    use1 𝓛 (later (some (λ (n : ℕ). ((‵ (flft [] full_share) ⊛ ‵ ftrue) ⊛ ‵ (usize.own_val n (v ∷ []))) ⊛ some (λ (ws : Unit {0} × Unit {0}). ‵ (fsep ftrue ftrue) ⊛ raw (fact 𝓤 (n ≡ page.len)) ⊛ Bytes page.len)))) (id⊢ 𝓤 _) $
    await ! tt $ pick ! (λ n. split ! $ move ! (1 ∷ []) $ pick ! (λ ws. split3 ! $ drop ! $ drop ! $ rewrite ! 0 Bytes page.ok.0 refl $
    use1 𝓛 (‵ (lies piece.place piece.bytes)) (page_out 𝓛 page.ptr page.cap page.items (omega (arith, page.ok.1))) $ ghostly ! $
    move ! (1 ∷ []) $ split ! $ drop ! $ fsplit ! $ feq_l ! (λ is_size. flt_l ! (λ fits.
    -- [the piece; the tokens]
    lands_as ! (ap only is_size) refl (tt, record { fits = fits }) $
    sets ! (agg ! (no_more !)) refl (tt, tt) $
    returns ! (look_at ! 0 refl) $ free_all ! refl $ by ! (ended 𝓛 f.ended spent c z no_word piece (tt, tt) (tt, tt) (nothing_left 𝓛 1) (fact_i 𝓤 _ (emp 𝓤) (refl, refl)))))))))))
