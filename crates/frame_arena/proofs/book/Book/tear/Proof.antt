-- `tear` parts the rights, and runs nothing. Assumes `Logic`.
use Rattle.frame_arena.proofs.Steps.{◌+◌, ◌<◌, List, [], ◌∷◌, ◌++◌, length, refl, walked, ended, nothing_left, Goes-blank, drop_first, Val, id⊢, emp, WpFn, fact_i, tables, ‵, ◌⊛◌, prop, ◌$◌, !, by, move, drop, use1, split, fsplit, regoal, agg, enter, no_more, and_then, returns, alloc_all, pass_all, free_all, look_at, get, sets, yes, plain, Stays, walk_of, stay_dropped, word, no_word, ghostly, opened, paired}
use Rattle.frame_arena.specs.InsideOwnership.{rights, first_right}
use Rattle.frame_arena.proofs.Rights.{rights_tear}
use Rattle.frame_arena.specs.contracts.ticket.Ticket.{the_row as Ticket}
use Rattle.frame_arena.specs.contracts.book.Book.{the_row as Book}
use Rattle.frame_arena.specs.contracts.book.Book.tear as f
use Rattle.frame_arena.specs.contracts.book.Book.tear.Key.{name as #self}
use Rattle.frame_arena.proofs.book.Book.tear.Statement.{statement}
use Rattle.frame_arena.proofs.book.Book.tear.Code as code

abbrev spent : Stays f.ended.signature.params f.ended.kept
spent = (stay_dropped (plain (λ _. Book)) yes, tt)

pub tear_spec : {M : Type 1} → statement M
tear_spec 𝓤 𝓛 𝓜 𝓡 wired =
    let c = f.clauses 𝓛 𝓜.mem 𝓡.returns in let 𝓣 = tables 𝓤 𝓛.H 𝓜 𝓡 𝓡.env in
    walked 𝓛 f.ended spent c 𝓜 𝓡 (Goes-blank 𝓛 0 (plain (λ _. Book)) yes (λ _ _ _. tt), tt)
    #self code.function (code.unfolded 𝓤 𝓛.H 𝓜 𝓡 wired) (λ z. z.0.3.0.next < length z.0.3.0.names) (λ z. id⊢ 𝓤 _) (λ z more.
    let book = z.0.3.0 in let words = z.0.4 in
    let ticket : Ticket.Denot = record { names = book.names; number = book.next } in
    let rest : Book.Denot = record { names = book.names; next = book.next + 1 } in
    let Run = λ (us : List Val). prop (WpFn 𝓤 𝓛.H 𝓣.C 𝓣.Λ code.function us ((walk_of 𝓛 f.ended spent c).post z)) in
    fsplit ! $ opened ! words.0 (λ is. move ! (1 ∷ []) $ drop ! $
    -- [the rights; the tokens]
    regoal ! Run (λ i. is i ++ []) refl $
    enter ! _ _ _ _ _ $ alloc_all ! (λ l. pass_all ! refl ((tt, tt), tt) $
    sets ! (agg ! (no_more !)) refl (tt, tt) $
    sets ! (agg ! (no_more !)) refl (tt, tt) $
    sets ! (agg ! (and_then ! (get ! refl) (and_then ! (get ! refl) (no_more !)))) refl (tt, (tt, (tt, tt))) $
    use1 𝓛 (‵ (first_right (drop_first book.next book.names)) ⊛ ‵ (rights (drop_first (book.next + 1) book.names))) (rights_tear 𝓛 book.next book.names more) $ split ! $
    ghostly ! $ move ! (1 ∷ []) $ ghostly ! $ move ! (1 ∷ 0 ∷ []) $ paired ! Ticket Book ticket rest no_word no_word $
    returns ! (look_at ! 0 refl) $ free_all ! refl $
    by ! (ended 𝓛 f.ended spent c z (word (Ticket ∷ Book ∷ []) (no_word ∷ [], (no_word ∷ [], tt))) (ticket, rest) (tt, tt) (tt, tt) (nothing_left 𝓛 1) (fact_i 𝓤 _ (emp 𝓤) (refl, refl, refl, refl))))))
