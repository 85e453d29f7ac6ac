-- `differ` knows that nobody has a right twice, and runs nothing. Assumes `Logic`.
use Rattle.frame_arena.proofs.Steps.{◌≡◌, ℕ, List, [], ◌∷◌, ◌++◌, refl, sym, walked, ended, nothing_left, Goes-blank, drop_first, Val, id⊢, emp, WpFn, fact_i, tables, ‵, ◌⊛◌, given, later, prop, ◌$◌, !, by, move, drop, use2, split, fsplit, learn, await, rewrite, regoal, agg, enter, no_more, and_then, returns, alloc_all, pass_all, free_all, look_at, get, sets, yes, plain, Stays, walk_of, stay_dropped, word, no_word, ghostly, opened, paired}
use Rattle.frame_arena.specs.InsideOwnership.{first_right}
use Rattle.frame_arena.proofs.Rights.{rights_differ}
use Rattle.frame_arena.specs.contracts.ticket.Ticket.{the_row as Ticket}
use Rattle.frame_arena.specs.contracts.ticket.Ticket.differ as f
use Rattle.frame_arena.specs.contracts.ticket.Ticket.differ.Key.{name as #self}
use Rattle.frame_arena.proofs.ticket.Ticket.differ.Statement.{statement}
use Rattle.frame_arena.proofs.ticket.Ticket.differ.Code as code

abbrev spent : Stays f.ended.signature.params f.ended.kept
spent = (stay_dropped (plain (λ _. Ticket)) yes, (stay_dropped (plain (λ _. Ticket)) yes, tt))

pub differ_spec : {M : Type 1} → statement M
differ_spec 𝓤 𝓛 𝓜 𝓡 wired =
    let c = f.clauses 𝓛 𝓜.mem 𝓡.returns in let 𝓣 = tables 𝓤 𝓛.H 𝓜 𝓡 𝓡.env in let goes = Goes-blank 𝓛 0 (plain (λ _. Ticket)) yes (λ _ _ _. tt) in
    walked 𝓛 f.ended spent c 𝓜 𝓡 (goes, (goes, tt)) #self code.function (code.unfolded 𝓤 𝓛.H 𝓜 𝓡 wired) (λ z. z.0.3.0.names ≡ z.0.3.1.0.names) (λ z. id⊢ 𝓤 _) (λ z same.
    let one = z.0.3.0 in let other = z.0.3.1.0 in let words = z.0.4 in
    let Right = λ (n : ℕ). first_right (drop_first n one.names) in
    let Run = λ (us : List Val). prop (WpFn 𝓤 𝓛.H 𝓣.C 𝓣.Λ code.function us ((walk_of 𝓛 f.ended spent c).post z)) in
    fsplit ! $ opened ! words.0 (λ is₀. move ! (1 ∷ []) $ fsplit ! $ opened ! words.1.0 (λ is₁. move ! (1 ∷ []) $ drop ! $
    -- [the other's right; this one's; the tokens]
    regoal ! Run (λ i. is₀ i ++ (is₁ i ++ [])) refl $
    enter ! _ _ _ _ _ $ alloc_all ! (λ l. pass_all ! refl ((tt, tt), ((tt, tt), tt)) $
    sets ! (agg ! (no_more !)) refl (tt, tt) $
    sets ! (agg ! (no_more !)) refl (tt, tt) $
    sets ! (agg ! (and_then ! (get ! refl) (and_then ! (get ! refl) (no_more !)))) refl (tt, (tt, (tt, tt))) $
    rewrite ! 0 (λ ls. ‵ (first_right (drop_first other.number ls))) (sym same) refl $ move ! (1 ∷ 0 ∷ []) $
    use2 𝓛 (later (given (one.number ≡ other.number → ⊥) (‵ (Right one.number) ⊛ ‵ (Right other.number)))) (rights_differ 𝓛 one.names one.number other.number) $ await ! tt $ learn ! (λ apart. split ! $
    ghostly ! $ move ! (1 ∷ []) $ rewrite ! 0 (λ ls. ‵ (first_right (drop_first other.number ls))) same refl $ ghostly ! $ move ! (1 ∷ 0 ∷ []) $ paired ! Ticket Ticket one other no_word no_word $
    returns ! (look_at ! 0 refl) $ free_all ! refl $
    by ! (ended 𝓛 f.ended spent c z (word (Ticket ∷ Ticket ∷ []) (no_word ∷ [], (no_word ∷ [], tt))) (one, other) (tt, (tt, tt)) (tt, (tt, tt)) (nothing_left 𝓛 2) (fact_i 𝓤 _ (emp 𝓤) (apart, refl, refl, refl, refl))))))))
