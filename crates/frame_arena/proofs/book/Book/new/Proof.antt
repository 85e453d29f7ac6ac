-- `new` makes the rights, and runs nothing. Assumes `Logic`.
use Rattle.frame_arena.proofs.Steps.{◌≡◌, ℕ, List, [], ◌++◌, length, refl, walked, ended, nothing_left, Goes-blank, Val, emp, WpFn, fact_i, tables, ‵, some, given, later, prop, ◌$◌, !, by, drop, use0, fsplit, feq_l, flt_l, pick, learn, await, regoal, agg, enter, of_opd, no_more, returns, alloc_all, pass_all, free_all, look_at, get, sets, usize, yes, plain, Stays, walk_of, stay_dropped, no_word, ghostly}
use Rattle.frame_arena.specs.InsideOwnership.{rights}
use Rattle.frame_arena.proofs.Rights.{rights_new}
use Rattle.frame_arena.specs.contracts.book.Book.{the_row as Book}
use Rattle.frame_arena.specs.contracts.book.Book.new as f
use Rattle.frame_arena.specs.contracts.book.Book.new.Key.{name as #self}
use Rattle.frame_arena.proofs.book.Book.new.Statement.{statement}
use Rattle.frame_arena.proofs.book.Book.new.Code as code

abbrev spent : Stays f.ended.signature.params f.ended.kept
spent = (stay_dropped (plain (λ _. usize)) yes, tt)

pub new_spec : {M : Type 1} → statement M
new_spec 𝓤 𝓛 𝓜 𝓡 wired =
    let c = f.clauses 𝓛 𝓜.mem 𝓡.returns in let 𝓣 = tables 𝓤 𝓛.H 𝓜 𝓡 𝓡.env in
    walked 𝓛 f.ended spent c 𝓜 𝓡 (Goes-blank 𝓛 0 (plain (λ _. usize)) yes (λ _ _ _. tt), tt)
    #self code.function (code.unfolded 𝓤 𝓛.H 𝓜 𝓡 wired) (λ z. Unit {0}) (λ z. fact_i 𝓤 (Unit {0}) (emp 𝓤) tt) (λ z _.
    let n = z.0.3.0 in let words = z.0.4 in
    let Run = λ (us : List Val). prop (WpFn 𝓤 𝓛.H 𝓣.C 𝓣.Λ code.function us ((walk_of 𝓛 f.ended spent c).post z)) in
    fsplit ! $ fsplit ! $ feq_l ! (λ is. flt_l ! (λ fits. drop ! $
    -- [the tokens]
    regoal ! Run (λ i. is i ++ []) refl $
    enter ! _ _ _ _ _ $ alloc_all ! (λ l. pass_all ! refl ((tt, record { fits = fits }), tt) $
    sets ! (of_opd ! (get ! refl)) refl (tt, record { fits = fits }) $
    sets ! (agg ! (no_more !)) refl (tt, tt) $
    use0 𝓛 (later (some (λ (names : List ℕ). given (length names ≡ n) (‵ (rights names))))) (rights_new 𝓛 n) $ await ! tt $ pick ! (λ names. learn ! (λ long.
    let book : Book.Denot = record { names = names; next = 0 } in
    ghostly ! $ returns ! (look_at ! 0 refl) $ free_all ! refl $ by ! (ended 𝓛 f.ended spent c z no_word book (tt, tt) (tt, tt) (nothing_left 𝓛 1) (fact_i 𝓤 _ (emp 𝓤) (long, refl)))))))))
