use Rattle.std.proofs.Common.{◌≡◌, ℕ, ◌/◌, ◌<◌, List, length, ap, sym, subst, ◌∙◌, arith}
use Rattle.store_trait.proofs.Joins.{split_is_one, some_pages}
use Rattle.store_trait.proofs.mem_store.MemStore.split.Goals as goal

pub returns-in-Ok-clause-one_split : goal.returns-in-Ok-clause-one_split
returns-in-Ok-clause-one_split c =
    let s = c.args.self in
    let pages : length c.as_slice-contents.result.now / c.page_size.result ≡ length s.contents.items / s.page_size =
    ap (λ (xs : List ℕ). length xs / c.page_size.result) c.as_slice-contents.ensures ∙ ap (λ (z : ℕ). length s.contents.items / z) (c.page_size.ensures ∙ c.requires.page_size) in
    split_is_one _ _ _ _ _ _ c.in-Ok.ensures (subst (λ (n : ℕ). 0 < n) (sym c.stripes.ensures) (omega arith)) (subst (λ (n : ℕ). 0 < n) (sym pages) (some_pages (length s.contents.items) s.page_size s.some s.whole))
