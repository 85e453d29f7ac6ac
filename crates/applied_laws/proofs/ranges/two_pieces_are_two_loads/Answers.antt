use Rattle.std.proofs.Common.{◌≡◌, ◌∙◌, ◌+◌, ◌++◌, ◌∷◌, [], ℕ, List, ap, arith, refl, sym}
use Rattle.page_base.specs.declared.keys.Key.{Key}
use Rattle.page_base.specs.declared.keys.Piece.{Piece}
use Rattle.page_model.specs.declared.entry.Entry.{Entry}
use Rattle.page_model.specs.declared.entry.Entry.TheVariants.{Load}
use Rattle.applied_laws.proofs.ranges.two_pieces_are_two_loads.Goals as goal

pub returns : goal.returns
returns c = λ p q xs ys x y.
    let load : Key → ℕ → List ℕ → Entry = λ k place its. Load k place its in
    c.accesses_by_piece.ensures.own load (p ∷ []) q xs ys (omega (arith, x)) y
    ∙ ap (λ (es : List Entry). es ++ Load q.key q.place ys ∷ []) (c.accesses_by_piece.ensures.own load [] p [] xs refl x)
