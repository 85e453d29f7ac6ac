-- Accesses by one piece more.
use Rattle.std.proofs.Common.{List, [], ap, arith, drop, length, length-drop, refl, take, ℕ, ◌++◌, ◌∙◌, ◌∷◌, ◌≡◌, ◌≤◌}
use Rattle.std.proofs.Math.Seq.{drop-append_seam}
use Rattle.std.proofs.lemmas.List.{drop-append-le, drop-drop, take-append-le, take_all}
use Rattle.std.proofs.lemmas.List.Sums.{sum_by-cons}
use Rattle.page_base.specs.declared.keys.Key.{Key}
use Rattle.page_base.specs.declared.keys.Piece.{Piece}
use Rattle.page_model.specs.declared.entry.Entry.{Entry}
use Rattle.page_model.specs.Pieces.{AccessesByPiece, accesses_by, bytes_in}

snoc : (access : Key → ℕ → List ℕ → Entry) (ps : List Piece) (p : Piece) (bytes : List ℕ) → accesses_by access (ps ++ p ∷ []) bytes ≡ accesses_by access ps bytes ++ access p.key p.place (take p.len (drop (bytes_in ps) bytes)) ∷ []
snoc access [] p bytes = refl
snoc access (q ∷ ps) p bytes =
    ap (λ (es : List Entry). access q.key q.place (take q.len bytes) ∷ es)
    (snoc access ps p (drop q.len bytes)
    ∙ ap (λ (xs : List ℕ). accesses_by access ps (drop q.len bytes) ++ access p.key p.place (take p.len xs) ∷ []) (drop-drop (bytes_in ps) q.len bytes ∙ ap (λ (m : ℕ). drop m bytes) (omega (arith, sum_by-cons (λ (r : Piece). r.len) q ps))))

front : (access : Key → ℕ → List ℕ → Entry) (ps : List Piece) (xs ys : List ℕ) → bytes_in ps ≤ length xs → accesses_by access ps (xs ++ ys) ≡ accesses_by access ps xs
front access [] xs ys le = refl
front access (q ∷ ps) xs ys le =
    let more = sum_by-cons (λ (r : Piece). r.len) q ps in
    ap (λ (zs : List ℕ). access q.key q.place zs ∷ accesses_by access ps (drop q.len (xs ++ ys))) (take-append-le q.len xs ys (omega (arith, le, more)))
    ∙ ap (λ (zs : List ℕ). access q.key q.place (take q.len xs) ∷ accesses_by access ps zs) (drop-append-le q.len xs ys (omega (arith, le, more)))
    ∙ ap (λ (es : List Entry). access q.key q.place (take q.len xs) ∷ es) (front access ps (drop q.len xs) ys (omega (arith, le, more, length-drop q.len xs)))

with_own : (access : Key → ℕ → List ℕ → Entry) (ps : List Piece) (p : Piece) (xs ys : List ℕ) → bytes_in ps ≡ length xs → length ys ≡ p.len → accesses_by access (ps ++ p ∷ []) (xs ++ ys) ≡ accesses_by access ps xs ++ access p.key p.place ys ∷ []
with_own access ps p xs ys e f =
    snoc access ps p (xs ++ ys)
    ∙ ap (λ (es : List Entry). es ++ access p.key p.place (take p.len (drop (bytes_in ps) (xs ++ ys))) ∷ []) (front access ps xs ys (omega (arith, e)))
    ∙ ap (λ (zs : List ℕ). accesses_by access ps xs ++ access p.key p.place zs ∷ []) (ap (λ (m : ℕ). take p.len (drop m (xs ++ ys))) e ∙ (ap (take p.len) (drop-append_seam xs ys) ∙ take_all p.len ys (omega (arith, f))))

pub accesses_by_piece : AccessesByPiece
accesses_by_piece = record { more = snoc; own = with_own; front = front }
