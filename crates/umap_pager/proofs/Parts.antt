-- Where a piece of a range lies, and bytes written over a part of a buffer.
use Rattle.std.proofs.Common.{◌≡◌, inl, inr, Some, ℕ, ◌+◌, ◌*◌, ◌-◌, ◌<◌, ◌≤◌, List, [], ◌∷◌, ◌++◌, length, take, drop, sym, ap, subst, ◌∙◌, arith}
use Rattle.std.specs.List.{slice_get}
use Rattle.std.proofs.lemmas.Bool.{cases_lt}
use Rattle.std.proofs.lemmas.List.{places, drop-drop, take-append-drop}
use borrow.Rule.Slice.PartMut.{put_mid}
use Rattle.page_base.specs.declared.keys.Piece.{Piece}
use Rattle.page_base.specs.declared.keys.RegionShape.{RegionShape}
use Rattle.page_model.specs.Pieces.{bytes_in}
use Rattle.region_table.specs.Covers.{IsNext, PiecesFollow}
use Rattle.region_table.specs.Regions.{shapes_of}
use Rattle.umap_pager.specs.InsideParts.{GoesTogether, IsPart}
use Rattle.umap_pager.specs.Shared.{SharedPager, region_size, range_pieces}

rows_more : (pages more size : ℕ) → pages * size ≤ (pages + more) * size
rows_more pages more size = grind arith

row_below : (p pages size place : ℕ) → p * size + place < pages * size → p < pages
row_below p pages size place below = elim (cases_lt p pages) [
  | inl lt ↦ lt
  | inr above ↦
      let more = rows_more pages (p - pages) size in
      let is : pages + (p - pages) ≡ p = omega (arith, above) in
      let le : pages * size ≤ p * size = subst (λ (n : ℕ). pages * size ≤ n * size) is more in
      absurd (omega (arith, le, below))
]

module _ {S J : Type 0} where
  -- the piece that comes next in a range
  pub piece_next : PiecesFollow → (pager : SharedPager S J) (region off len done : ℕ) (front mid rest : List Piece) (piece : Piece) → range_pieces pager region off len ≡ front ++ mid → mid ≡ piece ∷ rest → bytes_in front ≡ done → IsNext pager.layout.page_size region off len done piece
  piece_next follow pager region off len done front mid rest piece whole steps sum =
      follow.next pager.layout.page_size region off len done front rest piece (omega (arith, pager.layout.large_pages)) (whole ∙ ap (λ ps. front ++ ps) steps) sum

  -- no piece is left, so all bytes are done
  pub pieces_end : PiecesFollow → (pager : SharedPager S J) (region off len done : ℕ) (front : List Piece) → range_pieces pager region off len ≡ front → bytes_in front ≡ done → done ≡ len
  pieces_end follow pager region off len done front whole sum =
      follow.all pager.layout.page_size region off len done (omega (arith, pager.layout.large_pages)) (ap bytes_in whole ∙ sum)

  pub next_part : (pager : SharedPager S J) (shapes : List RegionShape) (region off len done : ℕ) (piece : Piece) → GoesTogether pager shapes → region < length pager.table.regions → off + len ≤ region_size pager region
      → IsNext pager.layout.page_size region off len done piece → IsPart pager piece.key piece.place piece.len
  next_part pager shapes region off len done piece all known range next = record {
    region = subst (λ (r : ℕ). r < length pager.table.regions) (sym next.at.of_region) known;
    page = λ shape at.
        let size : region_size pager region ≡ shape.pages * pager.layout.page_size = all.sizes region shape (subst (λ (r : ℕ). slice_get (shapes_of pager.table) r ≡ Some shape) next.at.of_region at) in
        row_below piece.key.page shape.pages pager.layout.page_size piece.place (omega (arith, next.at.begins, next.short, next.at.some, range, size));
    some = next.at.some;
    inside = next.at.within;
  }

-- what a write to a part of a buffer leaves

put_of_mid : (xs ys : List ℕ) (a k : ℕ) → k ≡ length ys → put_mid a k xs ys ≡ take a xs ++ (ys ++ drop (a + length ys) xs)
put_of_mid xs ys a k len = ap (λ (t : List ℕ). take a xs ++ (ys ++ t)) (drop-drop k a xs ∙ ap (λ (m : ℕ). drop m xs) (omega (arith, len)))

length-put : (xs ys : List ℕ) (a : ℕ) → a + length ys ≤ length xs → length (take a xs ++ (ys ++ drop (a + length ys) xs)) ≡ length xs
length-put xs ys a fits = grind (arith, places)

pub length-put_mid : (xs ys : List ℕ) (a k : ℕ) → k ≡ length ys → a + k ≤ length xs → length (put_mid a k xs ys) ≡ length xs
length-put_mid xs ys a k len fits = ap length (put_of_mid xs ys a k len) ∙ length-put xs ys a (omega (arith, len, fits))

-- the part that is put back is as it was
pub put_same : (xs ys : List ℕ) (a k : ℕ) → ys ≡ take k (drop a xs) → put_mid a k xs ys ≡ xs
put_same xs ys a k same =
    ap (λ (t : List ℕ). take a xs ++ (t ++ drop k (drop a xs))) same
    ∙ ap (λ (t : List ℕ). take a xs ++ t) (take-append-drop k (drop a xs))
    ∙ take-append-drop a xs

-- what lay behind a longer part is as it was too
pub drop_more : (xs ys : List ℕ) (a k : ℕ) → drop a xs ≡ drop a ys → drop (a + k) xs ≡ drop (a + k) ys
drop_more xs ys a k same = sym (drop-drop k a xs) ∙ ap (drop k) same ∙ drop-drop k a ys

-- a list with an item behind others isn't empty
pub not_none : {A : Type 0} (xs : List A) (x : A) → xs ++ x ∷ [] ≡ [] → ⊥
not_none [] x e = cc
not_none (y ∷ ys) x e = cc
