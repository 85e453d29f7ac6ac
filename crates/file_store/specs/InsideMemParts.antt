-- Parts of files in memory.
use Rattle.std.specs.Prelude.{◌≡◌, ℕ, zero, suc, ◌+◌, ◌*◌, ◌≤◌, ◌<◌, true, List, [], ◌∷◌, length, Option, Some, None, IfSome}
use Rattle.std.proofs.Common.{inl, inr, refl, sym, subst, arith}
use Rattle.std.proofs.lemmas.Bool.{cases_Bool, cond-true, cond-false, and_parts, ltb-true}
use Rattle.std.proofs.lemmas.Nat.{mul-le}
use Rattle.page_base.specs.Lanes.{Origin, has_page, told_at}
use Rattle.store_trait.specs.Memory.{page_bytes}
use Rattle.store_trait.specs.WholePages.{told_at-told_by, length-page_of}
use Rattle.file_store.specs.Parts.{Extent, striped, whole, PartName, IsNamed, reach, piece_size, told_pieces}
use Rattle.file_store.specs.Folders.{stripe_origin}
use Rattle.file_store.specs.declared.mem_part.Shape.{Shape}
use Rattle.file_store.specs.declared.mem_part.Shape.TheVariants.{Striped, Whole}

abbrev pub extent_of : (path : List ℕ) → Shape → Extent
extent_of path (Striped cut stripe) = striped (stripe_origin path cut stripe)
extent_of path (Whole size) = whole size

abbrev pub name_of : (path : List ℕ) → Shape → PartName
name_of path shape = record { path = path; extent = extent_of path shape }

pub mem_named : (path : List ℕ) (shape : Shape) → IsNamed (name_of path shape)
mem_named path (Striped cut stripe) = refl
mem_named path (Whole size) = tt

-- Pieces of bytes that reach as far as the part are whole
pub mem_pieces_whole : (e : Extent) (bytes : List ℕ) → length bytes ≡ reach e → (p : ℕ) → IfSome (told_at (told_pieces e bytes) p) (λ piece. length piece ≡ piece_size e)
mem_pieces_whole (whole size) bytes sized p = in_one p
  where
    in_one : (p : ℕ) → IfSome (told_at (Some bytes ∷ []) p) (λ piece. length piece ≡ size)
    in_one zero = sized
    in_one (suc p) = tt
mem_pieces_whole (striped o) bytes sized p =
    let P : Option (List ℕ) → Type 0 = λ t. IfSome t (λ piece. length piece ≡ o.page_size) in
    subst P (sym (told_at-told_by o (page_bytes o.page_size bytes) p)) (elim (cases_Bool (has_page o p)) [
      | inl its ↦ subst P (sym (cond-true (has_page o p) (Some (page_bytes o.page_size bytes p)) None its)) (length-page_of o.page_size p bytes (omega (arith, sized, row_inside o p its)))
      | inr other ↦ subst P (sym (cond-false (has_page o p) (Some (page_bytes o.page_size bytes p)) None other)) tt
    ])
  where
    row_inside : (o : Origin) (p : ℕ) → has_page o p ≡ true → p * o.page_size + o.page_size ≤ o.pages * o.page_size
    row_inside o p its =
        let below : p < o.pages = ltb-true p o.pages (and_parts _ _ its).0 in
        omega (arith, mul-le (p + 1) o.page_size o.pages o.page_size (omega (arith, below)) (omega arith))
