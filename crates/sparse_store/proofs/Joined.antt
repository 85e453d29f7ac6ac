-- What parts tell of a store's contents, and what lanes do.
use Rattle.std.proofs.Common.{◌≡◌, ℕ, zero, suc, ◌+◌, ◌*◌, ◌/◌, ◌%◌, ◌≤◌, List, [], ◌∷◌, ◌++◌, map, length, take, drop, slice_get, replicate, Option, Some, None, refl, sym, ap, subst, ◌∙◌, arith, zero-add}
use Rattle.std.specs.Option.{IfSome, is_some, option_map, option_and_then}
use Rattle.std.specs.List.{range_with_len}
use Rattle.std.proofs.lemmas.Bool.{cond-true, cond-false}
use Rattle.std.proofs.lemmas.List.{places, same_lists}
use Rattle.std.proofs.lemmas.Nat.{div-add-mod'}
use Rattle.std.proofs.Math.Nat.{add-sub_cancel_left}
use Rattle.page_base.specs.Lanes.{told_at}
use Rattle.store_trait.specs.Memory.{page_bytes}
use Rattle.file_store.specs.Folders.{whole_name, reached_bytes, IsOpenedWhole}
use Rattle.file_store.specs.Parts.{PartName, PartSeen, whole, piece_size, told_pieces}
use Rattle.file_store.specs.Shelves.{Shelf, file_at}
use Rattle.sparse_store.specs.Contents.{joined, joined_in, contents_of}
use Rattle.sparse_store.specs.Files.{AreFilesOpened, file_path}
use Rattle.sparse_store.specs.SparseFiles.{file_bytes}
use Rattle.sparse_store.specs.declared.meta.Meta.{Meta}
use Rattle.sparse_store.proofs.PartLists.{some_is}

-- ---- parts that were just opened

bytes_opened : (size : ℕ) (path : List ℕ) (p : PartSeen) (f : Option (List ℕ)) → p.name ≡ whole_name path size → p.made ≡ is_some f → p.told ≡ told_pieces (whole size) (reached_bytes (whole size) f) → file_bytes p ≡ Some (reached_bytes (whole size) f)
bytes_opened size path p None name made told =
    cond-false p.made (told_at p.told 0) (option_map (λ bytes. replicate (piece_size p.name.extent) 0) (told_at p.told 0)) made
    ∙ ap (λ (t : List (Option (List ℕ))). option_map (λ bytes. replicate (piece_size p.name.extent) 0) (told_at t 0)) told
    ∙ ap (λ (n : PartName). Some (replicate (piece_size n.extent) 0)) name
bytes_opened size path p (Some bytes) name made told =
    cond-true p.made (told_at p.told 0) (option_map (λ bytes. replicate (piece_size p.name.extent) 0) (told_at p.told 0)) made
    ∙ ap (λ (t : List (Option (List ℕ))). told_at t 0) told

module _ {P : Type 0} (seen : P → PartSeen) (s : Shelf) (dir : List ℕ) (file : ℕ) where
  joined_from : (k : ℕ) (xs : List P) → ((j : ℕ) (x : P) → slice_get xs j ≡ Some x → IsOpenedWhole (Some s) (file_path dir (k + j)) file (seen x))
      → contents_of (map seen xs) ≡ Some (joined file (map (λ i. file_at s.files (file_path dir i)) (range_with_len k (length xs))))
  joined_from k [] each = refl
  joined_from k (x ∷ xs) each =
      let one : IsOpenedWhole (Some s) (file_path dir k) file (seen x) = subst (λ (i : ℕ). IsOpenedWhole (Some s) (file_path dir i) file (seen x)) (let e : k + 0 ≡ k = omega arith in e) (each 0 x refl) in
      ap (option_and_then (λ bytes. option_map (λ rest. bytes ++ rest) (contents_of (map seen xs)))) (bytes_opened file (file_path dir k) (seen x) (file_at s.files (file_path dir k)) one.name_is one.made one.holds)
      ∙ ap (option_map (λ rest. reached_bytes (whole file) (file_at s.files (file_path dir k)) ++ rest))
      (joined_from (k + 1) xs (λ j y got. subst (λ (i : ℕ). IsOpenedWhole (Some s) (file_path dir i) file (seen y)) (let e : k + suc j ≡ k + 1 + j = omega arith in e) (each (suc j) y got)))

pub opened_contents : {P : Type 0} (seen : P → PartSeen) (told : Option Shelf) (dir : List ℕ) (m : Meta) (xs : List P) → AreFilesOpened seen told dir m xs → IfSome told (λ s. contents_of (map seen xs) ≡ Some (joined_in s.files dir m))
opened_contents seen None dir m xs opens = tt
opened_contents seen (Some s) dir m xs opens =
    joined_from seen s dir m.file 0 xs (λ j x got. subst (λ (i : ℕ). IsOpenedWhole (Some s) (file_path dir i) m.file (seen x)) (sym (zero-add j)) (opens.each j x got))
    ∙ ap (λ (n : ℕ). Some (joined m.file (map (λ i. file_at s.files (file_path dir i)) (range_with_len 0 n)))) opens.count

-- ---- a file among the contents

both_told : (t u : Option (List ℕ)) (c : List ℕ) → option_and_then (λ bytes. option_map (λ rest. bytes ++ rest) u) t ≡ Some c
    → (b : List ℕ) × (rest : List ℕ) × (t ≡ Some b) × (u ≡ Some rest) × (c ≡ b ++ rest)
both_told None u c e = absurd (cc)
both_told (Some b) None c e = absurd (cc)
both_told (Some b) (Some rest) c e = (b, rest, refl, refl, sym (some_is e))

first_file_of : (file : ℕ) (b rest : List ℕ) → length b ≡ file → b ≡ take file (drop (0 * file) (b ++ rest))
first_file_of file b rest len = in_front ∙ ap (λ (n : ℕ). take file (drop n (b ++ rest))) (let e : 0 ≡ 0 * file = omega arith in e)
  where
    in_front : b ≡ take file (drop 0 (b ++ rest))
    in_front = same_lists _ _ (grind (arith, places)) (λ k h e. grind (arith, places))

next_file_of : (file j : ℕ) (b rest : List ℕ) → length b ≡ file → take file (drop (j * file) rest) ≡ take file (drop (suc j * file) (b ++ rest))
next_file_of file j b rest len =
    let e : suc j * file ≡ length b + j * file = omega (arith, len) in
    ap (take file) (dropped b (j * file) ∙ ap (λ (n : ℕ). drop n (b ++ rest)) (sym e))
  where
    dropped : (b : List ℕ) (n : ℕ) → drop n rest ≡ drop (length b + n) (b ++ rest)
    dropped [] n = ap (λ (i : ℕ). drop i rest) (sym (zero-add n))
    dropped (x ∷ b) n = dropped b n ∙ ap (λ (i : ℕ). drop i (x ∷ (b ++ rest))) (let e : suc (length b + n) ≡ length (x ∷ b) + n = omega arith in e)

module _ (file : ℕ) where
  pub file_in : (ps : List PartSeen) (c : List ℕ) → contents_of ps ≡ Some c → ((k : ℕ) (q : PartSeen) → slice_get ps k ≡ Some q → IfSome (file_bytes q) (λ b. length b ≡ file))
      → (k : ℕ) (q : PartSeen) → slice_get ps k ≡ Some q → file_bytes q ≡ Some (take file (drop (k * file) c))
  file_in [] c told sized k q got = absurd (cc)
  file_in (p ∷ ps) c told sized zero q got =
      let two = both_told (file_bytes p) (contents_of ps) c told in
      let len : length two.0 ≡ file = subst (λ t. IfSome t (λ b. length b ≡ file)) two.2 (sized 0 p refl) in
      sym (ap file_bytes (some_is got)) ∙ two.2 ∙ ap Some (first_file_of file two.0 two.1 len ∙ ap (λ (xs : List ℕ). take file (drop (0 * file) xs)) (sym two.4))
  file_in (p ∷ ps) c told sized (suc j) q got =
      let two = both_told (file_bytes p) (contents_of ps) c told in
      let len : length two.0 ≡ file = subst (λ t. IfSome t (λ b. length b ≡ file)) two.2 (sized 0 p refl) in
      file_in ps two.1 two.3 (λ k q got. sized (suc k) q got) j q got
      ∙ ap Some (next_file_of file j two.0 two.1 len ∙ ap (λ (xs : List ℕ). take file (drop (suc j * file) xs)) (sym two.4))

-- ---- a page among the contents

-- a page of a file is that page of the contents
pub page_in : (file group page_size page : ℕ) (c : List ℕ) → file ≡ group * page_size → page % group * page_size + page_size ≤ file → page_bytes page_size (take file (drop (page / group * file) c)) (page % group) ≡ page_bytes page_size c page
page_in file group page_size page c cut within =
    rw (add-sub_cancel_left (page % group * page_size) page_size, add-sub_cancel_left (page * page_size) page_size)
    (let e : page * page_size ≡ page / group * file + page % group * page_size = place_of in
    subst (λ (a : ℕ). take page_size (drop (page % group * page_size) (take file (drop (page / group * file) c))) ≡ take page_size (drop a c)) (sym e)
    (range_in (page / group * file) (page % group * page_size) within))
  where
    place_of : page * page_size ≡ page / group * file + page % group * page_size
    place_of =
        ap (λ (p : ℕ). p * page_size) (sym (div-add-mod' page group))
        ∙ (let e : (page / group * group + page % group) * page_size ≡ page / group * (group * page_size) + page % group * page_size = omega arith in e)
        ∙ ap (λ (f : ℕ). page / group * f + page % group * page_size) (sym cut)

    range_in : (b a : ℕ) → a + page_size ≤ file → take page_size (drop a (take file (drop b c))) ≡ take page_size (drop (b + a) c)
    range_in b a within = same_lists _ _ (grind (arith, places)) (λ k h e. grind (arith, places))
