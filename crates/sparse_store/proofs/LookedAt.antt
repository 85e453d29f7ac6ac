-- The metadata that was read.
use Rattle.std.proofs.Common.{◌≡◌, inl, inr, ℕ, zero, suc, ◌≤◌, List, [], ◌∷◌, ◌++◌, length, take, Option, Some, None, refl, sym, ap, subst, ◌∙◌, arith, codes, length-append}
use Rattle.std.specs.Option.{IfSome}
use Rattle.std.specs.Prelude.{IsSomeAnd, min, Ok}
use Rattle.std.specs.Fmt.{decimal}
use Rattle.std.proofs.lemmas.Bool.{cases_lt}
use Rattle.std.proofs.lemmas.Fmt.{length-decimal-le}
use Rattle.std.proofs.lemmas.List.{length-take-le}
use Rattle.std.proofs.Math.Seq.{take-length}
use Rattle.file_store.specs.Shelves.{Shelf, file_at}
use Rattle.file_store.specs.Folders.{TellsHead}
use Rattle.sparse_store.specs.declared.meta.Meta.{Meta}
use Rattle.sparse_store.specs.Metas.{meta_text, IsMeta, BeginsMeta, IsBadMeta}
use Rattle.sparse_store.specs.Openings.{HasMeta}
use Rattle.sparse_store.proofs.PartLists.{if_some}

short_text : (m : Meta) → IsMeta m → length (meta_text m) ≤ 52
short_text m is =
    let size : length (decimal m.size) ≤ 13 = length-decimal-le 13 m.size (omega arith) (omega (arith, is.most_size)) (omega (arith, is.most_size)) in
    let file : length (decimal m.file) ≤ 13 = length-decimal-le 13 m.file (omega arith) (omega (arith, is.most_file)) (omega (arith, is.most_file)) in
    omega (arith, size, file, length-append (decimal m.size) (codes "\nfile " ++ (decimal m.file ++ codes "\n")), length-append (decimal m.file) (codes "\n"))

-- what begins a metadata text is short
short_front : (xs : List ℕ) → BeginsMeta xs → length xs ≤ 52
short_front xs b = omega (arith, short_text b.0 b.2, ap length b.3, length-append xs b.1)

take_twice : (k n : ℕ) (xs : List ℕ) → k ≤ n → take k (take n xs) ≡ take k xs
take_twice zero n xs h = refl
take_twice (suc k) zero xs h = absurd (omega (arith, h))
take_twice (suc k) (suc n) [] h = refl
take_twice (suc k) (suc n) (x ∷ xs) h = ap (λ ys. x ∷ ys) (take_twice k n xs (omega (arith, h)))

take_all : (n : ℕ) (xs : List ℕ) → n ≡ length xs → take n xs ≡ xs
take_all n xs e = ap (λ m. take m xs) e ∙ take-length xs

-- as many bytes as are read tell where a text goes wrong
bad_front : (bytes : List ℕ) (n byte : ℕ) → n ≡ min 53 (length bytes) → IsBadMeta (take n bytes) byte → IsBadMeta bytes byte
bad_front bytes n byte is bad =
    let long : length (take n bytes) ≡ n = length-take-le n bytes (omega (arith, is)) in
    record {
      none = λ m good e. let short : length bytes ≤ 52 = omega (arith, ap length e, short_text m good) in bad.none m good (take_all n bytes (omega (arith, is, short)) ∙ e);
      within = omega (arith, bad.within, long, is);
      begins = subst BeginsMeta (take_twice byte n bytes (omega (arith, bad.within, long))) bad.begins;
      longest = λ k low high b. elim (cases_lt n k) [
        | inl far ↦ let longer : length (take k bytes) ≡ k = length-take-le k bytes high in omega (arith, short_front (take k bytes) b, longer, far, is, high)
        | inr near ↦ bad.longest k low (omega (arith, near, long)) (subst BeginsMeta (sym (take_twice k n bytes near)) b)
      ];
    }

bad_there : (there : Option (List ℕ)) (buf : List ℕ) (n byte : ℕ) → length buf ≡ 53 → TellsHead there buf (Ok n) → IsBadMeta (take n buf) byte → IsSomeAnd there (λ bytes. IsBadMeta bytes byte)
bad_there None buf n byte room tells bad = absurd tells
bad_there (Some bytes) buf n byte room tells bad =
    bad_front bytes n byte (tells.0 ∙ ap (λ (k : ℕ). min k (length bytes)) room) (subst (λ (xs : List ℕ). IsBadMeta xs byte) tells.1 bad)

pub bad_shown : (t : Option Shelf) (path buf : List ℕ) (n byte : ℕ) → length buf ≡ 53 → IfSome t (λ s. TellsHead (file_at s.files path) buf (Ok n)) → IsBadMeta (take n buf) byte → IfSome t (λ s. IsSomeAnd (file_at s.files path) (λ bytes. IsBadMeta bytes byte))
bad_shown t path buf n byte room tells bad = if_some t (λ s h. bad_there (file_at s.files path) buf n byte room h bad) tells

has_text : (there : Option (List ℕ)) (buf : List ℕ) (n : ℕ) (m : Meta) → length buf ≡ 53 → TellsHead there buf (Ok n) → take n buf ≡ meta_text m → IsMeta m → HasMeta there m
has_text None buf n m room tells is good = absurd tells
has_text (Some bytes) buf n m room tells is good =
    let front : take n bytes ≡ meta_text m = sym tells.1 ∙ is in
    let cut : n ≡ min 53 (length bytes) = tells.0 ∙ ap (λ (k : ℕ). min k (length bytes)) room in
    let long : length (take n bytes) ≡ n = length-take-le n bytes (omega (arith, cut)) in
    let whole_ : n ≡ length bytes = omega (arith, cut, long, ap length front, short_text m good) in
    record { is = good; text = ap (λ (xs : List ℕ). Some xs) (sym (take_all n bytes whole_) ∙ front) }

pub meta_shown : (t : Option Shelf) (path buf : List ℕ) (n : ℕ) (m : Meta) → length buf ≡ 53 → IfSome t (λ s. TellsHead (file_at s.files path) buf (Ok n)) → take n buf ≡ meta_text m → IsMeta m → IfSome t (λ s. HasMeta (file_at s.files path) m)
meta_shown t path buf n m room tells is good = if_some t (λ s h. has_text (file_at s.files path) buf n m room h is good) tells

same_meta : (m n : Meta) → m.size ≡ n.size → m.file ≡ n.file → m ≡ n
same_meta m n size file = ap (λ (s : ℕ). record { size = s; file = m.file }) size ∙ ap (λ (f : ℕ). record { size = n.size; file = f }) file

pub asked_shown : (t : Option Shelf) (path : List ℕ) (m n : Meta) → m.size ≡ n.size → m.file ≡ n.file → IfSome t (λ s. HasMeta (file_at s.files path) m) → IfSome t (λ s. HasMeta (file_at s.files path) n)
asked_shown t path m n size file = subst (λ (x : Meta). IfSome t (λ s. HasMeta (file_at s.files path) m) → IfSome t (λ s. HasMeta (file_at s.files path) x)) (same_meta m n size file) (λ h. h)
