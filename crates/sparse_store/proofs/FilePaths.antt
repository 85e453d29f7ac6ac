-- The paths of a store's files are apart.
use Rattle.std.proofs.Common.{◌≡◌, ◌≢◌, ℕ, ◌≤◌, List, ◌++◌, get_or, codes, subst, arith}
use Rattle.std.specs.Fmt.{decimal}
use Rattle.std.specs.Int.{IsInRange}
use Rattle.std.proofs.lemmas.Fmt.{decimal_injective}
use Rattle.std.proofs.lemmas.List.{append_cancel_left}
use Rattle.sparse_store.specs.declared.meta.TheConstants.{MOST_META_NUMBER}
use Rattle.sparse_store.specs.Files.{path_in, meta_path, file_path}
use Rattle.sparse_store.proofs.Spellings.{digits_of_decimal, some_digits}

names_of_one : (dir a b : List ℕ) → path_in dir a ≡ path_in dir b → a ≡ b
names_of_one dir a b e = append_cancel_left (codes "/") a b (append_cancel_left dir (codes "/" ++ a) (codes "/" ++ b) e)

-- files of different numbers
pub one_number : (dir : List ℕ) (j k : ℕ) → j ≤ MOST_META_NUMBER → k ≤ MOST_META_NUMBER → file_path dir j ≡ file_path dir k → j ≡ k
one_number dir j k small_j small_k e = decimal_injective j k (omega (arith, small_j)) (omega (arith, small_k)) (names_of_one dir (decimal j) (decimal k) e)

-- no file is the metadata
pub not_meta : (dir : List ℕ) (k : ℕ) → k ≤ MOST_META_NUMBER → file_path dir k ≢ meta_path dir
not_meta dir k small e =
    let same : decimal k ≡ codes "_metadata" = names_of_one dir (decimal k) (codes "_metadata") e in
    let digit : IsInRange 48 57 (get_or (decimal k) 0 0) = digits_of_decimal k small 0 (some_digits k small) in
    let high : IsInRange 48 57 (get_or (codes "_metadata") 0 0) = subst (λ (s : List ℕ). IsInRange 48 57 (get_or s 0 0)) same digit in
    omega (arith, high.1)
