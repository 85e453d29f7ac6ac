-- Where a region's pages lie in its leaves: page 512 * k + i at place i of leaf k.
use Rattle.std.proofs.Common.{◌≡◌, ℕ, zero, suc, ◌+◌, ◌-◌, ◌*◌, ◌<◌, ◌≤◌, List, [], ◌∷◌, ◌++◌, length, sym, ap, ◌∙◌, arith, length-append, replicate}
use Rattle.std.specs.Prelude.{slice_index_or, slice_set}
use Rattle.std.proofs.lemmas.List.{get_or_append_left, get_or-append_right, set-append_left, set-append_right, length-replicate, replicate-append-replicate}
use Rattle.soft_mmu.specs.declared.entry.PageEntry.{PageEntry}
use Rattle.soft_mmu.specs.declared.entry.PageEntry.TheVariants.{Absent}
use Rattle.soft_mmu.specs.InsideLeaves.{entries_of, AreLeavesOf}

-- the pages that leaves hold are all their entries
pub leaves_hold : (pages : ℕ) (leaves : List (List PageEntry)) → AreLeavesOf pages leaves → length (entries_of leaves) ≡ pages
leaves_hold pages [] are = sym are
leaves_hold pages (leaf ∷ leaves) are =
    let rest = leaves_hold (pages - 512) leaves are.2 in
    let here = are.1 in
    omega (arith, length-append leaf (entries_of leaves))

-- the page's leaf is there
pub leaf_within : (pages : ℕ) (leaves : List (List PageEntry)) (k i : ℕ) → AreLeavesOf pages leaves → 512 * k + i < pages → k < length leaves
leaf_within pages [] k i are lt = absurd (omega arith)
leaf_within pages (leaf ∷ leaves) zero i are lt = omega arith
leaf_within pages (leaf ∷ leaves) (suc k) i are lt = let rest = leaf_within (pages - 512) leaves k i are.2 (omega arith) in omega arith

-- and has the page's place
pub place_within : (pages : ℕ) (leaves : List (List PageEntry)) (k i : ℕ) → AreLeavesOf pages leaves → i < 512 → 512 * k + i < pages
    → i < length (slice_index_or leaves k [])
place_within pages [] k i are small lt = absurd (omega arith)
place_within pages (leaf ∷ leaves) zero i are small lt = let here = are.1 in omega arith
place_within pages (leaf ∷ leaves) (suc k) i are small lt = place_within (pages - 512) leaves k i are.2 small (omega arith)

-- no leaf has more than 512
pub leaf_small : (pages : ℕ) (leaves : List (List PageEntry)) (k : ℕ) → AreLeavesOf pages leaves → length (slice_index_or leaves k []) ≤ 512
leaf_small pages [] k are = omega arith
leaf_small pages (leaf ∷ leaves) zero are = let here = are.1 in omega arith
leaf_small pages (leaf ∷ leaves) (suc k) are = leaf_small (pages - 512) leaves k are.2

-- the entry of a page is that of its place
pub entry_at : (pages : ℕ) (leaves : List (List PageEntry)) (k i : ℕ) → AreLeavesOf pages leaves → i < 512 → 512 * k + i < pages
    → slice_index_or (slice_index_or leaves k []) i Absent ≡ slice_index_or (entries_of leaves) (512 * k + i) Absent
entry_at pages [] k i are small lt = absurd (omega arith)
entry_at pages (leaf ∷ leaves) zero i are small lt =
    let here = are.1 in
    let at : 512 * zero + i ≡ i = omega arith in
    rw at (sym (get_or_append_left leaf (entries_of leaves) Absent i (omega arith)))
entry_at pages (leaf ∷ leaves) (suc k) i are small lt =
    let here = are.1 in
    let full : length leaf ≡ 512 = omega arith in
    let at : 512 * suc k + i - 512 ≡ 512 * k + i = omega arith in
    entry_at (pages - 512) leaves k i are.2 small (omega arith)
    ∙ sym (get_or-append_right leaf (entries_of leaves) 512 (512 * suc k + i) Absent full (omega arith) ∙ ap (λ n. slice_index_or (entries_of leaves) n Absent) at)

-- to set it there is to set the page
pub set_page : (pages : ℕ) (leaves : List (List PageEntry)) (k i : ℕ) (entry : PageEntry) → AreLeavesOf pages leaves → i < 512 → 512 * k + i < pages
    → entries_of (slice_set leaves k (slice_set (slice_index_or leaves k []) i entry)) ≡ slice_set (entries_of leaves) (512 * k + i) entry
set_page pages [] k i entry are small lt = absurd (omega arith)
set_page pages (leaf ∷ leaves) zero i entry are small lt =
    let here = are.1 in
    let at : 512 * zero + i ≡ i = omega arith in
    rw at (sym (set-append_left leaf (entries_of leaves) i entry (omega arith)))
set_page pages (leaf ∷ leaves) (suc k) i entry are small lt =
    let here = are.1 in
    let full : length leaf ≡ 512 = omega arith in
    let at : 512 * suc k + i - 512 ≡ 512 * k + i = omega arith in
    ap (λ xs. leaf ++ xs) (set_page (pages - 512) leaves k i entry are.2 small (omega arith))
    ∙ sym (set-append_right leaf (entries_of leaves) 512 (512 * suc k + i) entry full (omega arith) ∙ ap (λ n. leaf ++ slice_set (entries_of leaves) n entry) at)

-- a leaf gives way to one as long
pub leaves_stay : (pages : ℕ) (leaves : List (List PageEntry)) (k : ℕ) (leaf : List PageEntry) → AreLeavesOf pages leaves
    → length leaf ≡ length (slice_index_or leaves k []) → AreLeavesOf pages (slice_set leaves k leaf)
leaves_stay pages [] k leaf are same = are
leaves_stay pages (first ∷ leaves) zero leaf are same = (are.0, same ∙ are.1, are.2)
leaves_stay pages (first ∷ leaves) (suc k) leaf are same = (are.0, are.1, leaves_stay (pages - 512) leaves k leaf are.2 same)

-- a place of a leaf is a page
pub page_within : (pages : ℕ) (leaves : List (List PageEntry)) (k i : ℕ) → AreLeavesOf pages leaves → i < length (slice_index_or leaves k [])
    → 512 * k + i < pages
page_within pages [] k i are lt = absurd (omega arith)
page_within pages (leaf ∷ leaves) zero i are lt = let here = are.1 in omega arith
page_within pages (leaf ∷ leaves) (suc k) i are lt = let rest = page_within (pages - 512) leaves k i are.2 lt in omega arith

-- there are no more pages than places
pub leaves_most : (pages : ℕ) (leaves : List (List PageEntry)) → AreLeavesOf pages leaves → pages ≤ 512 * length leaves
leaves_most pages [] are = omega arith
leaves_most pages (leaf ∷ leaves) are = let rest = leaves_most (pages - 512) leaves are.2 in omega arith

-- ---- no page is present

-- full leaves, and one with the rest where there is any
pub full_leaves : (k rest : ℕ) (leaves : List (List PageEntry)) → (pages : ℕ) → pages ≡ 512 * k + rest → AreLeavesOf rest leaves
    → AreLeavesOf pages (replicate k (replicate 512 Absent) ++ leaves)
full_leaves zero rest leaves pages is are = let same : pages ≡ rest = omega arith in rw same are
full_leaves (suc k) rest leaves pages is are =
    (omega arith, length-replicate 512 Absent ∙ omega arith, full_leaves k rest leaves (pages - 512) (omega arith) are)

pub full_entries : (k : ℕ) (leaves : List (List PageEntry)) (rest pages : ℕ) → entries_of leaves ≡ replicate rest Absent → pages ≡ 512 * k + rest
    → entries_of (replicate k (replicate 512 Absent) ++ leaves) ≡ replicate pages Absent
full_entries zero leaves rest pages e is = let same : pages ≡ rest = omega arith in rw same e
full_entries (suc k) leaves rest pages e is =
    let more = full_entries k leaves rest (pages - 512) e (omega arith) in
    let all : 512 + (pages - 512) ≡ pages = omega arith in
    ap (λ xs. replicate 512 Absent ++ xs) more ∙ replicate-append-replicate 512 (pages - 512) Absent ∙ ap (λ n. replicate n Absent) all
