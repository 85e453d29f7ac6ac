-- What the walks over the nodes show.
use Rattle.std.proofs.Common.{◌≡◌, ◌≢◌, ◌∙◌, ℕ, zero, suc, ◌+◌, ◌-◌, ◌<◌, ◌≤◌, Bool, true, false, not, cond, ◌==◌, List, [], ◌∷◌, length, refl, ap, arith}
use Rattle.std.specs.Prelude.{slice_index_or, map}
use Rattle.std.specs.List.{range_with_len}
use Rattle.std.proofs.lemmas.Bool.{le-leb, lt-leb, eq-eqb, ne_eqb}
use Rattle.std.proofs.lemmas.List.{ext_get_or}
use Rattle.std.proofs.lemmas.List.FromFn.{length-map-range_with_len, get_or-map-range_with_len}
use Rattle.index_lists.specs.declared.node.Node.{Node}
use Rattle.index_lists.specs.Lists.{without}
use Rattle.index_lists.specs.InsideNodes.{next_at, walk, list_behind, lists_in, IsPath, IsTied}
use Rattle.index_lists.proofs.Counts.{one, count, count-cons, count-without-le, length-without, count-le-times}

-- ---- how many numbers below a bound a list has, each once at the most

abbrev pub AreBelow : ℕ → List ℕ → Type 0
AreBelow n [] = Unit {0}
AreBelow n (x ∷ xs) = (x < n) × AreBelow n xs

below_without : (n : ℕ) (xs : List ℕ) → AreBelow (suc n) xs → AreBelow n (without n xs)
below_without n [] below = tt
below_without n (x ∷ xs) below = by_test (x == n) refl (below_without n xs below.1)
  where
    by_test : (t : Bool) → (x == n) ≡ t → AreBelow n (without n xs) → AreBelow n (cond (not t) (x ∷ without n xs) (without n xs))
    by_test true e rest = rest
    by_test false e rest =
        let other : x ≢ n = λ is. (let yes = eq-eqb x n is in cc (yes, e)) in
        let within = below.0 in
        (omega arith, rest)

pub length-le : (n : ℕ) (xs : List ℕ) → AreBelow n xs → ((m : ℕ) → count m xs ≤ 1) → length xs ≤ n
length-le zero [] below once = omega arith
length-le zero (x ∷ xs) below once = let no = below.0 in absurd (omega arith)
length-le (suc n) xs below once =
    let rest = length-le n (without n xs) (below_without n xs below) (λ m. (let less = count-without-le m n xs in let was = once m in omega arith)) in
    let whole = length-without n xs in
    let was = once n in
    omega arith

pub path_below : (nodes : List Node) (numbers a b : ℕ) (xs : List ℕ) → IsPath nodes numbers a xs b → AreBelow numbers xs
path_below nodes numbers a b [] path = tt
path_below nodes numbers a b (x ∷ xs) path = (path.0.within, path_below nodes numbers x b xs path.1)

-- the end of a list isn't in it
pub end_apart : (numbers end : ℕ) (xs : List ℕ) → numbers ≤ end → AreBelow numbers xs → count end xs ≡ 0
end_apart numbers end [] past below = refl
end_apart numbers end (x ∷ xs) past below =
    let rest = end_apart numbers end xs past below.1 in
    let cons = count-cons end x xs in
    let within = below.0 in
    let counts : one (x == end) ≡ 0 = ap one (ne_eqb x end (λ e. omega arith)) in
    omega arith

-- ---- the walks

walk_end : (nodes : List Node) (numbers steps at : ℕ) → numbers ≤ at → walk nodes numbers (suc steps) at ≡ []
walk_end nodes numbers steps at past = ap (λ (t : Bool). cond t [] (at ∷ walk nodes numbers steps (next_at nodes at))) (le-leb numbers at past)

walk_step : (nodes : List Node) (numbers steps at : ℕ) → at < numbers → walk nodes numbers (suc steps) at ≡ at ∷ walk nodes numbers steps (next_at nodes at)
walk_step nodes numbers steps at below = ap (λ (t : Bool). cond t [] (at ∷ walk nodes numbers steps (next_at nodes at))) (lt-leb numbers at below)

pub walk_path : (nodes : List Node) (numbers steps a b : ℕ) (xs : List ℕ) → numbers ≤ b → length xs < steps → IsPath nodes numbers a xs b → walk nodes numbers steps (next_at nodes a) ≡ xs
walk_path nodes numbers zero a b xs end enough path = absurd (omega arith)
walk_path nodes numbers (suc steps) a b [] end enough path = ap (walk nodes numbers (suc steps)) path.next ∙ walk_end nodes numbers steps b end
walk_path nodes numbers (suc steps) a b (x ∷ xs) end enough path =
    ap (walk nodes numbers (suc steps)) path.0.edge.next
    ∙ (walk_step nodes numbers steps x path.0.within
    ∙ ap (λ (rest : List ℕ). x ∷ rest) (walk_path nodes numbers steps x b xs end (omega arith) path.1))

-- the lists that are seen are those that the nodes are tied to
pub lists_seen : (nodes : List Node) (numbers : ℕ) (lists : List (List ℕ)) → IsTied nodes numbers lists → lists_in nodes numbers ≡ lists
lists_seen nodes numbers lists t = ap (λ (n : ℕ). map (list_behind nodes numbers) (range_with_len numbers n)) many ∙ all
  where
    many : length nodes - numbers ≡ length lists
    many = let size = t.size in omega arith

    each : (list : ℕ) → list < length lists → list_behind nodes numbers (numbers + list) ≡ slice_index_or lists list []
    each list within =
        let path = t.rings list within in
        let few = length-le numbers (slice_index_or lists list []) (path_below nodes numbers _ _ _ path) (λ m. (let all = t.once m in let here = count-le-times m lists list within in omega arith)) in
        let size = t.size in
        walk_path nodes numbers (length nodes) (numbers + list) (numbers + list) (slice_index_or lists list []) (omega arith) (omega arith) path

    all : map (list_behind nodes numbers) (range_with_len numbers (length lists)) ≡ lists
    all =
        let long = length-map-range_with_len (list_behind nodes numbers) numbers (length lists) in
        ext_get_or [] (map (list_behind nodes numbers) (range_with_len numbers (length lists))) lists long
        (λ i lt. let within : i < length lists = omega (arith, long) in get_or-map-range_with_len (list_behind nodes numbers) numbers (length lists) i (numbers + i) [] within refl ∙ each i within)
