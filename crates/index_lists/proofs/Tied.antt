-- The nodes stay tied to the lists through each call.
use Rattle.std.proofs.Common.{◌≡◌, ◌≢◌, ◌∙◌, ℕ, ◌+◌, ◌-◌, ◌<◌, ◌≤◌, Bool, true, false, ◌==◌, List, [], ◌∷◌, ◌++◌, length, replicate, ◌⊎◌, inl, inr, refl, sym, ap, subst, arith, length-set, get_or-set_same, get_or-set_other}
use Rattle.std.specs.Prelude.{slice_index_or, slice_set, map, All, Some}
use Rattle.std.specs.List.{list_any, slice_get}
use Rattle.std.proofs.lemmas.Bool.{cases_eq, cases_lt, eqb-true}
use Rattle.std.proofs.lemmas.List.{length-map, get_or-map, get_or-replicate, length-replicate, get_or_default, get_or_past}
use Rattle.std.proofs.lemmas.List.Folds.{Any-from_list_any, sum_by-replicate}
use Rattle.std.proofs.lemmas.List.Sums.{sum_by-set}
use Rattle.std.proofs.lemmas.List.Elements.{All-from_get_or, All-cons}
use Rattle.index_lists.specs.declared.node.Node.{Node}
use Rattle.index_lists.specs.Lists.{before_place, put_behind, has, without, times, IsSound}
use Rattle.index_lists.specs.InsideNodes.{blank, next_at, previous_at, joined, lists_in, number_of, IsPath, IsTied}
use Rattle.index_lists.proofs.Counts.{one, count, count-cons, count-push, count-le-times, times-none, times-without-le, times-put_behind_same, times-put_behind_other}
use Rattle.index_lists.proofs.Links.{length-joined}
use Rattle.index_lists.proofs.Paths.{IsBetween, IsGap, put_between, between, path_without, path_past, path_pushed, path_off, path_behind, path_inserted, first_edge, last_edge, first_read, last_read, next_read, previous_read}
use Rattle.index_lists.proofs.Seen.{end_apart, lists_seen, path_below, AreBelow}

-- what is tied is what is seen
pub tied_seen : (nodes : List Node) (numbers : ℕ) (lists : List (List ℕ)) → IsTied nodes numbers lists → IsTied nodes numbers (lists_in nodes numbers)
tied_seen nodes numbers lists t = subst (IsTied nodes numbers) (sym (lists_seen nodes numbers lists t)) t

-- ---- new lists

-- each node is its own neighbour
pub record AreAlone (nodes : List Node) (n : ℕ) : Type 0 where
  pub many : length nodes ≡ n
  pub alone : (at : ℕ) → at < n → slice_index_or nodes at blank ≡ record { previous = at; next = at }

pub tied_new : (nodes : List Node) (numbers lists : ℕ) → numbers + lists < 4294967296 → AreAlone nodes (numbers + lists) → IsTied nodes numbers (replicate lists [])
tied_new nodes numbers lists few a = record {
  size = a.many ∙ ap (λ n. numbers + n) (sym (length-replicate {A = List ℕ} lists []));
  few = rw (length-replicate {A = List ℕ} lists []) few;
  rings = λ list within. (let here : list < lists = rw (length-replicate {A = List ℕ} lists []) at within in ring list here);
  once = λ n. (let none = sum_by-replicate (count n) lists [] in omega arith);
}
  where
    ring : (list : ℕ) → list < lists → IsPath nodes numbers (numbers + list) (slice_index_or (replicate lists []) list []) (numbers + list)
    ring list within =
        let node = a.alone (numbers + list) (omega arith) in
        rw (get_or-replicate {A = List ℕ} lists list [] [] within) (record { next = ap (λ (n : Node). n.next) node; previous = ap (λ (n : Node). n.previous) node })

-- ---- a removal

-- the neighbours of a number that stands in one of the lists
pub neighbours : (nodes : List Node) (numbers n : ℕ) (lists : List (List ℕ)) → IsTied nodes numbers lists → list_any (has n) lists ≡ true → IsBetween nodes (previous_at nodes n) n (next_at nodes n) × (n < numbers)
neighbours nodes numbers n lists t there =
    let some = Any-from_list_any (has n) lists there in
    let list = some.0 in
    let within : list < length lists = some.2 in
    let here : slice_index_or lists list [] ≡ some.1 = get_or_default lists list [] some.1 within ∙ some.3 in
    let size = t.size in
    between nodes numbers n (numbers + list) (numbers + list) (slice_index_or lists list []) (omega arith) (omega arith) (omega arith) (rw here some.4) (t.rings list within)

pub tied_removed : (nodes : List Node) (numbers n : ℕ) (lists : List (List ℕ)) → IsTied nodes numbers lists → list_any (has n) lists ≡ true → IsTied (joined nodes (previous_at nodes n) (next_at nodes n)) numbers (map (without n) lists)
tied_removed nodes numbers n lists t there =
    let w = neighbours nodes numbers n lists t there in
    let below = w.1 in
    let many = length-map lists (without n) in
    record {
      size = length-joined nodes _ _ ∙ (t.size ∙ ap (λ m. numbers + m) (sym many));
      few = rw many t.few;
      rings =
          λ list within.
          let here : list < length lists = rw many at within in
          let all = t.once n in
          let part = count-le-times n lists list here in
          rw (get_or-map (without n) lists list [] [] here)
          (path_without nodes numbers _ n _ (numbers + list) (numbers + list) (slice_index_or lists list []) w.0 (λ e. omega arith) (λ e. omega arith) (omega arith) (t.rings list here));
      once = λ m. (let less = times-without-le m n lists in let was = t.once m in omega arith);
    }

-- ---- a push

pub gap : (nodes : List Node) (numbers n list : ℕ) (lists : List (List ℕ)) → IsTied nodes numbers lists → list < length lists → n < numbers → IsGap nodes (previous_at nodes (numbers + list)) n (numbers + list)
gap nodes numbers n list lists t within below =
    let size = t.size in
    let last = last_edge nodes numbers (numbers + list) (numbers + list) (slice_index_or lists list []) (omega arith) (omega arith) (t.rings list within) in
    record { p_in = last.0; n_in = omega arith; q_in = omega arith; edge = last.1 }

-- one list is set, to what has one number more
pub tied_set : (nodes after : List Node) (numbers n list : ℕ) (lists : List (List ℕ)) (new : List ℕ) → IsTied nodes numbers lists → list < length lists → list_any (has n) lists ≡ false → length after ≡ length nodes
    → IsPath after numbers (numbers + list) new (numbers + list)
    → ((other : ℕ) → other < length lists → other ≢ list → IsPath after numbers (numbers + other) (slice_index_or lists other []) (numbers + other))
    → ((m : ℕ) → count m new ≡ count m (slice_index_or lists list []) + one (n == m)) → IsTied after numbers (slice_set lists list new)
tied_set nodes after numbers n list lists new t within fresh size own others counted = record {
  size = size ∙ (t.size ∙ ap (λ m. numbers + m) (sym (length-set lists list new)));
  few = rw (length-set lists list new) t.few;
  rings = λ other there. ring other (rw (length-set lists list new) at there) (cases_eq other list);
  once = λ m. once m (n == m) refl;
}
  where
    ring : (other : ℕ) → other < length lists → (other ≡ list) ⊎ (other ≢ list) → IsPath after numbers (numbers + other) (slice_index_or (slice_set lists list new) other []) (numbers + other)
    ring other there (inl is) = subst (λ (o : ℕ). IsPath after numbers (numbers + o) (slice_index_or (slice_set lists list new) o []) (numbers + o)) (sym is) (rw (get_or-set_same lists list new [] within) own)
    ring other there (inr differs) = rw (get_or-set_other lists list other new [] differs) (others other there differs)

    once : (m : ℕ) (b : Bool) → (n == m) ≡ b → times m (slice_set lists list new) ≤ 1
    once m true e =
        let set = sum_by-set (count m) lists list new [] within in
        let more = counted m in
        let counts : one (n == m) ≡ 1 = ap one e in
        let nowhere : times m lists ≡ 0 = subst (λ k. times k lists ≡ 0) (eqb-true n m e) (times-none n lists fresh) in
        omega arith
    once m false e =
        let set = sum_by-set (count m) lists list new [] within in
        let more = counted m in
        let counts : one (n == m) ≡ 0 = ap one e in
        let was = t.once m in
        omega arith

length-put : (nodes : List Node) (p n q : ℕ) → length (put_between nodes p n q) ≡ length nodes
length-put nodes p n q = length-joined (joined nodes p n) n q ∙ length-joined nodes p n

pub tied_pushed : (nodes : List Node) (numbers n list : ℕ) (lists : List (List ℕ)) → IsTied nodes numbers lists → list < length lists → n < numbers → list_any (has n) lists ≡ false
    → IsTied (put_between nodes (previous_at nodes (numbers + list)) n (numbers + list)) numbers (slice_set lists list (slice_index_or lists list [] ++ n ∷ []))
tied_pushed nodes numbers n list lists t within below fresh =
    let g = gap nodes numbers n list lists t within below in
    let nowhere = times-none n lists fresh in
    let here = count-le-times n lists list within in
    tied_set nodes _ numbers n list lists _ t within fresh (length-put nodes _ n _)
    (path_pushed nodes numbers _ n (numbers + list) (numbers + list) (slice_index_or lists list []) g (omega arith) below (λ e. omega arith) (omega arith) (t.rings list within))
    (λ other there differs. (let none = count-le-times n lists other there in path_past nodes numbers _ n (numbers + list) (numbers + other) (numbers + other) (slice_index_or lists other []) g (omega arith) (λ e. omega arith) (λ e. omega arith) (λ e. differs (omega arith)) (omega arith) (t.rings other there)))
    (λ m. count-push m (slice_index_or lists list []) n)

pub gap_front : (nodes : List Node) (numbers n list : ℕ) (lists : List (List ℕ)) → IsTied nodes numbers lists → list < length lists → n < numbers → IsGap nodes (numbers + list) n (next_at nodes (numbers + list))
gap_front nodes numbers n list lists t within below =
    let size = t.size in
    let first = first_edge nodes numbers (numbers + list) (numbers + list) (slice_index_or lists list []) (omega arith) (omega arith) (t.rings list within) in
    record { p_in = omega arith; n_in = omega arith; q_in = first.0; edge = first.1 }

pub tied_front : (nodes : List Node) (numbers n list : ℕ) (lists : List (List ℕ)) → IsTied nodes numbers lists → list < length lists → n < numbers → list_any (has n) lists ≡ false
    → IsTied (put_between nodes (numbers + list) n (next_at nodes (numbers + list))) numbers (slice_set lists list (n ∷ slice_index_or lists list []))
tied_front nodes numbers n list lists t within below fresh =
    let g = gap_front nodes numbers n list lists t within below in
    let nowhere = times-none n lists fresh in
    let here = count-le-times n lists list within in
    tied_set nodes _ numbers n list lists _ t within fresh (length-put nodes _ n _)
    (path_behind nodes numbers (numbers + list) n _ (numbers + list) (slice_index_or lists list []) g below (λ e. omega arith) (λ e. omega arith) (end_apart numbers (numbers + list) _ (omega arith) (path_below nodes numbers _ _ _ (t.rings list within))) (omega arith) (t.rings list within))
    (λ other there differs. (let none = count-le-times n lists other there in path_off nodes numbers (numbers + list) n _ (numbers + other) (numbers + other) (slice_index_or lists other []) g (λ e. differs (omega arith)) (λ e. omega arith) (λ e. omega arith) (end_apart numbers (numbers + list) _ (omega arith) (path_below nodes numbers _ _ _ (t.rings other there))) (omega arith) (t.rings other there)))
    (λ m. (let cons = count-cons m n (slice_index_or lists list []) in omega arith))

-- ---- behind another number

pub gap_behind : (nodes : List Node) (numbers p n : ℕ) (lists : List (List ℕ)) → IsTied nodes numbers lists → list_any (has p) lists ≡ true → n < numbers → IsGap nodes p n (next_at nodes p)
gap_behind nodes numbers p n lists t there below =
    let around = neighbours nodes numbers p lists t there in
    let p_below = around.1 in
    let size = t.size in
    record { p_in = omega arith; n_in = omega arith; q_in = around.0.q_in; edge = around.0.behind }

pub tied_inserted : (nodes : List Node) (numbers p n : ℕ) (lists : List (List ℕ)) → IsTied nodes numbers lists → list_any (has p) lists ≡ true → n < numbers → list_any (has n) lists ≡ false
    → IsTied (put_between nodes p n (next_at nodes p)) numbers (map (put_behind p n) lists)
tied_inserted nodes numbers p n lists t there below fresh =
    let g = gap_behind nodes numbers p n lists t there below in
    let p_below = (neighbours nodes numbers p lists t there).1 in
    let many = length-map lists (put_behind p n) in
    let nowhere = times-none n lists fresh in
    let differs : p ≢ n = λ e. (let no = subst (λ k. list_any (has k) lists ≡ true) e there in cc (no, fresh)) in
    record {
      size = length-put nodes p n _ ∙ (t.size ∙ ap (λ m. numbers + m) (sym many));
      few = rw many t.few;
      rings =
          λ list within.
          let here : list < length lists = rw many at within in
          let all = t.once p in
          let part = count-le-times p lists list here in
          let none = count-le-times n lists list here in
          rw (get_or-map (put_behind p n) lists list [] [] here)
          (path_inserted nodes numbers p n _ (numbers + list) (numbers + list) (slice_index_or lists list []) g below differs (λ e. omega arith) (λ e. omega arith) (λ e. omega arith) (omega arith) (omega arith) (t.rings list here));
      once = λ m. once m (n == m) refl;
    }
  where
    once : (m : ℕ) (b : Bool) → (n == m) ≡ b → times m (map (put_behind p n) lists) ≤ 1
    once m true e =
        subst (λ k. times k (map (put_behind p n) lists) ≤ 1) (eqb-true n m e)
        (let more = times-put_behind_same p n lists in let nowhere = times-none n lists fresh in let was = t.once p in omega arith)
    once m false e = let same = times-put_behind_other p n m lists e in let was = t.once m in omega arith

-- ---- what is read

-- a node that was read
pub node_read : (nodes : List Node) (at : ℕ) (node : Node) → at < length nodes → node ≡ slice_index_or nodes at node → node ≡ slice_index_or nodes at blank
node_read nodes at node within is = is ∙ get_or_default nodes at node blank within

-- the node of a number that stands in one of the lists
pub removal_read : (nodes : List Node) (numbers n : ℕ) (node : Node) (lists : List (List ℕ)) → IsTied nodes numbers lists → list_any (has n) lists ≡ true → node ≡ slice_index_or nodes n node
    → IsBetween nodes node.previous n node.next × IsTied (joined nodes node.previous node.next) numbers (map (without n) lists)
removal_read nodes numbers n node lists t there is =
    let around = neighbours nodes numbers n lists t there in
    let below = around.1 in
    let size = t.size in
    let same = node_read nodes n node (omega arith) is in
    rw same (around.0, tied_removed nodes numbers n lists t there)

pub first_of : (nodes : List Node) (numbers list : ℕ) (lists : List (List ℕ)) → IsTied nodes numbers lists → list < length lists → number_of numbers (next_at nodes (numbers + list)) ≡ slice_get (slice_index_or lists list []) 0
first_of nodes numbers list lists t within = first_read nodes numbers (numbers + list) (numbers + list) (slice_index_or lists list []) (omega arith) (t.rings list within)

pub last_of : (nodes : List Node) (numbers list : ℕ) (lists : List (List ℕ)) → IsTied nodes numbers lists → list < length lists → number_of numbers (previous_at nodes (numbers + list)) ≡ slice_get (slice_index_or lists list []) (length (slice_index_or lists list []) - 1)
last_of nodes numbers list lists t within = last_read nodes numbers (numbers + list) (numbers + list) (slice_index_or lists list []) (omega arith) (t.rings list within)

pub next_of : (nodes : List Node) (numbers n list place : ℕ) (lists : List (List ℕ)) → IsTied nodes numbers lists → slice_get (slice_index_or lists list []) place ≡ Some n → number_of numbers (next_at nodes n) ≡ slice_get (slice_index_or lists list []) (place + 1)
next_of nodes numbers n list place lists t here = by_place (cases_lt list (length lists))
  where
    by_place : (list < length lists) ⊎ (length lists ≤ list) → number_of numbers (next_at nodes n) ≡ slice_get (slice_index_or lists list []) (place + 1)
    by_place (inl within) = next_read nodes numbers n (numbers + list) (numbers + list) place (slice_index_or lists list []) (omega arith) (t.rings list within) here
    by_place (inr past) = let none : slice_index_or lists list [] ≡ [] = get_or_past lists list [] past in let no : slice_get {X = ℕ} [] place ≡ Some n = rw none at here in absurd (cc no)

pub previous_of : (nodes : List Node) (numbers n list place : ℕ) (lists : List (List ℕ)) → IsTied nodes numbers lists → slice_get (slice_index_or lists list []) place ≡ Some n → number_of numbers (previous_at nodes n) ≡ before_place (slice_index_or lists list []) place
previous_of nodes numbers n list place lists t here = by_place (cases_lt list (length lists))
  where
    by_place : (list < length lists) ⊎ (length lists ≤ list) → number_of numbers (previous_at nodes n) ≡ before_place (slice_index_or lists list []) place
    by_place (inl within) = previous_read nodes numbers n (numbers + list) (numbers + list) place (slice_index_or lists list []) (omega arith) (t.rings list within) here
    by_place (inr past) = let none : slice_index_or lists list [] ≡ [] = get_or_past lists list [] past in let no : slice_get {X = ℕ} [] place ≡ Some n = rw none at here in absurd (cc no)

-- ---- what callers may know

all_below : (n : ℕ) (xs : List ℕ) → AreBelow n xs → All (λ number. number < n) xs
all_below n [] below = λ k d lt. absurd (omega arith)
all_below n (x ∷ xs) below = All-cons (λ number. number < n) x xs below.0 (all_below n xs below.1)

pub sound_of : (nodes : List Node) (numbers : ℕ) (lists : List (List ℕ)) → IsTied nodes numbers lists → IsSound (record { numbers = numbers; lists = lists })
sound_of nodes numbers lists t = record {
  within = All-from_get_or (All (λ number. number < numbers)) lists [] (λ list lt. all_below numbers _ (path_below nodes numbers _ _ _ (t.rings list lt)));
  once = t.once;
}
