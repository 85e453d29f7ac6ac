-- Paths of nodes: what a removal and a push make of them.
use Rattle.std.proofs.Common.{◌≡◌, ◌≢◌, ◌∙◌, ℕ, zero, suc, ◌+◌, ◌-◌, ◌<◌, ◌≤◌, Bool, true, false, not, cond, ◌==◌, ◌||◌, List, [], ◌∷◌, ◌++◌, length, refl, sym, ap, subst, arith}
use Rattle.std.specs.Prelude.{Some, None}
use Rattle.std.specs.List.{slice_get}
use native.Mathlib.Numerals.{unary_clauses}
use Rattle.std.proofs.lemmas.Bool.{eqb-true, eq-eqb, le-leb, lt-leb}
use Rattle.index_lists.specs.declared.node.Node.{Node}
use Rattle.index_lists.specs.Lists.{before_place, has, put_behind, without}
use Rattle.index_lists.specs.InsideNodes.{next_at, previous_at, joined, IsEdge, IsStep, IsPath, number_of}
use Rattle.index_lists.proofs.Counts.{one, count, count-cons, without-none}
use Rattle.index_lists.proofs.Links.{length-joined, edge_made, edge_kept}

-- a number that a list hasn't got isn't its first
pub first_differs : (n x : ℕ) (xs : List ℕ) → count n (x ∷ xs) ≡ 0 → x ≢ n
first_differs n x xs none e = let cons = count-cons n x xs in let counts : one (x == n) ≡ 1 = ap one (eq-eqb x n e) in omega arith

pub rest_without : (n x : ℕ) (xs : List ℕ) → count n (x ∷ xs) ≡ 0 → count n xs ≡ 0
rest_without n x xs none = let cons = count-cons n x xs in omega arith

-- ---- a removal

-- n stands between p and q
pub record IsBetween (nodes : List Node) (p n q : ℕ) : Type 0 where
  pub p_in : p < length nodes
  pub q_in : q < length nodes
  pub before : IsEdge nodes p n
  pub behind : IsEdge nodes n q

-- what doesn't touch n stays when its neighbours are joined
pub edge_apart : (nodes : List Node) (p n q a b : ℕ) → IsBetween nodes p n q → a ≢ n → b ≢ n → IsEdge nodes a b → IsEdge (joined nodes p q) a b
edge_apart nodes p n q a b w a_other b_other e =
    edge_kept nodes p q a b w.p_in w.q_in
    (λ is. b_other (sym e.next ∙ (ap (next_at nodes) is ∙ w.before.next)))
    (λ is. a_other (sym e.previous ∙ (ap (previous_at nodes) is ∙ w.behind.previous)))
    e

-- a path that hasn't got n
pub path_apart : (nodes : List Node) (numbers p n q a b : ℕ) (xs : List ℕ) → IsBetween nodes p n q → a ≢ n → b ≢ n → count n xs ≡ 0 → IsPath nodes numbers a xs b → IsPath (joined nodes p q) numbers a xs b
path_apart nodes numbers p n q a b [] w a_other b_other none path = edge_apart nodes p n q a b w a_other b_other path
path_apart nodes numbers p n q a b (x ∷ xs) w a_other b_other none path =
    let other = first_differs n x xs none in (
      record { edge = edge_apart nodes p n q a x w a_other other path.0.edge; within = path.0.within },
      path_apart nodes numbers p n q x b xs w other b_other (rest_without n x xs none) path.1,
    )

-- what stood behind n stands behind p
path_closed : (nodes : List Node) (numbers p n q b : ℕ) (xs : List ℕ) → IsBetween nodes p n q → b ≢ n → count n xs ≡ 0 → IsPath nodes numbers n xs b → IsPath (joined nodes p q) numbers p xs b
path_closed nodes numbers p n q b [] w b_other none path = subst (λ c. IsEdge (joined nodes p q) p c) (sym w.behind.next ∙ path.next) (edge_made nodes p q w.p_in w.q_in)
path_closed nodes numbers p n q b (x ∷ xs) w b_other none path =
    let behind : q ≡ x = sym w.behind.next ∙ path.0.edge.next in (
      record { edge = subst (λ c. IsEdge (joined nodes p q) p c) behind (edge_made nodes p q w.p_in w.q_in); within = path.0.within },
      path_apart nodes numbers p n q x b xs w (first_differs n x xs none) b_other (rest_without n x xs none) path.1,
    )

-- a path that has n at most once, after its removal
pub path_without : (nodes : List Node) (numbers p n q a b : ℕ) (xs : List ℕ) → IsBetween nodes p n q → a ≢ n → b ≢ n → count n xs ≤ 1 → IsPath nodes numbers a xs b → IsPath (joined nodes p q) numbers a (without n xs) b
path_without nodes numbers p n q a b [] w a_other b_other once path = edge_apart nodes p n q a b w a_other b_other path
path_without nodes numbers p n q a b (x ∷ xs) w a_other b_other once path = by_test (x == n) refl (λ other few. path_without nodes numbers p n q x b xs w other b_other few path.1)
  where
    by_test : (t : Bool) → (x == n) ≡ t → (x ≢ n → count n xs ≤ 1 → IsPath (joined nodes p q) numbers x (without n xs) b) → IsPath (joined nodes p q) numbers a (cond (not t) (x ∷ without n xs) (without n xs)) b
    by_test true e rest =
        let is : x ≡ n = eqb-true x n e in
        let before : a ≡ p = sym path.0.edge.previous ∙ (ap (previous_at nodes) is ∙ w.before.previous) in
        let counts : one (x == n) ≡ 1 = ap one e in
        let cons = count-cons n x xs in
        let none : count n xs ≡ 0 = omega arith in
        subst (λ c. IsPath (joined nodes p q) numbers c (without n xs) b) (sym before)
        (subst (λ ys. IsPath (joined nodes p q) numbers p ys b) (sym (without-none n xs none))
        (path_closed nodes numbers p n q b xs w b_other none (subst (λ c. IsPath nodes numbers c xs b) is path.1)))
    by_test false e rest =
        let other : x ≢ n = λ is. (let yes = eq-eqb x n is in cc (yes, e)) in
        let cons = count-cons n x xs in
        (record { edge = edge_apart nodes p n q a x w a_other other path.0.edge; within = path.0.within }, rest other (omega arith))

-- the neighbours of a number on a path
pub between : (nodes : List Node) (numbers n a b : ℕ) (xs : List ℕ) → numbers ≤ length nodes → a < length nodes → b < length nodes → has n xs ≡ true → IsPath nodes numbers a xs b → IsBetween nodes (previous_at nodes n) n (next_at nodes n) × (n < numbers)
between nodes numbers n a b [] few a_in b_in there path = absurd (cc there)
between nodes numbers n a b (x ∷ xs) few a_in b_in there path = by_test (x == n) refl there (λ found. between nodes numbers n x b xs few (let within = path.0.within in omega arith) b_in found path.1)
  where
    open_up : (ys : List ℕ) → IsPath nodes numbers n ys b → (next_at nodes n < length nodes) × IsEdge nodes n (next_at nodes n)
    open_up [] e = (subst (λ c. c < length nodes) (sym e.next) b_in, subst (λ c. IsEdge nodes n c) (sym e.next) e)
    open_up (y ∷ ys) e = let y_in : y < length nodes = (let within = e.0.within in omega arith) in (subst (λ c. c < length nodes) (sym e.0.edge.next) y_in, subst (λ c. IsEdge nodes n c) (sym e.0.edge.next) e.0.edge)

    by_test : (t : Bool) → (x == n) ≡ t → (t || has n xs) ≡ true → (has n xs ≡ true → IsBetween nodes (previous_at nodes n) n (next_at nodes n) × (n < numbers)) → IsBetween nodes (previous_at nodes n) n (next_at nodes n) × (n < numbers)
    by_test true e found rest =
        let is : x ≡ n = eqb-true x n e in
        let step : IsStep nodes numbers a n = subst (λ c. IsStep nodes numbers a c) is path.0 in
        let behind = open_up xs (subst (λ c. IsPath nodes numbers c xs b) is path.1) in (
          record {
            p_in = subst (λ c. c < length nodes) (sym step.edge.previous) a_in;
            q_in = behind.0;
            before = subst (λ c. IsEdge nodes c n) (sym step.edge.previous) step.edge;
            behind = behind.1;
          },
          step.within,
        )
    by_test false e found rest = rest found

-- ---- a push

-- the end of a list, and what stands before it
pub last_edge : (nodes : List Node) (numbers a b : ℕ) (xs : List ℕ) → numbers ≤ length nodes → a < length nodes → IsPath nodes numbers a xs b → (previous_at nodes b < length nodes) × IsEdge nodes (previous_at nodes b) b
last_edge nodes numbers a b [] few a_in e = (subst (λ c. c < length nodes) (sym e.previous) a_in, subst (λ c. IsEdge nodes c b) (sym e.previous) e)
last_edge nodes numbers a b (x ∷ xs) few a_in path = last_edge nodes numbers x b xs few (let within = path.0.within in omega arith) path.1

-- and what stands behind
pub first_edge : (nodes : List Node) (numbers a b : ℕ) (xs : List ℕ) → numbers ≤ length nodes → b < length nodes → IsPath nodes numbers a xs b → (next_at nodes a < length nodes) × IsEdge nodes a (next_at nodes a)
first_edge nodes numbers a b [] few b_in e = (subst (λ c. c < length nodes) (sym e.next) b_in, subst (λ c. IsEdge nodes a c) (sym e.next) e)
first_edge nodes numbers a b (x ∷ xs) few b_in path =
    let within = path.0.within in
    let x_in : x < length nodes = omega arith in
    (subst (λ c. c < length nodes) (sym path.0.edge.next) x_in, subst (λ c. IsEdge nodes a c) (sym path.0.edge.next) path.0.edge)

-- n was put between p and q
abbrev pub put_between : List Node → (p n q : ℕ) → List Node
put_between nodes p n q = joined (joined nodes p n) n q

pub record IsGap (nodes : List Node) (p n q : ℕ) : Type 0 where
  pub p_in : p < length nodes
  pub n_in : n < length nodes
  pub q_in : q < length nodes
  pub edge : IsEdge nodes p q

-- what touches neither n nor q from before stays
pub edge_past : (nodes : List Node) (p n q a b : ℕ) → IsGap nodes p n q → a ≢ n → b ≢ n → b ≢ q → IsEdge nodes a b → IsEdge (put_between nodes p n q) a b
edge_past nodes p n q a b g a_other b_other b_not_q e =
    let many = length-joined nodes p n in
    edge_kept (joined nodes p n) n q a b (rw many g.n_in) (rw many g.q_in) a_other b_not_q
    (edge_kept nodes p n a b g.p_in g.n_in (λ is. b_not_q (sym e.next ∙ (ap (next_at nodes) is ∙ g.edge.next))) b_other e)

-- another list
pub path_past : (nodes : List Node) (numbers p n q a b : ℕ) (xs : List ℕ) → IsGap nodes p n q → numbers ≤ q → a ≢ n → b ≢ n → b ≢ q → count n xs ≡ 0 → IsPath nodes numbers a xs b → IsPath (put_between nodes p n q) numbers a xs b
path_past nodes numbers p n q a b [] g end a_other b_other b_not_q none path = edge_past nodes p n q a b g a_other b_other b_not_q path
path_past nodes numbers p n q a b (x ∷ xs) g end a_other b_other b_not_q none path =
    let within = path.0.within in
    let other = first_differs n x xs none in (
      record { edge = edge_past nodes p n q a x g a_other other (λ is. omega arith) path.0.edge; within = within },
      path_past nodes numbers p n q x b xs g end other b_other b_not_q (rest_without n x xs none) path.1,
    )

-- the list itself
pub path_pushed : (nodes : List Node) (numbers p n q a : ℕ) (xs : List ℕ) → IsGap nodes p n q → numbers ≤ q → n < numbers → a ≢ n → count n xs ≡ 0 → IsPath nodes numbers a xs q → IsPath (put_between nodes p n q) numbers a (xs ++ n ∷ []) q
path_pushed nodes numbers p n q a [] g end n_below a_other none path =
    let many = length-joined nodes p n in
    let is : a ≡ p = sym path.previous ∙ g.edge.previous in
    let made : IsEdge (joined nodes p n) p n = edge_made nodes p n g.p_in g.n_in in
    let kept : IsEdge (put_between nodes p n q) a n = edge_kept (joined nodes p n) n q a n (rw many g.n_in) (rw many g.q_in) a_other (λ e. omega arith) (subst (λ c. IsEdge (joined nodes p n) c n) (sym is) made) in
    (record { edge = kept; within = n_below }, edge_made (joined nodes p n) n q (rw many g.n_in) (rw many g.q_in))
path_pushed nodes numbers p n q a (x ∷ xs) g end n_below a_other none path =
    let within = path.0.within in
    let other = first_differs n x xs none in (
      record { edge = edge_past nodes p n q a x g a_other other (λ is. omega arith) path.0.edge; within = within },
      path_pushed nodes numbers p n q x xs g end n_below other (rest_without n x xs none) path.1,
    )

-- what goes out from neither p nor n stays
edge_off : (nodes : List Node) (p n q a b : ℕ) → IsGap nodes p n q → a ≢ p → a ≢ n → b ≢ n → IsEdge nodes a b → IsEdge (put_between nodes p n q) a b
edge_off nodes p n q a b g a_not_p a_other b_other e = edge_past nodes p n q a b g a_other b_other (λ is. a_not_p (sym e.previous ∙ (ap (previous_at nodes) is ∙ g.edge.previous))) e

pub path_off : (nodes : List Node) (numbers p n q a b : ℕ) (xs : List ℕ) → IsGap nodes p n q → a ≢ p → a ≢ n → b ≢ n → count p xs ≡ 0 → count n xs ≡ 0 → IsPath nodes numbers a xs b → IsPath (put_between nodes p n q) numbers a xs b
path_off nodes numbers p n q a b [] g a_not_p a_other b_other none fresh path = edge_off nodes p n q a b g a_not_p a_other b_other path
path_off nodes numbers p n q a b (x ∷ xs) g a_not_p a_other b_other none fresh path =
    let other = first_differs n x xs fresh in (
      record { edge = edge_off nodes p n q a x g a_not_p a_other other path.0.edge; within = path.0.within },
      path_off nodes numbers p n q x b xs g (first_differs p x xs none) other b_other (rest_without p x xs none) (rest_without n x xs fresh) path.1,
    )

-- what stood behind p stands behind n, and n behind p
pub path_behind : (nodes : List Node) (numbers p n q b : ℕ) (xs : List ℕ) → IsGap nodes p n q → n < numbers → p ≢ n → b ≢ n → count p xs ≡ 0 → count n xs ≡ 0 → IsPath nodes numbers p xs b → IsPath (put_between nodes p n q) numbers p (n ∷ xs) b
path_behind nodes numbers p n q b xs g n_below p_other b_other none fresh path = (record { edge = to_n (q_other xs fresh path); within = n_below }, behind xs none fresh path)
  where
    q_other : (ys : List ℕ) → count n ys ≡ 0 → IsPath nodes numbers p ys b → q ≢ n
    q_other [] fresh path e = b_other (sym path.next ∙ (g.edge.next ∙ e))
    q_other (y ∷ ys) fresh path e = first_differs n y ys fresh (sym path.0.edge.next ∙ (g.edge.next ∙ e))

    to_n : q ≢ n → IsEdge (put_between nodes p n q) p n
    to_n differs = let many = length-joined nodes p n in edge_kept (joined nodes p n) n q p n (rw many g.n_in) (rw many g.q_in) p_other (λ e. differs (sym e)) (edge_made nodes p n g.p_in g.n_in)

    from_n : IsEdge (put_between nodes p n q) n q
    from_n = let many = length-joined nodes p n in edge_made (joined nodes p n) n q (rw many g.n_in) (rw many g.q_in)

    behind : (ys : List ℕ) → count p ys ≡ 0 → count n ys ≡ 0 → IsPath nodes numbers p ys b → IsPath (put_between nodes p n q) numbers n ys b
    behind [] none fresh path = subst (λ c. IsEdge (put_between nodes p n q) n c) (sym g.edge.next ∙ path.next) from_n
    behind (y ∷ ys) none fresh path = (
      record { edge = subst (λ c. IsEdge (put_between nodes p n q) n c) (sym g.edge.next ∙ path.0.edge.next) from_n; within = path.0.within },
      path_off nodes numbers p n q y b ys g (first_differs p y ys none) (first_differs n y ys fresh) b_other (rest_without p y ys none) (rest_without n y ys fresh) path.1,
    )

-- a path, with n behind p where it has that
pub path_inserted : (nodes : List Node) (numbers p n q a b : ℕ) (xs : List ℕ) → IsGap nodes p n q → n < numbers → p ≢ n → a ≢ p → a ≢ n → b ≢ n → count p xs ≤ 1 → count n xs ≡ 0 → IsPath nodes numbers a xs b → IsPath (put_between nodes p n q) numbers a (put_behind p n xs) b
path_inserted nodes numbers p n q a b [] g n_below p_other a_not_p a_other b_other once fresh path = edge_off nodes p n q a b g a_not_p a_other b_other path
path_inserted nodes numbers p n q a b (x ∷ xs) g n_below p_other a_not_p a_other b_other once fresh path =
    by_test (x == p) refl (λ differs few. path_inserted nodes numbers p n q x b xs g n_below p_other differs (first_differs n x xs fresh) b_other few (rest_without n x xs fresh) path.1)
  where
    step : IsStep (put_between nodes p n q) numbers a x
    step = record { edge = edge_off nodes p n q a x g a_not_p a_other (first_differs n x xs fresh) path.0.edge; within = path.0.within }

    by_test : (t : Bool) → (x == p) ≡ t → (x ≢ p → count p xs ≤ 1 → IsPath (put_between nodes p n q) numbers x (put_behind p n xs) b)
        → IsPath (put_between nodes p n q) numbers a (cond t (x ∷ n ∷ xs) (x ∷ put_behind p n xs)) b
    by_test true e rest =
        let is : x ≡ p = eqb-true x p e in
        let counts : one (x == p) ≡ 1 = ap one e in
        let cons = count-cons p x xs in
        let none : count p xs ≡ 0 = omega arith in
        (step, subst (λ c. IsPath (put_between nodes p n q) numbers c (n ∷ xs) b) (sym is) (path_behind nodes numbers p n q b xs g n_below p_other b_other none (rest_without n x xs fresh) (subst (λ c. IsPath nodes numbers c xs b) is path.1)))
    by_test false e rest =
        let differs : x ≢ p = λ is. (let yes = eq-eqb x p is in cc (yes, e)) in
        let cons = count-cons p x xs in
        (step, rest differs (omega arith))

-- ---- what is read

pub number_past : (numbers node : ℕ) → numbers ≤ node → number_of numbers node ≡ None
number_past numbers node past = ap (λ (t : Bool). cond t None (Some node)) (le-leb numbers node past)

pub number_below : (numbers node : ℕ) → node < numbers → number_of numbers node ≡ Some node
number_below numbers node below = ap (λ (t : Bool). cond t None (Some node)) (lt-leb numbers node below)

pub first_read : (nodes : List Node) (numbers a b : ℕ) (xs : List ℕ) → numbers ≤ b → IsPath nodes numbers a xs b → number_of numbers (next_at nodes a) ≡ slice_get xs 0
first_read nodes numbers a b [] end path = ap (number_of numbers) path.next ∙ number_past numbers b end
first_read nodes numbers a b (x ∷ xs) end path = ap (number_of numbers) path.0.edge.next ∙ number_below numbers x path.0.within

pub next_read : (nodes : List Node) (numbers n a b place : ℕ) (xs : List ℕ) → numbers ≤ b → IsPath nodes numbers a xs b → slice_get xs place ≡ Some n → number_of numbers (next_at nodes n) ≡ slice_get xs (place + 1)
next_read nodes numbers n a b place [] end path here = cc
next_read nodes numbers n a b zero (x ∷ xs) end path here = let is : x ≡ n = cc in subst (λ c. number_of numbers (next_at nodes c) ≡ slice_get xs 0) is (first_read nodes numbers x b xs end path.1)
next_read nodes numbers n a b (suc place) (x ∷ xs) end path here = simp unary_clauses (simp unary_clauses at (next_read nodes numbers n x b place xs end path.1 here))

-- behind at least one number the last of a list is known whatever stood before
pub last_read : (nodes : List Node) (numbers a b : ℕ) (xs : List ℕ) → numbers ≤ a → IsPath nodes numbers a xs b → number_of numbers (previous_at nodes b) ≡ slice_get xs (length xs - 1)
last_read nodes numbers a b [] end path = ap (number_of numbers) path.previous ∙ number_past numbers a end
last_read nodes numbers a b (x ∷ xs) end path = simp unary_clauses (behind x xs path.1 path.0.within)
  where
    behind : (y : ℕ) (ys : List ℕ) → IsPath nodes numbers y ys b → y < numbers → number_of numbers (previous_at nodes b) ≡ slice_get (y ∷ ys) (length ys)
    behind y [] path below = ap (number_of numbers) path.previous ∙ number_below numbers y below
    behind y (z ∷ zs) path below = behind z zs path.1 path.0.within

-- what stands before a place, where a stands before the first
pub previous_read : (nodes : List Node) (numbers n a b place : ℕ) (xs : List ℕ) → numbers ≤ a → IsPath nodes numbers a xs b → slice_get xs place ≡ Some n → number_of numbers (previous_at nodes n) ≡ before_place xs place
previous_read nodes numbers n a b place [] end path here = absurd cc
previous_read nodes numbers n a b zero (x ∷ xs) end path here =
    let is : x ≡ n = cc in
    subst (λ c. number_of numbers (previous_at nodes c) ≡ None) is (ap (number_of numbers) path.0.edge.previous ∙ number_past numbers a end)
previous_read nodes numbers n a b (suc place) (x ∷ xs) end path here = behind place x xs path.1 path.0.within here
  where
    behind : (at y : ℕ) (ys : List ℕ) → IsPath nodes numbers y ys b → y < numbers → slice_get ys at ≡ Some n → number_of numbers (previous_at nodes n) ≡ slice_get (y ∷ ys) at
    behind at y [] path below here = absurd cc
    behind zero y (z ∷ zs) path below here =
        let is : z ≡ n = cc in
        subst (λ c. number_of numbers (previous_at nodes c) ≡ Some y) is (ap (number_of numbers) path.0.edge.previous ∙ number_below numbers y below)
    behind (suc at) y (z ∷ zs) path below here = behind at z zs path.1 path.0.within here
