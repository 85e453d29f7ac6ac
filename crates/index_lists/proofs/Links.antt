-- What the neighbours of each node are after two nodes were joined.
use Rattle.std.proofs.Common.{◌≡◌, ◌≢◌, ◌∙◌, ℕ, ◌<◌, List, length, ◌⊎◌, inl, inr, sym, ap, length-set, get_or-set_same, get_or-set_other}
use Rattle.std.proofs.lemmas.Bool.{cases_eq}
use Rattle.index_lists.specs.declared.node.Node.{Node}
use Rattle.index_lists.specs.InsideNodes.{blank, next_at, previous_at, with_next, with_previous, joined, IsEdge}

length-with_next : (nodes : List Node) (at next : ℕ) → length (with_next nodes at next) ≡ length nodes
length-with_next nodes at next = length-set nodes at _

pub length-joined : (nodes : List Node) (p q : ℕ) → length (joined nodes p q) ≡ length nodes
length-joined nodes p q = length-set (with_next nodes p q) q _ ∙ length-set nodes p _

-- the other link of a node stays
next-with_previous : (nodes : List Node) (at p x : ℕ) → at < length nodes → next_at (with_previous nodes at p) x ≡ next_at nodes x
next-with_previous nodes at p x within = by_place (cases_eq x at)
  where
    by_place : (x ≡ at) ⊎ (x ≢ at) → next_at (with_previous nodes at p) x ≡ next_at nodes x
    by_place (inl e) = ap (next_at (with_previous nodes at p)) e ∙ (ap (λ (n : Node). n.next) (get_or-set_same nodes at _ blank within) ∙ ap (next_at nodes) (sym e))
    by_place (inr other) = ap (λ (n : Node). n.next) (get_or-set_other nodes at x _ blank other)

previous-with_next : (nodes : List Node) (at q x : ℕ) → at < length nodes → previous_at (with_next nodes at q) x ≡ previous_at nodes x
previous-with_next nodes at q x within = by_place (cases_eq x at)
  where
    by_place : (x ≡ at) ⊎ (x ≢ at) → previous_at (with_next nodes at q) x ≡ previous_at nodes x
    by_place (inl e) = ap (previous_at (with_next nodes at q)) e ∙ (ap (λ (n : Node). n.previous) (get_or-set_same nodes at _ blank within) ∙ ap (previous_at nodes) (sym e))
    by_place (inr other) = ap (λ (n : Node). n.previous) (get_or-set_other nodes at x _ blank other)

pub next-joined_there : (nodes : List Node) (p q : ℕ) → p < length nodes → q < length nodes → next_at (joined nodes p q) p ≡ q
next-joined_there nodes p q p_in q_in =
    next-with_previous (with_next nodes p q) q p p (rw (length-with_next nodes p q) q_in)
    ∙ ap (λ (n : Node). n.next) (get_or-set_same nodes p _ blank p_in)

pub next-joined_else : (nodes : List Node) (p q x : ℕ) → q < length nodes → x ≢ p → next_at (joined nodes p q) x ≡ next_at nodes x
next-joined_else nodes p q x q_in other =
    next-with_previous (with_next nodes p q) q p x (rw (length-with_next nodes p q) q_in)
    ∙ ap (λ (n : Node). n.next) (get_or-set_other nodes p x _ blank other)

pub previous-joined_there : (nodes : List Node) (p q : ℕ) → q < length nodes → previous_at (joined nodes p q) q ≡ p
previous-joined_there nodes p q q_in = ap (λ (n : Node). n.previous) (get_or-set_same (with_next nodes p q) q _ blank (rw (length-with_next nodes p q) q_in))

pub previous-joined_else : (nodes : List Node) (p q x : ℕ) → p < length nodes → x ≢ q → previous_at (joined nodes p q) x ≡ previous_at nodes x
previous-joined_else nodes p q x p_in other = ap (λ (n : Node). n.previous) (get_or-set_other (with_next nodes p q) q x _ blank other) ∙ previous-with_next nodes p q x p_in

-- the two are neighbours
pub edge_made : (nodes : List Node) (p q : ℕ) → p < length nodes → q < length nodes → IsEdge (joined nodes p q) p q
edge_made nodes p q p_in q_in = record { next = next-joined_there nodes p q p_in q_in; previous = previous-joined_there nodes p q q_in }

-- and others stay so
pub edge_kept : (nodes : List Node) (p q a b : ℕ) → p < length nodes → q < length nodes → a ≢ p → b ≢ q → IsEdge nodes a b → IsEdge (joined nodes p q) a b
edge_kept nodes p q a b p_in q_in a_other b_other e = record {
  next = next-joined_else nodes p q a q_in a_other ∙ e.next;
  previous = previous-joined_else nodes p q b p_in b_other ∙ e.previous;
}
