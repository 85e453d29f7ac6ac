-- What ties the groups stays where a free slot gets a raise, and where a raise leaves its slot.
use Rattle.std.proofs.Common.{◌≡◌, ℕ, ◌+◌, ◌<◌, ◌≤◌, ◌==◌, not, true, false, List, [], ◌∷◌, ◌++◌, length, replicate, IsTrue, sym, ap, subst, ◌∙◌, arith}
use Rattle.std.specs.Prelude.{slice_set}
use Rattle.std.proofs.lemmas.List.{length-set}
use Rattle.page_base.specs.declared.keys.Raise.{Raise}
use Rattle.index_lists.specs.Lists.{ListsSeen, stands, pushed, removed, without, all_empty}
use Rattle.fault_queue.specs.InsideQueues.{groups, fault_group, groups_of, AreFaultsGrouped, AreStamped}
use Rattle.fault_queue.proofs.Counts.{count}
use Rattle.fault_queue.proofs.Groups.{group_count, groups_with, groups_without, in_no_group, in_group, empty_groups}
use Rattle.fault_queue.proofs.Stamps.{rise_push, rise_filter}

module _ (slots : List Raise) (order : List ℕ) (lists : ListsSeen) (stamps : List ℕ) (told : ℕ) (g : AreFaultsGrouped slots order lists stamps told) where
  pub groups_number : lists.numbers ≡ length slots
  groups_number = ap (λ (o : ListsSeen). o.numbers) g.lists_are

  pub groups_many : length lists.lists ≡ groups
  groups_many = ap (λ (o : ListsSeen). length o.lists) g.lists_are ∙ group_count slots order

  pub no_group : (slot : ℕ) → count slot order ≡ 0 → stands lists slot ≡ false
  no_group slot fresh = subst (λ (o : ListsSeen). stands o slot ≡ false) (sym g.lists_are) (in_no_group slots order slot fresh)

  pub some_group : (slot : ℕ) → 1 ≤ count slot order → IsTrue (stands lists slot)
  some_group slot there = subst (λ (o : ListsSeen). stands o slot ≡ true) (sym g.lists_are) (in_group slots order slot there)

  pub grouped_raised : (slot next : ℕ) (raise : Raise) → slot < length slots → count slot order ≡ 0 → (next < 18446744073709551615 → next ≡ told + 1)
      → AreFaultsGrouped (slice_set slots slot raise) (order ++ slot ∷ []) (pushed lists (fault_group raise) slot) (slice_set stamps slot told) next
  grouped_raised slot next raise within fresh is_next = record {
    lists_are =
        ap (λ (o : ListsSeen). pushed o (fault_group raise) slot) g.lists_are
        ∙ (ap (λ (xs : List (List ℕ)). record { numbers = length slots; lists = xs }) (groups_with slots order slot raise within fresh)
        ∙ ap (λ (n : ℕ). record { numbers = n; lists = groups_of (slice_set slots slot raise) (order ++ slot ∷ []) }) (sym (length-set slots slot raise)));
    stamped = length-set stamps slot told ∙ (g.stamped ∙ sym (length-set slots slot raise));
    rising = λ lt.
        let is = is_next lt in
        let before = g.rising (omega (arith, is, lt)) in
        subst (λ n. AreStamped (slice_set stamps slot told) 0 (order ++ slot ∷ []) n) (sym is) (rise_push stamps slot 0 order told (omega (arith, within, g.stamped)) fresh before);
  }

  pub grouped_left : (slot : ℕ) → AreFaultsGrouped slots (without slot order) (removed lists slot) stamps told
  grouped_left slot = record {
    lists_are = ap (λ (o : ListsSeen). removed o slot) g.lists_are ∙ ap (λ (xs : List (List ℕ)). record { numbers = length slots; lists = xs }) (groups_without slots order slot);
    stamped = g.stamped;
    rising = λ lt. rise_filter stamps (λ other. not (other == slot)) 0 order told (g.rising lt);
  }

pub grouped_empty : (slots : List Raise) (order : List ℕ) (lists : ListsSeen) (stamps : List ℕ) (capacity : ℕ) → length slots ≡ capacity → length stamps ≡ capacity → order ≡ [] → lists ≡ all_empty groups capacity
    → AreFaultsGrouped slots order lists stamps 0
grouped_empty slots order lists stamps capacity many stamped none empty = rw none (record {
  lists_are =
      empty
      ∙ (ap (λ (n : ℕ). record { numbers = n; lists = replicate groups [] }) (sym many)
      ∙ ap (λ (xs : List (List ℕ)). record { numbers = length slots; lists = xs }) (empty_groups slots));
  stamped = stamped ∙ sym many;
  rising = λ lt. omega arith;
})
