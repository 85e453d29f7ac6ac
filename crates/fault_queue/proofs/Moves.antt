-- What ties the fields stays where a free slot gets a raise, and where a raise leaves its slot.
use Rattle.std.proofs.Common.{◌≡◌, ℕ, ◌+◌, ◌-◌, ◌<◌, ◌≤◌, ◌==◌, Bool, true, false, not, cond, List, [], ◌∷◌, ◌++◌, length, map, filter, find, replicate, Option, Some, None, IsSome, zero, suc, IsTrue, refl, sym, ap, subst, ◌∙◌, arith, length-append}
use Rattle.std.specs.Prelude.{count_by, slice_get, slice_set}
use Rattle.std.specs.List.{range_with_len}
use Rattle.std.specs.Option.{option_map}
use Rattle.std.proofs.lemmas.List.Sums.{sum_by-cons}
use Rattle.std.proofs.lemmas.List.Folds.{list_any_at}
use Rattle.std.proofs.lemmas.Bool.{eq-eqb}
use Rattle.page_base.specs.declared.keys.Key.{Key}
use Rattle.page_base.specs.declared.keys.Raise.{Raise}
use Rattle.index_lists.specs.Lists.{ListsSeen, list_at, has, stands, pushed, removed, times, without, all_empty}
use Rattle.index_lists.specs.Lists as lists
use Rattle.fault_queue.specs.Queues.{is_of}
use Rattle.fault_queue.specs.Queues as queues
use Rattle.fault_queue.specs.InsideQueues.{raise_in, raises_in, holds, bucket_of, is_in_bucket, chains_of, IsDealt, IsSound}
use Rattle.fault_queue.proofs.Counts.{count, filter-none, length-filter_le, find-map, filter-map, count_by-map, has_from_count, has_none, count_without, length_without, only}
use Rattle.fault_queue.proofs.Chains.{chain_count, chain_at, in_no_chain, found_in_chain, chains_without, raises_with, chains_with, as_many}
use Rattle.fault_queue.proofs.Once.{once_raised, once_without}
use Rattle.fault_queue.proofs.Walks.{AreFree}

-- an item that stands somewhere is counted
pub count_at : (number : ℕ) (xs : List ℕ) (place : ℕ) → slice_get xs place ≡ Some number → 1 ≤ count number xs
count_at number [] place is = absurd cc
count_at number (x ∷ xs) zero is =
    let same : x ≡ number = cc in
    let cons = sum_by-cons (λ z. cond (z == number) 1 0) x xs in
    let here : cond {A = ℕ} (x == number) 1 0 ≡ 1 = ap (λ b. cond {A = ℕ} b 1 0) (eq-eqb x number same) in
    omega (arith, cons, here)
count_at number (x ∷ xs) (suc place) is =
    let rest = count_at number xs place is in
    let cons = sum_by-cons (λ z. cond (z == number) 1 0) x xs in
    omega (arith, cons, rest)

-- what is found passes, and stands in the list
pub found : (p : ℕ → Bool) (xs : List ℕ) (number : ℕ) → find p xs ≡ Some number → (p number ≡ true) × (1 ≤ count number xs)
found p [] number is = absurd cc
found p (x ∷ xs) number is = by_test (p x) refl is (found p xs number)
  where
    by_test : (b : Bool) → p x ≡ b → cond b (Some x) (find p xs) ≡ Some number → (find p xs ≡ Some number → (p number ≡ true) × (1 ≤ count number xs))
        → (p number ≡ true) × (1 ≤ count number (x ∷ xs))
    by_test true e at rest =
        let same : x ≡ number = cc in
        let cons = sum_by-cons (λ z. cond (z == number) 1 0) x xs in
        let here : cond {A = ℕ} (x == number) 1 0 ≡ 1 = ap (λ b. cond {A = ℕ} b 1 0) (eq-eqb x number same) in
        (rw same at e, omega (arith, cons, here))
    by_test false e at rest =
        let later = rest at in
        let cons = sum_by-cons (λ z. cond (z == number) 1 0) x xs in
        (later.0, omega (arith, cons, later.1))

pub mapped_some : {X Y : Type 0} (f : X → Y) (o : Option X) → IsSome (option_map f o) → IsSome o
mapped_some f None some = some
mapped_some f (Some x) some = refl

-- two lists over the slots, of which a number stands in one
module _ (order : ListsSeen) (slots : ℕ) (dealt : IsDealt order slots) (sound : lists.IsSound order) where
  abbrev queued : List ℕ
  queued = list_at order 0

  abbrev free : List ℕ
  free = list_at order 1

  pub in_one : (number : ℕ) → count number queued + count number free ≤ 1
  in_one number =
      let both : times number (queued ∷ free ∷ []) ≤ 1 = subst (λ (o : ListsSeen). times number o.lists ≤ 1) dealt.two (sound.once number) in
      let first = sum_by-cons (count number) queued (free ∷ []) in
      let second = sum_by-cons (count number) free [] in
      omega (arith, both, first, second)

  pub numbers_are : order.numbers ≡ slots
  numbers_are = ap (λ (o : ListsSeen). o.numbers) dealt.two

  pub two_lists : length order.lists ≡ 2
  two_lists = ap (λ (o : ListsSeen). length o.lists) dealt.two

  pub stands_queued : (slot : ℕ) → 1 ≤ count slot queued → IsTrue (stands order slot)
  stands_queued slot there =
      subst (λ (o : ListsSeen). stands o slot ≡ true) (sym dealt.two) (list_any_at (has slot) (queued ∷ free ∷ []) 0 [] (omega arith) (has_from_count slot queued there))

  pub stands_free : (slot : ℕ) → 1 ≤ count slot free → IsTrue (stands order slot)
  stands_free slot there =
      subst (λ (o : ListsSeen). stands o slot ≡ true) (sym dealt.two) (list_any_at (has slot) (queued ∷ free ∷ []) 1 [] (omega arith) (has_from_count slot free there))

  pub nowhere : (slot : ℕ) → stands (removed order slot) slot ≡ false
  nowhere slot =
      let in_queue : has slot (without slot queued) ≡ false = has_none slot (without slot queued) (count_without slot queued) in
      let in_free : has slot (without slot free) ≡ false = has_none slot (without slot free) (count_without slot free) in
      subst (λ (o : ListsSeen). stands (removed o slot) slot ≡ false) (sym dealt.two) (rw (in_queue, in_free) refl)

  pub two_left : (slot : ℕ) → length (removed order slot).lists ≡ 2
  two_left slot = subst (λ (o : ListsSeen). length (removed o slot).lists ≡ 2) (sym dealt.two) refl

  pub to_queue : (slot : ℕ) → 1 ≤ count slot free → pushed (removed order slot) 0 slot ≡ record { numbers = slots; lists = (queued ++ slot ∷ []) ∷ without slot free ∷ [] }
  to_queue slot there =
      let one = in_one slot in
      let same : without slot queued ≡ queued = filter-none (λ other. other == slot) queued (omega (arith, one, there)) in
      ap (λ (o : ListsSeen). pushed (removed o slot) 0 slot) dealt.two
      ∙ ap (λ xs. record { numbers = slots; lists = (xs ++ slot ∷ []) ∷ without slot free ∷ [] }) same

  pub to_free : (slot : ℕ) → 1 ≤ count slot queued → pushed (removed order slot) 1 slot ≡ record { numbers = slots; lists = without slot queued ∷ (free ++ slot ∷ []) ∷ [] }
  to_free slot there =
      let one = in_one slot in
      let same : without slot free ≡ free = filter-none (λ other. other == slot) free (omega (arith, one, there)) in
      ap (λ (o : ListsSeen). pushed (removed o slot) 1 slot) dealt.two
      ∙ ap (λ xs. record { numbers = slots; lists = without slot queued ∷ (xs ++ slot ∷ []) ∷ [] }) same

-- ---- the queue as a whole

module _ (slots : List Raise) (order chains : ListsSeen) (number : ℕ) (s : IsSound slots order chains number) where
  abbrev many : ℕ
  many = length slots

  abbrev in_queue : List ℕ
  in_queue = list_at order 0

  abbrev unused : List ℕ
  unused = list_at order 1

  pub bucket_below : (key : Key) → bucket_of many key < many
  bucket_below key = let some = s.some in omega (arith, some)

  -- the chain of a page's bucket
  chain_is : (key : Key) → list_at chains (bucket_of many key) ≡ filter (is_in_bucket slots (bucket_of many key)) in_queue
  chain_is key = ap (λ (o : ListsSeen). list_at o (bucket_of many key)) s.chained ∙ chain_at slots in_queue (bucket_of many key) [] (bucket_below key)

  pub chain_short : (key : Key) → length (list_at chains (bucket_of many key)) ≤ many
  chain_short key =
      let fewer = length-filter_le (is_in_bucket slots (bucket_of many key)) in_queue in
      let all = s.dealt.all in
      rw (chain_is key) (omega (arith, fewer, all))

  -- what a chain finds is what the order finds
  pub found_by_chain : (key : Key) → find (holds slots key) (list_at chains (bucket_of many key)) ≡ find (holds slots key) in_queue
  found_by_chain key = ap (find (holds slots key)) (chain_is key) ∙ found_in_chain slots in_queue key

  -- why a page waits stands in the slot that is found
  pub pending_found : (key : Key) → queues.pending_why (raises_in slots in_queue) key ≡ option_map (λ slot. (raise_in slots slot).why) (find (holds slots key) in_queue)
  pending_found key = ap (option_map (λ (r : Raise). r.why)) (find-map (is_of key) (raise_in slots) in_queue) ∙ twice (find (holds slots key) in_queue)
    where
      twice : (o : Option ℕ) → option_map (λ (r : Raise). r.why) (option_map (raise_in slots) o) ≡ option_map (λ slot. (raise_in slots slot).why) o
      twice None = refl
      twice (Some slot) = refl

  pub chains_number : chains.numbers ≡ many
  chains_number = ap (λ (o : ListsSeen). o.numbers) s.chained

  pub chains_many : length chains.lists ≡ many
  chains_many = ap (λ (o : ListsSeen). length o.lists) s.chained ∙ chain_count slots in_queue

  pub in_chain : (key : Key) (slot : ℕ) → find (holds slots key) (list_at chains (bucket_of many key)) ≡ Some slot → IsTrue (stands chains slot)
  in_chain key slot is =
      list_any_at (has slot) chains.lists (bucket_of many key) [] (omega (arith, chains_many, bucket_below key))
      (has_from_count slot (list_at chains (bucket_of many key)) (found (holds slots key) (list_at chains (bucket_of many key)) slot is).1)

  module _ (sound : lists.IsSound order) where
    -- a free slot gets a raise
    module _ (slot : ℕ) (raise : Raise) (there : 1 ≤ count slot unused) (within : slot < many) where
      pub fresh_slot : count slot in_queue ≡ 0
      fresh_slot = let one = in_one order many s.dealt sound slot in omega (arith, one, there)

      pub no_chain : stands chains slot ≡ false
      no_chain = subst (λ (o : ListsSeen). stands o slot ≡ false) (sym s.chained) (in_no_chain slots in_queue slot fresh_slot)

      pub raised_seen : raises_in (slice_set slots slot raise) (list_at (pushed (removed order slot) 0 slot) 0) ≡ raises_in slots in_queue ++ raise ∷ []
      raised_seen =
          ap (λ (o : ListsSeen). raises_in (slice_set slots slot raise) (list_at o 0)) (to_queue order many s.dealt sound slot there) ∙ raises_with slots in_queue slot raise within fresh_slot

      pub sound_raised : find (is_of raise.key) (raises_in slots in_queue) ≡ None
          → IsSound (slice_set slots slot raise) (pushed (removed order slot) 0 slot) (pushed chains (bucket_of many raise.key) slot) (number + 1)
      sound_raised none = rw (to_queue order many s.dealt sound slot there) (record {
        some = rw (as_many slots in_queue slot raise within fresh_slot) s.some;
        few = rw (as_many slots in_queue slot raise within fresh_slot) s.few;
        dealt = record {
          two = rw (as_many slots in_queue slot raise within fresh_slot) refl;
          all =
              let whole = s.dealt.all in
              let more = length-append in_queue (slot ∷ []) in
              let less = length_without slot unused in
              let one = in_one order many s.dealt sound slot in
              let same = as_many slots in_queue slot raise within fresh_slot in
              omega (arith, whole, more, less, one, there, same);
        };
        counted = let is = s.counted in let more = length-append in_queue (slot ∷ []) in omega (arith, is, more);
        once = rw (raises_with slots in_queue slot raise within fresh_slot) (once_raised (raises_in slots in_queue) raise s.once none);
        chained =
            ap (λ (o : ListsSeen). pushed o (bucket_of many raise.key) slot) s.chained
            ∙ (ap (λ (xs : List (List ℕ)). record { numbers = many; lists = xs }) (chains_with slots in_queue slot raise within fresh_slot (bucket_below raise.key))
            ∙ ap (λ (n : ℕ). record { numbers = n; lists = chains_of (slice_set slots slot raise) (in_queue ++ slot ∷ []) }) (sym (as_many slots in_queue slot raise within fresh_slot)));
      })

    -- a raise leaves its slot
    module _ (slot : ℕ) (key : Key) (is : find (holds slots key) in_queue ≡ Some slot) where
      there_ : 1 ≤ count slot in_queue
      there_ = (found (holds slots key) in_queue slot is).1

      held : holds slots key slot ≡ true
      held = (found (holds slots key) in_queue slot is).0

      kept : raises_in slots (without slot in_queue) ≡ queues.without key (raises_in slots in_queue)
      kept =
          let once : count_by (holds slots key) in_queue ≤ 1 = rw (← count_by-map (is_of key) (raise_in slots) in_queue) (s.once key) in
          ap (raises_in slots) (only (holds slots key) slot in_queue once there_ held) ∙ sym (filter-map (λ (r : Raise). not (is_of key r)) (raise_in slots) in_queue)

      pub left_seen : raises_in slots (list_at (pushed (removed order slot) 1 slot) 0) ≡ queues.without key (raises_in slots in_queue)
      left_seen = ap (λ (o : ListsSeen). raises_in slots (list_at o 0)) (to_free order many s.dealt sound slot there_) ∙ kept

      pub some_count : 1 ≤ number
      some_count = let counted = s.counted in let less = length_without slot in_queue in omega (arith, counted, less, there_)

      pub sound_left : IsSound slots (pushed (removed order slot) 1 slot) (removed chains slot) (number - 1)
      sound_left = rw (to_free order many s.dealt sound slot there_) (record {
        some = s.some;
        few = s.few;
        dealt = record {
          two = refl;
          all =
              let whole = s.dealt.all in
              let more = length-append unused (slot ∷ []) in
              let less = length_without slot in_queue in
              let one = in_one order many s.dealt sound slot in
              omega (arith, whole, more, less, one, there_);
        };
        counted =
            let is_ = s.counted in let less = length_without slot in_queue in let one = in_one order many s.dealt sound slot in omega (arith, is_, less, one, there_);
        once = rw kept (once_without (raises_in slots in_queue) key s.once);
        chained = ap (λ (o : ListsSeen). removed o slot) s.chained ∙ ap (λ (xs : List (List ℕ)). record { numbers = many; lists = xs }) (chains_without slots in_queue slot);
      })

-- ---- an empty queue

no_chains : (slots : List Raise) (from many : ℕ) → map (λ bucket. filter (is_in_bucket slots bucket) []) (range_with_len from many) ≡ replicate many []
no_chains slots from zero = refl
no_chains slots from (suc many) = ap (λ (xs : List (List ℕ)). [] ∷ xs) (no_chains slots (from + 1) many)

pub sound_empty : (slots : List Raise) (order chains : ListsSeen) (capacity made : ℕ) → length slots ≡ capacity → 1 ≤ capacity → capacity < 2147483648
    → chains ≡ all_empty capacity capacity → AreFree order capacity made → made ≡ capacity → IsSound slots order chains 0
sound_empty slots order chains capacity made many some few empty are whole =
    let none : list_at order 0 ≡ [] = ap (λ (o : ListsSeen). list_at o 0) are.two in
    record {
      some = omega (arith, some, many);
      few = omega (arith, few, many);
      dealt = record {
        two =
            are.two
            ∙ (ap (λ (n : ℕ). record { numbers = n; lists = [] ∷ list_at order 1 ∷ [] }) (sym many)
            ∙ ap (λ (xs : List ℕ). record { numbers = length slots; lists = xs ∷ list_at order 1 ∷ [] }) (sym none));
        all = let nothing : length (list_at order 0) ≡ 0 = ap length none in omega (arith, nothing, are.all, whole, many);
      };
      counted = let nothing : length (list_at order 0) ≡ 0 = ap length none in omega (arith, nothing);
      once = λ key. rw none (omega arith);
      chained =
          empty
          ∙ (ap (λ (n : ℕ). record { numbers = n; lists = replicate n [] }) (sym many)
          ∙ (ap (λ (xs : List (List ℕ)). record { numbers = length slots; lists = xs }) (sym (no_chains slots 0 (length slots)))
          ∙ ap (λ (q : List ℕ). record { numbers = length slots; lists = chains_of slots q }) (sym none)));
    }
