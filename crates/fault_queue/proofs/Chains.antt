-- The chains of the buckets, where a slot gets a raise at the end of the order, and where one leaves the order.
use Rattle.std.proofs.Common.{◌≡◌, ℕ, ◌<◌, ◌==◌, Bool, true, false, cond, List, [], ◌∷◌, ◌++◌, length, map, filter, find, ◌⊎◌, refl, sym, ap, ◌∙◌, inl, inr, arith, append-nil}
use Rattle.std.specs.Prelude.{slice_index_or, slice_set}
use Rattle.std.specs.List.{range_with_len, list_any}
use Rattle.std.proofs.lemmas.List.{length-set, get_or-set_same, get_or-set_other, same_lists, map_push}
use Rattle.std.proofs.lemmas.List.Elements.{filter-append}
use Rattle.std.proofs.lemmas.List.Folds.{list_any_none}
use Rattle.std.proofs.lemmas.List.FromFn.{length-map-range_with_len, get_or-map-range_with_len}
use Rattle.std.proofs.lemmas.Bool.{cases_eq, eq-eqb, eqb-true, false_from_ne_true}
use Rattle.page_base.specs.declared.keys.Key.{Key}
use Rattle.page_base.specs.declared.keys.Raise.{Raise}
use Rattle.index_lists.specs.Lists.{has, without}
use Rattle.fault_queue.specs.InsideQueues.{blank, raise_in, raises_in, holds, bucket_of, is_in_bucket, chains_of}
use Rattle.fault_queue.proofs.Keys.{same-true}
use Rattle.fault_queue.proofs.Counts.{count, count_by-filter, filter_swap, find-filter, has_none, map_apart, filter_apart}

module _ (slots : List Raise) where
  abbrev many : ℕ
  many = length slots

  pub chain_count : (order : List ℕ) → length (chains_of slots order) ≡ many
  chain_count order = length-map-range_with_len (λ bucket. filter (is_in_bucket slots bucket) order) 0 many

  pub chain_at : (order : List ℕ) (bucket : ℕ) (d : List ℕ) → bucket < many → slice_index_or (chains_of slots order) bucket d ≡ filter (is_in_bucket slots bucket) order
  chain_at order bucket d below = get_or-map-range_with_len (λ b. filter (is_in_bucket slots b) order) 0 many bucket bucket d below (omega arith)

  -- a slot that isn't in the order is in no chain
  pub in_no_chain : (order : List ℕ) (slot : ℕ) → count slot order ≡ 0 → list_any (has slot) (chains_of slots order) ≡ false
  in_no_chain order slot none = list_any_none (has slot) (chains_of slots order) (λ k d within.
      let below : k < many = omega (arith, chain_count order) in
      let fewer = count_by-filter (λ other. other == slot) (is_in_bucket slots k) order in
      rw (chain_at order k d below) (has_none slot (filter (is_in_bucket slots k) order) (omega (arith, fewer, none))))

  -- the chain of a page's bucket finds the slot that the order finds
  pub found_in_chain : (order : List ℕ) (key : Key) → find (holds slots key) (filter (is_in_bucket slots (bucket_of many key)) order) ≡ find (holds slots key) order
  found_in_chain order key = find-filter (holds slots key) (is_in_bucket slots (bucket_of many key)) order (λ slot held.
      let is : (raise_in slots slot).key ≡ key = same-true (raise_in slots slot).key key held in
      rw is (eq-eqb (bucket_of many key) (bucket_of many key) refl))

  -- without a slot the chains are those of the order without it
  pub chains_without : (order : List ℕ) (slot : ℕ) → map (without slot) (chains_of slots order) ≡ chains_of slots (without slot order)
  chains_without order slot = each (range_with_len 0 many)
    where
      each : (buckets : List ℕ) → map (without slot) (map (λ b. filter (is_in_bucket slots b) order) buckets) ≡ map (λ b. filter (is_in_bucket slots b) (without slot order)) buckets
      each [] = refl
      each (b ∷ buckets) =
          let here : without slot (filter (is_in_bucket slots b) order) ≡ filter (is_in_bucket slots b) (without slot order) = filter_swap _ (is_in_bucket slots b) order in
          let rest : map (without slot) (map (λ b. filter (is_in_bucket slots b) order) buckets) ≡ map (λ b. filter (is_in_bucket slots b) (without slot order)) buckets = each buckets in
          rw (here, rest) refl

  module _ (order : List ℕ) (slot : ℕ) (raise : Raise) (within : slot < many) (fresh : count slot order ≡ 0) where
    abbrev filled : List Raise
    filled = slice_set slots slot raise

    elsewhere : (x : ℕ) → (x ≡ slot → ⊥) → raise_in filled x ≡ raise_in slots x
    elsewhere x ne = get_or-set_other slots slot x raise blank ne

    pub as_many : length filled ≡ many
    as_many = length-set slots slot raise

    pub raises_with : raises_in filled (order ++ slot ∷ []) ≡ raises_in slots order ++ raise ∷ []
    raises_with =
        let kept : raises_in filled order ≡ raises_in slots order = map_apart (raise_in filled) (raise_in slots) slot order elsewhere fresh in
        let here : raise_in filled slot ≡ raise = get_or-set_same slots slot raise blank within in
        map_push (raise_in filled) order slot ∙ rw (kept, here) refl

    bucket_elsewhere : (bucket x : ℕ) → (x ≡ slot → ⊥) → is_in_bucket filled bucket x ≡ is_in_bucket slots bucket x
    bucket_elsewhere bucket x ne = rw (as_many, elsewhere x ne) refl

    bucket_here : (bucket : ℕ) → is_in_bucket filled bucket slot ≡ (bucket_of many raise.key == bucket)
    bucket_here bucket = rw (as_many, get_or-set_same slots slot raise blank within) refl

    -- a chain with the slot at its end, where it is that of the raise
    chain_with : (bucket : ℕ) (is_here : Bool) → (bucket_of many raise.key == bucket) ≡ is_here
        → filter (is_in_bucket filled bucket) (order ++ slot ∷ []) ≡ cond is_here (filter (is_in_bucket slots bucket) order ++ slot ∷ []) (filter (is_in_bucket slots bucket) order)
    chain_with bucket is_here e =
        let kept : filter (is_in_bucket filled bucket) order ≡ filter (is_in_bucket slots bucket) order = filter_apart (is_in_bucket filled bucket) (is_in_bucket slots bucket) slot order (bucket_elsewhere bucket) fresh in
        filter-append (is_in_bucket filled bucket) order (slot ∷ []) ∙ rw kept (by_test is_here (bucket_here bucket ∙ e))
      where
        by_test : (b : Bool) → is_in_bucket filled bucket slot ≡ b
            → filter (is_in_bucket slots bucket) order ++ filter (is_in_bucket filled bucket) (slot ∷ []) ≡ cond b (filter (is_in_bucket slots bucket) order ++ slot ∷ []) (filter (is_in_bucket slots bucket) order)
        by_test true here = rw here refl
        by_test false here = rw here (append-nil (filter (is_in_bucket slots bucket) order))

    filled_at : (bucket : ℕ) (d : List ℕ) → bucket < many → slice_index_or (chains_of filled (order ++ slot ∷ [])) bucket d ≡ filter (is_in_bucket filled bucket) (order ++ slot ∷ [])
    filled_at bucket d below =
        get_or-map-range_with_len (λ b. filter (is_in_bucket filled b) (order ++ slot ∷ [])) 0 (length filled) bucket bucket d (omega (arith, as_many, below)) (omega arith)

    abbrev home : ℕ
    home = bucket_of many raise.key

    abbrev pushed_chains : List (List ℕ)
    pushed_chains = slice_set (chains_of slots order) home (slice_index_or (chains_of slots order) home [] ++ slot ∷ [])

    chain_is : (bucket : ℕ) (d : List ℕ) → home < many → bucket < many → (home ≡ bucket) ⊎ (home ≡ bucket → ⊥)
        → slice_index_or pushed_chains bucket d ≡ slice_index_or (chains_of filled (order ++ slot ∷ [])) bucket d
    chain_is bucket d below within_ (inl is) =
        let there : bucket < length (chains_of slots order) = omega (arith, chain_count order) in
        let left : slice_index_or pushed_chains bucket d ≡ slice_index_or (chains_of slots order) home [] ++ slot ∷ [] = rw is (get_or-set_same (chains_of slots order) bucket (slice_index_or (chains_of slots order) bucket [] ++ slot ∷ []) d there) in
        left ∙ (ap (λ xs. xs ++ slot ∷ []) (ap (λ b. slice_index_or (chains_of slots order) b []) is ∙ chain_at order bucket [] within_)
        ∙ sym (filled_at bucket d within_ ∙ chain_with bucket true (eq-eqb home bucket is)))
    chain_is bucket d below within_ (inr isnt) =
        let ne : bucket ≡ home → ⊥ = λ e. isnt (sym e) in
        get_or-set_other (chains_of slots order) home bucket (slice_index_or (chains_of slots order) home [] ++ slot ∷ []) d ne
        ∙ (chain_at order bucket d within_
        ∙ sym (filled_at bucket d within_ ∙ chain_with bucket false (false_from_ne_true (home == bucket) (λ e. isnt (eqb-true home bucket e)))))

    pub chains_with : home < many → pushed_chains ≡ chains_of filled (order ++ slot ∷ [])
    chains_with below =
        same_lists pushed_chains (chains_of filled (order ++ slot ∷ [])) lengths (λ bucket d within_. chain_is bucket d below (omega (arith, within_, length-set (chains_of slots order) home (slice_index_or (chains_of slots order) home [] ++ slot ∷ []), chain_count order)) (cases_eq home bucket))
      where
        lengths : length pushed_chains ≡ length (chains_of filled (order ++ slot ∷ []))
        lengths = length-set (chains_of slots order) home (slice_index_or (chains_of slots order) home [] ++ slot ∷ []) ∙ (chain_count order ∙ sym (length-map-range_with_len (λ b. filter (is_in_bucket filled b) (order ++ slot ∷ [])) 0 (length filled) ∙ as_many))
