-- Parts of stripes gathered to those of all files.
use Rattle.std.proofs.Common.{◌≡◌, ◌≢◌, inl, inr, ℕ, zero, suc, ◌+◌, ◌-◌, ◌*◌, ◌/◌, ◌%◌, ◌<◌, ◌≤◌, List, [], ◌∷◌, ◌++◌, map, length, get_or, slice_get, Some, refl, sym, ap, subst, ◌∙◌, arith, append_assoc, append-nil, length-append, length-set, zero-add}
use Rattle.std.specs.Prelude.{slice_set, reverse}
use Rattle.std.specs.List.{range_with_len}
use Rattle.std.specs.Option.{option_map}
use Rattle.std.proofs.lemmas.Bool.{cases_lt}
use Rattle.std.proofs.lemmas.List.{map-append, map-set, length-map, reverse-reverse, length-reverse}
use Rattle.std.proofs.lemmas.Nat.{mod_below, div-add-mod', mul-le}
use Rattle.std.proofs.Math.Nat.{add-mod_right}
use Rattle.std.proofs.lemmas.Option.{same_Some, slice_get-map}
use Rattle.page_base.specs.ListSeen.{ListSeen}
use Rattle.sparse_store.specs.InsideJoins.{HoldsFiles, HoldFiles, MovesLast}
use Rattle.sparse_store.specs.InsideLaneFiles.{file_number}
use Rattle.sparse_store.specs.Splits.{dealt_from, dealt_to, shares_of}
use Rattle.sparse_store.proofs.Dealing.{there, goes, passes, dealt_at, dealt_here}
use Rattle.sparse_store.proofs.LaneFiles.{set_here, set_other, same_or_not}
use Rattle.sparse_store.proofs.PartLists.{inside_of, none_left, got_at}
use Rattle.sparse_store.proofs.Splitting.{turned}

-- what is left of a row, and what was taken from it
pub record GatheredSoFar {P : Type 0} (n region stripe number : ℕ) (done : List P) (before : List (List P)) (row : List P) : Type 0 where
  pub was : List P
  pub was_at : slice_get before stripe ≡ Some was
  pub was_is : was ≡ row ++ dealt_from n region stripe number done

pub record GathersSome {P : Type 0} (n region count number : ℕ) (before now : List (List P)) (parts : ListSeen P) : Type 0 where
  pub number_is : number + length parts.items ≡ count
  pub room : number ≤ parts.spare
  pub rows : length now ≡ n
  pub each : (s : ℕ) (row : List P) → slice_get now s ≡ Some row → GatheredSoFar n region s number (reverse parts.items) before row

module _ {P : Type 0} (region count n : ℕ) (before : List (List P)) (whole : length before ≡ n) where
  pub gathers_begin : (parts : ListSeen P) → parts.items ≡ [] → count ≤ parts.spare → GathersSome n region count count before before parts
  gathers_begin parts empty room = record {
    number_is = omega (arith, ap length empty);
    room = room;
    rows = whole;
    each = λ s row got. record {
      was = row;
      was_at = got;
      was_is = sym (append-nil row) ∙ ap (λ (ps : List P). row ++ dealt_from n region s count (reverse ps)) (sym empty);
    };
  }

  module _ (some : 0 < n) (files : (s : ℕ) (row : List P) → slice_get before s ≡ Some row → HoldsFiles count n region s (length row)) where
    -- the stripe of the next file has a part yet
    pub some_left : (number : ℕ) (now : List (List P)) (parts : ListSeen P) (row : List P) → number + 1 ≤ count → GathersSome n region count (number + 1) before now parts → slice_get now ((region + number) % n) ≡ Some row → 0 < length row
    some_left number now parts row below i here = elim (cases_lt 0 (length row)) [
      | inl more ↦ more
      | inr none ↦
          let s = (region + number) % n in
          let one = i.each s row here in
          let done : List P = reverse parts.items in
          let left : List P = dealt_from n region s (number + 1) done in
          let long : length one.was ≡ length left = omega (arith, ap length one.was_is, length-append row left, none) in
          let held : HoldsFiles count n region s (length one.was) = files s one.was one.was_at in
          absurd (omega (arith, held.all (number + length one.was * n) (last_inside (length one.was) left done long refl (omega (arith, i.number_is, length-reverse parts.items))) (same_stripe (length one.was)), quotient (length one.was)))
    ]
      where
        same_stripe : (c : ℕ) → (region + (number + c * n)) % n ≡ (region + number) % n
        same_stripe zero = ap (λ (a : ℕ). a % n) (let e : region + (number + 0 * n) ≡ region + number = omega arith in e)
        same_stripe (suc c) = ap (λ (a : ℕ). a % n) (let e : region + (number + suc c * n) ≡ region + (number + c * n) + n = omega arith in e) ∙ add-mod_right (region + (number + c * n)) n ∙ same_stripe c

        quotient : (c : ℕ) → c ≤ (number + c * n) / n
        quotient c = elim (cases_lt ((number + c * n) / n) c) [
          | inr enough ↦ enough
          | inl few ↦ absurd (omega (arith, mul-le ((number + c * n) / n + 1) n c n (omega (arith, few)) (omega arith), div-add-mod' (number + c * n) n, mod_below (number + c * n) n some))
        ]

        last_inside : (c : ℕ) (left done : List P) → c ≡ length left → left ≡ dealt_from n region ((region + number) % n) (number + 1) done → number + 1 + length done ≡ count → number + c * n < count
        last_inside zero left done long is all = omega (arith, all)
        last_inside (suc j) left done long is all =
            let s = (region + number) % n in
            let round : (region + (number + 1) + (n - 1)) % n ≡ s = ap (λ (a : ℕ). a % n) (let e : region + (number + 1) + (n - 1) ≡ region + number + n = omega (arith, some) in e) ∙ add-mod_right (region + number) n in
            let last = there left j (omega (arith, long)) in
            let at : slice_get done (j * n + (n - 1)) ≡ Some last.0 = sym (dealt_at n region s some (number + 1) (n - 1) done j (omega (arith, some)) round) ∙ ap (λ (ps : List P). slice_get ps j) (sym is) ∙ last.1 in
            omega (arith, inside_of done (j * n + (n - 1)) last.0 at, all, some)

    module _ (number : ℕ) (now : List (List P)) (parts : ListSeen P) (row : List P) (i : GathersSome n region count (number + 1) before now parts) (here : slice_get now ((region + number) % n) ≡ Some row) (rest : List P) (x : P) (taken : row ≡ rest ++ x ∷ []) (more : ListSeen P) (put : more.items ≡ parts.items ++ x ∷ []) (spare : more.spare + 1 ≡ parts.spare) where
      next_done : reverse more.items ≡ x ∷ reverse parts.items
      next_done = ap reverse put ∙ turned parts.items x

      taken_row : GatheredSoFar n region ((region + number) % n) number (reverse more.items) before rest
      taken_row =
          let s = (region + number) % n in
          let one = i.each s row here in
          record {
            was = one.was;
            was_at = one.was_at;
            was_is =
                one.was_is
                ∙ ap (λ (ps : List P). ps ++ dealt_from n region s (number + 1) (reverse parts.items)) taken
                ∙ append_assoc rest (x ∷ []) (dealt_from n region s (number + 1) (reverse parts.items))
                ∙ ap (λ (ps : List P). rest ++ ps) (sym (goes n region s some number x (reverse parts.items) refl))
                ∙ ap (λ (ps : List P). rest ++ dealt_from n region s number ps) (sym next_done);
          }

      kept_row : (s : ℕ) (other : List P) → s ≢ (region + number) % n → GatheredSoFar n region s (number + 1) (reverse parts.items) before other → GatheredSoFar n region s number (reverse more.items) before other
      kept_row s other apart old = record {
        was = old.was;
        was_at = old.was_at;
        was_is =
            old.was_is
            ∙ ap (λ (ps : List P). other ++ ps) (sym (passes n region s some number x (reverse parts.items) (λ e. apart (sym e))))
            ∙ ap (λ (ps : List P). other ++ dealt_from n region s number ps) (sym next_done);
      }

      pub gathers_more : GathersSome n region count number before (slice_set now ((region + number) % n) rest) more
      gathers_more = record {
        number_is = omega (arith, i.number_is, ap length put, length-append parts.items (x ∷ []));
        room = omega (arith, i.room, spare);
        rows = length-set now ((region + number) % n) rest ∙ i.rows;
        each = λ s other got. elim (same_or_not s ((region + number) % n)) [
          | inl same ↦
              let at : slice_get (slice_set now ((region + number) % n) rest) ((region + number) % n) ≡ Some other = subst (λ (j : ℕ). slice_get (slice_set now ((region + number) % n) rest) j ≡ Some other) same got in
              let it : rest ≡ other = same_Some rest other (sym (set_here now ((region + number) % n) row rest here) ∙ at) in
              subst (λ (y : List P). GatheredSoFar n region s number (reverse more.items) before y) it
              (subst (λ (j : ℕ). GatheredSoFar n region j number (reverse more.items) before rest) (sym same) taken_row)
          | inr apart ↦ kept_row s other apart (i.each s other (sym (set_other now ((region + number) % n) s rest apart) ∙ got))
        ];
      }

    -- ---- all gathered

    module _ (now : List (List P)) (parts : ListSeen P) (i : GathersSome n region count 0 before now parts) where
      all_done : (s : ℕ) → s < n → (was : List P) → slice_get before s ≡ Some was → dealt_to n region s (reverse parts.items) ≡ was
      all_done s below was at =
          let row = there now s (omega (arith, below, i.rows)) in
          let one = i.each s row.0 row.1 in
          let it : one.was ≡ was = same_Some one.was was (sym one.was_at ∙ at) in
          let own : List P = dealt_to n region s (reverse parts.items) in
          let none : length row.0 ≡ 0 = elim (cases_lt 0 (length row.0)) [
            | inr empty ↦ omega (arith, empty)
            | inl more ↦
                let held : HoldsFiles count n region s (length one.was) = files s one.was one.was_at in
                let inside : file_number n region s (length own) < count = held.below (length own) (omega (arith, more, ap length one.was_is, length-append row.0 own)) in
                let last = there (reverse parts.items) (file_number n region s (length own)) (omega (arith, inside, i.number_is, length-reverse parts.items)) in
                absurd (omega (arith, inside_of own (length own) last.0 (dealt_here n region s some below (reverse parts.items) (length own) ∙ last.1)))
          ] in
          ap (λ (ps : List P). ps ++ own) (sym (none_left row.0 none)) ∙ sym one.was_is ∙ it

      pub gathers_end : shares_of n region (reverse parts.items) ≡ before
      gathers_end = ap (λ (k : ℕ). map (λ s. dealt_to n region s (reverse parts.items)) (range_with_len 0 k)) (sym whole) ∙ listed (λ s. dealt_to n region s (reverse parts.items)) 0 before (λ s was at. ap (λ (j : ℕ). dealt_to n region j (reverse parts.items)) (zero-add s) ∙ all_done s (omega (arith, inside_of before s was at, whole)) was at)
        where
          listed : {X : Type 0} (f : ℕ → X) (k : ℕ) (xs : List X) → ((s : ℕ) (x : X) → slice_get xs s ≡ Some x → f (k + s) ≡ x) → map f (range_with_len k (length xs)) ≡ xs
          listed f k [] same = refl
          listed {X} f k (x ∷ xs) same =
              ap (λ (y : X). y ∷ map f (range_with_len (k + 1) (length xs))) (ap f (let e : k ≡ k + 0 = omega arith in e) ∙ same 0 x refl)
              ∙ ap (λ (ys : List X). x ∷ ys) (listed f (k + 1) xs (λ s y got. ap f (let e : k + 1 + s ≡ k + suc s = omega arith in e) ∙ same (suc s) y got))

-- ---- lanes that give their parts

pub record MovesSome {A V P : Type 0} (row_of : V → List P) (own : A → List P) (all left : List A) (rows : ListSeen V) : Type 0 where
  pub room : length left ≤ rows.spare
  pub moved : map row_of rows.items ++ map own (reverse left) ≡ map own all

module _ {A V P : Type 0} (row_of : V → List P) (own : A → List P) (all : List A) where
  pub moves_begin : (left : List A) (rows : ListSeen V) → left ≡ reverse all → rows.items ≡ [] → length all ≤ rows.spare → MovesSome row_of own all left rows
  moves_begin left rows is empty room = record {
    room = omega (arith, room, ap length is, length-reverse all);
    moved = ap (λ (vs : List V). map row_of vs ++ map own (reverse left)) empty ∙ ap (map own) (ap reverse is ∙ reverse-reverse all);
  }

  pub moves_more : (left rest : List A) (x : A) (v : V) (rows more : ListSeen V) → left ≡ rest ++ x ∷ [] → row_of v ≡ own x → more.items ≡ rows.items ++ v ∷ [] → more.spare + 1 ≡ rows.spare → MovesSome row_of own all left rows → MovesSome row_of own all rest more
  moves_more left rest x v rows more last same items spare i = record {
    room = omega (arith, i.room, spare, ap length last, length-append rest (x ∷ []));
    moved =
        ap (λ (vs : List V). map row_of vs ++ map own (reverse rest)) items
        ∙ ap (λ (ls : List (List P)). ls ++ map own (reverse rest)) (map-append row_of rows.items (v ∷ []))
        ∙ append_assoc (map row_of rows.items) (row_of v ∷ []) (map own (reverse rest))
        ∙ ap (λ (ps : List P). map row_of rows.items ++ (ps ∷ map own (reverse rest))) same
        ∙ ap (λ (xs : List A). map row_of rows.items ++ map own xs) (sym (turned rest x) ∙ sym (ap reverse last))
        ∙ i.moved;
  }

  pub moves_end : (left : List A) (rows : ListSeen V) → left ≡ [] → MovesSome row_of own all left rows → map row_of rows.items ≡ map own all
  moves_end left rows none i = sym (append-nil (map row_of rows.items)) ∙ ap (λ (xs : List A). map row_of rows.items ++ map own (reverse xs)) (sym none) ∙ i.moved

-- ---- rows that are vectors

module _ {P V : Type 0} (row_of : V → List P) (region count : ℕ) (before : List V) (some : 0 < length before) (files : HoldFiles count region (map row_of before)) where
  abbrev lists : List (List P)
  lists = map row_of before

  files_of_row : (s : ℕ) (row : List P) → slice_get lists s ≡ Some row → HoldsFiles count (length before) region s (length row)
  files_of_row s row got = subst (λ (k : ℕ). HoldsFiles count k region s (length row)) (length-map before row_of) (files s row got)

  module _ (number : ℕ) (now : List V) (parts : ListSeen P) (r : ℕ) (d : V) (r_is : r ≡ region) (positive : 0 < number) (i : GathersSome (length before) region count number lists (map row_of now) parts) where
    abbrev row_now : List P
    row_now = row_of (get_or now ((r + (number - 1)) % length before) d)

    one_fewer : GathersSome (length before) region count (number - 1 + 1) lists (map row_of now) parts
    one_fewer = subst (λ (k : ℕ). GathersSome (length before) region count k lists (map row_of now) parts) (let e : number ≡ number - 1 + 1 = omega (arith, positive) in e) i

    row_here : slice_get (map row_of now) ((region + (number - 1)) % length before) ≡ Some row_now
    row_here =
        let n = length before in
        let k = number - 1 in
        slice_get-map row_of now ((region + k) % n)
        ∙ ap (option_map row_of) (got_at now ((region + k) % n) d (omega (arith, mod_below (region + k) n some, i.rows, length-map now row_of)) ∙ ap (λ (q : ℕ). Some (get_or now ((q + k) % n) d)) (sym r_is))

    pub row_left : 0 < length row_now
    row_left = some_left region count (length before) lists (length-map before row_of) some files_of_row (number - 1) (map row_of now) parts row_now (omega (arith, i.number_is, positive)) one_fewer row_here

    pub rows_more : (new : V) (more : ListSeen P) → MovesLast row_now (row_of new) parts.items more.items → more.spare + 1 ≡ parts.spare
        → GathersSome (length before) region count (number - 1) lists (map row_of (slice_set now ((r + (number - 1)) % length before) new)) more
    rows_more new more moves spare =
        let n = length before in
        let k = number - 1 in
        subst (λ (q : ℕ). GathersSome n region count k lists (map row_of (slice_set now ((q + k) % n) new)) more) (sym r_is)
        (subst (λ (xs : List (List P)). GathersSome n region count k lists xs more) (sym (map-set row_of now ((region + k) % n) new))
        (gathers_more region count n lists (length-map before row_of) some files_of_row k (map row_of now) parts row_now one_fewer row_here (row_of new) moves.last moves.taken more moves.put_behind spare))

  pub rows_end : (number : ℕ) (now : List V) (parts : ListSeen P) → number ≡ 0 → GathersSome (length before) region count number lists (map row_of now) parts → shares_of (length before) region (reverse parts.items) ≡ lists
  rows_end number now parts none i =
      gathers_end region count (length before) lists (length-map before row_of) some files_of_row (map row_of now) parts (subst (λ (k : ℕ). GathersSome (length before) region count k lists (map row_of now) parts) none i)
