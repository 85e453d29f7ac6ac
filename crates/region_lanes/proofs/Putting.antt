-- One more lane behind the lanes of each stripe.
use Rattle.std.proofs.Common.{◌≡◌, ◌≢◌, ℕ, zero, suc, ◌+◌, ◌<◌, ◌≤◌, inl, inr, List, [], ◌∷◌, ◌++◌, length, map, set, get_or, slice_get, Some, refl, sym, ap, subst, ◌∙◌, arith, append-nil, append_assoc, length-append, length-set, get_or-set_same, get_or-set_other}
use Rattle.std.proofs.lemmas.Bool.{cases_lt}
use Rattle.std.proofs.lemmas.List.{get_or-map, length-map, map-set, map-append}
use Rattle.std.proofs.Math.Seq.{get_or-append_seam}
use Rattle.page_base.specs.ListSeen.{ListSeen}
use Rattle.page_base.specs.Lanes.{LaneSeen}
use Rattle.script_run.specs.Contents.{no_lane}
use Rattle.serial_pager.specs.Pagers.{rows_by}
use Rattle.region_lanes.specs.InsideOpened.{PutsRegionLanes, HaveRoom}
use Rattle.region_lanes.proofs.Lists.{slice_get_at, index_or_at, inside_of}

module _ {S : Type 0} (seen : S → LaneSeen) where
  -- the lanes that are left belong to the first stripes, whose rows are as before; the others have got theirs
  pub record PutsSome (lanes left : List S) (old new : List (ListSeen S)) : Type 0 where
    pub done : List S
    pub all : lanes ≡ left ++ done
    pub count : length new ≡ length old
    pub front : (s : ℕ) → s < length left → get_or (rows_by seen new) s [] ≡ get_or (rows_by seen old) s []
    pub back : (s : ℕ) → length left ≤ s → s < length old → get_or (rows_by seen new) s [] ≡ get_or (rows_by seen old) s [] ++ get_or (map seen lanes) s no_lane ∷ []
    pub room : (more : ℕ) → HaveRoom (more + 1) old → (s : ℕ) (row : ListSeen S) → slice_get new s ≡ Some row → more ≤ row.spare
    pub left_room : (more : ℕ) → HaveRoom (more + 1) old → (s : ℕ) (row : ListSeen S) → s < length left → slice_get new s ≡ Some row → more + 1 ≤ row.spare

  pub puts_begin : (lanes : List S) (old : List (ListSeen S)) → length lanes ≡ length old → PutsSome lanes lanes old old
  puts_begin lanes old len = record {
    done = [];
    all = sym (append-nil lanes);
    count = refl;
    front = λ s h. refl;
    back = λ s h below. absurd (omega (arith, len, h, below));
    room = λ more room s row at. omega (arith, room s row at);
    left_room = λ more room s row h at. room s row at;
  }

  pub puts_end : (lanes : List S) (old new : List (ListSeen S)) → PutsSome lanes [] old new → PutsRegionLanes (map seen lanes) (rows_by seen old) (rows_by seen new)
  puts_end lanes old new puts = record {
    count = length-map new (λ (row : ListSeen S). map seen row.items) ∙ puts.count ∙ sym (length-map old (λ (row : ListSeen S). map seen row.items));
    each = λ s below. puts.back s (omega arith) (omega (arith, below, length-map old (λ (row : ListSeen S). map seen row.items)));
  }

  module _ (lanes left rest : List S) (lane : S) (old rows : List (ListSeen S)) (row more : ListSeen S) (k : ℕ) (is : left ≡ rest ++ lane ∷ []) (at : k ≡ length rest) (below : k < length rows) (here : row ≡ get_or rows k row) (put : more.items ≡ row.items ++ lane ∷ []) (spare : more.spare + 1 ≡ row.spare) (puts : PutsSome lanes left old rows) where
    left_len : length left ≡ k + 1
    left_len = ap length is ∙ length-append rest (lane ∷ []) ∙ omega (arith, at)

    all_more : lanes ≡ rest ++ (lane ∷ puts.done)
    all_more = puts.all ∙ ap (λ (ls : List S). ls ++ puts.done) is ∙ append_assoc rest (lane ∷ []) puts.done

    lane_here : get_or (map seen lanes) k no_lane ≡ seen lane
    lane_here =
        let inside : k < length lanes = omega (arith, at, ap (length {A = S}) all_more, length-append rest (lane ∷ puts.done)) in
        get_or-map seen lanes k lane no_lane inside
        ∙ ap seen (ap (λ (ls : List S). get_or ls k lane) all_more ∙ ap (λ (n : ℕ). get_or (rest ++ (lane ∷ puts.done)) n lane) at ∙ get_or-append_seam rest lane puts.done lane)

    rows_len : length (rows_by seen rows) ≡ length rows
    rows_len = length-map rows (λ (st : ListSeen S). map seen st.items)

    now : rows_by seen (set rows k more) ≡ set (rows_by seen rows) k (map seen more.items)
    now = map-set (λ (st : ListSeen S). map seen st.items) rows k more

    changed : get_or (rows_by seen (set rows k more)) k [] ≡ get_or (rows_by seen old) k [] ++ get_or (map seen lanes) k no_lane ∷ []
    changed =
        ap (λ (xs : List (List LaneSeen)). get_or xs k []) now
        ∙ get_or-set_same (rows_by seen rows) k (map seen more.items) [] (omega (arith, rows_len, below))
        ∙ ap (map seen) put
        ∙ map-append seen row.items (lane ∷ [])
        ∙ ap (λ (ls : List LaneSeen). ls ++ seen lane ∷ []) (ap (λ (st : ListSeen S). map seen st.items) here ∙ sym (get_or-map (λ (st : ListSeen S). map seen st.items) rows k row [] below) ∙ puts.front k (omega (arith, left_len)))
        ∙ ap (λ (l : LaneSeen). get_or (rows_by seen old) k [] ++ l ∷ []) (sym lane_here)

    kept : (s : ℕ) → s ≢ k → get_or (rows_by seen (set rows k more)) s [] ≡ get_or (rows_by seen rows) s []
    kept s other = ap (λ (xs : List (List LaneSeen)). get_or xs s []) now ∙ get_or-set_other (rows_by seen rows) k s (map seen more.items) [] other

    row_there : slice_get rows k ≡ Some row
    row_there = slice_get_at rows k row below ∙ ap (λ (x : ListSeen S). Some x) (sym here)

    -- a row of the new rows is the changed one, or one of the old
    which : (s : ℕ) (x : ListSeen S) → slice_get (set rows k more) s ≡ Some x → (s ≢ k → slice_get rows s ≡ Some x) × (s ≡ k → x ≡ more)
    which s x e =
        let inside : s < length rows = omega (arith, inside_of (set rows k more) s x e, length-set rows k more) in (
          λ other. slice_get_at rows s x inside ∙ ap (λ (y : ListSeen S). Some y) (sym (get_or-set_other rows k s more x other) ∙ index_or_at (set rows k more) s x x e),
          λ same. sym (index_or_at (set rows k more) s x x e) ∙ ap (λ (j : ℕ). get_or (set rows k more) j x) same ∙ get_or-set_same rows k more x below,
        )

    room_kept : (n : ℕ) → HaveRoom (n + 1) old → (s : ℕ) (x : ListSeen S) → slice_get (set rows k more) s ≡ Some x → n ≤ x.spare
    room_kept n room s x e = elim (cases_lt s k) [
      | inl before ↦ puts.room n room s x ((which s x e).0 (λ same. omega (arith, same, before)))
      | inr past ↦ elim (cases_lt k s) [
        | inl behind ↦ puts.room n room s x ((which s x e).0 (λ same. omega (arith, same, behind)))
        | inr same ↦
            let is_more : x ≡ more = (which s x e).1 (omega (arith, past, same)) in
            let was : n + 1 ≤ row.spare = puts.left_room n room k row (omega (arith, left_len)) row_there in
            subst (λ (y : ListSeen S). n ≤ y.spare) (sym is_more) (omega (arith, was, spare))
      ]
    ]

    pub puts_more : PutsSome lanes rest old (set rows k more)
    puts_more = record {
      done = lane ∷ puts.done;
      all = all_more;
      count = length-set rows k more ∙ puts.count;
      front = λ s front. kept s (λ e. omega (arith, e, front, at)) ∙ puts.front s (omega (arith, left_len, front, at));
      back = λ s past inside. elim (cases_lt k s) [
        | inl later ↦ kept s (λ e. omega (arith, e, later)) ∙ puts.back s (omega (arith, later, left_len)) inside
        | inr same ↦
            let e : s ≡ k = omega (arith, same, past, at) in
            subst (λ (q : ℕ). get_or (rows_by seen (set rows k more)) q [] ≡ get_or (rows_by seen old) q [] ++ get_or (map seen lanes) q no_lane ∷ []) (sym e) changed
      ];
      room = room_kept;
      left_room = λ n room s x h e. puts.left_room n room s x (omega (arith, h, at, left_len)) ((which s x e).0 (λ same. omega (arith, same, h, at)));
    }
