-- The loops of a split: parts dealt out one by one, and shares that become lanes.
use Rattle.std.proofs.Common.{◌≡◌, ◌≢◌, inl, inr, ℕ, suc, ◌+◌, ◌%◌, ◌<◌, ◌≤◌, List, [], ◌∷◌, ◌++◌, map, length, slice_get, Some, refl, sym, ap, subst, ◌∙◌, arith, append_assoc, append-nil, length-append, length-set, zero-add}
use Rattle.std.specs.Prelude.{slice_set, reverse}
use Rattle.std.specs.List.{range_with_len}
use Rattle.std.proofs.lemmas.List.{map-append, reverse-append, reverse-reverse, length-reverse}
use Rattle.std.proofs.lemmas.Nat.{mod_below}
use Rattle.std.proofs.lemmas.Option.{same_Some}
use Rattle.page_base.specs.Lanes.{LaneSeen}
use Rattle.page_base.specs.ListSeen.{ListSeen}
use Rattle.page_base.specs.declared.layout.Layout.{Layout}
use Rattle.file_store.specs.Parts.{PartSeen}
use Rattle.sparse_store.specs.InsideLaneFiles.{AreLaneFiles}
use Rattle.sparse_store.specs.InsideSplits.{room_of, HaveShareRoom, AreEmptyShares, IsEmptyShare, AreDealt, share_lane, share_lanes, share_parts, AreLaneShares}
use Rattle.sparse_store.specs.InsideStores.{AreFiles}
use Rattle.sparse_store.specs.SparseLanes.{there_in, sparse_origin, sparse_seen}
use Rattle.sparse_store.specs.Splits.{dealt_from, dealt_to, shares_of, split_seen, lanes_seen}
use Rattle.sparse_store.specs.declared.meta.Meta.{Meta}
use Rattle.sparse_store.specs.declared.split.Share.{Share}
use Rattle.sparse_store.proofs.Dealing.{goes, passes, few_dealt, are_lane_files, dealt_map}
use Rattle.sparse_store.proofs.LaneFiles.{set_here, set_other, same_or_not}
use Rattle.sparse_store.proofs.PartLists.{inside_of, grown}

-- the last one comes first when they are turned round
pub turned : {X : Type 0} (xs : List X) (x : X) → reverse (xs ++ x ∷ []) ≡ x ∷ reverse xs
turned xs x = reverse-append xs (x ∷ [])

-- ---- parts dealt out

-- what a share has got so far, with what is left for it
pub record DealtSoFar {P : Type 0} (n region stripe number : ℕ) (all left : List P) (before : List (Share P)) (share : Share P) : Type 0 where
  pub was : Share P
  pub was_at : slice_get before stripe ≡ Some was
  pub dir_is : share.dir ≡ was.dir
  pub first_is : share.first ≡ was.first
  pub parts_are : share.parts.items ++ dealt_from n region stripe number (reverse left) ≡ dealt_to n region stripe all
  pub room_is : room_of (length all) n ≤ share.parts.spare + length share.parts.items

pub record DealsSome {P : Type 0} (region number : ℕ) (all left : List P) (before now : List (Share P)) : Type 0 where
  pub number_is : number + length left ≡ length all
  pub count : length now ≡ length before
  pub each : (s : ℕ) (share : Share P) → slice_get now s ≡ Some share → DealtSoFar (length before) region s number all left before share

module _ {P : Type 0} (region : ℕ) (all : List P) (before : List (Share P)) where
  pub deals_begin : (left : List P) → left ≡ reverse all → HaveShareRoom (room_of (length all) (length before)) before → DealsSome region 0 all left before before
  deals_begin left is room = record {
    number_is = omega (arith, ap length is, length-reverse all);
    count = refl;
    each = λ s share got. record {
      was = share;
      was_at = got;
      dir_is = refl;
      first_is = refl;
      parts_are =
          ap (λ (xs : List P). xs ++ dealt_from (length before) region s 0 (reverse left)) (room s share got).0
          ∙ ap (λ (xs : List P). dealt_from (length before) region s 0 xs) (ap reverse is ∙ reverse-reverse all);
      room_is = omega (arith, (room s share got).1);
    };
  }

  module _ (number : ℕ) (left rest : List P) (x : P) (now : List (Share P)) (last : left ≡ rest ++ x ∷ []) (some : 0 < length before) (i : DealsSome region number all left before now) where
    next : reverse left ≡ x ∷ reverse rest
    next = ap reverse last ∙ turned rest x

    pub next_below : (region + number) % length before < length now
    next_below = omega (arith, mod_below (region + number) (length before) some, i.count)

    pub next_number : number + 1 ≤ length all
    next_number = omega (arith, i.number_is, ap length last, length-append rest (x ∷ []))

    module _ (row : Share P) (here : slice_get now ((region + number) % length before) ≡ Some row) where
      so_far : DealtSoFar (length before) region ((region + number) % length before) number all left before row
      so_far = i.each ((region + number) % length before) row here

      goes_here : row.parts.items ++ (x ∷ dealt_from (length before) region ((region + number) % length before) (number + 1) (reverse rest)) ≡ dealt_to (length before) region ((region + number) % length before) all
      goes_here =
          ap (λ (ys : List P). row.parts.items ++ ys) (sym (goes (length before) region ((region + number) % length before) some number x (reverse rest) refl))
          ∙ ap (λ (ys : List P). row.parts.items ++ dealt_from (length before) region ((region + number) % length before) number ys) (sym next)
          ∙ so_far.parts_are

      pub next_room : 1 ≤ row.parts.spare
      next_room =
          let n = length before in
          let place = (region + number) % n in
          omega (arith, so_far.room_is, few_dealt n region place some (mod_below (region + number) n some) all, ap length goes_here, length-append row.parts.items (x ∷ dealt_from n region place (number + 1) (reverse rest)))

      pub deals_more : (more : Share P) → more.dir ≡ row.dir → more.first ≡ row.first → more.parts.items ≡ row.parts.items ++ x ∷ [] → more.parts.spare + 1 ≡ row.parts.spare
          → DealsSome region (number + 1) all rest before (slice_set now ((region + number) % length before) more)
      deals_more more dir_same first_same items spare = record {
        number_is = omega (arith, i.number_is, ap length last, length-append rest (x ∷ []));
        count = length-set now ((region + number) % length before) more ∙ i.count;
        each = λ s share got. elim (same_or_not s ((region + number) % length before)) [
          | inl same ↦
              let at : slice_get (slice_set now ((region + number) % length before) more) ((region + number) % length before) ≡ Some share = subst (λ (j : ℕ). slice_get (slice_set now ((region + number) % length before) more) j ≡ Some share) same got in
              let it : more ≡ share = same_Some more share (sym (set_here now ((region + number) % length before) row more here) ∙ at) in
              subst (λ (y : Share P). DealtSoFar (length before) region s (number + 1) all rest before y) it
              (subst (λ (j : ℕ). DealtSoFar (length before) region j (number + 1) all rest before more) (sym same) got_more)
          | inr apart ↦ kept s share apart (i.each s share (sym (set_other now ((region + number) % length before) s more apart) ∙ got))
        ];
      }
        where
          got_more : DealtSoFar (length before) region ((region + number) % length before) (number + 1) all rest before more
          got_more = record {
            was = so_far.was;
            was_at = so_far.was_at;
            dir_is = dir_same ∙ so_far.dir_is;
            first_is = first_same ∙ so_far.first_is;
            parts_are =
                ap (λ (ys : List P). ys ++ dealt_from (length before) region ((region + number) % length before) (number + 1) (reverse rest)) items
                ∙ append_assoc row.parts.items (x ∷ []) (dealt_from (length before) region ((region + number) % length before) (number + 1) (reverse rest))
                ∙ goes_here;
            room_is = omega (arith, so_far.room_is, spare, ap length items, length-append row.parts.items (x ∷ []));
          }

          kept : (s : ℕ) (share : Share P) → s ≢ (region + number) % length before → DealtSoFar (length before) region s number all left before share → DealtSoFar (length before) region s (number + 1) all rest before share
          kept s share apart old = record {
            was = old.was;
            was_at = old.was_at;
            dir_is = old.dir_is;
            first_is = old.first_is;
            parts_are =
                ap (λ (ys : List P). share.parts.items ++ ys)
                (sym (passes (length before) region s some number x (reverse rest) (λ e. apart (sym e))) ∙ ap (λ (ys : List P). dealt_from (length before) region s number ys) (sym next))
                ∙ old.parts_are;
            room_is = old.room_is;
          }

  pub deals_end : (number : ℕ) (left : List P) (now : List (Share P)) → left ≡ [] → DealsSome region number all left before now → AreDealt region all before now
  deals_end number left now none i = record {
    count = i.count;
    each = λ s share got.
        let done = i.each s share got in
        record {
          was = done.was;
          was_at = done.was_at;
          dir_is = done.dir_is;
          first_is = done.first_is;
          parts_are =
              sym (append-nil share.parts.items)
              ∙ ap (λ (ys : List P). share.parts.items ++ dealt_from (length before) region s number (reverse ys)) (sym none)
              ∙ done.parts_are;
        };
  }

-- ---- shares that become lanes

pub record MakesSome {P A : Type 0} (seen : P → PartSeen) (view : A → LaneSeen) (own : A → List P) (m : Meta) (layout : Layout) (region : ℕ) (all left : List (Share P)) (lanes : ListSeen A) : Type 0 where
  pub room : length left ≤ lanes.spare
  pub count : length lanes.items + length left ≡ length all
  pub views : map view lanes.items ++ share_lanes seen m layout region (length lanes.items) (reverse left) ≡ share_lanes seen m layout region 0 all
  pub parts : map own lanes.items ++ share_parts (reverse left) ≡ share_parts all
  pub files : (s : ℕ) (share : Share P) → slice_get (reverse left) s ≡ Some share → AreLaneFiles share.dir.items m layout region (length lanes.items + s) (map seen share.parts.items)

module _ {P A : Type 0} (seen : P → PartSeen) (view : A → LaneSeen) (own : A → List P) (m : Meta) (layout : Layout) (region : ℕ) (all : List (Share P)) where
  pub makes_begin : (left : List (Share P)) (lanes : ListSeen A) → left ≡ reverse all → lanes.items ≡ [] → length all ≤ lanes.spare → AreLaneShares seen m layout region all → MakesSome seen view own m layout region all left lanes
  makes_begin left lanes is empty room files =
      let back : reverse left ≡ all = ap reverse is ∙ reverse-reverse all in
      let none : length lanes.items ≡ 0 = ap length empty in
      record {
        room = omega (arith, room, ap length is, length-reverse all);
        count = omega (arith, none, ap length is, length-reverse all);
        views =
            ap (λ (ls : List A). map view ls ++ share_lanes seen m layout region (length ls) (reverse left)) empty
            ∙ ap (share_lanes seen m layout region 0) back;
        parts =
            ap (λ (ls : List A). map own ls ++ share_parts (reverse left)) empty
            ∙ ap share_parts back;
        files = λ s share got.
            subst (λ (j : ℕ). AreLaneFiles share.dir.items m layout region (j + s) (map seen share.parts.items)) (sym none)
            (subst (λ (j : ℕ). AreLaneFiles share.dir.items m layout region j (map seen share.parts.items)) (sym (zero-add s)) (files s share (subst (λ (xs : List (Share P)). slice_get xs s ≡ Some share) back got)));
      }

  module _ (left rest : List (Share P)) (x : Share P) (lanes : ListSeen A) (last : left ≡ rest ++ x ∷ []) (i : MakesSome seen view own m layout region all left lanes) where
    next_share : reverse left ≡ x ∷ reverse rest
    next_share = ap reverse last ∙ turned rest x

    pub next_files : AreLaneFiles x.dir.items m layout region (length lanes.items) (map seen x.parts.items)
    next_files =
        subst (λ (j : ℕ). AreLaneFiles x.dir.items m layout region j (map seen x.parts.items)) (let e : length lanes.items + 0 ≡ length lanes.items = omega arith in e)
        (i.files 0 x (ap (λ (xs : List (Share P)). slice_get xs 0) next_share))

    pub makes_more : (a : A) (more : ListSeen A) → view a ≡ share_lane seen m layout region (length lanes.items) x → own a ≡ x.parts.items → more.items ≡ lanes.items ++ a ∷ [] → more.spare + 1 ≡ lanes.spare → MakesSome seen view own m layout region all rest more
    makes_more a more viewed owned items spare =
        let len : length more.items ≡ length lanes.items + 1 = ap length items ∙ length-append lanes.items (a ∷ []) in
        let left_len : length left ≡ length rest + 1 = ap length last ∙ length-append rest (x ∷ []) in
        record {
          room = omega (arith, i.room, spare, left_len);
          count = omega (arith, i.count, len, left_len);
          views =
              ap (λ (ls : List A). map view ls ++ share_lanes seen m layout region (length more.items) (reverse rest)) items
              ∙ ap (λ (ls : List LaneSeen). ls ++ share_lanes seen m layout region (length more.items) (reverse rest)) (map-append view lanes.items (a ∷ []))
              ∙ append_assoc (map view lanes.items) (view a ∷ []) (share_lanes seen m layout region (length more.items) (reverse rest))
              ∙ ap (λ (l : LaneSeen). map view lanes.items ++ (l ∷ share_lanes seen m layout region (length more.items) (reverse rest))) viewed
              ∙ ap (λ (n : ℕ). map view lanes.items ++ (share_lane seen m layout region (length lanes.items) x ∷ share_lanes seen m layout region n (reverse rest))) len
              ∙ ap (λ (xs : List (Share P)). map view lanes.items ++ share_lanes seen m layout region (length lanes.items) xs) (sym next_share)
              ∙ i.views;
          parts =
              ap (λ (ls : List A). map own ls ++ share_parts (reverse rest)) items
              ∙ ap (λ (ls : List (List P)). ls ++ share_parts (reverse rest)) (map-append own lanes.items (a ∷ []))
              ∙ append_assoc (map own lanes.items) (own a ∷ []) (share_parts (reverse rest))
              ∙ ap (λ (ps : List P). map own lanes.items ++ (ps ∷ share_parts (reverse rest))) owned
              ∙ ap (λ (xs : List (Share P)). map own lanes.items ++ share_parts xs) (sym next_share)
              ∙ i.parts;
          files = λ s share got.
              subst (λ (j : ℕ). AreLaneFiles share.dir.items m layout region j (map seen share.parts.items)) (let e : length lanes.items + suc s ≡ length more.items + s = omega (arith, len) in e)
              (i.files (suc s) share (ap (λ (xs : List (Share P)). slice_get xs (suc s)) next_share ∙ got));
        }

  pub makes_end : (left : List (Share P)) (lanes : ListSeen A) → left ≡ [] → MakesSome seen view own m layout region all left lanes → (map view lanes.items ≡ share_lanes seen m layout region 0 all) × (map own lanes.items ≡ share_parts all)
  makes_end left lanes none i = (
    sym (append-nil (map view lanes.items)) ∙ ap (λ (xs : List (Share P)). map view lanes.items ++ share_lanes seen m layout region (length lanes.items) (reverse xs)) (sym none) ∙ i.views,
    sym (append-nil (map own lanes.items)) ∙ ap (λ (xs : List (Share P)). map own lanes.items ++ share_parts (reverse xs)) (sym none) ∙ i.parts,
  )

-- ---- the whole split

module _ {P : Type 0} (seen : P → PartSeen) (dir : List ℕ) (m : Meta) (layout : Layout) (region room : ℕ) (all : ListSeen P) (empty shares : List (Share P)) (begun : AreEmptyShares dir all room layout.stripes empty) (dealt : AreDealt region all.items empty shares) where
  -- a share of the store, with all its parts
  pub record IsWhole (s : ℕ) (share : Share P) : Type 0 where
    pub below : s < layout.stripes
    pub dir_is : share.dir.items ≡ dir
    pub first_is : share.first.value ≡ all
    pub parts_are : share.parts.items ≡ dealt_to layout.stripes region s all.items

  whole_at : (s : ℕ) (share : Share P) → slice_get shares s ≡ Some share → IsWhole s share
  whole_at s share got =
      let d = dealt.each s share got in
      let e = begun.each s d.was d.was_at in
      record {
        below = omega (arith, inside_of shares s share got, dealt.count, begun.count);
        dir_is = ap (λ (b : ListSeen ℕ). b.items) d.dir_is ∙ e.dir_is;
        first_is = ap (λ f. f.value) d.first_is ∙ e.first_is;
        parts_are = d.parts_are ∙ ap (λ (n : ℕ). dealt_to n region s all.items) begun.count;
      }

  pub whole_count : length shares ≡ layout.stripes
  whole_count = dealt.count ∙ begun.count

  pub are_lane_shares : AreFiles seen dir m all.items → AreLaneShares seen m layout region shares
  are_lane_shares files s share got =
      let w = whole_at s share got in
      subst (λ (ps : List P). AreLaneFiles share.dir.items m layout region s (map seen ps)) (sym w.parts_are)
      (subst (λ (d : List ℕ). AreLaneFiles d m layout region s (map seen (dealt_to layout.stripes region s all.items))) (sym w.dir_is)
      (are_lane_files seen dir m layout region s w.below all.items files))

  lane_is : (s : ℕ) (share : Share P) → IsWhole s share → share_lane seen m layout region s share ≡ split_seen dir m layout region (map seen all.items) s
  lane_is s share w =
      ap (λ (d : List ℕ). sparse_seen (sparse_origin d m layout region s (there_in (map seen share.first.value.items))) (map seen share.parts.items)) w.dir_is
      ∙ ap (λ (f : ListSeen P). sparse_seen (sparse_origin dir m layout region s (there_in (map seen f.items))) (map seen share.parts.items)) w.first_is
      ∙ ap (λ (ps : List P). sparse_seen (sparse_origin dir m layout region s (there_in (map seen all.items))) (map seen ps)) w.parts_are
      ∙ ap (λ (ps : List PartSeen). sparse_seen (sparse_origin dir m layout region s (there_in (map seen all.items))) ps) (sym (dealt_map seen layout.stripes region s 0 all.items))

  lanes_from : (k : ℕ) (xs : List (Share P)) → ((s : ℕ) (share : Share P) → slice_get xs s ≡ Some share → IsWhole (k + s) share)
      → share_lanes seen m layout region k xs ≡ map (split_seen dir m layout region (map seen all.items)) (range_with_len k (length xs))
  lanes_from k [] whole = refl
  lanes_from k (x ∷ xs) whole =
      ap (λ (l : LaneSeen). l ∷ share_lanes seen m layout region (k + 1) xs) (lane_is k x (subst (λ (j : ℕ). IsWhole j x) (let e : k + 0 ≡ k = omega arith in e) (whole 0 x refl)))
      ∙ ap (λ (ls : List LaneSeen). split_seen dir m layout region (map seen all.items) k ∷ ls) (lanes_from (k + 1) xs (λ s share got. subst (λ (j : ℕ). IsWhole j share) (let e : k + suc s ≡ k + 1 + s = omega arith in e) (whole (suc s) share got)))

  parts_from : (k : ℕ) (xs : List (Share P)) → ((s : ℕ) (share : Share P) → slice_get xs s ≡ Some share → IsWhole (k + s) share)
      → share_parts xs ≡ map (λ s. dealt_to layout.stripes region s all.items) (range_with_len k (length xs))
  parts_from k [] whole = refl
  parts_from k (x ∷ xs) whole =
      ap (λ (ps : List P). ps ∷ share_parts xs) ((whole 0 x refl).parts_are ∙ ap (λ (j : ℕ). dealt_to layout.stripes region j all.items) (let e : k + 0 ≡ k = omega arith in e))
      ∙ ap (λ (ls : List (List P)). dealt_to layout.stripes region k all.items ∷ ls) (parts_from (k + 1) xs (λ s share got. subst (λ (j : ℕ). IsWhole j share) (let e : k + suc s ≡ k + 1 + s = omega arith in e) (whole (suc s) share got)))

  pub all_lanes : share_lanes seen m layout region 0 shares ≡ lanes_seen dir m layout region (map seen all.items)
  all_lanes = lanes_from 0 shares (λ s share got. subst (λ (j : ℕ). IsWhole j share) (sym (zero-add s)) (whole_at s share got)) ∙ ap (λ (n : ℕ). map (split_seen dir m layout region (map seen all.items)) (range_with_len 0 n)) whole_count

  pub all_parts : share_parts shares ≡ shares_of layout.stripes region all.items
  all_parts = parts_from 0 shares (λ s share got. subst (λ (j : ℕ). IsWhole j share) (sym (zero-add s)) (whole_at s share got)) ∙ ap (λ (n : ℕ). map (λ s. dealt_to layout.stripes region s all.items) (range_with_len 0 n)) whole_count

-- one more empty share
pub empty_more : {P : Type 0} (dir : List ℕ) (all : ListSeen P) (room number : ℕ) (shares : List (Share P)) (share : Share P) → AreEmptyShares dir all room number shares → IsEmptyShare dir all room share → AreEmptyShares dir all room (number + 1) (shares ++ share ∷ [])
empty_more dir all room number shares share i one = record {
  count = length-append shares (share ∷ []) ∙ ap (λ (n : ℕ). n + 1) i.count;
  each = λ s x got. elim (grown shares share x s got) [
    | inl old ↦ i.each s x old
    | inr last ↦ subst (λ y. IsEmptyShare dir all room y) (sym last.1) one
  ];
}

-- the same, over the lists that the calls of a split hand on
module _ {P : Type 0} (seen : P → PartSeen) (dir : List ℕ) (m : Meta) (layout : Layout) (region room stripes : ℕ) (all : ListSeen P) (parts : List P) (made empty dealt shares : List (Share P))
    (stripes_are : stripes ≡ layout.stripes) (begun : AreEmptyShares dir all room stripes made) (empty_is : empty ≡ made) (parts_is : parts ≡ all.items) (deals : AreDealt region parts empty dealt) (shares_is : shares ≡ dealt) where
  begun_here : AreEmptyShares dir all room layout.stripes empty
  begun_here = subst (λ (xs : List (Share P)). AreEmptyShares dir all room layout.stripes xs) (sym empty_is) (subst (λ (n : ℕ). AreEmptyShares dir all room n made) stripes_are begun)

  dealt_here : AreDealt region all.items empty shares
  dealt_here = subst (λ (xs : List (Share P)). AreDealt region all.items empty xs) (sym shares_is) (subst (λ (ps : List P). AreDealt region ps empty dealt) parts_is deals)

  pub split_files : AreFiles seen dir m all.items → AreLaneShares seen m layout region shares
  split_files files = are_lane_shares seen dir m layout region room all empty shares begun_here dealt_here files

  pub split_lanes : share_lanes seen m layout region 0 shares ≡ lanes_seen dir m layout region (map seen all.items)
  split_lanes = all_lanes seen dir m layout region room all empty shares begun_here dealt_here

  pub split_parts : share_parts shares ≡ shares_of layout.stripes region all.items
  split_parts = all_parts seen dir m layout region room all empty shares begun_here dealt_here
