-- Stripes that end, the last first.
use Rattle.std.proofs.Common.{◌≡◌, ℕ, zero, suc, List, [], ◌∷◌, ◌++◌, length, map, reverse, Some, append_assoc, append-nil, length-append, arith, refl, sym, subst, ap, ◌∙◌}
use Rattle.std.specs.List.{slice_get}
use Rattle.std.specs.Option.{option_map}
use Rattle.std.proofs.lemmas.List.{length-map, reverse-append, reverse-reverse}
use Rattle.std.proofs.lemmas.Option.{slice_get-map, slice_get_within}
use Rattle.histories.specs.Histories.{History}
use Rattle.page_base.specs.Lanes.{LaneSeen}
use Rattle.page_base.specs.ListSeen.{ListSeen}
use Rattle.page_model.specs.declared.entry.Entry.{Entry}
use Rattle.page_model.specs.declared.seen.Counts.{Counts}
use Rattle.page_model.specs.Tallies.{counts_of}
use Rattle.turn_lock.specs.declared.closed.Closed.{Closed}
use Rattle.turn_lock.specs.Seen.{LockSeen, PassSeen}
use Rattle.locked_stripe.specs.declared.stripe_box.StripeBox.{StripeBox}
use Rattle.umap_pager.specs.Ended.{both_counts, counts_over, StripeEnded, PagerEnded, rows_seen}
use Rattle.umap_pager.specs.Passes.{PassesSeen}
use Rattle.umap_pager.specs.Shared.{SharedPager}
use Rattle.umap_pager.proofs.Locks.{has_item}
use Rattle.umap_pager.specs.InsideEnded.{EndedStripe, EndEach, EndsBefore}

pub none_left : {A : Type 0} (xs : List A) → length xs ≡ 0 → xs ≡ []
none_left [] e = refl
none_left (x ∷ xs) e = absurd (omega (arith, e))

pub at_seam : {A : Type 0} (xs ys : List A) (x : A) → slice_get (xs ++ x ∷ ys) (length xs) ≡ Some x
at_seam [] ys x = refl
at_seam (z ∷ xs) ys x = at_seam xs ys x

-- one stripe more is counted
pub one_more : (before after : List (Closed Entry)) (closed : Closed Entry) (own counts all : Counts) → after ≡ before ++ closed ∷ [] → counts ≡ counts_over (reverse before) → own ≡ counts_of closed.history → all ≡ both_counts own counts → all ≡ counts_over (reverse after)
one_more before after closed own counts all pushed so_far its sum =
    sum ∙ ap (λ c. both_counts c counts) its ∙ ap (both_counts (counts_of closed.history)) so_far ∙ sym (ap counts_over (ap reverse pushed ∙ reverse-append before (closed ∷ [])))

map_twice : {A B C : Type 0} (f : A → B) (g : B → C) (xs : List A) → map g (map f xs) ≡ map (λ x. g (f x)) xs
map_twice f g [] = refl
map_twice f g (x ∷ xs) = ap (λ ys. g (f x) ∷ ys) (map_twice f g xs)

module _ {S J M : Type 0} (has_noted : J → History Entry → Type 0) (made_with : J → M) (seen : S → LaneSeen) where
  -- the stripes behind those that are left have ended
  pub record Ending (all_locks : List (LockSeen (StripeBox S J))) (all_passes : List (PassSeen (StripeBox S J) Entry)) (first_lanes : List (ListSeen S)) (first_journals : List J) (first_stripes : List (Closed Entry))
      (locks : List (LockSeen (StripeBox S J))) (passes : List (PassSeen (StripeBox S J) Entry)) (lanes : List (ListSeen S)) (journals : List J) (stripes : List (Closed Entry)) : Type 0 where
    pub ended_locks : List (LockSeen (StripeBox S J))
    pub ended_passes : List (PassSeen (StripeBox S J) Entry)
    pub own : List (EndedStripe S J)
    pub locks_are : all_locks ≡ locks ++ ended_locks
    pub passes_are : all_passes ≡ passes ++ ended_passes
    pub as_many : length passes ≡ length locks
    pub ends : EndEach has_noted made_with seen ended_locks ended_passes own
    pub lanes_are : lanes ≡ first_lanes ++ reverse (map (λ (x : EndedStripe S J). x.lanes) own)
    pub journals_are : journals ≡ first_journals ++ reverse (map (λ (x : EndedStripe S J). x.journal) own)
    pub stripes_are : stripes ≡ first_stripes ++ reverse (map (λ (x : EndedStripe S J). x.closed) own)

  pub ending_none : (locks : List (LockSeen (StripeBox S J))) (passes : List (PassSeen (StripeBox S J) Entry)) (lanes : List (ListSeen S)) (journals : List J) (stripes : List (Closed Entry)) → length passes ≡ length locks → Ending locks passes lanes journals stripes locks passes lanes journals stripes
  ending_none locks passes lanes journals stripes many = record {
    ended_locks = [];
    ended_passes = [];
    own = [];
    locks_are = sym (append-nil locks);
    passes_are = sym (append-nil passes);
    as_many = many;
    ends = record { count = refl; each = λ s lock pass row a b e. absurd cc };
    lanes_are = sym (append-nil lanes);
    journals_are = sym (append-nil journals);
    stripes_are = sym (append-nil stripes);
  }

  module _ (all_locks locks left_locks : List (LockSeen (StripeBox S J))) (all_passes passes left_passes : List (PassSeen (StripeBox S J) Entry)) (first_lanes lanes : List (ListSeen S)) (first_journals journals : List J) (first_stripes stripes : List (Closed Entry))
      (lock : LockSeen (StripeBox S J)) (pass : PassSeen (StripeBox S J) Entry) (e : Ending all_locks all_passes first_lanes first_journals first_stripes locks passes lanes journals stripes)
      (pop_lock : locks ≡ left_locks ++ lock ∷ []) (pop_pass : passes ≡ left_passes ++ pass ∷ []) where
    even : length left_passes ≡ length left_locks
    even =
        let a = e.as_many in
        let b = ap length pop_lock ∙ length-append left_locks (lock ∷ []) in
        let d = ap length pop_pass ∙ length-append left_passes (pass ∷ []) in
        omega (arith, a, b, d)

    -- the two that were popped are a stripe of all
    pub lock_at : slice_get all_locks (length left_locks) ≡ Some lock
    lock_at = ap (λ xs. slice_get xs (length left_locks)) (e.locks_are ∙ ap (λ xs. xs ++ e.ended_locks) pop_lock ∙ append_assoc left_locks (lock ∷ []) e.ended_locks) ∙ at_seam left_locks e.ended_locks lock

    pub pass_at : slice_get all_passes (length left_locks) ≡ Some pass
    pass_at = ap (λ xs. slice_get xs (length left_locks)) (e.passes_are ∙ ap (λ xs. xs ++ e.ended_passes) pop_pass ∙ append_assoc left_passes (pass ∷ []) e.ended_passes)
        ∙ ap (slice_get (left_passes ++ pass ∷ e.ended_passes)) (sym even) ∙ at_seam left_passes e.ended_passes pass

    pub ending_more : (row : EndedStripe S J) → StripeEnded has_noted made_with lock pass (map seen row.lanes.items) row.journal row.closed → Ending all_locks all_passes first_lanes first_journals first_stripes left_locks left_passes (lanes ++ row.lanes ∷ []) (journals ++ row.journal ∷ []) (stripes ++ row.closed ∷ [])
    ending_more row ended = record {
      ended_locks = lock ∷ e.ended_locks;
      ended_passes = pass ∷ e.ended_passes;
      own = row ∷ e.own;
      locks_are = e.locks_are ∙ ap (λ xs. xs ++ e.ended_locks) pop_lock ∙ append_assoc left_locks (lock ∷ []) e.ended_locks;
      passes_are = e.passes_are ∙ ap (λ xs. xs ++ e.ended_passes) pop_pass ∙ append_assoc left_passes (pass ∷ []) e.ended_passes;
      as_many = even;
      ends = record {
        count = ap suc e.ends.count;
        each = each;
      };
      lanes_are = pushed (λ (x : EndedStripe S J). x.lanes) first_lanes lanes e.lanes_are;
      journals_are = pushed (λ (x : EndedStripe S J). x.journal) first_journals journals e.journals_are;
      stripes_are = pushed (λ (x : EndedStripe S J). x.closed) first_stripes stripes e.stripes_are;
    }
      where
        each : (s : ℕ) (l : LockSeen (StripeBox S J)) (p : PassSeen (StripeBox S J) Entry) (x : EndedStripe S J) → slice_get (lock ∷ e.ended_locks) s ≡ Some l → slice_get (pass ∷ e.ended_passes) s ≡ Some p → slice_get (row ∷ e.own) s ≡ Some x → StripeEnded has_noted made_with l p (map seen x.lanes.items) x.journal x.closed
        each zero l p x a b d =
            let same_lock : lock ≡ l = cc in
            let same_pass : pass ≡ p = cc in
            let same_row : row ≡ x = cc in
            subst (λ (z : LockSeen (StripeBox S J)). StripeEnded has_noted made_with z p (map seen x.lanes.items) x.journal x.closed) same_lock
            (subst (λ (z : PassSeen (StripeBox S J) Entry). StripeEnded has_noted made_with lock z (map seen x.lanes.items) x.journal x.closed) same_pass
            (subst (λ (z : EndedStripe S J). StripeEnded has_noted made_with lock pass (map seen z.lanes.items) z.journal z.closed) same_row ended))
        each (suc s) l p x a b d = e.ends.each s l p x a b d

        pushed : {A : Type 0} (f : EndedStripe S J → A) (first now : List A) → now ≡ first ++ reverse (map f e.own) → now ++ f row ∷ [] ≡ first ++ reverse (map f (row ∷ e.own))
        pushed f first now is = ap (λ xs. xs ++ f row ∷ []) is ∙ append_assoc first (reverse (map f e.own)) (f row ∷ []) ∙ ap (λ xs. first ++ xs) (sym (reverse-append (f row ∷ []) (map f e.own)))

  pub ends_before : (all_locks : List (LockSeen (StripeBox S J))) (all_passes : List (PassSeen (StripeBox S J) Entry)) (first_lanes : List (ListSeen S)) (first_journals : List J) (first_stripes : List (Closed Entry))
      (locks : List (LockSeen (StripeBox S J))) (passes : List (PassSeen (StripeBox S J) Entry)) (lanes : List (ListSeen S)) (journals : List J) (stripes : List (Closed Entry)) → Ending all_locks all_passes first_lanes first_journals first_stripes locks passes lanes journals stripes → locks ≡ []
      → EndsBefore has_noted made_with seen all_locks all_passes first_lanes first_journals first_stripes (reverse lanes) (reverse journals) (reverse stripes)
  ends_before all_locks all_passes first_lanes first_journals first_stripes locks passes lanes journals stripes e none =
      let all : all_locks ≡ e.ended_locks = e.locks_are ∙ ap (λ xs. xs ++ e.ended_locks) none in
      let no_passes : passes ≡ [] = none_left passes (e.as_many ∙ ap length none) in
      let all_too : all_passes ≡ e.ended_passes = e.passes_are ∙ ap (λ xs. xs ++ e.ended_passes) no_passes in
      record {
        own = e.own;
        ends = subst (λ (ls : List (LockSeen (StripeBox S J))). EndEach has_noted made_with seen ls all_passes e.own) (sym all) (subst (λ (ps : List (PassSeen (StripeBox S J) Entry)). EndEach has_noted made_with seen e.ended_locks ps e.own) (sym all_too) e.ends);
        lanes_are = turned (λ (x : EndedStripe S J). x.lanes) first_lanes lanes e.lanes_are;
        journals_are = turned (λ (x : EndedStripe S J). x.journal) first_journals journals e.journals_are;
        stripes_are = turned (λ (x : EndedStripe S J). x.closed) first_stripes stripes e.stripes_are;
      }
    where
      turned : {A : Type 0} (f : EndedStripe S J → A) (first now : List A) → now ≡ first ++ reverse (map f e.own) → reverse now ≡ map f e.own ++ reverse first
      turned f first now is = ap reverse is ∙ reverse-append first (reverse (map f e.own)) ∙ ap (λ xs. xs ++ reverse first) (reverse-reverse (map f e.own))

  module _ (own : List (EndedStripe S J)) where
    -- what a list has of a stripe that ended
    at_own : {A : Type 0} (f : EndedStripe S J → A) (all : List A) (s : ℕ) (x : EndedStripe S J) (y : A) → all ≡ map f own → slice_get own s ≡ Some x → slice_get all s ≡ Some y → f x ≡ y
    at_own f all s x y are here e = some_same (f x) y (sym (ap (λ xs. slice_get xs s) are ∙ slice_get-map f own s ∙ ap (option_map f) here) ∙ e)
      where
        some_same : {A : Type 0} (a b : A) → Some a ≡ Some b → a ≡ b
        some_same a b q = cc

    long : {A : Type 0} (f : EndedStripe S J → A) (all : List A) → all ≡ map f own → length all ≡ length own
    long f all are = ap length are ∙ length-map own f

  pub pager_ended : (pager : SharedPager S J) (p : PassesSeen (StripeBox S J)) (locks : List (LockSeen (StripeBox S J))) (passes : List (PassSeen (StripeBox S J) Entry)) (home : List (ListSeen S)) (noted : List J) (ends : List (Closed Entry)) (lanes : List (ListSeen S)) (journals : List J) (stripes : List (Closed Entry))
      → locks ≡ pager.locks → passes ≡ p.passes → home ≡ [] → noted ≡ [] → ends ≡ [] → EndsBefore has_noted made_with seen locks passes home noted ends lanes journals stripes → PagerEnded has_noted made_with pager p (rows_seen seen lanes) journals stripes
  pager_ended pager p locks passes home noted ends lanes journals stripes a b no_home no_noted no_ends e =
      let lanes_are : lanes ≡ map (λ (x : EndedStripe S J). x.lanes) e.own = e.lanes_are ∙ ap (λ (xs : List (ListSeen S)). map (λ (x : EndedStripe S J). x.lanes) e.own ++ reverse xs) no_home ∙ append-nil (map (λ (x : EndedStripe S J). x.lanes) e.own) in
      let journals_are : journals ≡ map (λ (x : EndedStripe S J). x.journal) e.own = e.journals_are ∙ ap (λ (xs : List J). map (λ (x : EndedStripe S J). x.journal) e.own ++ reverse xs) no_noted ∙ append-nil (map (λ (x : EndedStripe S J). x.journal) e.own) in
      let stripes_are : stripes ≡ map (λ (x : EndedStripe S J). x.closed) e.own = e.stripes_are ∙ ap (λ (xs : List (Closed Entry)). map (λ (x : EndedStripe S J). x.closed) e.own ++ reverse xs) no_ends ∙ append-nil (map (λ (x : EndedStripe S J). x.closed) e.own) in
      let many : length e.own ≡ length pager.locks = e.ends.count ∙ ap length a in
      record {
        lanes = length-map lanes (λ (row : ListSeen S). map seen row.items) ∙ long e.own (λ (x : EndedStripe S J). x.lanes) lanes lanes_are ∙ many;
        journals = long e.own (λ (x : EndedStripe S J). x.journal) journals journals_are ∙ many;
        stripes = long e.own (λ (x : EndedStripe S J). x.closed) stripes stripes_are ∙ many;
        each = λ s lock pass row journal closed at_lock at_pass at_row at_journal at_closed.
            let below = slice_get_within pager.locks s lock at_lock in
            let has = has_item e.own s (omega (arith, below, many)) in
            let x : EndedStripe S J = has.0 in
            let rows_are : rows_seen seen lanes ≡ map (λ (z : EndedStripe S J). map seen z.lanes.items) e.own =
            ap (rows_seen seen) lanes_are ∙ map_twice (λ (z : EndedStripe S J). z.lanes) (λ (r : ListSeen S). map seen r.items) e.own in
            let its_row : map seen x.lanes.items ≡ row = at_own e.own (λ (z : EndedStripe S J). map seen z.lanes.items) (rows_seen seen lanes) s x row rows_are has.1 at_row in
            let its_journal : x.journal ≡ journal = at_own e.own (λ (z : EndedStripe S J). z.journal) journals s x journal journals_are has.1 at_journal in
            let its_closed : x.closed ≡ closed = at_own e.own (λ (z : EndedStripe S J). z.closed) stripes s x closed stripes_are has.1 at_closed in
            let ended = e.ends.each s lock pass x (ap (λ ls. slice_get ls s) a ∙ at_lock) (ap (λ ps. slice_get ps s) b ∙ at_pass) has.1 in
            subst (λ (z : List LaneSeen). StripeEnded has_noted made_with lock pass z journal closed) its_row
            (subst (λ (z : J). StripeEnded has_noted made_with lock pass (map seen x.lanes.items) z closed) its_journal
            (subst (λ (z : Closed Entry). StripeEnded has_noted made_with lock pass (map seen x.lanes.items) x.journal z) its_closed ended));
      }
