-- What a run has come to, by the histories of its stripes: which regions close in which, and which are unmapped in all.
use Rattle.std.proofs.Common.{◌≡◌, ◌⊎◌, inl, inr, ℕ, zero, suc, ◌+◌, ◌/◌, ◌<◌, ◌≤◌, ◌==◌, ◌||◌, max, nat_lt, Bool, true, false, cond, List, [], ◌∷◌, ◌++◌, refl, sym, ap, subst, ◌∙◌, arith, append_assoc}
use Rattle.std.specs.List.{list_all, range_with_len}
use Rattle.std.proofs.lemmas.Bool.{cases_Bool, cases_eq, cases_lt, and_parts, or_left, or_right, eqb-true, eq-eqb, ne_eqb, lt-ltb, le-ltb, cond-true, cond-false}
use Rattle.std.proofs.lemmas.Nat.{mod_below}
use Rattle.histories.specs.Histories.{History, by}
use Rattle.page_base.specs.declared.keys.Key.{Key}
use Rattle.page_model.specs.declared.entry.Entry.{Entry}
use Rattle.page_model.specs.declared.entry.Entry.TheVariants.{WriteFailed, ReadFailed, Closing, Unmapped}
use Rattle.page_model.specs.Closings.{is_closing, is_unmapped}
use Rattle.page_model.specs.Entries.{key_of, is_fault, lies_in, of_stripe}
use Rattle.page_model.specs.Laws.{UnmappedIsEmptied}
use Rattle.page_model.specs.Legal.{IsLegal}
use Rattle.page_model.specs.Setups.{Setup}
use Rattle.workload_text.specs.Line.{Line, store_line, unmap_line}
use Rattle.flat_lines.specs.Spreads.{Spread, stripe_in, piece_key}
use Rattle.script_run.specs.FitsSerial.{RunState, all_open, is_closed_at, AreOpen, closed_below, left}
use Rattle.script_run.specs.LineEntries.{IsOpenAll, is_gone_by, is_unmap_of, may_make, begins_by, ClearsBy, UnmapsBy, FailsToUnmapBy, Makes}
use Rattle.script_run.specs.Replies.{Reply, ok, unmapped, fault}
use Rattle.script_run.proofs.InMemory.{from_range}
use Rattle.script_run.proofs.DidLines.{IsFailure, failure_is}

-- ---- entries that leave a region as it is

-- it closes and is unmapped as before
pub record Same (r : ℕ) (old new : History Entry) : Type 0 where
  pub closing_is : is_closing new r ≡ is_closing old r
  pub unmapped_is : is_unmapped new r ≡ is_unmapped old r

same_more : (r : ℕ) (g h k : History Entry) → Same r g h → Same r h k → Same r g k
same_more r g h k a b = record { closing_is = b.closing_is ∙ a.closing_is; unmapped_is = b.unmapped_is ∙ a.unmapped_is }

other_region : (l : Line) (q r : ℕ) → is_unmap_of l q ≡ true → is_unmap_of l r ≡ false → (q == r) ≡ false
other_region (unmap_line n) q r may apart = ap (λ m. m == r) (sym (eqb-true n q may)) ∙ apart
other_region l q r may apart = absurd (cc)

one_same : (z : ℕ) (l : Line) (r : ℕ) → is_unmap_of l r ≡ false → (e : Entry) (h : History Entry) → may_make z l e ≡ true → Same r h ((0, e) ∷ h)
one_same z l r apart (Closing q) h may = record { closing_is = ap (λ b. b || is_closing h r) (other_region l q r may apart); unmapped_is = refl }
one_same z l r apart (Unmapped q) h may = record { closing_is = refl; unmapped_is = ap (λ b. b || is_unmapped h r) (other_region l q r may apart) }
one_same z l r apart e h may = record { closing_is = refl; unmapped_is = refl }

all_same : (z : ℕ) (l : Line) (r : ℕ) → is_unmap_of l r ≡ false → (es behind : List Entry) → list_all (may_make z l) es ≡ true → Same r (by 0 behind) (by 0 (es ++ behind))
all_same z l r apart [] behind all = record { closing_is = refl; unmapped_is = refl }
all_same z l r apart (e ∷ es) behind all =
    let both = and_parts (may_make z l e) (list_all (may_make z l) es) all in
    same_more r (by 0 behind) (by 0 (es ++ behind)) (by 0 (e ∷ (es ++ behind))) (all_same z l r apart es behind both.1) (one_same z l r apart e (by 0 (es ++ behind)) both.0)

failure_same : (r : ℕ) (stripe : Key → ℕ) (s : ℕ) (failure rest : List Entry) → IsFailure failure → Same r (by 0 rest) (by 0 (of_stripe stripe s failure ++ rest))
failure_same r stripe s failure rest (inl none) = subst (λ es. Same r (by 0 rest) (by 0 (of_stripe stripe s es ++ rest))) (sym none) (record { closing_is = refl; unmapped_is = refl })
failure_same r stripe s failure rest (inr x) = subst (λ es. Same r (by 0 rest) (by 0 (of_stripe stripe s es ++ rest))) (sym x.1) (one x.0 (lies_in stripe s (key_of x.0)) x.2)
  where
    one : (e : Entry) (b : Bool) → is_fault e ≡ true → Same r (by 0 rest) (by 0 (cond b (e ∷ []) [] ++ rest))
    one (ReadFailed k n) true f = record { closing_is = refl; unmapped_is = refl }
    one (WriteFailed k n) true f = record { closing_is = refl; unmapped_is = refl }
    one e false f = record { closing_is = refl; unmapped_is = refl }
    one e b f = absurd cc

-- a line leaves each region as it is but the one that it unmaps
pub line_same : (t : Spread) (l : Line) (a : Reply) (behind made : ℕ → List Entry) → Makes t l a behind made → (r : ℕ) → is_unmap_of l r ≡ false → (s : ℕ) → Same r (by 0 (behind s)) (by 0 (made s ++ behind s))
line_same t l a behind made m r apart s =
    let split : made s ++ behind s ≡ of_stripe (stripe_in t) s m.failure ++ (m.in_order.served s ++ behind s) = ap (λ es. es ++ behind s) (m.in_order.made_are s) ∙ append_assoc (of_stripe (stripe_in t) s m.failure) (m.in_order.served s) (behind s) in
    subst (λ es. Same r (by 0 (behind s)) (by 0 es)) (sym split)
    (same_more r (by 0 (behind s)) (by 0 (m.in_order.served s ++ behind s)) (by 0 (of_stripe (stripe_in t) s m.failure ++ (m.in_order.served s ++ behind s)))
    (all_same t.page_size l r apart (m.in_order.served s) (behind s) (m.in_order.serve s))
    (failure_same r (stripe_in t) s m.failure (m.in_order.served s ++ behind s) (failure_is t l a m.failure m.failure_is)))

-- ---- a region that is unmapped

pub closing_stays : (r : ℕ) (es behind : List Entry) → is_closing (by 0 behind) r ≡ true → is_closing (by 0 (es ++ behind)) r ≡ true
closing_stays r [] behind c = c
closing_stays r (Closing q ∷ es) behind c = or_right (q == r) (is_closing (by 0 (es ++ behind)) r) (closing_stays r es behind c)
closing_stays r (e ∷ es) behind c = closing_stays r es behind c

pub unmapped_stays : (r : ℕ) (es behind : List Entry) → is_unmapped (by 0 behind) r ≡ true → is_unmapped (by 0 (es ++ behind)) r ≡ true
unmapped_stays r [] behind c = c
unmapped_stays r (Unmapped q ∷ es) behind c = or_right (q == r) (is_unmapped (by 0 (es ++ behind)) r) (unmapped_stays r es behind c)
unmapped_stays r (e ∷ es) behind c = unmapped_stays r es behind c

pub unmaps_unmapped : (r : ℕ) (behind made : List Entry) → UnmapsBy r behind made → is_unmapped (by 0 (made ++ behind)) r ≡ true
unmaps_unmapped r behind made (inl x) = unmapped_stays r made behind x.0
unmaps_unmapped r behind made (inr x) = subst (λ es. is_unmapped (by 0 (es ++ behind)) r ≡ true) (sym x.1.is) (or_left (r == r) (is_unmapped (by 0 (x.1.before ++ behind)) r) (eq-eqb r r refl))

begins_closing : (r : ℕ) (behind : List Entry) → is_closing (by 0 (begins_by behind r ++ behind)) r ≡ true
begins_closing r behind = one (is_closing (by 0 behind) r) refl
  where
    one : (b : Bool) → is_closing (by 0 behind) r ≡ b → is_closing (by 0 (cond b [] (Closing r ∷ []) ++ behind)) r ≡ true
    one true e = e
    one false e = or_left (r == r) (is_closing (by 0 behind) r) (eq-eqb r r refl)

clears_closing : (r : ℕ) (behind made : List Entry) → ClearsBy r behind made → is_closing (by 0 (made ++ behind)) r ≡ true
clears_closing r behind made c =
    subst (λ es. is_closing (by 0 es) r ≡ true)
    (sym (ap (λ es. es ++ behind) c.is ∙ append_assoc c.left (c.dropped ++ begins_by behind r) behind ∙ ap (λ es. c.left ++ es) (append_assoc c.dropped (begins_by behind r) behind)))
    (closing_stays r c.left (c.dropped ++ (begins_by behind r ++ behind)) (closing_stays r c.dropped (begins_by behind r ++ behind) (begins_closing r behind)))

pub fails_closing : (r : ℕ) (k : Key) (count : ℕ) (behind made : List Entry) → FailsToUnmapBy r k count behind made → is_closing (by 0 (made ++ behind)) r ≡ true
fails_closing r k count behind made f = subst (λ es. is_closing (by 0 (es ++ behind)) r ≡ true) (sym f.is) (clears_closing r behind f.before f.clears)

-- ---- all stripes

pub in_range : (P : ℕ → Bool) (a n : ℕ) → list_all P (range_with_len a n) ≡ true → (i : ℕ) → a ≤ i → i < a + n → P i ≡ true
in_range P a zero all i low high = absurd (omega (arith, low, high))
in_range P a (suc n) all i low high =
    let both = and_parts (P a) (list_all P (range_with_len (a + 1) n)) all in
    elim (cases_eq i a) [
      | inl e ↦ ap P e ∙ both.0
      | inr other ↦ in_range P (a + 1) n both.1 i (next i low other) (omega (arith, high))
    ]
  where
    next : (i : ℕ) → a ≤ i → (i ≡ a → ⊥) → a + 1 ≤ i
    next i low other = omega (arith, low, other)

pub each_gone : (t : Spread) (behind : ℕ → List Entry) (r : ℕ) → is_gone_by t behind r ≡ true → (s : ℕ) → s < t.stripes → is_unmapped (by 0 (behind s)) r ≡ true
each_gone t behind r gone s below = in_range (λ n. is_unmapped (by 0 (behind n)) r) 0 t.stripes gone s (omega arith) (omega (arith, below))

pub all_gone : (t : Spread) (behind : ℕ → List Entry) (r : ℕ) → ((s : ℕ) → s < t.stripes → is_unmapped (by 0 (behind s)) r ≡ true) → is_gone_by t behind r ≡ true
all_gone t behind r each = from_range (λ n. is_unmapped (by 0 (behind n)) r) 0 t.stripes (λ s low high. each s (omega (arith, high)))

not_gone : (t : Spread) (behind : ℕ → List Entry) (r s : ℕ) → s < t.stripes → is_unmapped (by 0 (behind s)) r ≡ false → is_gone_by t behind r ≡ false
not_gone t behind r s below mapped = elim (cases_Bool (is_gone_by t behind r)) [
  | inl gone ↦ absurd (let no : true ≡ false = sym (each_gone t behind r gone s below) ∙ mapped in cc)
  | inr fine ↦ fine
]

-- ---- what a run has come to

pub record IsState (t : Spread) (x : RunState) (behind : ℕ → List Entry) : Type 0 where
  pub closed : (s r : ℕ) → s < t.stripes → is_closing (by 0 (behind s)) r ≡ nat_lt s (x.closed r)
  pub gone : (r : ℕ) → is_gone_by t behind r ≡ x.gone r

module _ (t : Spread) (some_stripe : 0 < t.stripes) where
  its_stripe : (k : Key) → stripe_in t k < t.stripes
  its_stripe k = mod_below (k.region + k.page / t.group_of k.region) t.stripes some_stripe

  pub state_first : (regions : List (List ℕ)) → IsState t (all_open regions) (λ s. [])
  state_first regions = record { closed = λ s r below. sym (le-ltb s 0 (omega arith)); gone = λ r. not_gone t (λ s. []) r 0 some_stripe refl }

  pub opens_as : (x : RunState) (behind : ℕ → List Entry) (r off n : ℕ) → IsState t x behind → IsOpenAll t behind r off n → AreOpen t x r off n
  opens_as x behind r off n state h i lt = sym (state.closed (stripe_in t (piece_key t.page_size r (off + i))) r (its_stripe (piece_key t.page_size r (off + i)))) ∙ h i lt

  pub shuts_as : (x : RunState) (behind : ℕ → List Entry) (r at : ℕ) (b : Bool) → IsState t x behind → is_closing (by 0 (behind (stripe_in t (piece_key t.page_size r at)))) r ≡ b → is_closed_at t x r at ≡ b
  shuts_as x behind r at b state h = sym (state.closed (stripe_in t (piece_key t.page_size r at)) r (its_stripe (piece_key t.page_size r at))) ∙ h

  module _ (law : UnmappedIsEmptied) (setups : ℕ → Setup) (x : RunState) (behind made : ℕ → List Entry) (state : IsState t x behind) (legal : (s : ℕ) → s < t.stripes → IsLegal (setups s) (by 0 (made s ++ behind s))) where
    abbrev after : ℕ → List Entry
    after s = made s ++ behind s

    -- a line that leaves a region as it is
    same_gone : (q : ℕ) → ((s : ℕ) → Same q (by 0 (behind s)) (by 0 (after s))) → is_gone_by t after q ≡ is_gone_by t behind q
    same_gone q same = ap (λ (f : ℕ → Bool). list_all f (range_with_len 0 t.stripes)) (λ i s. (same s).unmapped_is i)

    state_calm : (y : RunState) → ((q : ℕ) → y.closed q ≡ x.closed q) → ((q : ℕ) → y.gone q ≡ x.gone q) → ((q s : ℕ) → Same q (by 0 (behind s)) (by 0 (after s))) → IsState t y after
    state_calm y closed gone same = record {
      closed = λ s q below. (same q s).closing_is ∙ state.closed s q below ∙ ap (nat_lt s) (sym (closed q));
      gone = λ q. same_gone q (same q) ∙ state.gone q ∙ sym (gone q);
    }

    -- a region closes in the stripes below a number, and in the others as before
    state_closes : (r n : ℕ) (gone : Bool) → ((q s : ℕ) → (q ≡ r → ⊥) → Same q (by 0 (behind s)) (by 0 (after s)))
        → ((s : ℕ) → s < n → s < t.stripes → is_closing (by 0 (after s)) r ≡ true) → ((s : ℕ) → n ≤ s → s < t.stripes → made s ≡ []) → is_gone_by t after r ≡ gone
        → IsState t (closed_below x r n gone) after
    state_closes r n gone others below above gone_is = record {
      closed = λ s q lt. elim (cases_eq q r) [
        | inl e ↦ subst (λ p. is_closing (by 0 (after s)) p ≡ nat_lt s ((closed_below x r n gone).closed p)) (sym e) (own s lt (cases_lt s n))
        | inr other ↦ (others q s other).closing_is ∙ state.closed s q lt ∙ ap (nat_lt s) (sym (cond-false (q == r) (max (x.closed q) n) (x.closed q) (ne_eqb q r other)))
      ];
      gone = λ q. elim (cases_eq q r) [
        | inl e ↦ subst (λ p. is_gone_by t after p ≡ (closed_below x r n gone).gone p) (sym e) (gone_is ∙ sym (cond-true (r == r) gone (x.gone r) (eq-eqb r r refl)))
        | inr other ↦ same_gone q (λ s. others q s other) ∙ state.gone q ∙ sym (cond-false (q == r) gone (x.gone q) (ne_eqb q r other))
      ];
    }
      where
        mine_is : (closed_below x r n gone).closed r ≡ max (x.closed r) n
        mine_is = cond-true (r == r) (max (x.closed r) n) (x.closed r) (eq-eqb r r refl)

        past : (s : ℕ) → n ≤ s → nat_lt s (x.closed r) ≡ nat_lt s (max (x.closed r) n)
        past s le = elim (cases_lt s (x.closed r)) [
          | inl lt ↦ lt-ltb s (x.closed r) lt ∙ sym (lt-ltb s (max (x.closed r) n) (omega (arith, lt)))
          | inr over ↦ le-ltb s (x.closed r) over ∙ sym (le-ltb s (max (x.closed r) n) (omega (arith, over, le)))
        ]

        own : (s : ℕ) → s < t.stripes → (s < n) ⊎ (n ≤ s) → is_closing (by 0 (after s)) r ≡ nat_lt s ((closed_below x r n gone).closed r)
        own s lt (inl under) = below s under lt ∙ sym (ap (nat_lt s) mine_is ∙ lt-ltb s (max (x.closed r) n) (omega (arith, under)))
        own s lt (inr over) = ap (λ es. is_closing (by 0 (es ++ behind s)) r) (above s over lt) ∙ state.closed s r lt ∙ past s over ∙ sym (ap (nat_lt s) mine_is)

    apart : (r : ℕ) (a : Reply) → Makes t (unmap_line r) a behind made → (q s : ℕ) → (q ≡ r → ⊥) → Same q (by 0 (behind s)) (by 0 (after s))
    apart r a m q s other = line_same t (unmap_line r) a behind made m q (ne_eqb r q (λ e. other (sym e))) s

    -- behind a line
    pub state_after : (l : Line) (a : Reply) → Makes t l a behind made → IsState t (left t x l a) after
    state_after (unmap_line r) ok m =
        state_closes r t.stripes true (apart r ok m)
        (λ s under lt. (law (setups s) (by 0 (after s)) r (legal s lt) (unmaps_unmapped r (behind s) (made s) (m.goes.1 s lt))).closing)
        (λ s over lt. absurd (omega (arith, over, lt)))
        (all_gone t after r (λ s lt. unmaps_unmapped r (behind s) (made s) (m.goes.1 s lt)))
    state_after (unmap_line r) (unmapped done) m = state_calm x (λ q. refl) (λ q. refl) (λ q s. subst (λ es. Same q (by 0 (behind s)) (by 0 (es ++ behind s))) (sym (m.goes.1 s)) (record { closing_is = refl; unmapped_is = refl }))
    state_after (unmap_line r) (fault k count done) m =
        let up = m.goes.stripes in
        state_closes r (stripe_in t k + 1) false (apart r (fault k count done) m)
        (λ s under lt. elim (cases_lt s (stripe_in t k)) [
          | inl before ↦ (law (setups s) (by 0 (after s)) r (legal s lt) (unmaps_unmapped r (behind s) (made s) (up.before s before))).closing
          | inr from ↦ subst (λ n. is_closing (by 0 (after n)) r ≡ true) (top s under from) (fails_closing r k count (behind (stripe_in t k)) (made (stripe_in t k)) up.fails)
        ])
        (λ s over lt. up.above s (omega (arith, over)))
        (not_gone t after r (stripe_in t k) (its_stripe k) up.fails.mapped)
      where
        top : (s : ℕ) → s < stripe_in t k + 1 → stripe_in t k ≤ s → stripe_in t k ≡ s
        top s under from = omega (arith, under, from)
    state_after (unmap_line r) a m = absurd m.goes
    state_after (store_line r off bytes) ok m = state_calm (left t x (store_line r off bytes) ok) (λ q. refl) (λ q. refl) (λ q s. line_same t (store_line r off bytes) ok behind made m q refl s)
    state_after (store_line r off bytes) (unmapped done) m = state_calm (left t x (store_line r off bytes) (unmapped done)) (λ q. refl) (λ q. refl) (λ q s. line_same t (store_line r off bytes) (unmapped done) behind made m q refl s)
    state_after (store_line r off bytes) (fault k count done) m = state_calm (left t x (store_line r off bytes) (fault k count done)) (λ q. refl) (λ q. refl) (λ q s. line_same t (store_line r off bytes) (fault k count done) behind made m q refl s)
    state_after l a m = state_calm x (λ q. refl) (λ q. refl) (λ q s. line_same t l a behind made m q refl s)
