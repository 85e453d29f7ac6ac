-- One call after another, over all stripes.
use Rattle.std.proofs.Common.{◌≡◌, ℕ, ◌+◌, ◌==◌, Bool, true, false, cond, List, [], ◌∷◌, ◌++◌, filter, reverse, slice_set, Option, Some, None, append_assoc, arith, refl, sym, subst, ap, ◌∙◌, eq-eqb, ne_eqb, inl, inr}
use Rattle.std.specs.List.{list_all, slice_get}
use Rattle.std.proofs.lemmas.Bool.{and_from, and_parts, cases_Bool, eqb-true}
use Rattle.std.proofs.lemmas.List.{reverse-append}
use Rattle.std.proofs.lemmas.List.Elements.{filter-append}
use Rattle.histories.specs.Histories.{GoesOn, Grew, Alone}
use Rattle.page_base.specs.declared.keys.Key.{Key}
use Rattle.page_base.specs.declared.keys.Why.{Why}
use Rattle.page_model.specs.declared.entry.Entry.{Entry}
use Rattle.page_model.specs.declared.entry.Entry.TheVariants as entry
use Rattle.page_model.specs.Entries.{is_access, key_of, lies_in, of_stripe}
use Rattle.turn_lock.specs.Seen.{PassSeen}
use Rattle.locked_stripe.specs.Calls.{HoldsAreFew, is_try}
use Rattle.locked_stripe.specs.Holds.{PassGrew}
use Rattle.umap_pager.specs.InsideLaws.{WentLaws}
use Rattle.umap_pager.specs.Passes.{PassesSeen}
use Rattle.umap_pager.specs.Went.{PassWent, WentOver, WentTwice, FewIn, HoldsStayFew, StaysFewIn, is_part, at_hand, are_tries}
use Rattle.umap_pager.proofs.Locks.{slice_set_same, slice_set_other}

added : (x a b : ℕ) → (x + a) + b ≡ x + (a + b)
added x a b = omega arith

none_more : (x : ℕ) → x ≡ x + 0
none_more x = omega arith

-- ---- one pass

module _ {T : Type 0} (laws : WentLaws) where
  grew_none : (p : PassSeen T Entry) → p.inside ≡ false → PassGrew p p 0 []
  grew_none p out = record {
    seen = laws.adds.none p.number p.seen;
    after = ap (λ (b : Bool). record p { inside = b }) out ∙ ap (λ (n : ℕ). record p { holds = n; inside = false }) (none_more p.holds);
  }

  grew_both : (old mid new : PassSeen T Entry) (a b : ℕ) (es fs : List Entry) → PassGrew old mid a es → PassGrew mid new b fs → PassGrew old new (a + b) (fs ++ es)
  grew_both old mid new a b es fs p q = record {
    seen = laws.adds.twice old.number old.seen mid.seen new.seen es fs p.seen (subst (λ (o : ℕ). Grew o mid.seen new.seen fs) (ap (λ (x : PassSeen T Entry). x.number) p.after) q.seen);
    after = q.after ∙ (ap (λ (x : PassSeen T Entry). record x { holds = x.holds + b; seen = new.seen; mine = fs ++ x.mine; inside = false }) p.after
        ∙ (ap (λ (n : ℕ). record old { holds = n; seen = new.seen; mine = fs ++ (es ++ old.mine); inside = false }) (added old.holds a b)
        ∙ ap (λ (m : List Entry). record old { holds = old.holds + (a + b); seen = new.seen; mine = m; inside = false }) (sym (append_assoc fs es old.mine))));
  }

  pass_went_none : (a : Option (PassSeen T Entry)) → ((p : PassSeen T Entry) → a ≡ Some p → p.inside ≡ false) → PassWent a a []
  pass_went_none None out = refl
  pass_went_none (Some p) out = (0, grew_none p (out p refl))

  pass_went_twice : (a b c : Option (PassSeen T Entry)) (es fs : List Entry) → PassWent a b es → PassWent b c fs → PassWent a c (fs ++ es)
  pass_went_twice None None None es fs p q = rw (p, q) refl
  pass_went_twice None None (Some z) es fs p q = absurd q
  pass_went_twice None (Some y) c es fs p q = absurd p
  pass_went_twice (Some x) None c es fs p q = absurd p
  pass_went_twice (Some x) (Some y) None es fs p q = absurd q
  pass_went_twice (Some x) (Some y) (Some z) es fs p q = (p.0 + q.0, grew_both x y z p.0 q.0 es fs p.1 q.1)

  -- ---- all passes

  pub went_both : WentTwice T
  went_both stripe old mid new first second own more a b = record {
    each = λ s. pass_went_twice (slice_get old.passes s) (slice_get mid.passes s) (slice_get new.passes s) (own s) (more s) (a.each s) (b.each s);
    in_order = λ s.
        filter-append is_access (more s) (own s)
        ∙ ap (λ (es : List Entry). es ++ filter is_access (own s)) (b.in_order s)
        ∙ ap (λ (es : List Entry). reverse (of_stripe stripe s second) ++ es) (a.in_order s)
        ∙ sym (reverse-append (of_stripe stripe s first) (of_stripe stripe s second))
        ∙ ap reverse (sym (filter-append (λ (e : Entry). lies_in stripe s (key_of e)) first second));
    scratch = b.scratch ∙ a.scratch;
  }

  pub went_none : (stripe : Key → ℕ) (p : PassesSeen T) → ((s : ℕ) (pass : PassSeen T Entry) → slice_get p.passes s ≡ Some pass → pass.inside ≡ false) → WentOver stripe p p [] (λ s. [])
  went_none stripe p out = record {
    each = λ s. pass_went_none (slice_get p.passes s) (out s);
    in_order = λ s. refl;
    scratch = refl;
  }

-- ---- one stripe of all

apart : (j s : ℕ) → (j == s) ≡ false → j ≡ s → ⊥
apart j s n e = let y = eq-eqb j s e in absurd cc

module _ {T : Type 0} (laws : WentLaws) where
  -- one stripe's pass changed
  pub went_in : (stripe : Key → ℕ) (s : ℕ) (old new : PassesSeen T) (before after : PassSeen T Entry) (times : ℕ) (accesses own : List Entry)
      → ((j : ℕ) (pass : PassSeen T Entry) → slice_get old.passes j ≡ Some pass → pass.inside ≡ false)
      → slice_get old.passes s ≡ Some before → new.passes ≡ slice_set old.passes s after → new.scratch ≡ old.scratch → PassGrew before after times own
      → filter is_access own ≡ reverse accesses → ((j : ℕ) → of_stripe stripe j accesses ≡ cond (j == s) accesses [])
      → WentOver stripe old new accesses (λ j. cond (j == s) own [])
  went_in stripe s old new before after times accesses own out there changed scratch grew order parts = record {
    each = λ j. elim (cases_Bool (j == s)) [
      | inl e ↦
          let is : j ≡ s = eqb-true j s e in
          let here : slice_get old.passes j ≡ Some before = subst (λ (i : ℕ). slice_get old.passes i ≡ Some before) (sym is) there in
          let then_ : slice_get new.passes j ≡ Some after = ap (λ ps. slice_get ps j) changed ∙ subst (λ (i : ℕ). slice_get (slice_set old.passes s after) i ≡ Some after) (sym is) (slice_set_same old.passes s before after there) in
          subst (λ (b : Bool). PassWent (slice_get old.passes j) (slice_get new.passes j) (cond b own [])) (sym e)
          (subst (λ (o : Option (PassSeen T Entry)). PassWent o (slice_get new.passes j) own) (sym here)
          (subst (λ (o : Option (PassSeen T Entry)). PassWent (Some before) o own) (sym then_) (times, grew)))
      | inr n ↦
          let still : slice_get new.passes j ≡ slice_get old.passes j = ap (λ ps. slice_get ps j) changed ∙ slice_set_other old.passes s j after (apart j s n) in
          subst (λ (b : Bool). PassWent (slice_get old.passes j) (slice_get new.passes j) (cond b own [])) (sym n)
          (subst (λ (o : Option (PassSeen T Entry)). PassWent (slice_get old.passes j) o []) (sym still) (pass_went_none laws (slice_get old.passes j) (out j)))
    ];
    in_order = λ j. elim (cases_Bool (j == s)) [
      | inl e ↦ subst (λ (b : Bool). filter is_access (cond b own []) ≡ reverse (of_stripe stripe j accesses)) (sym e) (order ∙ ap reverse (sym (parts j ∙ ap (λ (b : Bool). cond b accesses []) e)))
      | inr n ↦ subst (λ (b : Bool). filter is_access (cond b own []) ≡ reverse (of_stripe stripe j accesses)) (sym n) (ap reverse (sym (parts j ∙ ap (λ (b : Bool). cond b accesses []) n)))
    ];
    scratch = scratch;
  }

-- one access of a page of the stripe
pub one_part : (stripe : Key → ℕ) (s : ℕ) (k : Key) (e : Entry) → key_of e ≡ Some k → stripe k ≡ s → (j : ℕ) → of_stripe stripe j (e ∷ []) ≡ cond (j == s) (e ∷ []) []
one_part stripe s k e key here j = at (key_of e) key
  where
    swapped : (a b : ℕ) → (a == b) ≡ (b == a)
    swapped a b = elim (cases_Bool (a == b)) [
      | inl y ↦ y ∙ sym (eq-eqb b a (sym (eqb-true a b y)))
      | inr n ↦ n ∙ sym (ne_eqb b a (λ q. apart a b n (sym q)))
    ]

    at : (o : Option Key) → o ≡ Some k → cond (lies_in stripe j o) (e ∷ []) [] ≡ cond (j == s) (e ∷ []) []
    at None f = absurd cc
    at (Some q) f = let qk : q ≡ k = cc in ap (λ (b : Bool). cond b (e ∷ []) []) (ap (λ (x : Key). stripe x == j) qk ∙ (ap (λ (x : ℕ). x == j) here ∙ swapped s j))

pub none_part : (b : Bool) → ◌≡◌ {A = List Entry} [] (cond b [] [])
none_part true = refl
none_part false = refl

-- ---- what an access makes beside itself

pub record IsTry (reasons : Why → Bool) (k : Key) (e : Entry) : Type 0 where
  pub no_access : is_access e ≡ false
  pub part : is_part reasons k e ≡ true
  pub hand : at_hand k e ≡ k

try_is : (reasons : Why → Bool) (k : Key) (e : Entry) → is_try k reasons e ≡ true → IsTry reasons k e
try_is reasons k (entry.Load j place bytes) a = absurd cc
try_is reasons k (entry.Save j place bytes) a = absurd cc
try_is reasons k (entry.Raised j why) a = record { no_access = refl; part = a; hand = refl }
try_is reasons k (entry.StartRead j) a = record { no_access = refl; part = a; hand = refl }
try_is reasons k (entry.Filled j) a = record { no_access = refl; part = a; hand = refl }
try_is reasons k (entry.ReadFailed j n) a = record { no_access = refl; part = a; hand = refl }
try_is reasons k (entry.Opened j) a = record { no_access = refl; part = a; hand = refl }
try_is reasons k (entry.Dropped j) a = record { no_access = refl; part = a; hand = refl }
try_is reasons k (entry.StartWrite j cause) a = record { no_access = refl; part = a; hand = refl }
try_is reasons k (entry.Written j at bytes) a = record { no_access = refl; part = a; hand = refl }
try_is reasons k (entry.WriteFailed j n) a = record { no_access = refl; part = a; hand = refl }
try_is reasons k (entry.Evicted j cause) a = record { no_access = refl; part = a; hand = refl }
try_is reasons k (entry.Hint j answer) a = absurd cc
try_is reasons k (entry.Closing r) a = absurd cc
try_is reasons k (entry.Unmapped r) a = absurd cc

pub none_access : (reasons : Why → Bool) (k : Key) (es : List Entry) → list_all (is_try k reasons) es ≡ true → filter is_access es ≡ []
none_access reasons k [] a = refl
none_access reasons k (e ∷ es) a = let x = and_parts (is_try k reasons e) (list_all (is_try k reasons) es) a in rw ((try_is reasons k e x.0).no_access) (none_access reasons k es x.1)

-- tries of the page at hand, behind what came before
pub tries_more : (reasons : Why → Bool) (k : Key) (es own : List Entry) → list_all (is_try k reasons) es ≡ true → are_tries reasons k own ≡ true → are_tries reasons k (es ++ own) ≡ true
tries_more reasons k [] own a b = b
tries_more reasons k (e ∷ es) own a b =
    let x = and_parts (is_try k reasons e) (list_all (is_try k reasons) es) a in
    let t = try_is reasons k e x.0 in
    and_from (is_part reasons k e) (are_tries reasons (at_hand k e) (es ++ own)) t.part
    (subst (λ (j : Key). are_tries reasons j (es ++ own) ≡ true) (sym t.hand) (tries_more reasons k es own x.1 b))

pub tries_one : (reasons : Why → Bool) (j k : Key) (e : Entry) (es : List Entry) → is_part reasons j e ≡ true → at_hand j e ≡ k → are_tries reasons k es ≡ true → are_tries reasons j (e ∷ es) ≡ true
tries_one reasons j k e es part hand tries = and_from (is_part reasons j e) (are_tries reasons (at_hand j e) es) part (subst (λ (q : Key). are_tries reasons q es ≡ true) (sym hand) tries)

-- ---- holds

module _ {T : Type 0} (laws : WentLaws) where
  few_none : (p : PassSeen T Entry) → HoldsAreFew p p
  few_none p = record { few = λ a home. (omega arith, home) }

  pub goes_grown : (old new : PassSeen T Entry) (n : ℕ) (es : List Entry) → PassGrew old new n es → GoesOn old.seen new.seen
  goes_grown old new n es w = (w.seen.later, w.seen.is)

  few_both : (old mid new : PassSeen T Entry) (a b : ℕ) (es fs : List Entry) → PassGrew old mid a es → PassGrew mid new b fs → HoldsAreFew old mid → HoldsAreFew mid new → HoldsAreFew old new
  few_both old mid new a b es fs p q f g = record {
    few = λ alone home.
        let past = goes_grown old mid a es p in
        let on = goes_grown mid new b fs q in
        let one = f.few (laws.alone.first old.number old.seen mid.seen new.seen past on alone) home in
        let num : mid.number ≡ old.number = ap (λ (x : PassSeen T Entry). x.number) p.after in
        let two = g.few (subst (λ (o : ℕ). Alone o mid.seen new.seen) (sym num) (laws.alone.second old.number old.seen mid.seen new.seen past on alone)) one.1 in
        let u = one.0 in
        let v = two.0 in
        (omega (arith, u, v), two.1);
  }

  stay_both : (old mid new : PassSeen T Entry) (a b : ℕ) (es fs : List Entry) → PassGrew old mid a es → PassGrew mid new b fs → HoldsAreFew old mid → HoldsStayFew mid new → HoldsStayFew old new
  stay_both old mid new a b es fs p q f g = record {
    few = λ alone home.
        let past = goes_grown old mid a es p in
        let on = goes_grown mid new b fs q in
        let one = f.few (laws.alone.first old.number old.seen mid.seen new.seen past on alone) home in
        let num : mid.number ≡ old.number = ap (λ (x : PassSeen T Entry). x.number) p.after in
        let two = g.few (subst (λ (o : ℕ). Alone o mid.seen new.seen) (sym num) (laws.alone.second old.number old.seen mid.seen new.seen past on alone)) one.1 in
        let u = one.0 in
        omega (arith, u, two);
  }

  pub few_stay : (old new : PassSeen T Entry) → HoldsAreFew old new → HoldsStayFew old new
  few_stay old new f = record { few = λ alone home. let u = (f.few alone home).0 in omega (arith, u) }

  pub few_in_both : (a b c : Option (PassSeen T Entry)) (es fs : List Entry) → PassWent a b es → PassWent b c fs → FewIn a b → FewIn b c → FewIn a c
  few_in_both None b c es fs p q f g = tt
  few_in_both (Some x) None c es fs p q f g = absurd p
  few_in_both (Some x) (Some y) None es fs p q f g = absurd q
  few_in_both (Some x) (Some y) (Some z) es fs p q f g = few_both x y z p.0 q.0 es fs p.1 q.1 f g

  pub stay_in_both : (a b c : Option (PassSeen T Entry)) (es fs : List Entry) → PassWent a b es → PassWent b c fs → FewIn a b → StaysFewIn b c → StaysFewIn a c
  stay_in_both None b c es fs p q f g = tt
  stay_in_both (Some x) None c es fs p q f g = absurd p
  stay_in_both (Some x) (Some y) None es fs p q f g = absurd q
  stay_in_both (Some x) (Some y) (Some z) es fs p q f g = stay_both x y z p.0 q.0 es fs p.1 q.1 f g

  pub few_in_none : (a : Option (PassSeen T Entry)) → FewIn a a
  few_in_none None = tt
  few_in_none (Some p) = few_none p

  pub stay_in_none : (a : Option (PassSeen T Entry)) → StaysFewIn a a
  stay_in_none None = tt
  stay_in_none (Some p) = few_stay p p (few_none p)

  -- the passes of one stripe and of the others, before and after
  pub of_stripe_or : (P : Option (PassSeen T Entry) → Option (PassSeen T Entry) → Type 0) (s : ℕ) (old new : PassesSeen T) (before after : PassSeen T Entry)
      → slice_get old.passes s ≡ Some before → new.passes ≡ slice_set old.passes s after → P (Some before) (Some after) → ((a : Option (PassSeen T Entry)) → P a a)
      → (j : ℕ) → P (slice_get old.passes j) (slice_get new.passes j)
  of_stripe_or P s old new before after there changed one same j = elim (cases_Bool (j == s)) [
    | inl e ↦
        let is : j ≡ s = eqb-true j s e in
        let here : slice_get old.passes j ≡ Some before = subst (λ (i : ℕ). slice_get old.passes i ≡ Some before) (sym is) there in
        let then_ : slice_get new.passes j ≡ Some after = ap (λ ps. slice_get ps j) changed ∙ subst (λ (i : ℕ). slice_get (slice_set old.passes s after) i ≡ Some after) (sym is) (slice_set_same old.passes s before after there) in
        subst (λ (o : Option (PassSeen T Entry)). P o (slice_get new.passes j)) (sym here) (subst (λ (o : Option (PassSeen T Entry)). P (Some before) o) (sym then_) one)
    | inr n ↦
        let still : slice_get new.passes j ≡ slice_get old.passes j = ap (λ ps. slice_get ps j) changed ∙ slice_set_other old.passes s j after (apart j s n) in
        subst (λ (o : Option (PassSeen T Entry)). P (slice_get old.passes j) o) (sym still) (same (slice_get old.passes j))
  ]
