-- What stripes made, one stretch after another.
use Rattle.std.proofs.Common.{◌≡◌, inl, inr, ℕ, ◌==◌, Bool, true, false, cond, eqb, List, [], ◌∷◌, ◌++◌, length, reverse, Option, Some, None, refl, sym, ap, subst, ◌∙◌, arith, append_assoc, append-nil, length-append}
use Rattle.std.specs.List.{filter, list_all}
use Rattle.std.proofs.lemmas.Bool.{cases_eq, and_parts, and_from, eqb-true, eq-eqb, ne_eqb}
use Rattle.std.proofs.lemmas.List.{map-append, reverse-append}
use Rattle.std.proofs.lemmas.List.Elements.{filter-append}
use Rattle.std.proofs.lemmas.List.Folds.{list_all-append}
use Rattle.std.proofs.lemmas.Option.{slice_get_within}
use Rattle.histories.specs.Histories.{History, by}
use Rattle.page_base.specs.declared.keys.Key.{Key}
use Rattle.page_base.specs.declared.keys.Why.{Why}
use Rattle.page_model.specs.declared.entry.Entry.{Entry}
use Rattle.page_model.specs.declared.entry.Entry.TheVariants.{Load, Save, Hint}
use Rattle.page_model.specs.Entries.{key_of, is_access}
use Rattle.page_model.specs.Stands.{StandsFor}
use Rattle.serial_pager.specs.Seen.{StripeSeen}
use Rattle.serial_pager.specs.declared.fault.PageFault.{PageFault}
use Rattle.serial_pager.specs.Accesses.{serves}
use Rattle.serial_pager.specs.Goings.{Went}
use Rattle.serial_pager.specs.Pagers.{PagerSeen, IsSame, WentAll, made_in, stripe_at}
use Rattle.script_run.proofs.FittedLanes.{there}
use Rattle.script_run.specs.LineEntries.{MakesInOrder}
use Rattle.page_model.specs.Entries.{lies_in, of_stripe}
use Rattle.script_run.specs.InsideRanges.{GoesBy, PieceDone, PieceFaults}
use Rattle.script_run.proofs.Ranged.{same_stripe}

eqb-swap : (a b : ℕ) → eqb a b ≡ eqb b a
eqb-swap a b = elim (cases_eq a b) [ inl e ↦ eq-eqb a b e ∙ sym (eq-eqb b a (sym e)) | inr other ↦ ne_eqb a b other ∙ sym (ne_eqb b a (λ e. other (sym e))) ]

-- ---- histories

module _ {J : Type 0} (has_noted : J → History Entry → Type 0) where
  pub went_none : (x : StripeSeen J) → Went 0 has_noted [] x x
  went_none x = record { setup = refl; events = omega arith; stands = λ h st. st; noted = λ h n. n }

  pub went_more : (a b : List Entry) (x y z : StripeSeen J) → Went 0 has_noted a x y → Went 0 has_noted b y z → Went 0 has_noted (b ++ a) x z
  went_more a b x y z f g = record {
    setup = g.setup ∙ f.setup;
    events = omega (arith, f.events, g.events, length-append b a);
    stands = λ h st. subst (λ (k : History Entry). StandsFor k z.core) (both h) (g.stands (by 0 a ++ h) (f.stands h st));
    noted = λ h n. subst (λ (k : History Entry). has_noted z.journal k) (both h) (g.noted (by 0 a ++ h) (f.noted h n));
  }
    where
      both : (h : History Entry) → by 0 b ++ (by 0 a ++ h) ≡ by 0 (b ++ a) ++ h
      both h = sym (append_assoc (by 0 b) (by 0 a) h) ∙ ap (λ (k : History Entry). k ++ h) (sym (map-append (λ (e : Entry). (0, e)) b a))

  pub all_none : (p : PagerSeen J) → WentAll 0 has_noted (λ s. []) p p
  all_none p s x y was is = subst (λ (z : StripeSeen J). Went 0 has_noted [] x z) (same_some was is) (went_none x)
    where
      same_some : {o : Option (StripeSeen J)} → o ≡ Some x → o ≡ Some y → x ≡ y
      same_some {o} e f = let g : Some x ≡ Some y = sym e ∙ f in cc

  pub all_more : (a b : ℕ → List Entry) (p q z : PagerSeen J) → length q.stripes ≡ length p.stripes → WentAll 0 has_noted a p q → WentAll 0 has_noted b q z → WentAll 0 has_noted (λ s. b s ++ a s) p z
  all_more a b p q z many f g s x y was is =
      let mid = there q.stripes s (omega (arith, many, slice_get_within p.stripes s x was)) in
      went_more (a s) (b s) x mid.0 y (f s x mid.0 was mid.1) (g s mid.0 y mid.1 is)

-- ---- accesses in order

-- what serves an access is no access
serves_quiet : (k : Key) (reasons : Why → Bool) (e : Entry) → serves k reasons e ≡ true → is_access e ≡ false
serves_quiet k reasons (Load j place bytes) h = absurd (cc)
serves_quiet k reasons (Save j place bytes) h = absurd (cc)
serves_quiet k reasons (Hint j answer) h = absurd (cc)
serves_quiet k reasons e h = refl

pub none_accessed : (k : Key) (reasons : Why → Bool) (es : List Entry) → list_all (serves k reasons) es ≡ true → filter is_access es ≡ []
none_accessed k reasons [] h = refl
none_accessed k reasons (e ∷ es) h =
    let parts = and_parts (serves k reasons e) (list_all (serves k reasons) es) h in
    ap (λ (b : Bool). cond b (e ∷ filter is_access es) (filter is_access es)) (serves_quiet k reasons e parts.0) ∙ none_accessed k reasons es parts.1

-- what serves an access passes a test
abbrev pub ServesBy : (may : Entry → Bool) → Key → (reasons : Why → Bool) → Type 0
ServesBy may k reasons = (e : Entry) → serves k reasons e ≡ true → may e ≡ true

pub all_may : (may : Entry → Bool) (k : Key) (reasons : Why → Bool) → ServesBy may k reasons → (es : List Entry) → list_all (serves k reasons) es ≡ true → list_all may es ≡ true
all_may may k reasons weak [] h = refl
all_may may k reasons weak (e ∷ es) h =
    let parts = and_parts (serves k reasons e) (list_all (serves k reasons) es) h in
    and_from (may e) (list_all may es) (weak e parts.0) (all_may may k reasons weak es parts.1)

module _ (stripe : Key → ℕ) (may : Entry → Bool) where
  pub order_none : MakesInOrder stripe may [] [] (λ s. [])
  order_none = record { served = λ s. []; made_are = λ s. refl; in_order = λ s. refl; serve = λ s. refl }

  pub order_more : (a b failure : List Entry) (m n : ℕ → List Entry) → MakesInOrder stripe may a [] m → MakesInOrder stripe may b failure n → MakesInOrder stripe may (a ++ b) failure (λ s. n s ++ m s)
  order_more a b failure m n f g = record {
    served = λ s. g.served s ++ f.served s;
    made_are = λ s. ap (λ (es : List Entry). n s ++ es) (f.made_are s) ∙ ap (λ (es : List Entry). es ++ f.served s) (g.made_are s) ∙ append_assoc (of_stripe stripe s failure) (g.served s) (f.served s);
    in_order = λ s.
        filter-append is_access (g.served s) (f.served s)
        ∙ ap (λ (es : List Entry). es ++ filter is_access (f.served s)) (g.in_order s)
        ∙ ap (λ (es : List Entry). reverse (of_stripe stripe s b) ++ es) (f.in_order s)
        ∙ sym (ap reverse (filter-append (λ (e : Entry). lies_in stripe s (key_of e)) a b) ∙ reverse-append (of_stripe stripe s a) (of_stripe stripe s b));
    serve = λ s. list_all-append may (g.served s) (f.served s) ∙ and_from (list_all may (g.served s)) (list_all may (f.served s)) (g.serve s) (f.serve s);
  }

  -- one access, behind what served it
  pub order_access : (k : Key) (s : ℕ) (e : Entry) (key : Key) (reasons : Why → Bool) (weak : ServesBy may key reasons) (before : List Entry) → stripe k ≡ s → key_of e ≡ Some k → is_access e ≡ true → may e ≡ true → list_all (serves key reasons) before ≡ true → MakesInOrder stripe may (e ∷ []) [] (made_in s (e ∷ before))
  order_access k s e key reasons weak before at its access allowed pass = record {
    served = made_in s (e ∷ before);
    made_are = λ n. refl;
    in_order = λ n. order n (n == s) refl;
    serve = λ n. serve_ n (n == s) refl;
  }
    where
      mine : (n : ℕ) → lies_in stripe n (key_of e) ≡ (s == n)
      mine n = ap (lies_in stripe n) its ∙ ap (λ (m : ℕ). m == n) at

      order : (n : ℕ) (b : Bool) → (n == s) ≡ b → filter is_access (cond (n == s) (e ∷ before) []) ≡ reverse (of_stripe stripe n (e ∷ []))
      order n true h =
          let same : n ≡ s = eqb-true n s h in
          ap (λ (c : Bool). filter is_access (cond c (e ∷ before) [])) h
          ∙ ap (λ (c : Bool). cond c (e ∷ filter is_access before) (filter is_access before)) access
          ∙ ap (λ (es : List Entry). e ∷ es) (none_accessed key reasons before pass)
          ∙ sym (ap (λ (c : Bool). reverse (cond c (e ∷ []) [])) (mine n ∙ eq-eqb s n (sym same)))
      order n false h =
          ap (λ (c : Bool). filter is_access (cond c (e ∷ before) [])) h
          ∙ sym (ap (λ (c : Bool). reverse (cond c (e ∷ []) [])) (mine n ∙ eqb-swap s n ∙ h))

      serve_ : (n : ℕ) (b : Bool) → (n == s) ≡ b → list_all may (cond (n == s) (e ∷ before) []) ≡ true
      serve_ n true h = ap (λ (c : Bool). list_all may (cond c (e ∷ before) [])) h ∙ and_from (may e) (list_all may before) allowed (all_may may key reasons weak before pass)
      serve_ n false h = ap (λ (c : Bool). list_all may (cond c (e ∷ before) [])) h

  -- a failure, behind what came before it
  pub order_failure : (k : Key) (s : ℕ) (e : Entry) (key : Key) (reasons : Why → Bool) (weak : ServesBy may key reasons) (before : List Entry) → stripe k ≡ s → key_of e ≡ Some k → list_all (serves key reasons) before ≡ true → MakesInOrder stripe may [] (e ∷ []) (made_in s (e ∷ before))
  order_failure k s e key reasons weak before at its pass = record {
    served = made_in s before;
    made_are = λ n. made n (n == s) refl;
    in_order = λ n. order n (n == s) refl;
    serve = λ n. serve_ n (n == s) refl;
  }
    where
      mine : (n : ℕ) → lies_in stripe n (key_of e) ≡ (s == n)
      mine n = ap (lies_in stripe n) its ∙ ap (λ (m : ℕ). m == n) at

      made : (n : ℕ) (b : Bool) → (n == s) ≡ b → cond (n == s) (e ∷ before) [] ≡ of_stripe stripe n (e ∷ []) ++ cond (n == s) before []
      made n b h =
          ap (λ (c : Bool). cond c (e ∷ before) []) h
          ∙ same b
          ∙ sym (ap (λ (c : Bool). cond c (e ∷ []) [] ++ cond (n == s) before []) (mine n ∙ eqb-swap s n ∙ h) ∙ ap (λ (c : Bool). cond b (e ∷ []) [] ++ cond c before []) h)
        where
          same : (c : Bool) → cond c (e ∷ before) [] ≡ cond c (e ∷ []) [] ++ cond c before []
          same true = refl
          same false = refl

      order : (n : ℕ) (b : Bool) → (n == s) ≡ b → filter is_access (cond (n == s) before []) ≡ []
      order n true h = ap (λ (c : Bool). filter is_access (cond c before [])) h ∙ none_accessed key reasons before pass
      order n false h = ap (λ (c : Bool). filter is_access (cond c before [])) h

      serve_ : (n : ℕ) (b : Bool) → (n == s) ≡ b → list_all may (cond (n == s) before []) ≡ true
      serve_ n true h = ap (λ (c : Bool). list_all may (cond c before [])) h ∙ all_may may key reasons weak before pass
      serve_ n false h = ap (λ (c : Bool). list_all may (cond c before [])) h

-- the same by another name of each page's stripe
of_same : (f g : Key → ℕ) → ((k : Key) → f k ≡ g k) → (s : ℕ) (es : List Entry) → of_stripe f s es ≡ of_stripe g s es
of_same f g same s [] = refl
of_same f g same s (e ∷ es) =
    ap (λ (b : Bool). cond b (e ∷ of_stripe f s es) (of_stripe f s es)) (in_same (key_of e))
    ∙ ap (λ (xs : List Entry). cond (lies_in g s (key_of e)) (e ∷ xs) xs) (of_same f g same s es)
  where
    in_same : (o : Option Key) → lies_in f s o ≡ lies_in g s o
    in_same None = refl
    in_same (Some k) = ap (λ (n : ℕ). n == s) (same k)

pub order_same : (f g : Key → ℕ) (may : Entry → Bool) (a b : List Entry) (m : ℕ → List Entry) → ((k : Key) → f k ≡ g k) → MakesInOrder f may a b m → MakesInOrder g may a b m
order_same f g may a b m same o = record {
  served = o.served;
  made_are = λ s. o.made_are s ∙ ap (λ (es : List Entry). es ++ o.served s) (of_same f g same s b);
  in_order = λ s. o.in_order s ∙ ap reverse (of_same f g same s a);
  serve = o.serve;
}

-- ---- accesses on a pager

module _ {J : Type 0} (has_noted : J → History Entry → Type 0) (may : Entry → Bool) where
  pub by_none : (p : PagerSeen J) → GoesBy has_noted may [] [] p p
  by_none p = record { made = λ s. []; in_order = order_none (stripe_at p) may; went = all_none has_noted p }

  by_more : (a b failure : List Entry) (p q z : PagerSeen J) → IsSame p q → GoesBy has_noted may a [] p q → GoesBy has_noted may b failure q z → GoesBy has_noted may (a ++ b) failure p z
  by_more a b failure p q z same f g = record {
    made = λ s. g.made s ++ f.made s;
    in_order = order_more (stripe_at p) may a b failure f.made g.made f.in_order (order_same (stripe_at q) (stripe_at p) may b failure g.made (same_stripe p q same) g.in_order);
    went = all_more has_noted f.made g.made p q z same.stripes f.went g.went;
  }

  -- one more piece
  pub by_access : (a : List Entry) (p q z : PagerSeen J) (k : Key) (reasons : Why → Bool) (weak : ServesBy may k reasons) (e : Entry) → IsSame p q → GoesBy has_noted may a [] p q → PieceDone has_noted k reasons e q z → key_of e ≡ Some k → is_access e ≡ true → may e ≡ true → GoesBy has_noted may (a ++ e ∷ []) [] p z
  by_access a p q z k reasons weak e same first on its access allowed =
      by_more a (e ∷ []) [] p q z same first (record {
        made = made_in (stripe_at q k) (e ∷ on.went.before);
        in_order = order_access (stripe_at q) may k (stripe_at q k) e k reasons weak on.went.before refl its access allowed on.went.pass;
        went = on.went.went;
      })

  -- the piece whose access failed
  pub by_failure : (a : List Entry) (p q z : PagerSeen J) (k : Key) (reasons : Why → Bool) (weak : ServesBy may k reasons) (f : PageFault) → IsSame p q → GoesBy has_noted may a [] p q → (x : PieceFaults has_noted k reasons f q z) → GoesBy has_noted may a (x.failure ∷ []) p z
  by_failure a p q z k reasons weak f same first x =
      subst (λ (es : List Entry). GoesBy has_noted may es (x.failure ∷ []) p z) (append-nil a)
      (by_more a [] (x.failure ∷ []) p q z same first (record {
        made = made_in (stripe_at q k) (x.failure ∷ x.went.before);
        in_order = order_failure (stripe_at q) may f.key (stripe_at q k) x.failure k reasons weak x.went.before x.stripe its x.went.pass;
        went = x.went.went;
      }))
    where
      its : key_of x.failure ≡ Some f.key
      its = elim x.fails [ inl r ↦ ap key_of r.1 | inr w ↦ ap key_of w ]
