-- How many faults may be lost after a change of an entry or of the queue.
use Rattle.std.proofs.Common.{◌≡◌, ℕ, suc, ◌+◌, ◌-◌, ◌≤◌, Bool, true, false, not, cond, List, [], ◌∷◌, ◌++◌, length, filter, refl, sym, ap, ◌∙◌, arith, ◌&&◌}
use Rattle.std.specs.Prelude.{nat_lt}
use Rattle.std.specs.List.{count_by, list_all}
use Rattle.std.proofs.lemmas.Bool.Decides.{nat_tests}
use Rattle.std.proofs.lemmas.List.Sums.{sum_by-append}
use Rattle.page_base.specs.Pages.{same}
use Rattle.page_base.specs.declared.keys.Key.{Key}
use Rattle.page_base.specs.declared.keys.Raise.{Raise}
use Rattle.page_base.specs.declared.keys.Why.{Why}
use Rattle.page_base.specs.declared.keys.Why.TheVariants.{Read, Write, Protected, Ahead}
use Rattle.page_model.specs.Core.{Core, is_guarded}
use Rattle.page_model.specs.Events.{CanRaiseFor}
use Rattle.soft_mmu.specs.declared.entry.PageEntry.{PageEntry}
use Rattle.soft_mmu.specs.declared.entry.PageEntry.TheVariants.{Absent, Present}
use Rattle.soft_mmu.specs.Entries.{table_entry, with_entry, HasPage, is_protected, closed, cleaned, bits_of}
use Rattle.fault_queue.specs.Queues.{is_of, without, opens, opens_why, AreOnce}
use Rattle.stripe_core.specs.Parts.{Table}
use Rattle.stripe_core.specs.InsideWaiting.{WaitingSeen, raised, waits_open, with_lost, dropped, is_lost, LostWithin}
use Rattle.stripe_core.proofs.Counted.{count_cons}
use Rattle.stripe_core.proofs.Keys.{entry_set, entry_kept, same-true, same_self}

-- ---- counts

pub count_less : {A : Type 0} (p q : A → Bool) (xs : List A) → ((x : A) → p x ≡ true → q x ≡ true) → count_by p xs ≤ count_by q xs
count_less p q [] h = omega arith
count_less {A} p q (x ∷ xs) h =
    let rest = count_less p q xs h in
    let left = count_cons p x xs in
    let right = count_cons q x xs in
    by_tests (p x) (q x) (h x) (omega (arith, left)) (omega (arith, right)) rest
  where
    by_tests : (b d : Bool) → (b ≡ true → d ≡ true) → count_by p (x ∷ xs) ≡ cond b 1 0 + count_by p xs → count_by q (x ∷ xs) ≡ cond d 1 0 + count_by q xs → count_by p xs ≤ count_by q xs → count_by p (x ∷ xs) ≤ count_by q (x ∷ xs)
    by_tests true true h l r rest = omega (arith, l, r, rest)
    by_tests true false h l r rest = absurd (let e : false ≡ true = h refl in cc)
    by_tests false true h l r rest = omega (arith, l, r, rest)
    by_tests false false h l r rest = omega (arith, l, r, rest)

pub count_part : {A : Type 0} (p q : A → Bool) (xs : List A) → count_by p (filter q xs) ≤ count_by p xs
count_part p q [] = omega arith
count_part {A} p q (x ∷ xs) =
    let rest = count_part p q xs in
    let cons = count_cons p x xs in
    by_test (q x) (omega (arith, cons, rest)) (count_cons p x (filter q xs))
  where
    by_test : (b : Bool) → cond (p x) 1 0 + count_by p (filter q xs) ≤ count_by p (x ∷ xs) → count_by p (x ∷ filter q xs) ≡ cond (p x) 1 0 + count_by p (filter q xs) → count_by p (cond b (x ∷ filter q xs) (filter q xs)) ≤ count_by p (x ∷ xs)
    by_test true le is = omega (arith, le, is)
    by_test false le is = omega (arith, le)

pub count_most : {A : Type 0} (p : A → Bool) (xs : List A) → count_by p xs ≤ length xs
count_most p [] = omega arith
count_most {A} p (x ∷ xs) = by_test (p x) (count_most p xs) (count_cons p x xs)
  where
    by_test : (b : Bool) → count_by p xs ≤ length xs → count_by p (x ∷ xs) ≡ cond b 1 0 + count_by p xs → count_by p (x ∷ xs) ≤ suc (length xs)
    by_test true le is = omega (arith, le, is)
    by_test false le is = omega (arith, le, is)

pub count_none : {A : Type 0} (p : A → Bool) (xs : List A) → count_by p xs ≡ 0 → list_all (λ x. not (p x)) xs ≡ true
count_none p [] e = refl
count_none {A} p (x ∷ xs) e = by_test (p x) (sym (count_cons p x xs) ∙ e) (count_none p xs)
  where
    by_test : (b : Bool) → cond b 1 0 + count_by p xs ≡ 0 → (count_by p xs ≡ 0 → list_all (λ y. not (p y)) xs ≡ true) → (not b && list_all (λ y. not (p y)) xs) ≡ true
    by_test true e rest = absurd (omega (arith, e))
    by_test false e rest = rest (omega (arith, e))

-- ---- one entry changes

module _ (t : Table) (j : Key) (e : PageEntry) (has : HasPage t j) where
  abbrev after : Table
  after = with_entry t j e

  -- another page's fault is as lost as before
  other_lost : (p : Raise) → same p.key j ≡ false → is_lost after p ≡ is_lost t p
  other_lost p differs = ap (λ x. opens p && not (is_protected x)) (entry_kept t j p.key e has (λ is. let s : same p.key j ≡ true = rw is (same_self p.key) in cc))

  other_less : (p : Raise) → is_of j p ≡ false → is_lost after p ≡ is_lost t p
  other_less p differs = other_lost p differs

  -- where the page stays protected, no more faults are lost
  pub lost_kept : (raises : List Raise) → (is_protected (table_entry t j) ≡ true → is_protected e ≡ true) → count_by (is_lost after) raises ≤ count_by (is_lost t) raises
  lost_kept raises keeps = count_less (is_lost after) (is_lost t) raises (λ p lost. by_key p (same p.key j) refl lost)
    where
      by_guard : (o a b : Bool) → (b ≡ true → a ≡ true) → (o && not a) ≡ true → (o && not b) ≡ true
      by_guard true true b k h = absurd cc
      by_guard true false true k h = absurd (let is : false ≡ true = k refl in cc)
      by_guard true false false k h = refl
      by_guard false a b k h = h

      by_key : (p : Raise) (b : Bool) → same p.key j ≡ b → is_lost after p ≡ true → is_lost t p ≡ true
      by_key p true s lost =
          let here : p.key ≡ j = same-true p.key j s in
          let now : (opens p && not (is_protected e)) ≡ true = sym (ap (λ x. opens p && not (is_protected x)) (ap (table_entry after) here ∙ entry_set t j e has)) ∙ lost in
          ap (λ k. opens p && not (is_protected (table_entry t k))) here ∙ by_guard (opens p) (is_protected e) (is_protected (table_entry t j)) keeps now
      by_key p false s lost = sym (other_lost p s) ∙ lost

  -- of the other pages' faults as many are lost as before
  pub lost_others : (raises : List Raise) → count_by (is_lost after) (without j raises) ≤ count_by (is_lost t) raises
  lost_others [] = omega arith
  lost_others (p ∷ raises) = by_key (same p.key j) refl (lost_others raises)
    where
      by_key : (b : Bool) → same p.key j ≡ b → count_by (is_lost after) (without j raises) ≤ count_by (is_lost t) raises
          → count_by (is_lost after) (cond (not b) (p ∷ without j raises) (without j raises)) ≤ count_by (is_lost t) (p ∷ raises)
      by_key true s rest = let cons = count_cons (is_lost t) p raises in omega (arith, cons, rest)
      by_key false s rest =
          let left = count_cons (is_lost after) p (without j raises) in
          let right = count_cons (is_lost t) p raises in
          let here : cond {A = ℕ} (is_lost after p) 1 0 ≡ cond {A = ℕ} (is_lost t p) 1 0 = ap (λ b. cond {A = ℕ} b 1 0) (other_lost p s) in
          omega (arith, left, right, here, rest)

  -- where the page has no fault, as many are lost as before
  none_of_it : (raises : List Raise) → count_by (is_of j) raises ≡ 0 → count_by (is_lost after) raises ≤ count_by (is_lost t) raises
  none_of_it [] none = omega arith
  none_of_it (p ∷ raises) none = by_key (same p.key j) refl (sym (count_cons (is_of j) p raises) ∙ none) (none_of_it raises)
    where
      by_key : (b : Bool) → same p.key j ≡ b → cond b 1 0 + count_by (is_of j) raises ≡ 0 → (count_by (is_of j) raises ≡ 0 → count_by (is_lost after) raises ≤ count_by (is_lost t) raises)
          → count_by (is_lost after) (p ∷ raises) ≤ count_by (is_lost t) (p ∷ raises)
      by_key true s none rest = absurd (omega (arith, none))
      by_key false s none rest =
          let le = rest (omega (arith, none)) in
          let left = count_cons (is_lost after) p raises in
          let right = count_cons (is_lost t) p raises in
          let here : cond {A = ℕ} (is_lost after p) 1 0 ≡ cond {A = ℕ} (is_lost t p) 1 0 = ap (λ b. cond {A = ℕ} b 1 0) (other_lost p s) in
          omega (arith, left, right, here, le)

  -- one more is lost at the most, and none where the page doesn't wait to be opened
  one_lost : (raises : List Raise) → count_by (is_of j) raises ≤ 1 → count_by (is_lost after) raises ≤ count_by (is_lost t) raises + cond (waits_open raises j) 1 0
  one_lost [] once = omega arith
  one_lost (p ∷ raises) once = by_key (same p.key j) refl (count_cons (is_of j) p raises) (one_lost raises)
    where
      by_why : (o a : Bool) → cond {A = ℕ} (o && a) 1 0 ≤ cond o 1 0
      by_why true true = omega arith
      by_why true false = omega arith
      by_why false a = omega arith

      by_key : (b : Bool) → same p.key j ≡ b → count_by (is_of j) (p ∷ raises) ≡ cond b 1 0 + count_by (is_of j) raises
          → (count_by (is_of j) raises ≤ 1 → count_by (is_lost after) raises ≤ count_by (is_lost t) raises + cond (waits_open raises j) 1 0)
          → count_by (is_lost after) (p ∷ raises) ≤ count_by (is_lost t) (p ∷ raises) + cond (waits_open (p ∷ raises) j) 1 0
      by_key true s cons rest =
          let le = none_of_it raises (omega (arith, cons, once)) in
          let left = count_cons (is_lost after) p raises in
          let right = count_cons (is_lost t) p raises in
          let here = by_why (opens p) (not (is_protected (table_entry after p.key))) in
          rw s (omega (arith, le, left, right, here))
      by_key false s cons rest =
          let le = rest (omega (arith, cons, once)) in
          let left = count_cons (is_lost after) p raises in
          let right = count_cons (is_lost t) p raises in
          let here : cond {A = ℕ} (is_lost after p) 1 0 ≡ cond {A = ℕ} (is_lost t p) 1 0 = ap (λ b. cond {A = ℕ} b 1 0) (other_lost p s) in
          rw s (omega (arith, left, right, here, le))

  -- a page leaves
  pub lost_freed : (q : WaitingSeen) → AreOnce q.raises → LostWithin t q → LostWithin after (with_lost q j)
  lost_freed q once within =
      by_tests (waits_open q.raises j) (nat_lt q.lost (length q.raises)) refl (one_lost q.raises (once j))
    where
      by_tests : (b d : Bool) → nat_lt q.lost (length q.raises) ≡ d → count_by (is_lost after) q.raises ≤ count_by (is_lost t) q.raises + cond b 1 0 → count_by (is_lost after) q.raises ≤ cond (b && d) (q.lost + 1) q.lost
      by_tests true true e le = omega (arith, le, within)
      by_tests true false e le = let most = count_most (is_lost after) q.raises in let past : length q.raises ≤ q.lost = grind (arith, nat_tests, e) in omega (arith, most, past)
      by_tests false d e le = omega (arith, le, within)

-- ---- the queue changes

pub lost_raised : (t : Table) (q : WaitingSeen) (p : Raise) → is_lost t p ≡ false → LostWithin t q → count_by (is_lost t) (q.raises ++ p ∷ []) ≤ q.lost
lost_raised t q p isnt within =
    let more : count_by (is_lost t) (q.raises ++ p ∷ []) ≡ count_by (is_lost t) q.raises + count_by (is_lost t) (p ∷ []) = sum_by-append _ q.raises (p ∷ []) in
    let one = count_cons (is_lost t) p [] in
    let here : cond {A = ℕ} (is_lost t p) 1 0 ≡ 0 = ap (λ b. cond {A = ℕ} b 1 0) isnt in
    omega (arith, more, one, here, within)

pub lost_withdrawn : (t : Table) (q : WaitingSeen) (key : Key) → LostWithin t q → count_by (is_lost t) (without key q.raises) ≤ q.lost
lost_withdrawn t q key within = let fewer = count_part (is_lost t) (λ (p : Raise). not (is_of key p)) q.raises in omega (arith, fewer, within)

-- a lost fault that is taken out was counted
one_less : (t : Table) (key : Key) (raises : List Raise) → waits_open raises key ≡ true → is_protected (table_entry t key) ≡ false → count_by (is_lost t) (without key raises) + 1 ≤ count_by (is_lost t) raises
one_less t key [] waits open_ = absurd cc
one_less t key (p ∷ raises) waits open_ = by_key (same p.key key) refl waits (one_less t key raises)
  where
    by_key : (b : Bool) → same p.key key ≡ b → waits_open (p ∷ raises) key ≡ true
        → (waits_open raises key ≡ true → is_protected (table_entry t key) ≡ false → count_by (is_lost t) (without key raises) + 1 ≤ count_by (is_lost t) raises)
        → count_by (is_lost t) (cond (not b) (p ∷ without key raises) (without key raises)) + 1 ≤ count_by (is_lost t) (p ∷ raises)
    by_key true s waits rest =
        let opens_it : opens p ≡ true = rw s at waits in
        let unguarded : is_protected (table_entry t p.key) ≡ false = ap (λ k. is_protected (table_entry t k)) (same-true p.key key s) ∙ open_ in
        let lost : is_lost t p ≡ true = rw (opens_it, unguarded) refl in
        let here : cond {A = ℕ} (is_lost t p) 1 0 ≡ 1 = ap (λ b. cond {A = ℕ} b 1 0) lost in
        let cons = count_cons (is_lost t) p raises in
        let fewer = count_part (is_lost t) (λ (r : Raise). not (is_of key r)) raises in
        omega (arith, here, cons, fewer)
    by_key false s waits rest =
        let le = rest (rw s at waits) open_ in
        let left = count_cons (is_lost t) p (without key raises) in
        let right = count_cons (is_lost t) p raises in
        omega (arith, le, left, right)

pub lost_dropped : (t : Table) (q : WaitingSeen) (key : Key) (guarded : Bool) → guarded ≡ is_protected (table_entry t key) → LostWithin t q → LostWithin t (dropped q key guarded)
lost_dropped t q key guarded is within = by_tests (waits_open q.raises key) guarded refl is (lost_withdrawn t q key within)
  where
    by_tests : (b d : Bool) → waits_open q.raises key ≡ b → d ≡ is_protected (table_entry t key) → count_by (is_lost t) (without key q.raises) ≤ q.lost
        → count_by (is_lost t) (without key q.raises) ≤ cond (b && not d) (q.lost - 1) q.lost
    by_tests true true e is le = le
    by_tests true false e is le = let less = one_less t key q.raises e (sym is) in omega (arith, less, within)
    by_tests false d e is le = le

-- ---- entries

pub closed_guards : (e : PageEntry) → is_protected e ≡ true → is_protected (closed e) ≡ true
closed_guards Absent h = absurd cc
closed_guards (Present p d f) h = refl

pub cleaned_guards : (e : PageEntry) → is_protected e ≡ true → is_protected (cleaned e) ≡ true
cleaned_guards Absent h = absurd cc
cleaned_guards (Present p d f) h = h

-- the page stays protected, where it was
pub still_within : (t : Table) (j : Key) (e : PageEntry) → HasPage t j → (q : WaitingSeen) → (is_protected (table_entry t j) ≡ true → is_protected e ≡ true) → LostWithin t q → LostWithin (with_entry t j e) q
still_within t j e has q keeps within = let kept = lost_kept t j e has q.raises keeps in omega (arith, kept, within)

-- a page that was absent comes in
pub absent_guards : (e x : PageEntry) → e ≡ Absent → is_protected e ≡ true → is_protected x ≡ true
absent_guards e x is h = let none : is_protected e ≡ false = ap is_protected is in absurd cc

-- the page is opened, and its fault is served
pub opened_within : (t : Table) (j : Key) (e : PageEntry) → HasPage t j → (q : WaitingSeen) → LostWithin t q → count_by (is_lost (with_entry t j e)) (without j q.raises) ≤ q.lost
opened_within t j e has q within = let fewer = lost_others t j e has q.raises in omega (arith, fewer, within)

pub bit_is : (e : PageEntry) → (bits_of e).protected ≡ is_protected e
bit_is Absent = refl
bit_is (Present p d f) = refl

-- a count that rises stays a bound
pub more_lost : (t : Table) (q : WaitingSeen) (key : Key) → LostWithin t q → LostWithin t (with_lost q key)
more_lost t q key within = by_test (waits_open q.raises key && nat_lt q.lost (length q.raises))
  where
    by_test : (b : Bool) → count_by (is_lost t) q.raises ≤ cond b (q.lost + 1) q.lost
    by_test true = omega (arith, within)
    by_test false = within

-- a fault for a protected page is raised where the page is protected
pub fits_why : (c : Core) (k : Key) (why : Why) → CanRaiseFor c k why → opens_why why ≡ true → is_guarded c k ≡ true
fits_why c k Read fits e = absurd cc
fits_why c k Write fits e = absurd cc
fits_why c k Ahead fits e = absurd cc
fits_why c k Protected fits e = fits.0
