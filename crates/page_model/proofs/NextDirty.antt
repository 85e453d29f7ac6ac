-- What is known of the next dirty page.
use Rattle.std.proofs.Common.{Bool, List, None, Option, Some, [], ap, cond, false, filter, is_some, map, refl, sym, true, ◌&&◌, ◌||◌, ◌∙◌, ◌∷◌, ◌≡◌, inl, inr}
use Rattle.std.proofs.lemmas.Bool.{and_from, and_parts, cases_Bool}
use Rattle.histories.specs.Histories.{History}
use Rattle.page_base.specs.KeyOrder.{is_below, is_past}
use Rattle.page_base.specs.Laws.{LeastIsFirst}
use Rattle.page_base.specs.Pages.{same}
use Rattle.page_base.specs.declared.keys.Key.{Key}
use Rattle.page_model.specs.declared.entry.Entry.{Entry}
use Rattle.page_model.specs.Core as core
use Rattle.page_model.specs.Core.{Core, Resident, dirties, page_at}
use Rattle.page_model.specs.Readers.{IsNextToFlush, FlushKnows}
use Rattle.page_model.specs.Residents.{is_in}
use Rattle.page_model.specs.Stands.{StandsFor}
use Rattle.page_model.proofs.Keys.{same-true}
use Rattle.page_model.proofs.Members.{any_map, some_found}
use Rattle.page_model.proofs.StandsPages.{present_page}

kept_and : (s i b : Bool) → s ≡ false → (s || (i && b)) ≡ ((s || i) && b)
kept_and true i b e = absurd cc
kept_and false i b e = refl

and_none : (b : Bool) → (b && false) ≡ false
and_none true = refl
and_none false = refl

-- of a key that is first in a list: `rest` says it of the others
first_in : (p : Key → Bool) (k x : Key) (xs : List Key) (b : Bool) → b ≡ p k → same x k ≡ true → is_in k (filter p xs) ≡ (is_in k xs && p k)
    → is_in k (cond b (x ∷ filter p xs) (filter p xs)) ≡ ((same x k || is_in k xs) && p k)
first_in p k x xs true e t rest = ap (λ s. s || is_in k (filter p xs)) t ∙ sym (ap (λ s. (s || is_in k xs) && p k) t ∙ sym e)
first_in p k x xs false e t rest =
    rest ∙ (ap (λ b. is_in k xs && b) (sym e) ∙ (and_none (is_in k xs) ∙ sym (ap (λ s. (s || is_in k xs) && p k) t ∙ sym e)))

later_in : (p : Key → Bool) (k x : Key) (xs : List Key) (b : Bool) → same x k ≡ false → is_in k (filter p xs) ≡ (is_in k xs && p k)
    → is_in k (cond b (x ∷ filter p xs) (filter p xs)) ≡ ((same x k || is_in k xs) && p k)
later_in p k x xs true f rest = ap (λ b. same x k || b) rest ∙ kept_and (same x k) (is_in k xs) (p k) f
later_in p k x xs false f rest = rest ∙ sym (ap (λ s. (s || is_in k xs) && p k) f)

-- a key is among those that pass a test where it is among all and passes
in_filter : (p : Key → Bool) (k : Key) (ks : List Key) → is_in k (filter p ks) ≡ (is_in k ks && p k)
in_filter p k [] = refl
in_filter p k (x ∷ xs) = elim (cases_Bool (same x k)) [
  | inl t ↦ first_in p k x xs (p x) (ap p (same-true x k t)) t (in_filter p k xs)
  | inr f ↦ later_in p k x xs (p x) f (in_filter p k xs)
]

present_in : (c : Core) (k : Key) → is_in k (map (λ (r : Resident). r.key) c.pages) ≡ core.is_present c k
present_in c k = any_map (λ j. same j k) (λ (r : Resident). r.key) c.pages ∙ sym (some_found (λ (r : Resident). same r.key k) c.pages)

dirty_present : (o : Option Resident) → dirties o ≡ true → is_some o ≡ true
dirty_present None e = absurd cc
dirty_present (Some r) e = refl

-- the dirty pages past a key are those that a flush has still to write
to_flush : (c : Core) (after : Option Key) (k : Key)
    → is_in k (filter (λ (j : Key). core.is_dirty c j && is_past after j) (map (λ (r : Resident). r.key) c.pages)) ≡ (core.is_present c k && (core.is_dirty c k && is_past after k))
to_flush c after k =
    in_filter (λ (j : Key). core.is_dirty c j && is_past after j) k (map (λ (r : Resident). r.key) c.pages)
    ∙ ap (λ b. b && (core.is_dirty c k && is_past after k)) (present_in c k)

among : (c : Core) (after : Option Key) (k : Key) → core.is_dirty c k ≡ true → is_past after k ≡ true
    → is_in k (filter (λ (j : Key). core.is_dirty c j && is_past after j) (map (λ (r : Resident). r.key) c.pages)) ≡ true
among c after k d p =
    to_flush c after k
    ∙ and_from (core.is_present c k) (core.is_dirty c k && is_past after k) (dirty_present (page_at c k) d) (and_from (core.is_dirty c k) (is_past after k) d p)

-- a page that a flush has still to write is dirty and past the key
still_dirty : (c : Core) (after : Option Key) (k : Key)
    → is_in k (filter (λ (j : Key). core.is_dirty c j && is_past after j) (map (λ (r : Resident). r.key) c.pages)) ≡ true → (core.is_dirty c k ≡ true) × (is_past after k ≡ true)
still_dirty c after k there =
    let parts = and_parts (core.is_present c k) (core.is_dirty c k && is_past after k) (sym (to_flush c after k) ∙ there) in
    and_parts (core.is_dirty c k) (is_past after k) parts.1

next_known : LeastIsFirst → (h : History Entry) (c : Core) (after : Option Key) (k : Key) → StandsFor h c → core.next_dirty c after ≡ Some k → IsNextToFlush c after k
next_known least_is h c after k st is =
    let ks = filter (λ (j : Key). core.is_dirty c j && is_past after j) (map (λ (r : Resident). r.key) c.pages) in
    let both = still_dirty c after k (least_is.found ks k is) in
    record {
      page = present_page h c k st (dirty_present (page_at c k) both.0);
      dirty = both.0;
      past = both.1;
      first = λ j d p. least_is.first ks k j is (among c after j d p);
    }

none_known : LeastIsFirst → (c : Core) (after : Option Key) (k : Key) → core.next_dirty c after ≡ None → is_past after k ≡ true → core.is_dirty c k ≡ false
none_known least_is c after k is past = elim (cases_Bool (core.is_dirty c k)) [
  | inl d ↦
      let ks = filter (λ (j : Key). core.is_dirty c j && is_past after j) (map (λ (r : Resident). r.key) c.pages) in
      let here = among c after k d past in
      let gone = least_is.none ks k is in
      absurd cc
  | inr n ↦ n
]

only_known : LeastIsFirst → (c : Core) (after : Option Key) (k : Key) → core.is_dirty c k ≡ true → is_past after k ≡ true
    → ((j : Key) → core.is_dirty c j ≡ true → is_past after j ≡ true → is_below j k ≡ false) → core.next_dirty c after ≡ Some k
only_known least_is c after k d p first =
    let ks = filter (λ (j : Key). core.is_dirty c j && is_past after j) (map (λ (r : Resident). r.key) c.pages) in
    least_is.only ks k (among c after k d p) (λ j there. let still = still_dirty c after j there in first j still.0 still.1)

empty_known : LeastIsFirst → (c : Core) (after : Option Key) → ((k : Key) → is_past after k ≡ true → core.is_dirty c k ≡ false) → core.next_dirty c after ≡ None
empty_known least_is c after clean =
    let ks = filter (λ (j : Key). core.is_dirty c j && is_past after j) (map (λ (r : Resident). r.key) c.pages) in
    least_is.empty ks (λ k. elim (cases_Bool (is_in k ks)) [
      | inl there ↦ let still = still_dirty c after k there in let gone = clean k still.1 in let dirty = still.0 in absurd cc
      | inr gone ↦ gone
    ])

pub flush_knows : LeastIsFirst → FlushKnows
flush_knows least_is = record { next = next_known least_is; none = none_known least_is; only = only_known least_is; empty = empty_known least_is }
