-- Writing the dirty pages, one after another in order of key, and which pages are dirty behind a write.
use Rattle.std.proofs.Common.{Bool, None, Option, Some, ap, false, inl, inr, not, refl, sym, true, ◌&&◌, ◌∙◌, ◌≡◌, Err, IfErr, List, Ok, OnOk, Result, [], arith, cond, filter, find, is_err, length, map, nat_lt, subst, suc, ℕ, ◌*◌, ◌+◌, ◌++◌, ◌/◌, ◌%◌, ◌∷◌, ◌==◌, ◌≤◌, ◌||◌}
use Rattle.std.specs.Option.{option_map}
use Rattle.page_base.specs.declared.keys.Key.{Key}
use Rattle.page_model.specs.Core.{Core, Resident, dirties, is_dirty, next_dirty}
use Rattle.page_model.specs.Steps.{on_page}
use Rattle.serial_pager.specs.declared.fault.PageFault.{PageFault}
use Rattle.serial_pager.specs.InsideServices.{FailsToWrite, Writes, Tries}
use Rattle.serial_pager.proofs.Turns.{cases_key}
use Rattle.serial_pager.proofs.Pages.{page_in, changed_here, changed_other, changed_keys, same-true, same_self}
use Rattle.std.proofs.Math.Bool.{or_comm}
use Rattle.std.proofs.Math.Nat.{div-le_self}
use Rattle.std.proofs.lemmas.Bool.{and_from, and_parts, cases_Bool, eq-eqb, false_from_ne_true, or_cases, or_left, or_parts, or_right}
use Rattle.std.proofs.lemmas.Bool.Decides.{nat_tests}
use Rattle.std.proofs.lemmas.List.Filters.{length-filter_both}
use Rattle.std.proofs.lemmas.List.Folds.{list_any-append}
use Rattle.std.specs.List.{AllByRecursion, list_any}
use Rattle.histories.specs.Histories.{History}
use Rattle.page_base.specs.KeyOrder.{is_below, is_past}
use Rattle.page_base.specs.Pages.{quota_of, same}
use Rattle.page_model.specs.declared.entry.Cause.TheVariants.{Flush}
use Rattle.page_model.specs.declared.entry.Entry.{Entry}
use Rattle.page_model.specs.declared.entry.Entry.TheVariants as entry
use Rattle.page_model.specs.Residents.{is_in}
use Rattle.page_model.specs.Readers.{IsNextToFlush}
use Rattle.serial_pager.specs.InsideGoings.{FailsToWriteOut, TriesToWrite, WritesOut, WroteBack}
use Rattle.serial_pager.specs.Rests.{ClosesSame, IsAtRest}
use Rattle.serial_pager.specs.Seen.{StripeSeen}
use Rattle.serial_pager.specs.Goings.{Did}
use Rattle.serial_pager.specs.Writings.{Falls, TriesDirty, WritesAll, WritesUpTo, flushes, is_failed_write, is_failed_write_of, tries}
use Rattle.page_model.specs.Setups.{has_page}
use Rattle.serial_pager.proofs.Closed.{closes_nothing, closes_same}
use Rattle.serial_pager.proofs.Goes.{all_both, went_nowhere, went_twice}
use Rattle.serial_pager.proofs.Loops.{list_weaker}
use Rattle.serial_pager.proofs.ModelLaws.{Laws}

abbrev begun : Resident → Resident
begun r = record r { protected = true }

abbrev ended : Resident → Resident
ended r = record r { dirty = r.dirty && not r.protected }

and_false : (b : Bool) → (b && false) ≡ false
and_false true = refl
and_false false = refl

begun_dirty : (o : Option Resident) → dirties (option_map begun o) ≡ dirties o
begun_dirty None = refl
begun_dirty (Some r) = refl

ended_clean : (o : Option Resident) → dirties (option_map ended (option_map begun o)) ≡ false
ended_clean None = refl
ended_clean (Some r) = and_false r.dirty

module _ (c d : Core) (k : Key) where
  pub written_clean : Writes k c d → is_dirty d k ≡ false
  written_clean w =
      ap (λ (x : Core). is_dirty x k) w.is
      ∙ (ap dirties (changed_here k ended (on_page k begun c.pages) (λ r. refl)) ∙ (ap (λ o. dirties (option_map ended o)) (changed_here k begun c.pages (λ r. refl)) ∙ ended_clean (page_in c.pages k)))

  pub written_other : Writes k c d → (j : Key) → (k ≡ j → ⊥) → is_dirty d j ≡ is_dirty c j
  written_other w j ne = ap (λ (x : Core). is_dirty x j) w.is ∙ ap dirties (changed_other k ended (on_page k begun c.pages) j (λ r. refl) ne ∙ changed_other k begun c.pages j (λ r. refl) ne)

  pub written_dirty : Writes k c d → (j : Key) → is_dirty d j ≡ true → is_dirty c j ≡ true
  written_dirty w j e = elim (cases_key k j) [
    | inl here ↦ absurd (let no : true ≡ false = sym e ∙ (ap (is_dirty d) (sym here) ∙ written_clean w) in cc)
    | inr ne ↦ sym (written_other w j ne) ∙ e
  ]

  pub unwritten_dirty : (f : PageFault) → FailsToWrite k c d f → (j : Key) → is_dirty d j ≡ is_dirty c j
  unwritten_dirty f w j = ap (λ (x : Core). is_dirty x j) w.is ∙ elim (cases_key k j) [
    | inl here ↦ ap (λ x. dirties (page_in (on_page x begun c.pages) j)) here ∙ (ap dirties (changed_here j begun c.pages (λ r. refl)) ∙ begun_dirty (page_in c.pages j))
    | inr ne ↦ ap dirties (changed_other k begun c.pages j (λ r. refl) ne)
  ]

-- ---- one page

-- what a try to write a page does, by its answer
pub tries_page : {X : Type 0} (c d : Core) (k : Key) (r : Result X PageFault) → OnOk r (Writes k c d) → IfErr r (λ f. FailsToWrite k c d f) → Tries k (is_err r) c d
tries_page c d k (Ok x) w f = w
tries_page c d k (Err fault) w f = (fault, f)

pub tries_entries : {J X : Type 0} (noted : J → History Entry → Type 0) (k : Key) (a b : StripeSeen J) (r : Result X PageFault) → OnOk r (WritesOut 0 noted k Flush a b)
    → IfErr r (λ f. FailsToWriteOut 0 noted k Flush a b f) → TriesToWrite 0 noted k (is_err r) a b
tries_entries noted k a b (Ok x) w f = w
tries_entries noted k a b (Err fault) w f = (fault, f)

abbrev pub keys_in : Core → List Key
keys_in c = map (λ (r : Resident). r.key) c.pages

module _ (c d : Core) (k : Key) where
  pub page_dirty : (now : Bool) → Tries k now c d → (j : Key) → is_dirty d j ≡ true → is_dirty c j ≡ true
  page_dirty true t j e = sym (unwritten_dirty c d k t.0 t.1 j) ∙ e
  page_dirty false t j e = written_dirty c d k t j e

  pub page_other : (now : Bool) → Tries k now c d → (j : Key) → (k ≡ j → ⊥) → is_dirty d j ≡ is_dirty c j
  page_other true t j ne = unwritten_dirty c d k t.0 t.1 j
  page_other false t j ne = written_other c d k t j ne

  pub page_keys : (now : Bool) → Tries k now c d → keys_in d ≡ keys_in c
  page_keys true t = ap keys_in t.1.is ∙ changed_keys k (λ (r : Resident). record r { protected = true }) c.pages (λ r. refl)
  page_keys false t =
      ap keys_in t.is
      ∙ (changed_keys k (λ (r : Resident). record r { dirty = r.dirty && not r.protected }) (map (λ (r : Resident). cond (same r.key k) (record r { protected = true }) r) c.pages) (λ r. refl)
      ∙ changed_keys k (λ (r : Resident). record r { protected = true }) c.pages (λ r. refl))

-- ---- the entries of writes for a flush

module _ {J : Type 0} (noted : J → History Entry → Type 0) where
  abbrev pub back_none : (a : StripeSeen J) → WroteBack 0 noted false a a
  back_none a = record { entries = []; pass = refl; fails = refl; went = went_nowhere noted a }

  abbrev pub back_twice : (f g : Bool) (a b c : StripeSeen J) → WroteBack 0 noted f a b → WroteBack 0 noted g b c → WroteBack 0 noted (f || g) a c
  back_twice f g a b c one two = record {
    entries = two.entries ++ one.entries;
    pass = all_both noted flushes two.entries one.entries two.pass one.pass;
    fails = list_any-append is_failed_write two.entries one.entries ∙ (ap (λ x. x || list_any is_failed_write one.entries) two.fails ∙ (ap (λ x. g || x) one.fails ∙ or_comm g f));
    went = went_twice noted one.entries two.entries a b c one.went two.went;
  }

  -- the entries of one write tell whether it failed
  abbrev pub page_back : (k : Key) (a b : StripeSeen J) (now : Bool) → TriesToWrite 0 noted k now a b → WroteBack 0 noted now a b
  page_back k a b true w = record { entries = entry.WriteFailed k w.0.faults ∷ entry.StartWrite k Flush ∷ []; pass = refl; fails = refl; went = w.1 }
  page_back k a b false w = record { entries = entry.Written k w.0 w.1 ∷ entry.StartWrite k Flush ∷ []; pass = refl; fails = refl; went = w.2 }

  pub page_tries : (k : Key) (a b : StripeSeen J) (now : Bool) (w : TriesToWrite 0 noted k now a b) (es : List Entry) → tries ((page_back k a b now w).entries ++ es) ≡ k ∷ tries es
  page_tries k a b true w es = refl
  page_tries k a b false w es = refl

  pub page_events : (k : Key) (a b : StripeSeen J) (now : Bool) (w : TriesToWrite 0 noted k now a b) → b.core.events ≡ a.core.events + 2
  page_events k a b true w = w.1.events
  page_events k a b false w = w.2.events

-- where no write failed, none of a region did
fails_of : (r : ℕ) (e : Entry) → is_failed_write e ≡ false → is_failed_write_of r e ≡ false
fails_of r (entry.WriteFailed k n) h = absurd cc
fails_of r e h = refl

none_failed_of : (r : ℕ) (es : List Entry) → list_any is_failed_write es ≡ false → list_any (is_failed_write_of r) es ≡ false
none_failed_of r [] h = refl
none_failed_of r (e ∷ es) h =
    let parts = or_parts (is_failed_write e) (list_any is_failed_write es) h in
    ap (λ x. x || list_any (is_failed_write_of r) es) (fails_of r e parts.0) ∙ none_failed_of r es parts.1

-- ---- keys in their order

before_next : (after : Option Key) (j k : Key) → is_past after j ≡ false → is_past after k ≡ true → is_below j k ≡ true
before_next None j k e f = absurd cc
before_next (Some a) j k e f = grind (arith, nat_tests)

past_through : (after : Option Key) (k j : Key) → is_past after k ≡ true → is_below k j ≡ true → is_past after j ≡ true
past_through None k j e f = refl
past_through (Some a) k j e f = grind (arith, nat_tests)

not_below_self : (k : Key) → is_below k k ≡ false
not_below_self k = grind (arith, nat_tests)

below_apart : (j k : Key) → is_below j k ≡ true → is_below k j ≡ false
below_apart j k e = grind (arith, nat_tests)

above_other : (j k : Key) → same k j ≡ false → is_below j k ≡ false → is_below k j ≡ true
above_other j k e f = grind (arith, nat_tests)

all_from : (P : Key → Type 0) (all ks : List Key) → ((j : Key) → is_in j ks ≡ true → is_in j all ≡ true) → ((j : Key) → is_in j all ≡ true → P j) → AllByRecursion P ks
all_from P all [] sub p = tt
all_from P all (k ∷ ks) sub p =
    (p k (sub k (or_left (same k k) (is_in k ks) (same_self k))), all_from P all ks (λ j e. sub j (or_right (same k j) (is_in j ks) e)) p)

-- ---- how many pages are left

fewer_kept : (P Q : Key → Bool) (ks : List Key) → ((j : Key) → Q j ≡ true → P j ≡ true) → length (filter Q ks) ≤ length (filter P ks)
fewer_kept P Q [] weak = omega arith
fewer_kept P Q (x ∷ xs) weak = go (P x) (Q x) (weak x) (fewer_kept P Q xs weak)
  where
    go : (p q : Bool) → (q ≡ true → p ≡ true) → length (filter Q xs) ≤ length (filter P xs) → length (cond q (x ∷ filter Q xs) (filter Q xs)) ≤ length (cond p (x ∷ filter P xs) (filter P xs))
    go true true w ih = omega (arith, ih)
    go true false w ih = omega (arith, ih)
    go false true w ih = absurd (let no = w refl in cc)
    go false false w ih = ih

one_less : (P Q : Key → Bool) (ks : List Key) (k : Key) → ((j : Key) → Q j ≡ true → P j ≡ true) → is_in k ks ≡ true → P k ≡ true → Q k ≡ false → length (filter Q ks) + 1 ≤ length (filter P ks)
one_less P Q [] k weak there p q = absurd cc
one_less P Q (x ∷ xs) k weak there p q = elim (or_cases (same x k) (is_in k xs) there) [
  | inl t ↦
      let is : x ≡ k = same-true x k t in
      here (P x) (Q x) (ap P is ∙ p) (ap Q is ∙ q) (fewer_kept P Q xs weak)
  | inr later ↦ go (P x) (Q x) (weak x) (one_less P Q xs k weak later p q)
]
  where
    here : (p q : Bool) → p ≡ true → q ≡ false → length (filter Q xs) ≤ length (filter P xs) → length (cond q (x ∷ filter Q xs) (filter Q xs)) + 1 ≤ length (cond p (x ∷ filter P xs) (filter P xs))
    here true true e f ih = absurd cc
    here true false e f ih = omega (arith, ih)
    here false q e f ih = absurd cc

    go : (p q : Bool) → (q ≡ true → p ≡ true) → length (filter Q xs) + 1 ≤ length (filter P xs) → length (cond q (x ∷ filter Q xs) (filter Q xs)) + 1 ≤ length (cond p (x ∷ filter P xs) (filter P xs))
    go true true w ih = omega (arith, ih)
    go true false w ih = omega (arith, ih)
    go false true w ih = absurd (let no = w refl in cc)
    go false false w ih = ih

pub length_keys : (rs : List Resident) → length (map (λ (r : Resident). r.key) rs) ≡ length rs
length_keys [] = refl
length_keys (r ∷ rs) = ap suc (length_keys rs)

dirty_in : (rs : List Resident) (k : Key) → dirties (find (λ (r : Resident). same r.key k) rs) ≡ true → is_in k (map (λ (r : Resident). r.key) rs) ≡ true
dirty_in [] k e = absurd cc
dirty_in (r ∷ rs) k e = go (same r.key k) e (dirty_in rs k)
  where
    go : (b : Bool) → dirties (cond b (Some r) (find (λ (x : Resident). same x.key k) rs)) ≡ true → (dirties (find (λ (x : Resident). same x.key k) rs) ≡ true → is_in k (map (λ (x : Resident). x.key) rs) ≡ true) → (b || is_in k (map (λ (x : Resident). x.key) rs)) ≡ true
    go true e ih = refl
    go false e ih = ih e

-- how many dirty pages past a key a stripe has
abbrev pub left : Core → Option Key → ℕ
left c after = length (filter (λ (j : Key). is_dirty c j && is_past after j) (keys_in c))

-- ---- the pages, one after another

-- what trying to write the dirty pages that aren't past a key has done
pub record Tried {J : Type 0} (has_noted : J → History Entry → Type 0) (after : Option Key) (failed : Bool) (old new : StripeSeen J) : Type 0 where
  pub rest : IsAtRest new.core
  pub back : WroteBack 0 has_noted failed old new
  pub clean : (j : Key) → is_past after j ≡ false → list_any (is_failed_write_of j.region) back.entries ≡ false → is_dirty new.core j ≡ false
  pub ahead : (j : Key) → is_past after j ≡ true → is_dirty new.core j ≡ is_dirty old.core j
  pub rising : Falls (tries back.entries)
  pub each : (j : Key) → is_in j (tries back.entries) ≡ (is_dirty old.core j && not (is_past after j))
  pub few : new.core.events + 2 * left new.core after ≤ old.core.events + 2 * left old.core None

pub or_false : (b : Bool) → (b || false) ≡ b
or_false true = refl
or_false false = refl

and_true : (b : Bool) → (b && true) ≡ b
and_true true = refl
and_true false = refl

none_of : (b : Bool) → false ≡ (b && not true)
none_of true = refl
none_of false = refl

module _ {J : Type 0} (noted : J → History Entry → Type 0) where
  pub tried_none : (a : StripeSeen J) → IsAtRest a.core → Tried noted None false a a
  tried_none a rest = record {
    rest = rest;
    back = back_none noted a;
    clean = λ j e none. absurd cc;
    ahead = λ j e. refl;
    rising = tt;
    each = λ j. none_of (is_dirty a.core j);
    few = omega arith;
  }

module _ {J : Type 0} (noted : J → History Entry → Type 0) (laws : Laws) (after : Option Key) (failed now : Bool) (k : Key) (o a b : StripeSeen J)
    (t : Tried noted after failed o a) (next : IsNextToFlush a.core after k) (rest : IsAtRest b.core) (does : Tries k now a.core b.core) (went : TriesToWrite 0 noted k now a b) where
  abbrev back : WroteBack 0 noted (failed || now) o b
  back = back_twice noted failed now o a b t.back (page_back noted k a b now went)

  keyed : tries back.entries ≡ k ∷ tries t.back.entries
  keyed = page_tries noted k a b now went t.back.entries

  dirty_first : is_dirty o.core k ≡ true
  dirty_first = sym (t.ahead k next.past) ∙ next.dirty

  -- a page between the one before and this one is clean
  passed : (j : Key) → same k j ≡ false → is_below k j ≡ false → is_past after j ≡ true → is_dirty a.core j ≡ false
  passed j ne low past = false_from_ne_true (is_dirty a.core j) (λ d.
      let first : is_below j k ≡ false = next.first j d past in
      let above : is_below k j ≡ true = above_other j k ne first in
      let no : true ≡ false = sym above ∙ low in cc)

  tried_before : (j : Key) → is_in j (tries t.back.entries) ≡ true → is_below j k ≡ true
  tried_before j there =
      let parts = and_parts (is_dirty o.core j) (not (is_past after j)) (sym (t.each j) ∙ there) in
      before_next after j k (not_true (is_past after j) parts.1) next.past
    where
      not_true : (x : Bool) → not x ≡ true → x ≡ false
      not_true true e = absurd cc
      not_true false e = refl

  each_other : (j : Key) → same k j ≡ false → (is_dirty o.core j && not (is_past after j)) ≡ (is_dirty o.core j && not (is_below k j))
  each_other j ne = elim (cases_Bool (is_past after j)) [
    | inl past ↦ elim (cases_Bool (is_dirty o.core j)) [
      | inl d ↦
          let above : is_below k j ≡ true = above_other j k ne (next.first j (t.ahead j past ∙ d) past) in
          ap (λ x. is_dirty o.core j && not x) (past ∙ sym above)
      | inr d ↦ ap (λ x. x && not (is_past after j)) d ∙ sym (ap (λ x. x && not (is_below k j)) d)
    ]
    | inr before ↦
        let low : is_below k j ≡ false = below_apart j k (before_next after j k before next.past) in
        ap (λ x. is_dirty o.core j && not x) (before ∙ sym low)
  ]

  each : (j : Key) → is_in j (tries back.entries) ≡ (is_dirty o.core j && not (is_below k j))
  each j = ap (is_in j) keyed ∙ elim (cases_Bool (same k j)) [
    | inl t' ↦
        let is : k ≡ j = same-true k j t' in
        let low : is_below k j ≡ false = ap (is_below k) (sym is) ∙ not_below_self k in
        let d : is_dirty o.core j ≡ true = ap (is_dirty o.core) (sym is) ∙ dirty_first in
        ap (λ x. x || is_in j (tries t.back.entries)) t' ∙ sym (ap (λ x. x && not (is_below k j)) d ∙ ap not low)
    | inr ne ↦ ap (λ x. x || is_in j (tries t.back.entries)) ne ∙ (t.each j ∙ each_other j ne)
  ]

  clean : (j : Key) → is_below k j ≡ false → list_any (is_failed_write_of j.region) back.entries ≡ false → is_dirty b.core j ≡ false
  clean j low none = false_from_ne_true (is_dirty b.core j) (λ d.
      let its : List Entry = (page_back noted k a b now went).entries in
      let both : (list_any (is_failed_write_of j.region) its || list_any (is_failed_write_of j.region) t.back.entries) ≡ false = sym (list_any-append (is_failed_write_of j.region) its t.back.entries) ∙ none in
      let parts = or_parts (list_any (is_failed_write_of j.region) its) (list_any (is_failed_write_of j.region) t.back.entries) both in
      elim (cases_Bool (same k j)) [
        | inl t' ↦ itself (same-true k j t') now went parts.0 does d
        | inr ne ↦
            let was = page_dirty a.core b.core k now does j d in
            elim (cases_Bool (is_past after j)) [
              | inl past ↦ let gone = passed j ne low past in let no : true ≡ false = sym was ∙ gone in cc
              | inr before ↦ let gone = t.clean j before parts.1 in let no : true ≡ false = sym was ∙ gone in cc
            ]
      ])
    where
      itself : k ≡ j → (x : Bool) (w : TriesToWrite 0 noted k x a b) → list_any (is_failed_write_of j.region) (page_back noted k a b x w).entries ≡ false → Tries k x a.core b.core → is_dirty b.core j ≡ true → ⊥
      itself is true went' n f d =
          let here : (k.region == j.region) ≡ true = eq-eqb k.region j.region (ap (λ (i : Key). i.region) is) in
          let gone : (k.region == j.region) ≡ false = (or_parts (k.region == j.region) false n).0 in
          let no : true ≡ false = sym here ∙ gone in cc
      itself is false went' n w d = let gone : is_dirty b.core j ≡ false = ap (is_dirty b.core) (sym is) ∙ written_clean a.core b.core k w in let no : true ≡ false = sym d ∙ gone in cc

  ahead : (j : Key) → is_below k j ≡ true → is_dirty b.core j ≡ is_dirty o.core j
  ahead j above =
      page_other a.core b.core k now does j (λ is. let no : true ≡ false = sym above ∙ (ap (λ x. is_below k x) (sym is) ∙ not_below_self k) in cc)
      ∙ t.ahead j (past_through after k j next.past above)

  pub left_less : left b.core (Some k) + 1 ≤ left a.core after
  left_less =
      let P : Key → Bool = λ j. is_dirty a.core j && is_past after j in
      let Q : Key → Bool = λ j. is_dirty b.core j && is_past (Some k) j in
      let weak : (j : Key) → Q j ≡ true → P j ≡ true = λ j e.
      let parts = and_parts (is_dirty b.core j) (is_past (Some k) j) e in
      and_from (is_dirty a.core j) (is_past after j) (page_dirty a.core b.core k now does j parts.0) (past_through after k j next.past parts.1) in
      let none : Q k ≡ false = last (is_dirty b.core k) (is_below k k) (not_below_self k) in
      let less = one_less P Q (keys_in a.core) k weak (dirty_in a.core.pages k next.dirty) (and_from (is_dirty a.core k) (is_past after k) next.dirty next.past) none in
      subst (λ ks. length (filter Q ks) + 1 ≤ length (filter P (keys_in a.core))) (sym (page_keys a.core b.core k now does)) less
    where
      last : (x y : Bool) → y ≡ false → (x && y) ≡ false
      last true y e = e
      last false y e = refl

  pub tried_more : Tried noted (Some k) (failed || now) o b
  tried_more = record {
    rest = rest;
    back = back;
    clean = clean;
    ahead = ahead;
    rising = subst Falls (sym keyed) (all_from (λ j. is_below j k ≡ true) (tries t.back.entries) (tries t.back.entries) (λ j e. e) tried_before, t.rising);
    each = each;
    few = let sofar = t.few in let less = left_less in let two = page_events noted k a b now went in omega (arith, sofar, less, two);
  }

-- ---- the end

module _ {J : Type 0} (noted : J → History Entry → Type 0) (laws : Laws) (after : Option Key) (failed : Bool) (o a : StripeSeen J) (t : Tried noted after failed o a) (end : next_dirty a.core after ≡ None) where
  clean_past : (j : Key) → is_past after j ≡ true → is_dirty a.core j ≡ false
  clean_past j past = laws.flush.none a.core after j end past

  pub each_once : TriesDirty o.core t.back.entries
  each_once = record { rising = t.rising; each = λ j. t.each j ∙ whole j }
    where
      whole : (j : Key) → (is_dirty o.core j && not (is_past after j)) ≡ is_dirty o.core j
      whole j = elim (cases_Bool (is_past after j)) [
        | inl past ↦
            let d : is_dirty o.core j ≡ false = sym (t.ahead j past) ∙ clean_past j past in
            ap (λ x. x && not (is_past after j)) d ∙ sym d
        | inr before ↦ ap (λ x. is_dirty o.core j && not x) before ∙ and_true (is_dirty o.core j)
      ]

pub flush_closes : (e : Entry) → flushes e ≡ true → closes_nothing e ≡ true
flush_closes (entry.Closing r) e = absurd cc
flush_closes x e = refl

-- a flush leaves which regions close
pub flushes_close : (laws : Laws) {J : Type 0} (noted : J → History Entry → Type 0) (failed : Bool) (old new : StripeSeen J) → IsAtRest old.core → WroteBack 0 noted failed old new → ClosesSame old.core new.core
flushes_close laws noted failed old new a w = closes_same laws noted w.entries old new a w.went (list_weaker flushes closes_nothing w.entries flush_closes w.pass)

-- ---- a flush

-- it ended, since nothing past the last page is dirty
pub flushed : {J : Type 0} (noted : J → History Entry → Type 0) (laws : Laws) (after : Option Key) (o a : StripeSeen J) → Tried noted after false o a → next_dirty a.core after ≡ None → Did 0 noted WritesAll o a
flushed noted laws after o a t end = record {
  entries = t.back.entries;
  went = t.back.went;
  how = record {
    pass = t.back.pass;
    none = t.back.fails;
    once = each_once noted laws after false o a t end;
    clean = λ j. elim (cases_Bool (is_past after j)) [
      | inl past ↦ clean_past noted laws after false o a t end j past
      | inr before ↦ t.clean j before (none_failed_of j.region t.back.entries t.back.fails)
    ];
  };
}

-- or the write of the next page failed
module _ {J : Type 0} (noted : J → History Entry → Type 0) (laws : Laws) (after : Option Key) (f : PageFault) (o a b : StripeSeen J)
    (t : Tried noted after false o a) (next : IsNextToFlush a.core after f.key) (rest : IsAtRest b.core) (does : FailsToWrite f.key a.core b.core f) (went : FailsToWriteOut 0 noted f.key Flush a b f) where
  more : Tried noted (Some f.key) true o b
  more = tried_more noted laws after false true f.key o a b t next rest (f, does) (f, went)

  clean_below : (j : Key) → is_below j f.key ≡ true → is_dirty b.core j ≡ false
  clean_below j low = unwritten_dirty a.core b.core f.key f does j ∙ elim (cases_Bool (is_past after j)) [
    | inl past ↦ passed noted laws after false true f.key o a b t next rest (f, does) (f, went) j (other j low) (below_apart j f.key low) past
    | inr before ↦ t.clean j before (none_failed_of j.region t.back.entries t.back.fails)
  ]
    where
      other : (j : Key) → is_below j f.key ≡ true → same f.key j ≡ false
      other j low = false_from_ne_true (same f.key j) (λ e. let is = same-true f.key j e in let no : true ≡ false = sym low ∙ (ap (λ x. is_below x f.key) (sym is) ∙ not_below_self f.key) in cc)

  stays_above : (j : Key) → is_below j f.key ≡ false → is_dirty b.core j ≡ is_dirty o.core j
  stays_above j high = elim (cases_Bool (same f.key j)) [
    | inl e ↦ unwritten_dirty a.core b.core f.key f does j ∙ t.ahead j (subst (λ (x : Key). is_past after x ≡ true) (same-true f.key j e) next.past)
    | inr ne ↦ more.ahead j (above_other j f.key ne high)
  ]

  pub flush_failed : Did 0 noted (WritesUpTo f) o b
  unfolding more tried_more
  flush_failed = record {
    entries = more.back.entries;
    went = more.back.went;
    how = record {
      page = subst (λ s. has_page s f.key ≡ true) t.back.went.setup next.page;
      before = t.back.entries;
      is = refl;
      pass = t.back.pass;
      none = t.back.fails;
      rising = more.rising;
      each = more.each;
      clean = clean_below;
      stays = stays_above;
    };
  }

  pub flush_failed_closes : IsAtRest o.core → ClosesSame o.core b.core
  flush_failed_closes old = flushes_close laws noted true o b old more.back

pub quota_most : (frames stripes number : ℕ) → quota_of frames stripes number ≤ frames + 1
quota_most frames stripes number = go (nat_lt number (frames % stripes))
  where
    go : (b : Bool) → cond b (frames / stripes + 1) (frames / stripes) ≤ frames + 1
    go true = let most = div-le_self frames stripes in omega (arith, most)
    go false = let most = div-le_self frames stripes in omega (arith, most)

-- as many entries as there may be: two for each resident page
pub room_left : (laws : Laws) (c : Core) → IsAtRest c → 2 * left c None + 2 ≤ 4194304
room_left laws c rest =
    let few = length-filter_both (λ (j : Key). is_dirty c j && is_past None j) (λ (j : Key). not (is_dirty c j && is_past None j)) (λ j. refl) (keys_in c) in
    let as_many = length_keys c.pages in
    let within = laws.knows.within rest.history c rest.stands in
    let frames = rest.bounded.few_frames in
    let share = quota_most c.setup.frames c.setup.stripes c.setup.number in
    omega (arith, few, as_many, within, frames, share)
