-- The counts that faults name, by the histories.
use Rattle.std.proofs.Common.{◌≡◌, ◌⊎◌, inl, inr, ℕ, ◌+◌, ◌/◌, ◌<◌, ◌≤◌, ◌==◌, ◌&&◌, ◌||◌, true, false, max, nat_lt, List, [], ◌∷◌, ◌++◌, length, Option, Some, None, slice_get, refl, sym, ap, subst, ◌∙◌, arith}
use Rattle.std.specs.List.{list_any}
use Rattle.std.proofs.lemmas.Bool.{cases_Bool, and_parts, or_cases, eqb-true, ltb-true, cond-true, cond-false, eq-eqb}
use Rattle.std.proofs.lemmas.List.{map-append}
use Rattle.std.proofs.lemmas.Nat.{mod_below}
use Rattle.std.proofs.lemmas.Option.{slice_get_within}
use Rattle.histories.specs.Histories.{History, by}
use Rattle.page_base.specs.Lanes.{Rose}
use Rattle.page_base.specs.declared.keys.Key.{Key}
use Rattle.page_base.specs.declared.keys.RegionShape.{RegionShape}
use Rattle.page_model.specs.declared.entry.Entry.{Entry}
use Rattle.page_model.specs.declared.entry.Entry.TheVariants.{ReadFailed, WriteFailed}
use Rattle.page_model.specs.Entries.{key_of, lies_in}
use Rattle.page_model.specs.Laws.{FaultsAreCounted}
use Rattle.page_model.specs.Legal.{IsLegal, MayFollow, is_of_stripe}
use Rattle.page_model.specs.Setups.{Setup, is_page_of}
use Rattle.page_model.specs.StoreFaults.{last_fault, CountsRise}
use Rattle.workload_text.specs.Grammar.{Region}
use Rattle.workload_text.specs.Line.{Line, load_line, store_line, flush_line, unmap_line}
use Rattle.flat_lines.specs.Spreads.{Spread, stripe_in}
use Rattle.script_run.specs.FitsSerial.{fault_count_in, counts_named, Rising, last_count, CountsFit}
use Rattle.script_run.specs.LineEntries.{Fails, Makes, AllMake}
use Rattle.script_run.specs.Replies.{Reply, fault, is_fault_reply}
use Rattle.script_run.proofs.InMemory.{AllKnown}
use Rattle.script_run.proofs.Raised.{make_tail, failed_last}

rose_by : (a n : ℕ) → (nat_lt a n || n == 18446744073709551615) ≡ true → Rose a n
rose_by a n e = elim (or_cases (nat_lt a n) (n == 18446744073709551615) e) [
  | inl lt ↦ let l = ltb-true a n lt in omega (arith, l)
  | inr is ↦ let l = eqb-true n 18446744073709551615 is in omega (arith, l)
]

-- the entry is a failure of this page with this number
abbrev pub IsFailureOf : Key → ℕ → Entry → Type 0
IsFailureOf k n e = (e ≡ ReadFailed k n) ⊎ (e ≡ WriteFailed k n)

shape_there : (u : Setup) (o : Option RegionShape) (k : Key) → is_page_of u o k ≡ true → (x : RegionShape) × (o ≡ Some x)
shape_there u None k e = absurd cc
shape_there u (Some x) k e = (x, refl)

module _ (law : FaultsAreCounted) (u : Setup) (r : ℕ) where
  -- the greatest number so far never falls
  pub last_grows : (xs ys : List Entry) → last_fault u (by 0 ys) r ≤ last_fault u (by 0 (xs ++ ys)) r
  last_grows xs ys = law.grows u (by 0 ys) (by 0 (xs ++ ys)) r (by 0 xs, map-append (λ (e : Entry). (0, e)) xs ys)

  record Failing (h : History Entry) (n : ℕ) (e : Entry) : Type 0 where
    rose : Rose (last_fault u h r) n
    told : n ≤ last_fault u ((0, e) ∷ h) r

  failing : (h : History Entry) (k : Key) (n : ℕ) (e : Entry) → (k.region == r) ≡ true → IsFailureOf k n e → MayFollow u h 0 e → Failing h n e
  failing h k n e of is may = record {
    rose = rose_by (last_fault u h r) n (subst (λ q. (nat_lt (last_fault u h q) n || n == 18446744073709551615) ≡ true) (eqb-true k.region r of) (rises is));
    told = let c = cond-true (k.region == r) (max n (last_fault u h r)) (last_fault u h r) of in elim is [
      | inl x ↦ subst (λ x. n ≤ last_fault u ((0, x) ∷ h) r) (sym x) (omega (arith, c))
      | inr x ↦ subst (λ x. n ≤ last_fault u ((0, x) ∷ h) r) (sym x) (omega (arith, c))
    ];
  }
    where
      rises : IsFailureOf k n e → CountsRise u h k.region n
      rises (inl x) = let m : MayFollow u h 0 (ReadFailed k n) = subst (MayFollow u h 0) x may in m.1
      rises (inr x) = let m : MayFollow u h 0 (WriteFailed k n) = subst (MayFollow u h 0) x may in m.1

  -- ---- the counts that lines name

  module _ (t : Spread) (s : ℕ) where
    -- one line
    record OneNamed (first : ℕ) (a : Reply) (made behind : List Entry) : Type 0 where
      rises : (ns : List ℕ) → Rising (last_count first (fault_count_in t s r a)) ns → Rising first (fault_count_in t s r a ++ ns)
      last_is : (ns : List ℕ) → last_count first (fault_count_in t s r a ++ ns) ≡ last_count (last_count first (fault_count_in t s r a)) ns
      within : last_count first (fault_count_in t s r a) ≤ last_fault u (by 0 (made ++ behind)) r

    named_none : (first : ℕ) (a : Reply) (made behind : List Entry) → fault_count_in t s r a ≡ [] → first ≤ last_fault u (by 0 behind) r → OneNamed first a made behind
    named_none first a made behind none le = record {
      rises = λ ns h. subst (λ xs. Rising (last_count first xs) ns → Rising first (xs ++ ns)) (sym none) (λ x. x) h;
      last_is = λ ns. ap (λ xs. last_count first (xs ++ ns)) none ∙ sym (ap (λ xs. last_count (last_count first xs) ns) none);
      within = subst (λ xs. last_count first xs ≤ last_fault u (by 0 (made ++ behind)) r) (sym none) (omega (arith, le, last_grows made behind));
    }

    named_one : (first n : ℕ) (a : Reply) (made behind : List Entry) → fault_count_in t s r a ≡ n ∷ [] → Rose first n → n ≤ last_fault u (by 0 (made ++ behind)) r → OneNamed first a made behind
    named_one first n a made behind is rose le = record {
      rises = λ ns h. subst (λ xs. Rising (last_count first xs) ns → Rising first (xs ++ ns)) (sym is) (λ x. (rose, x)) h;
      last_is = λ ns. ap (λ xs. last_count first (xs ++ ns)) is ∙ sym (ap (λ xs. last_count (last_count first xs) ns) is);
      within = subst (λ xs. last_count first xs ≤ last_fault u (by 0 (made ++ behind)) r) (sym is) le;
    }

    -- a line that named a fault
    named : (l : Line) (k ended : Key) (count done first : ℕ) (made behind : ℕ → List Entry) (m : Makes t l (fault k count done) behind made) (e : Entry) → m.failure ≡ e ∷ [] → Fails ended k count e → IsLegal u (by 0 (made s ++ behind s)) → first ≤ last_fault u (by 0 (behind s)) r
        → OneNamed first (fault k count done) (made s) (behind s)
    named l k ended count done first made behind m e fails why legal le = elim (cases_Bool (stripe_in t k == s && k.region == r)) [
      | inl y ↦
          let both = and_parts (stripe_in t k == s) (k.region == r) y in
          let is : IsFailureOf k count e = elim why [ inl x ↦ inl x.1 | inr x ↦ inr x ] in
          let at : lies_in (stripe_in t) s (key_of e) ≡ true = elim is [ inl x ↦ ap (λ q. lies_in (stripe_in t) s (key_of q)) x ∙ both.0 | inr x ↦ ap (λ q. lies_in (stripe_in t) s (key_of q)) x ∙ both.0 ] in
          let made_is = failed_last t l (fault k count done) made behind m e s fails at in
          let last : IsLegal u (by 0 (e ∷ (m.in_order.served s ++ behind s))) = subst (λ xs. IsLegal u (by 0 (xs ++ behind s))) made_is legal in
          let f = failing (by 0 (m.in_order.served s ++ behind s)) k count e both.1 is last.2 in
          named_one first count (fault k count done) (made s) (behind s) (cond-true (stripe_in t k == s && k.region == r) (count ∷ []) [] y)
          (omega (arith, le, last_grows (m.in_order.served s) (behind s), f.rose))
          (subst (λ xs. count ≤ last_fault u (by 0 (xs ++ behind s)) r) (sym made_is) f.told)
      | inr n ↦ named_none first (fault k count done) (made s) (behind s) (cond-false (stripe_in t k == s && k.region == r) (count ∷ []) [] n) le
    ]

    one_named : (l : Line) (a : Reply) (first : ℕ) (made behind : ℕ → List Entry) → Makes t l a behind made → IsLegal u (by 0 (made s ++ behind s)) → first ≤ last_fault u (by 0 (behind s)) r → OneNamed first a (made s) (behind s)
    one_named (load_line q off len) (fault k count done) first made behind m legal le = let f = m.failure_is in named (load_line q off len) k _ count done first made behind m f.0 f.1 f.2 legal le
    one_named (store_line q off bytes) (fault k count done) first made behind m legal le = let f = m.failure_is in named (store_line q off bytes) k _ count done first made behind m f.0 f.1 f.2 legal le
    one_named flush_line (fault k count done) first made behind m legal le = named flush_line k k count done first made behind m (WriteFailed k count) m.failure_is (inr refl) legal le
    one_named (unmap_line q) (fault k count done) first made behind m legal le = named (unmap_line q) k k count done first made behind m (WriteFailed k count) m.failure_is (inr refl) legal le
    one_named l (fault k count done) first made behind m legal le = absurd m.goes
    one_named l a first made behind m legal le = named_none first a (made s) (behind s) refl le

    pub all_named : (ls : List Line) (replies : List Reply) (behind all : ℕ → List Entry) (first : ℕ) → AllMake t ls replies behind all → IsLegal u (by 0 (all s)) → first ≤ last_fault u (by 0 (behind s)) r
        → CountsFit first (counts_named t s r replies) (last_fault u (by 0 (all s)) r)
    all_named [] [] behind all first m legal le = record { rising = tt; within = subst (λ es. first ≤ last_fault u (by 0 es) r) (sym (m s)) le }
    all_named [] (a ∷ more) behind all first m legal le = absurd m
    all_named (l ∷ ls) [] behind all first m legal le = absurd m
    all_named (l ∷ ls) (a ∷ more) behind all first m legal le =
        let here = make_tail t s u ls more (λ n. m.0 n ++ behind n) all m.2 legal in
        let one = one_named l a first m.0 behind m.1 here le in
        let rest = all_named ls more (λ n. m.0 n ++ behind n) all (last_count first (fault_count_in t s r a)) m.2 legal one.within in
        record {
          rising = one.rises (counts_named t s r more) rest.rising;
          within = subst (λ n. n ≤ last_fault u (by 0 (all s)) r) (sym (one.last_is (counts_named t s r more))) rest.within;
        }

-- ---- which lanes are named

-- the page of a failure is of a region that is there
failure_known : (u : Setup) (k : Key) (n : ℕ) (e : Entry) → IsFailureOf k n e → is_of_stripe u e ≡ true → k.region < length u.shapes
failure_known u k n e is of =
    let has : is_page_of u (slice_get u.shapes k.region) k ≡ true = elim is [ inl x ↦ ap (is_of_stripe u) (sym x) ∙ of | inr x ↦ ap (is_of_stripe u) (sym x) ∙ of ] in
    let s = shape_there u (slice_get u.shapes k.region) k has in
    slice_get_within u.shapes k.region s.0 s.1

module _ (t : Spread) (some_stripe : 0 < t.stripes) (setups : ℕ → Setup) (gs : List Region) (shaped : (s : ℕ) → length (setups s).shapes ≡ length gs) where
  one_known : (l : Line) (k ended : Key) (count done : ℕ) (made behind : ℕ → List Entry) (m : Makes t l (fault k count done) behind made) (e : Entry) → m.failure ≡ e ∷ [] → Fails ended k count e → ((s : ℕ) → s < t.stripes → IsLegal (setups s) (by 0 (made s ++ behind s))) → k.region < length gs
  one_known l k ended count done made behind m e fails why legal =
      let s : ℕ = stripe_in t k in
      let is : IsFailureOf k count e = elim why [ inl x ↦ inl x.1 | inr x ↦ inr x ] in
      let at : lies_in (stripe_in t) s (key_of e) ≡ true = elim is [ inl x ↦ ap (λ q. lies_in (stripe_in t) s (key_of q)) x ∙ eq-eqb s s refl | inr x ↦ ap (λ q. lies_in (stripe_in t) s (key_of q)) x ∙ eq-eqb s s refl ] in
      let last : IsLegal (setups s) (by 0 (e ∷ (m.in_order.served s ++ behind s))) = subst (λ xs. IsLegal (setups s) (by 0 (xs ++ behind s))) (failed_last t l (fault k count done) made behind m e s fails at) (legal s (mod_below (k.region + k.page / t.group_of k.region) t.stripes some_stripe)) in
      subst (λ n. k.region < n) (shaped s) (failure_known (setups s) k count e is last.1)

  fault_known : (l : Line) (k : Key) (count done : ℕ) (made behind : ℕ → List Entry) → Makes t l (fault k count done) behind made → ((s : ℕ) → s < t.stripes → IsLegal (setups s) (by 0 (made s ++ behind s))) → k.region < length gs
  fault_known (load_line q off len) k count done made behind m legal = let f = m.failure_is in one_known (load_line q off len) k _ count done made behind m f.0 f.1 f.2 legal
  fault_known (store_line q off bytes) k count done made behind m legal = let f = m.failure_is in one_known (store_line q off bytes) k _ count done made behind m f.0 f.1 f.2 legal
  fault_known flush_line k count done made behind m legal = one_known flush_line k k count done made behind m (WriteFailed k count) m.failure_is (inr refl) legal
  fault_known (unmap_line q) k count done made behind m legal = one_known (unmap_line q) k k count done made behind m (WriteFailed k count) m.failure_is (inr refl) legal
  fault_known l k count done made behind m legal = absurd m.goes

  -- faults name regions that are there
  pub named_known : (ls : List Line) (replies : List Reply) (behind all : ℕ → List Entry) → AllMake t ls replies behind all → ((s : ℕ) → s < t.stripes → IsLegal (setups s) (by 0 (all s))) → AllKnown gs replies
  named_known [] [] behind all m legal = tt
  named_known [] (a ∷ more) behind all m legal = absurd m
  named_known (l ∷ ls) [] behind all m legal = absurd m
  named_known (l ∷ ls) (fault k count done ∷ more) behind all m legal = (
    fault_known l k count done m.0 behind m.1 (λ s below. make_tail t s (setups s) ls more (λ n. m.0 n ++ behind n) all m.2 (legal s below)),
    named_known ls more (λ n. m.0 n ++ behind n) all m.2 legal,
  )
  named_known (l ∷ ls) (a ∷ more) behind all m legal = named_known ls more (λ n. m.0 n ++ behind n) all m.2 legal

-- where no reply is a fault, no count is named
pub none_counted_by : (t : Spread) (s r : ℕ) (replies : List Reply) → list_any is_fault_reply replies ≡ false → counts_named t s r replies ≡ []
none_counted_by t s r [] none = refl
none_counted_by t s r (fault k count done ∷ more) none = absurd (cc)
none_counted_by t s r (a ∷ more) none = none_counted_by t s r more none
