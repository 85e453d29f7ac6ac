-- A clean page is kept as it is; a page that is not resident is clean.
use Rattle.std.proofs.Common.{Bool, List, None, Option, Some, [], ap, arith, cond, false, inl, inr, is_some, length, map, nat_lt, not, refl, slice_index, subst, sym, true, unwrap_or, ℕ, ◌&&◌, ◌++◌, ◌-◌, ◌<◌, ◌==◌, ◌||◌, ◌∙◌, ◌∷◌, ◌≡◌}
use mathlib.Core.Path.{fun_ext}
use Rattle.std.proofs.lemmas.Bool.{OnTrue_at, and_from, and_parts, cases_Bool, cond-true, false_from_ne_true, ltb-true, not-false, not-true, or_cases, or_right}
use Rattle.std.proofs.lemmas.List.FromFn.{fill_by_all}
use Rattle.std.specs.List.{range_with_len}
use Rattle.histories.specs.Histories.{History}
use Rattle.page_base.specs.Pages.{same}
use Rattle.page_base.specs.declared.keys.Key.{Key}
use Rattle.page_model.specs.declared.entry.Entry.{Entry}
use Rattle.page_model.specs.declared.entry.Entry.TheVariants.{Evicted, Filled, Opened, ReadFailed, Save, StartRead, StartWrite, WriteFailed, Written}
use Rattle.page_model.specs.Bits.{is_dirty, is_protected, is_some_and, opened_at, written_since}
use Rattle.page_model.specs.Faults.{is_write, last_why}
use Rattle.page_model.specs.InFlight.{InFlight, before_start, in_flight, is_reading}
use Rattle.page_model.specs.Laws.{AbsentIsKept, CleanIsKept}
use Rattle.page_model.specs.Legal.{IsLegal, MayFinishWrite}
use Rattle.page_model.specs.Memory.{byte, covers, flat, kept}
use Rattle.page_model.specs.Residents.{is_in, is_resident, residents, without}
use Rattle.page_model.specs.Setups.{Setup, base_of, is_told}
use Rattle.page_model.proofs.Bits.{opened_since, unprotected_dirty, writing_dirty, written_below}
use Rattle.page_model.proofs.Flight.{before_is, own, started_before, when_end, when_start}
use Rattle.page_model.proofs.Keys.{other_region, same-true}
use Rattle.page_model.proofs.Lists.{any_grows, filter_any, last_any}
use Rattle.page_model.proofs.Nexts.{open_page_is}
use Rattle.page_model.proofs.Raises.{apart, filled_was_reading}

-- ---- a page that is not resident is clean

clean_other : (b : Bool) (x y : Option ℕ) (f : ℕ → Bool) → b ≡ false → is_some_and (λ c. not (f c)) y ≡ false → is_some_and (λ c. not (f c)) (cond b x y) ≡ false
clean_other b x y f e d = rw e d

clean_written : (b : Bool) (f : ℕ → Bool) (y : Option ℕ) (at : ℕ) → is_some_and (λ c. not (f c)) y ≡ false → is_some_and (λ c. not (b && nat_lt c at || f c)) y ≡ false
clean_written b f None at e = refl
clean_written b f (Some c) at e = ap not (or_right (b && nat_lt c at) (f c) (not-false (f c) e))

absent_other : (j k : Key) (h : History Entry) → is_in k (residents h ++ j ∷ []) ≡ false → (same j k ≡ false) × (is_resident h k ≡ false)
absent_other j k h e = (
  false_from_ne_true (same j k) (λ t. let r : is_in k (residents h ++ j ∷ []) ≡ true = last_any (λ x. same x k) (residents h) j (inr t) in cc),
  false_from_ne_true (is_resident h k) (λ t. let r : is_in k (residents h ++ j ∷ []) ≡ true = last_any (λ x. same x k) (residents h) j (inl t) in cc),
)

-- what was resident and is not without j is j
gone_is : (j k : Key) (h : History Entry) → is_in k (without j (residents h)) ≡ false → same j k ≡ false → is_resident h k ≡ false
gone_is j k h e n = false_from_ne_true (is_resident h k) (λ t.
    let other : (x : Key) → same x k ≡ true → (not (same x j) && same x k) ≡ true = λ x xk.
    let one : x ≡ k = same-true x k xk in
    let d : same x j ≡ false = false_from_ne_true (same x j) (λ xj. let two : x ≡ j = same-true x j xj in let jk : same j k ≡ true = rw (← two) xk in cc) in
    and_from (not (same x j)) (same x k) (ap not d) xk in
    let r : is_in k (without j (residents h)) ≡ true = filter_any (λ x. not (same x j)) (λ x. same x k) (residents h) (any_grows (λ x. same x k) (λ x. not (same x j) && same x k) (residents h) other t) in
    cc)

pub absent_clean : (s : Setup) (h : History Entry) (k : Key) → IsLegal s h → is_resident h k ≡ false → is_dirty h k ≡ false
absent_clean s [] k l a = refl
absent_clean s ((o, Filled j) ∷ h) k l a =
    let q = absent_other j k h a in
    clean_other (same j k) (cond (is_write (last_why h k)) (Some (length h)) None) (opened_at h k) (written_since h k) q.0 (absent_clean s h k l.0 q.1)
absent_clean s ((o, Opened j) ∷ h) k l a =
    let n : same j k ≡ false = false_from_ne_true (same j k) (λ t. let jk : j ≡ k = same-true j k t in let r : is_resident h k ≡ true = rw (← jk) ((open_page_is s h j l.2).0) in cc) in
    clean_other (same j k) (Some (length h)) (opened_at h k) (written_since h k) n (absent_clean s h k l.0 a)
absent_clean s ((o, Written j at bytes) ∷ h) k l a = clean_written (same j k) (written_since h k) (opened_at h k) at (absent_clean s h k l.0 a)
absent_clean s ((o, Evicted j why) ∷ h) k l a = elim (cases_Bool (same j k)) [
  | inl t ↦ subst (λ (x : Key). is_dirty h x ≡ false) (same-true j k t) l.2.clean
  | inr n ↦ absent_clean s h k l.0 (gone_is j k h a n)
]
absent_clean s (e ∷ h) k l a = absent_clean s h k l.0 a

-- ---- while a page is written and was not opened since, its bytes stay

place_other : (b : Bool) (x y : Option ℕ) (c : ℕ) → b ≡ false → cond b x y ≡ Some c → y ≡ Some c
place_other b x y c e f = rw e at f

byte_other : (b : Bool) (x y z : ℕ) (c : Bool) → b ≡ false → y ≡ z → cond (b && c) x y ≡ z
byte_other b x y z c e f = rw e f

pub bytes_stay : (s : Setup) (h : History Entry) (k : Key) (t : InFlight) (c : ℕ) → IsLegal s h → in_flight h k.region ≡ Some t → t.key ≡ k → t.writes ≡ true → opened_at h k ≡ Some c → c < length t.before → (i : ℕ) → byte s h k i ≡ byte s t.before k i
bytes_stay s [] k t c l e tk w at lt i = absurd cc
bytes_stay s ((o, Save j place bytes) ∷ h) k t c l e tk w at lt i =
    let n : same j k ≡ false = false_from_ne_true (same j k) (λ jk.
    let one : j ≡ k = same-true j k jk in
    let unprotected : is_protected h k ≡ false = rw (← one) (l.2.1.unprotected) in
    let later = opened_since s h k t l.0 e tk w unprotected in
    let there : c ≡ later.place = cc (at, later.is) in
    absurd (omega (arith, later.after, there))) in
    byte_other (same j k) (slice_index bytes (i - place)) (byte s h k i) (byte s t.before k i) (covers place bytes i) n (bytes_stay s h k t c l.0 e tk w at lt i)
bytes_stay s ((o, StartRead j) ∷ h) k t c l e tk w at lt i = elim (when_start (j.region == k.region) (record { before = h; owner = o; key = j; writes = false }) (in_flight h k.region) t e) [
  | inl q ↦ let f : false ≡ t.writes = ap (λ (x : InFlight). x.writes) q.1 in absurd cc
  | inr q ↦ bytes_stay s h k t c l.0 q.1 tk w at lt i
]
bytes_stay s ((o, StartWrite j why) ∷ h) k t c l e tk w at lt i = elim (when_start (j.region == k.region) (record { before = h; owner = o; key = j; writes = true }) (in_flight h k.region) t e) [
  | inl q ↦ ap (λ (x : InFlight). byte s x.before k i) q.1
  | inr q ↦ bytes_stay s h k t c l.0 q.1 tk w at lt i
]
bytes_stay s ((o, Filled j) ∷ h) k t c l e tk w at lt i =
    let q = when_end (j.region == k.region) (in_flight h k.region) t e in
    bytes_stay s h k t c l.0 q.1 tk w (place_other (same j k) (cond (is_write (last_why h k)) (Some (length h)) None) (opened_at h k) c (other_region j k q.0) at) lt i
bytes_stay s ((o, ReadFailed j n) ∷ h) k t c l e tk w at lt i = bytes_stay s h k t c l.0 (when_end (j.region == k.region) (in_flight h k.region) t e).1 tk w at lt i
bytes_stay s ((o, Written j n bytes) ∷ h) k t c l e tk w at lt i = bytes_stay s h k t c l.0 (when_end (j.region == k.region) (in_flight h k.region) t e).1 tk w at lt i
bytes_stay s ((o, WriteFailed j n) ∷ h) k t c l e tk w at lt i = bytes_stay s h k t c l.0 (when_end (j.region == k.region) (in_flight h k.region) t e).1 tk w at lt i
bytes_stay s ((o, Opened j) ∷ h) k t c l e tk w at lt i = elim (cases_Bool (same j k)) [
  | inl is ↦
      let there : length h ≡ c = place_here (same j k) (length h) (opened_at h k) c is at in
      let b = started_before h k.region t e in
      absurd (omega arith)
  | inr n ↦ bytes_stay s h k t c l.0 e tk w (place_other (same j k) (Some (length h)) (opened_at h k) c n at) lt i
]
  where
    place_here : (b : Bool) (n : ℕ) (y : Option ℕ) (m : ℕ) → b ≡ true → cond b (Some n) y ≡ Some m → n ≡ m
    place_here b n y m f g = let r : Some n ≡ Some m = rw f at g in cc
bytes_stay s (x ∷ h) k t c l e tk w at lt i = bytes_stay s h k t c l.0 e tk w at lt i

-- ---- a clean page is kept as it is

flat_from : (s : Setup) (h g : History Entry) (k : Key) → ((i : ℕ) → byte s h k i ≡ byte s g k i) → flat s h k ≡ flat s g k
flat_from s h g k f = ap (λ (b : ℕ → ℕ). map b (range_with_len 0 s.page_size)) (fun_ext f)

kept_other : (b : Bool) (x y z : Option (List ℕ)) → b ≡ false → y ≡ z → cond b x y ≡ z
kept_other b x y z e f = rw e f

-- an opening leaves the page dirty
dirty_here : (b : Bool) (n : ℕ) (y : Option ℕ) (f : ℕ → Bool) → b ≡ true → f n ≡ false → is_some_and (λ c. not (f c)) (cond b (Some n) y) ≡ false → ⊥
dirty_here b n y f e none d = let r : not (f n) ≡ false = rw e at d in let t : not (f n) ≡ true = ap not none in cc

-- the place at which a dirty page was opened
pub record Opening (y : Option ℕ) (f : ℕ → Bool) : Type 0 where
  pub place : ℕ
  pub is : y ≡ Some place
  pub since : f place ≡ false

opening : (y : Option ℕ) (f : ℕ → Bool) → is_some_and (λ c. not (f c)) y ≡ true → Opening y f
opening None f e = absurd cc
opening (Some c) f e = record { place = c; is = refl; since = not-true (f c) e }

-- a write that leaves the page clean started behind the opening
written_behind : (b : Bool) (f : ℕ → Bool) (y : Option ℕ) (at c : ℕ) → y ≡ Some c → f c ≡ false → is_some_and (λ c. not (b && nat_lt c at || f c)) y ≡ false → nat_lt c at ≡ true
written_behind b f None at c e none d = absurd cc
written_behind b f (Some x) at c e none d =
    let xc : x ≡ c = cc in
    let both : (b && nat_lt x at || f x) ≡ true = not-false (b && nat_lt x at || f x) d in
    elim (or_cases (b && nat_lt x at) (f x) both) [
      | inl here ↦ rw (← xc) (and_parts b (nat_lt x at) here).1
      | inr there ↦ let other : f x ≡ false = rw xc none in absurd cc
    ]

dirty_else : (b : Bool) (x y : Option ℕ) (f : ℕ → Bool) → b ≡ false → is_some_and (λ c. not (f c)) (cond b x y) ≡ false → is_some_and (λ c. not (f c)) y ≡ false
dirty_else b x y f e d = rw e at d

dirty_unwritten : (b : Bool) (f : ℕ → Bool) (y : Option ℕ) (at : ℕ) → b ≡ false → is_some_and (λ c. not (b && nat_lt c at || f c)) y ≡ false → is_some_and (λ c. not (f c)) y ≡ false
dirty_unwritten b f None at e d = refl
dirty_unwritten b f (Some c) at e d = rw e at d

written_here : (s : Setup) (h : History Entry) (o at : ℕ) (bytes : List ℕ) (j k : Key) → IsLegal s h → MayFinishWrite s h o j at bytes → is_told s k ≡ true → same j k ≡ true → is_some_and (λ c. not (same j k && nat_lt c at || written_since h k c)) (opened_at h k) ≡ false
    → cond (same j k) (Some bytes) (kept s h k) ≡ Some (flat s h k)
written_here s h o at bytes j k l may told t d =
    let jk : j ≡ k = same-true j k t in
    let mine = own (in_flight h j.region) o j true may.ends in
    let there : in_flight h k.region ≡ Some mine.started = rw (← jk) (mine.is) in
    let mine_is : mine.started.key ≡ k = mine.key ∙ jk in
    let found = opening (opened_at h k) (written_since h k) (writing_dirty s h k mine.started l there mine_is mine.kind) in
    let behind : found.place < at = ltb-true found.place at (written_behind (same j k) (written_since h k) (opened_at h k) at found.place found.is found.since d) in
    let place_is : at ≡ length mine.started.before = may.place ∙ ap length (before_is h j.region mine.started mine.is) in
    let stay : flat s h k ≡ flat s mine.started.before k = flat_from s h mine.started.before k (bytes_stay s h k mine.started found.place l there mine_is mine.kind found.is (omega (arith, behind, place_is))) in
    let told_j : is_told s j ≡ true = rw jk told in
    let carried : bytes ≡ flat s (before_start h j.region) j = OnTrue_at told_j may.taken in
    let same_bytes : bytes ≡ flat s mine.started.before k = carried ∙ (ap (λ (b : History Entry). flat s b j) (before_is h j.region mine.started mine.is) ∙ ap (λ (x : Key). flat s mine.started.before x) jk) in
    cond-true (same j k) (Some bytes) (kept s h k) t ∙ ap Some (same_bytes ∙ sym stay)

-- a told page of the right size
kept_base : (o : Option (List ℕ)) (n : ℕ) → is_some o ≡ true → ((b : List ℕ) → o ≡ Some b → length b ≡ n) → o ≡ Some (map (λ i. slice_index (unwrap_or o []) i) (range_with_len 0 n))
kept_base None n e f = absurd cc
kept_base (Some b) n e f = ap Some (fill_by_all (λ i. slice_index b i) b n 0 (f b refl) (λ i lt. refl))

pub kept_flat : (s : Setup) (h : History Entry) (k : Key) → IsLegal s h → is_told s k ≡ true → ((b : List ℕ) → base_of s k ≡ Some b → length b ≡ s.page_size) → is_dirty h k ≡ false → kept s h k ≡ Some (flat s h k)
kept_flat s [] k l told size d = kept_base (base_of s k) s.page_size told size
kept_flat s ((o, Save j place bytes) ∷ h) k l told size d =
    let n : same j k ≡ false = false_from_ne_true (same j k) (λ jk. let one : j ≡ k = same-true j k jk in let dirty : is_dirty h k ≡ true = rw (← one) (unprotected_dirty s h j l.0 l.2.1.unprotected) in cc) in
    kept_flat s h k l.0 told size d ∙ ap Some (sym (flat_from s ((o, Save j place bytes) ∷ h) h k (λ i. byte_other (same j k) (slice_index bytes (i - place)) (byte s h k i) (byte s h k i) (covers place bytes i) n refl)))
kept_flat s ((o, Filled j) ∷ h) k l told size d = elim (cases_Bool (same j k)) [
  | inl t ↦
      let jk : j ≡ k = same-true j k t in
      let was : is_reading h k ≡ true = subst (λ (x : Key). is_reading h x ≡ true) jk (filled_was_reading h o j l.2) in
      let gone : is_resident h k ≡ false = false_from_ne_true (is_resident h k) (λ r. (apart s h k l.0).read_absent was r) in
      kept_flat s h k l.0 told size (absent_clean s h k l.0 gone)
  | inr n ↦ kept_flat s h k l.0 told size (dirty_else (same j k) (cond (is_write (last_why h k)) (Some (length h)) None) (opened_at h k) (written_since h k) n d)
]
kept_flat s ((o, Opened j) ∷ h) k l told size d = elim (cases_Bool (same j k)) [
  | inl t ↦ absurd (dirty_here (same j k) (length h) (opened_at h k) (written_since h k) t (written_below s h k (length h) l.0 (omega arith)) d)
  | inr n ↦ kept_flat s h k l.0 told size (dirty_else (same j k) (Some (length h)) (opened_at h k) (written_since h k) n d)
]
kept_flat s ((o, Written j at bytes) ∷ h) k l told size d = elim (cases_Bool (same j k)) [
  | inl t ↦ written_here s h o at bytes j k l.0 l.2 told t d
  | inr n ↦ kept_other (same j k) (Some bytes) (kept s h k) (Some (flat s h k)) n (kept_flat s h k l.0 told size (dirty_unwritten (same j k) (written_since h k) (opened_at h k) at n d))
]
kept_flat s ((o, WriteFailed j x) ∷ h) k l told size d =
    let n : same j k ≡ false = false_from_ne_true (same j k) (λ t.
    let jk : j ≡ k = same-true j k t in
    let mine = own (in_flight h j.region) o j true l.2.0 in
    let there : in_flight h k.region ≡ Some mine.started = rw (← jk) (mine.is) in
    let dirty : is_dirty h k ≡ true = writing_dirty s h k mine.started l.0 there (mine.key ∙ jk) mine.kind in
    cc) in
    kept_other (same j k) None (kept s h k) (Some (flat s h k)) n (kept_flat s h k l.0 told size d)
kept_flat s (e ∷ h) k l told size d = kept_flat s h k l.0 told size d

pub absent_kept : AbsentIsKept
absent_kept s h k fits l page told absent = kept_flat s h k l told (λ b e. fits.page_bytes k b page e) (absent_clean s h k l absent)

pub clean_kept : CleanIsKept
clean_kept = record { absent = absent_clean; kept = λ s h k fits l page told clean. kept_flat s h k l told (λ b e. fits.page_bytes k b page e) clean }
