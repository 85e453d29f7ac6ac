-- What is known of the bits.
use Rattle.std.proofs.Common.{Bool, None, Option, Some, [], ap, arith, cond, false, inl, inr, length, nat_lt, not, refl, subst, true, ℕ, ◌&&◌, ◌<◌, ◌==◌, ◌||◌, ◌∙◌, ◌∷◌, ◌≡◌, ◌≤◌}
use Rattle.std.proofs.lemmas.Bool.{and_right, le-ltb, or_from, or_parts}
use Rattle.histories.specs.Histories.{History}
use Rattle.page_base.specs.Pages.{same}
use Rattle.page_base.specs.declared.keys.Key.{Key}
use Rattle.page_model.specs.declared.entry.Entry.{Entry}
use Rattle.page_model.specs.declared.entry.Entry.TheVariants.{Filled, Opened, ReadFailed, StartRead, StartWrite, WriteFailed, Written}
use Rattle.page_model.specs.Bits.{is_dirty, is_protected, is_some_and, opened_at, written_since}
use Rattle.page_model.specs.Faults.{is_write, last_why}
use Rattle.page_model.specs.InFlight.{InFlight, before_start, in_flight, is_own}
use Rattle.page_model.specs.Laws.{ends}
use Rattle.page_model.specs.Legal.{IsLegal}
use Rattle.page_model.specs.Setups.{Setup}
use Rattle.page_model.proofs.Flight.{before_is, own, started_before, when_end, when_start}
use Rattle.page_model.proofs.Keys.{other_region, same-true, same_self}

-- a finished write started below the end of the history
pub written_below : (s : Setup) (h : History Entry) (k : Key) (place : ℕ) → IsLegal s h → length h ≤ place → written_since h k place ≡ false
written_below s [] k place l le = refl
written_below s ((o, Written j at bytes) ∷ h) k place l le =
    let mine = own (in_flight h j.region) o j true l.2.ends in
    let below : length mine.started.before < length h = started_before h j.region mine.started mine.is in
    let place_is : at ≡ length mine.started.before = l.2.place ∙ ap length (before_is h j.region mine.started mine.is) in
    or_from (same j k && nat_lt place at) (written_since h k place) (and_right (same j k) (nat_lt place at) (le-ltb place at (omega arith))) (written_below s h k place l.0 (omega arith))
written_below s (e ∷ h) k place l le = written_below s h k place l.0 (omega arith)

-- the place is there, and lies behind m
pub record Later (y : Option ℕ) (m : ℕ) : Type 0 where
  pub place : ℕ
  pub is : y ≡ Some place
  pub after : m < place

-- the same, where the page may be another
pub later_other : (b : Bool) (x y : Option ℕ) (m : ℕ) → b ≡ false → Later y m → Later (cond b x y) m
later_other b x y m e later = rw e later

pub later_opened : (b p : Bool) (n : ℕ) (y : Option ℕ) (m : ℕ) → m < n → (p ≡ false → Later y m) → (not b && p) ≡ false → Later (cond b (Some n) y) m
later_opened true p n y m lt ih e = record { place = n; is = refl; after = lt }
later_opened false p n y m lt ih e = ih e

else_is : (b x y : Bool) → b ≡ false → cond b x y ≡ false → y ≡ false
else_is b x y e f = rw e at f

-- a page that is unprotected while it is written was opened since the start
pub opened_since : (s : Setup) (h : History Entry) (k : Key) (t : InFlight) → IsLegal s h → in_flight h k.region ≡ Some t → t.key ≡ k → t.writes ≡ true → is_protected h k ≡ false → Later (opened_at h k) (length t.before)
opened_since s [] k t l e tk w p = absurd cc
opened_since s ((o, StartRead j) ∷ h) k t l e tk w p = elim (when_start (j.region == k.region) (record { before = h; owner = o; key = j; writes = false }) (in_flight h k.region) t e) [
  | inl q ↦ let f : false ≡ t.writes = ap (λ (x : InFlight). x.writes) q.1 in absurd cc
  | inr q ↦ opened_since s h k t l.0 q.1 tk w p
]
opened_since s ((o, StartWrite j why) ∷ h) k t l e tk w p =
    let both = or_parts (same j k) (is_protected h k) p in
    elim (when_start (j.region == k.region) (record { before = h; owner = o; key = j; writes = true }) (in_flight h k.region) t e) [
      | inl q ↦
          let f : j ≡ k = ap (λ (x : InFlight). x.key) q.1 ∙ tk in
          let g : same j k ≡ true = rw f (same_self k) in
          absurd cc
      | inr q ↦ opened_since s h k t l.0 q.1 tk w both.1
    ]
opened_since s ((o, Filled j) ∷ h) k t l e tk w p =
    let q = when_end (j.region == k.region) (in_flight h k.region) t e in
    let n : same j k ≡ false = other_region j k q.0 in
    later_other (same j k) (cond (is_write (last_why h k)) (Some (length h)) None) (opened_at h k) (length t.before) n (opened_since s h k t l.0 q.1 tk w (else_is (same j k) (not (is_write (last_why h k))) (is_protected h k) n p))
opened_since s ((o, ReadFailed j n) ∷ h) k t l e tk w p = opened_since s h k t l.0 (when_end (j.region == k.region) (in_flight h k.region) t e).1 tk w p
opened_since s ((o, Written j at bytes) ∷ h) k t l e tk w p = opened_since s h k t l.0 (when_end (j.region == k.region) (in_flight h k.region) t e).1 tk w p
opened_since s ((o, WriteFailed j n) ∷ h) k t l e tk w p = opened_since s h k t l.0 (when_end (j.region == k.region) (in_flight h k.region) t e).1 tk w p
opened_since s ((o, Opened j) ∷ h) k t l e tk w p = later_opened (same j k) (is_protected h k) (length h) (opened_at h k) (length t.before) (started_before h k.region t e) (λ q. opened_since s h k t l.0 e tk w q) p
opened_since s (x ∷ h) k t l e tk w p = opened_since s h k t l.0 e tk w p

-- ---- an unprotected page is dirty

dirty_filled : (b w p : Bool) (n : ℕ) (y : Option ℕ) (f : ℕ → Bool) → f n ≡ false → (p ≡ false → is_some_and (λ c. not (f c)) y ≡ true) → cond b (not w) p ≡ false → is_some_and (λ c. not (f c)) (cond b (cond w (Some n) None) y) ≡ true
dirty_filled true true p n y f none ih e = rw none refl
dirty_filled true false p n y f none ih e = absurd cc
dirty_filled false w p n y f none ih e = ih e

pub dirty_opened : (b p : Bool) (n : ℕ) (y : Option ℕ) (f : ℕ → Bool) → f n ≡ false → (p ≡ false → is_some_and (λ c. not (f c)) y ≡ true) → (not b && p) ≡ false → is_some_and (λ c. not (f c)) (cond b (Some n) y) ≡ true
dirty_opened true p n y f none ih e = rw none refl
dirty_opened false p n y f none ih e = ih e

pub dirty_written : (b : Bool) (f : ℕ → Bool) (y : Option ℕ) (at : ℕ) → (b ≡ true → Later y at) → is_some_and (λ c. not (f c)) y ≡ true → is_some_and (λ c. not (b && nat_lt c at || f c)) y ≡ true
dirty_written b f None at later ih = absurd cc
dirty_written true f (Some c) at later ih =
    let q = later refl in
    let same_place : c ≡ q.place = cc (q.is) in
    rw (le-ltb c at (omega (arith, q.after, same_place))) ih
dirty_written false f (Some c) at later ih = ih

-- where the page that is written is this one, it was opened since
written_later : (s : Setup) (h : History Entry) (o at : ℕ) (j k : Key) → IsLegal s h → is_own (in_flight h j.region) o j true ≡ true → at ≡ length (before_start h j.region) → is_protected h k ≡ false → same j k ≡ true → Later (opened_at h k) at
written_later s h o at j k l ends place p is =
    let jk : j ≡ k = same-true j k is in
    let mine = own (in_flight h j.region) o j true ends in
    let there : in_flight h k.region ≡ Some mine.started = rw (← jk) (mine.is) in
    let later = opened_since s h k mine.started l there (mine.key ∙ jk) mine.kind p in
    let place_is : at ≡ length mine.started.before = place ∙ ap length (before_is h j.region mine.started mine.is) in
    record { place = later.place; is = later.is; after = omega (arith, later.after, place_is) }

pub unprotected_dirty : (s : Setup) (h : History Entry) (k : Key) → IsLegal s h → is_protected h k ≡ false → is_dirty h k ≡ true
unprotected_dirty s [] k l p = absurd cc
unprotected_dirty s ((o, Filled j) ∷ h) k l p = dirty_filled (same j k) (is_write (last_why h k)) (is_protected h k) (length h) (opened_at h k) (written_since h k) (written_below s h k (length h) l.0 (omega arith)) (λ q. unprotected_dirty s h k l.0 q) p
unprotected_dirty s ((o, Opened j) ∷ h) k l p = dirty_opened (same j k) (is_protected h k) (length h) (opened_at h k) (written_since h k) (written_below s h k (length h) l.0 (omega arith)) (λ q. unprotected_dirty s h k l.0 q) p
unprotected_dirty s ((o, StartWrite j why) ∷ h) k l p = unprotected_dirty s h k l.0 (or_parts (same j k) (is_protected h k) p).1
unprotected_dirty s ((o, Written j at bytes) ∷ h) k l p = dirty_written (same j k) (written_since h k) (opened_at h k) at (λ q. written_later s h o at j k l.0 l.2.ends l.2.place p q) (unprotected_dirty s h k l.0 p)
unprotected_dirty s (e ∷ h) k l p = unprotected_dirty s h k l.0 p

-- ---- a page that is being written is dirty

pub still_dirty : (b : Bool) (x y : Option ℕ) (f : ℕ → Bool) → b ≡ false → is_some_and (λ c. not (f c)) y ≡ true → is_some_and (λ c. not (f c)) (cond b x y) ≡ true
still_dirty b x y f e d = rw e d

pub writing_dirty : (s : Setup) (h : History Entry) (k : Key) (t : InFlight) → IsLegal s h → in_flight h k.region ≡ Some t → t.key ≡ k → t.writes ≡ true → is_dirty h k ≡ true
writing_dirty s [] k t l e tk w = absurd cc
writing_dirty s ((o, StartRead j) ∷ h) k t l e tk w = elim (when_start (j.region == k.region) (record { before = h; owner = o; key = j; writes = false }) (in_flight h k.region) t e) [
  | inl q ↦ let f : false ≡ t.writes = ap (λ (x : InFlight). x.writes) q.1 in absurd cc
  | inr q ↦ writing_dirty s h k t l.0 q.1 tk w
]
writing_dirty s ((o, StartWrite j why) ∷ h) k t l e tk w = elim (when_start (j.region == k.region) (record { before = h; owner = o; key = j; writes = true }) (in_flight h k.region) t e) [
  | inl q ↦ let f : j ≡ k = ap (λ (x : InFlight). x.key) q.1 ∙ tk in subst (λ (x : Key). is_dirty h x ≡ true) f l.2.dirty
  | inr q ↦ writing_dirty s h k t l.0 q.1 tk w
]
writing_dirty s ((o, Filled j) ∷ h) k t l e tk w =
    let q = when_end (j.region == k.region) (in_flight h k.region) t e in
    still_dirty (same j k) (cond (is_write (last_why h k)) (Some (length h)) None) (opened_at h k) (written_since h k) (other_region j k q.0) (writing_dirty s h k t l.0 q.1 tk w)
writing_dirty s ((o, ReadFailed j n) ∷ h) k t l e tk w = writing_dirty s h k t l.0 (when_end (j.region == k.region) (in_flight h k.region) t e).1 tk w
writing_dirty s ((o, WriteFailed j n) ∷ h) k t l e tk w = writing_dirty s h k t l.0 (when_end (j.region == k.region) (in_flight h k.region) t e).1 tk w
writing_dirty s ((o, Written j at bytes) ∷ h) k t l e tk w =
    let q = when_end (j.region == k.region) (in_flight h k.region) t e in
    let other : same j k ≡ false = other_region j k q.0 in
    dirty_written (same j k) (written_since h k) (opened_at h k) at (λ x. absurd cc) (writing_dirty s h k t l.0 q.1 tk w)
writing_dirty s ((o, Opened j) ∷ h) k t l e tk w = dirty_opened (same j k) false (length h) (opened_at h k) (written_since h k) (written_below s h k (length h) l.0 (omega arith)) (λ q. writing_dirty s h k t l.0 e tk w) (and_right (not (same j k)) false refl)
writing_dirty s (x ∷ h) k t l e tk w = writing_dirty s h k t l.0 e tk w
