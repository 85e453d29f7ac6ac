-- What can be served.
use Rattle.std.proofs.Common.{Bool, List, None, Option, Some, [], ap, arith, cond, false, find, inl, inr, is_none, length, nat_lt, not, refl, subst, sym, true, ℕ, ◌&&◌, ◌<◌, ◌==◌, ◌||◌, ◌∙◌, ◌∷◌, ◌≡◌}
use Rattle.std.proofs.lemmas.Bool.{and_from, and_parts, cond-false, cond-true, eq-eqb, false_from_ne_true, ltb-false, or_left, or_right}
use Rattle.std.specs.List.{list_any, range_with_len}
use Rattle.histories.specs.Histories.{History}
use Rattle.page_base.specs.Pages.{same}
use Rattle.page_base.specs.declared.keys.Key.{Key}
use Rattle.page_base.specs.declared.keys.Raise.{Raise}
use Rattle.page_base.specs.declared.keys.Why.{Why}
use Rattle.page_base.specs.declared.keys.Why.TheVariants.{Ahead, Protected, Read, Write}
use Rattle.page_model.specs.declared.entry.Entry.{Entry}
use Rattle.page_model.specs.declared.entry.Entry.TheVariants.{Dropped, Filled, Hint, Opened, Raised, StartRead, StartWrite}
use Rattle.page_model.specs.declared.seen.Next.{Next}
use Rattle.page_model.specs.Bits.{is_dirty, is_protected}
use Rattle.page_model.specs.Closings.{is_closing}
use Rattle.page_model.specs.Evictions.{can_leave, has_pressure, is_evicting, pick}
use Rattle.page_model.specs.Faults.{is_protected_why, is_write, last_why, pending, served}
use Rattle.page_model.specs.InFlight.{InFlight, in_flight, is_a_read, is_home, is_reading, is_write_of, is_writing}
use Rattle.page_model.specs.Laws.{GoesAhead, WaitingIsProtected, asks_open}
use Rattle.page_model.specs.Legal.{IsLegal, MayRaiseFor}
use Rattle.page_model.specs.Residents.{free_frames, is_resident, reads_out, residents}
use Rattle.page_model.specs.Serving.{chosen, is_servable, is_stale, waits_for_room}
use Rattle.page_model.specs.Setups.{Fits, Setup, regions}
use Rattle.page_model.proofs.Counting.{count_none}
use Rattle.page_model.proofs.Keys.{same-true, same_self}
use Rattle.page_model.proofs.Lists.{any_filter, any_grows, any_last}
use Rattle.page_model.proofs.Raises.{apart, filled_was_reading, served_is_gone}
use Rattle.page_model.specs.declared.entry.HintAnswer.TheVariants as answer
use Rattle.page_model.specs.declared.seen.Next.TheVariants as serve

protected_by : (s : Setup) (h : History Entry) (k : Key) (why : Why) → MayRaiseFor s h k why → is_protected_why why ≡ true → is_protected h k ≡ true
protected_by s h k Read f e = absurd cc
protected_by s h k Ahead f e = absurd cc
protected_by s h k Write f e = absurd cc
protected_by s h k Protected f e = f.1

pub still_asks : (j k : Key) (ps : List Raise) → list_any (asks_open k) (served j ps) ≡ true → list_any (asks_open k) ps ≡ true
still_asks j k ps e = any_grows (λ p. not (same p.key j) && asks_open k p) (asks_open k) ps (λ p f. (and_parts (not (same p.key j)) (asks_open k p) f).1) (any_filter (λ p. not (same p.key j)) (asks_open k) ps e)

asks_pending : (k : Key) (ps : List Raise) → list_any (asks_open k) ps ≡ true → list_any (λ p. same p.key k) ps ≡ true
asks_pending k ps e = any_grows (asks_open k) (λ p. same p.key k) ps (λ p f. (and_parts (is_protected_why p.why) (same p.key k) f).1) e

pub waiting_protected : WaitingIsProtected
waiting_protected s [] k l e = absurd cc
waiting_protected s ((o, Raised j why) ∷ h) k l e = elim (any_last (asks_open k) (pending h) (record { key = j; why = why }) e) [
  | inl old ↦ waiting_protected s h k l.0 old
  | inr here ↦
      let q = and_parts (is_protected_why why) (same j k) here in
      subst (λ (x : Key). is_protected h x ≡ true) (same-true j k q.1) (protected_by s h j why l.2.fits q.0)
]
waiting_protected s ((o, Hint j answer.Raised) ∷ h) k l e = elim (any_last (asks_open k) (pending h) (record { key = j; why = Ahead }) e) [
  | inl old ↦ waiting_protected s h k l.0 old
  | inr here ↦ absurd cc
]
waiting_protected s ((o, StartRead j) ∷ h) k l e = waiting_protected s h k l.0 (still_asks j k (pending h) e)
waiting_protected s ((o, Dropped j) ∷ h) k l e = waiting_protected s h k l.0 (still_asks j k (pending h) e)
waiting_protected s ((o, Opened j) ∷ h) k l e =
    let n : same j k ≡ false = false_from_ne_true (same j k) (λ t. served_is_gone j k (pending h) t (asks_pending k (served j (pending h)) e)) in
    and_from (not (same j k)) (is_protected h k) (ap not n) (waiting_protected s h k l.0 (still_asks j k (pending h) e))
waiting_protected s ((o, Filled j) ∷ h) k l e =
    let n : same j k ≡ false = false_from_ne_true (same j k) (λ t.
    let r : is_reading h k ≡ true = subst (λ (x : Key). is_reading h x ≡ true) (same-true j k t) (filled_was_reading h o j l.2) in
    (apart s h k l.0).not_both (asks_pending k (pending h) e) r) in
    cond-false (same j k) (not (is_write (last_why h k))) (is_protected h k) n ∙ waiting_protected s h k l.0 e
waiting_protected s ((o, StartWrite j why) ∷ h) k l e = or_right (same j k) (is_protected h k) (waiting_protected s h k l.0 e)
waiting_protected s (x ∷ h) k l e = waiting_protected s h k l.0 e

pub none_reads : (t : Option InFlight) → is_none t ≡ true → is_a_read t ≡ false
none_reads None e = refl
none_reads (Some t) e = absurd cc

none_writes : (t : Option InFlight) (k : Key) → is_none t ≡ true → is_write_of t k ≡ false
none_writes None k e = refl
none_writes (Some t) k e = absurd cc

no_read_out : (s : Setup) (h : History Entry) → ((r : ℕ) → is_home h r ≡ true) → reads_out s h ≡ 0
no_read_out s h home = count_none (λ r. is_a_read (in_flight h r)) (range_with_len 0 (regions s)) (λ r. none_reads (in_flight h r) (home r))

not_stale : (c w r : Bool) → w ≡ true → (c || w && not r) ≡ false → r ≡ true
not_stale c w true is e = refl
not_stale true w false is e = absurd cc
not_stale false true false is e = absurd cc
not_stale false false false is e = absurd cc

-- the first raise passes neither test
first_fails : {A : Type 0} (test : A → Bool) (x : A) (xs : List A) → find test (x ∷ xs) ≡ None → test x ≡ false
first_fails test x xs e = go (test x) e
  where
    go : (b : Bool) → cond b (Some x) (find test xs) ≡ None → b ≡ false
    go true f = absurd cc
    go false f = refl

first_found : {A : Type 0} (test : A → Bool) (x : A) (xs : List A) → test x ≡ true → find test (x ∷ xs) ≡ Some x
first_found test x xs e = cond-true (test x) (Some x) (find test xs) e

-- a raise that is neither stale nor servable wants a frame
wants_frame : (s : Setup) (h : History Entry) (p : Raise) → IsLegal s h → (is_protected_why p.why ≡ true → (is_resident h p.key && is_protected h p.key) ≡ true) → is_home h p.key.region ≡ true → is_servable s h p ≡ false → (waits_for_room h p ≡ true) × (free_frames s h ≡ 0)
wants_frame s h p l safe home e = go (is_protected_why p.why) refl e
  where
    go : (b : Bool) → is_protected_why p.why ≡ b → cond b (is_resident h p.key && is_protected h p.key) (nat_lt 0 (free_frames s h) && is_home h p.key.region) ≡ false → (waits_for_room h p ≡ true) × (free_frames s h ≡ 0)
    go true is f = let t : (is_resident h p.key && is_protected h p.key) ≡ true = safe is in absurd cc
    go false is f =
        let no_frame : nat_lt 0 (free_frames s h) ≡ false = false_from_ne_true (nat_lt 0 (free_frames s h)) (λ t. let both : (nat_lt 0 (free_frames s h) && is_home h p.key.region) ≡ true = and_from (nat_lt 0 (free_frames s h)) (is_home h p.key.region) t home in cc) in
        (and_from (not (is_protected_why p.why)) (is_home h p.key.region) (ap not is) home, omega (arith, ltb-false 0 (free_frames s h) no_frame))

-- with every lane home and a resident page there is a pick
pick_there : (h : History Entry) (ks : List Key) → ((r : ℕ) → is_home h r ≡ true) → 0 < length ks → (k : Key) × (find (can_leave h) ks ≡ Some k)
pick_there h [] home lt = absurd (omega arith)
pick_there h (k ∷ ks) home lt = (k, first_found (can_leave h) k ks (and_from (not (is_writing h k)) (not (is_dirty h k) || is_home h k.region) (ap not (none_writes (in_flight h k.region) k (home k.region))) (or_right (not (is_dirty h k)) (is_home h k.region) (home k.region))))

abbrev is_other : Next → Bool
is_other serve.Nothing = true
is_other serve.Room = true
is_other n = false

served_next : (c : Bool) (j : Key) (n : Next) → is_other n ≡ true → cond c (serve.Open j) (serve.Read j) ≡ n → ⊥
served_next true j n o e = let f : false ≡ is_other n = ap is_other e in cc
served_next false j n o e = let f : false ≡ is_other n = ap is_other e in cc

goes_on : (s : Setup) (h : History Entry) (ps : List Raise) → Fits s → IsLegal s h → ((r : ℕ) → is_home h r ≡ true) → pending h ≡ ps → 0 < length ps → (a b : Option Raise) → find (is_stale h) ps ≡ a → find (is_servable s h) ps ≡ b
    → (chosen a b (list_any (waits_for_room h) ps) ≡ serve.Nothing → ⊥) × (chosen a b (list_any (waits_for_room h) ps) ≡ serve.Room → (has_pressure s h ≡ true) × ((k : Key) × (pick h ≡ Some k)))
goes_on s h [] fits l home is lt a b ea eb = absurd (omega arith)
goes_on s h (p ∷ ps) fits l home is lt (Some q) b ea eb = (λ e. absurd cc, λ e. absurd cc)
goes_on s h (p ∷ ps) fits l home is lt None (Some q) ea eb = (λ e. served_next (is_protected_why q.why) q.key serve.Nothing refl e, λ e. absurd (served_next (is_protected_why q.why) q.key serve.Room refl e))
goes_on s h (p ∷ ps) fits l home is lt None None ea eb =
    let fresh : is_stale h p ≡ false = first_fails (is_stale h) p ps ea in
    let safe : is_protected_why p.why ≡ true → (is_resident h p.key && is_protected h p.key) ≡ true = λ w.
    and_from (is_resident h p.key) (is_protected h p.key) (not_stale (is_closing h p.key.region) (is_protected_why p.why) (is_resident h p.key) w fresh) (waiting_protected s h p.key l (subst (λ (xs : List Raise). list_any (asks_open p.key) xs ≡ true) (sym is) (or_left (asks_open p.key p) (list_any (asks_open p.key) ps) (and_from (is_protected_why p.why) (same p.key p.key) w (same_self p.key))))) in
    let want = wants_frame s h p l safe (home p.key.region) (first_fails (is_servable s h) p ps eb) in
    let waiting : list_any (waits_for_room h) (p ∷ ps) ≡ true = or_left (waits_for_room h p) (list_any (waits_for_room h) ps) want.0 in
    let idle : reads_out s h ≡ 0 = no_read_out s h home in
    let some_page : 0 < length (residents h) = omega (arith, want.1, idle, fits.some_frame) in (
      λ e. let f : cond (list_any (waits_for_room h) (p ∷ ps)) serve.Room serve.Nothing ≡ serve.Nothing = e in let g : serve.Room ≡ serve.Nothing = sym (cond-true (list_any (waits_for_room h) (p ∷ ps)) serve.Room serve.Nothing waiting) ∙ f in cc,
      λ e. (or_right (is_evicting s h) (free_frames s h == 0) (eq-eqb (free_frames s h) 0 want.1), pick_there h (residents h) home some_page),
    )

pub something_is_next : (s : Setup) (h : History Entry) → Fits s → IsLegal s h → ((r : ℕ) → is_home h r ≡ true) → 0 < length (pending h) → GoesAhead s h
something_is_next s h fits l home some =
    let r = goes_on s h (pending h) fits l home refl some (find (is_stale h) (pending h)) (find (is_servable s h) (pending h)) refl refl in
    record { something = r.0; room = r.1 }
