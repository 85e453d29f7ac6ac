-- Residents and reads never pass the frames.
use Rattle.std.proofs.Common.{Bool, List, None, Option, Some, [], ap, arith, cond, false, filter, inl, inr, length, length-append, not, refl, suc, sym, true, ℕ, ◌+◌, ◌<◌, ◌==◌, ◌∙◌, ◌∷◌, ◌≡◌, ◌≤◌}
use Rattle.std.proofs.lemmas.Bool.{cases_eq, cond-false, cond-true, eq-eqb, ne_eqb}
use Rattle.std.specs.List.{range_with_len}
use Rattle.histories.specs.Histories.{History}
use Rattle.page_base.specs.Pages.{same}
use Rattle.page_base.specs.declared.keys.Key.{Key}
use Rattle.page_model.specs.declared.entry.Entry.{Entry}
use Rattle.page_model.specs.declared.entry.Entry.TheVariants.{Evicted, Filled, ReadFailed, StartRead, StartWrite, WriteFailed, Written}
use Rattle.page_model.specs.InFlight.{InFlight, in_flight, is_a_read, is_home, is_own}
use Rattle.page_model.specs.Laws.{NeverOverQuota}
use Rattle.page_model.specs.Residents.{reads_out, residents}
use Rattle.page_model.specs.Setups.{Setup, regions}
use Rattle.page_model.proofs.Counting.{count_more, count_none, count_same}
use Rattle.page_model.proofs.Flight.{own}
use Rattle.page_model.proofs.Nexts.{read_room}
use Rattle.page_model.proofs.Prefixes.{page_region}
use Rattle.page_model.proofs.Serving.{none_reads}

pub filter_shorter : {A : Type 0} (p : A → Bool) (xs : List A) → length (filter p xs) ≤ length xs
filter_shorter p [] = omega arith
filter_shorter {A} p (x ∷ xs) = go (p x) (filter_shorter p xs)
  where
    go : (b : Bool) → length (filter p xs) ≤ length xs → length (cond b (x ∷ filter p xs) (filter p xs)) ≤ suc (length xs)
    go true le = omega arith
    go false le = omega arith

own_kind : (f : Option InFlight) (o : ℕ) (k : Key) (w : Bool) → is_own f o k w ≡ true → is_a_read f ≡ not w
own_kind f o k w e = let mine = own f o k w e in ap is_a_read mine.is ∙ ap not mine.kind

abbrev pub reads_in : History Entry → ℕ → Bool
reads_in h r = is_a_read (in_flight h r)

-- the lane of region i goes out or comes home, and with it a read
read_changes : (s : Setup) (g h : History Entry) (i : ℕ) (x : Option InFlight) → i < regions s → ((r : ℕ) → in_flight h r ≡ cond (i == r) x (in_flight g r)) → is_a_read (in_flight g i) ≡ false → is_a_read x ≡ true → reads_out s h ≡ reads_out s g + 1
read_changes s g h i x lt is before after = count_more (reads_in g) (reads_in h) i 0 (regions s) (omega arith) (omega arith) before
    (ap is_a_read (is i ∙ cond-true (i == i) x (in_flight g i) (eq-eqb i i refl)) ∙ after)
    (λ j ne. sym (ap is_a_read (is j ∙ cond-false (i == j) x (in_flight g j) (ne_eqb i j (λ e. ne (sym e))))))

pub read_starts : (s : Setup) (h : History Entry) (o : ℕ) (k : Key) → k.region < regions s → is_home h k.region ≡ true → reads_out s ((o, StartRead k) ∷ h) ≡ reads_out s h + 1
read_starts s h o k lt home = read_changes s h ((o, StartRead k) ∷ h) k.region (Some (record { before = h; owner = o; key = k; writes = false })) lt (λ r. refl) (none_reads (in_flight h k.region) home) refl

-- a read's lane comes home
read_ends : (s : Setup) (h g : History Entry) (o : ℕ) (k : Key) → k.region < regions s → is_own (in_flight h k.region) o k false ≡ true → ((r : ℕ) → in_flight g r ≡ cond (k.region == r) None (in_flight h r)) → reads_out s h ≡ reads_out s g + 1
read_ends s h g o k lt mine is = count_more (reads_in g) (reads_in h) k.region 0 (regions s) (omega arith) (omega arith)
    (ap is_a_read (is k.region ∙ cond-true (k.region == k.region) None (in_flight h k.region) (eq-eqb k.region k.region refl)))
    (own_kind (in_flight h k.region) o k false mine)
    (λ j ne. ap is_a_read (is j ∙ cond-false (k.region == j) None (in_flight h j) (ne_eqb k.region j (λ e. ne (sym e)))))

-- a lane that isn't read goes out or comes home with a write
reads_stay : (s : Setup) (h g : History Entry) (k : Key) (x : Option InFlight) → is_a_read (in_flight h k.region) ≡ false → is_a_read x ≡ false → ((r : ℕ) → in_flight g r ≡ cond (k.region == r) x (in_flight h r)) → reads_out s g ≡ reads_out s h
reads_stay s h g k x idle writes is = count_same (reads_in g) (reads_in h) 0 (regions s) (λ j lt. elim (cases_eq k.region j) [
  | inl e ↦
      let old : is_a_read (in_flight h j) ≡ false = rw (← e) idle in
      ap is_a_read (is j ∙ cond-true (k.region == j) x (in_flight h j) (eq-eqb k.region j e)) ∙ (writes ∙ sym old)
  | inr ne ↦ ap is_a_read (is j ∙ cond-false (k.region == j) x (in_flight h j) (ne_eqb k.region j ne))
])

pub never_over : NeverOverQuota
never_over s [] l = let zero_reads : reads_out s [] ≡ 0 = count_none (reads_in []) (range_with_len 0 (regions s)) (λ r. refl) in omega arith
never_over s ((o, StartRead k) ∷ h) l =
    let room = read_room s h k l.2.1 in
    let more : reads_out s ((o, StartRead k) ∷ h) ≡ reads_out s h + 1 = read_starts s h o k (page_region s k l.1) l.2.0 in
    omega (arith, room.0)
never_over s ((o, Filled k) ∷ h) l =
    let fewer : reads_out s h ≡ reads_out s ((o, Filled k) ∷ h) + 1 = read_ends s h ((o, Filled k) ∷ h) o k (page_region s k l.1) l.2 (λ r. refl) in
    omega (arith, never_over s h l.0, length-append (residents h) (k ∷ []))
never_over s ((o, ReadFailed k n) ∷ h) l =
    let fewer : reads_out s h ≡ reads_out s ((o, ReadFailed k n) ∷ h) + 1 = read_ends s h ((o, ReadFailed k n) ∷ h) o k (page_region s k l.1) l.2.0 (λ r. refl) in
    omega (arith, never_over s h l.0)
never_over s ((o, StartWrite k why) ∷ h) l =
    let stay : reads_out s ((o, StartWrite k why) ∷ h) ≡ reads_out s h = reads_stay s h ((o, StartWrite k why) ∷ h) k (Some (record { before = h; owner = o; key = k; writes = true })) (none_reads (in_flight h k.region) l.2.home) refl (λ r. refl) in
    omega (arith, never_over s h l.0)
never_over s ((o, Written k at bytes) ∷ h) l =
    let stay : reads_out s ((o, Written k at bytes) ∷ h) ≡ reads_out s h = reads_stay s h ((o, Written k at bytes) ∷ h) k None (own_kind (in_flight h k.region) o k true l.2.ends) refl (λ r. refl) in
    omega (arith, never_over s h l.0)
never_over s ((o, WriteFailed k n) ∷ h) l =
    let stay : reads_out s ((o, WriteFailed k n) ∷ h) ≡ reads_out s h = reads_stay s h ((o, WriteFailed k n) ∷ h) k None (own_kind (in_flight h k.region) o k true l.2.0) refl (λ r. refl) in
    omega (arith, never_over s h l.0)
never_over s ((o, Evicted k why) ∷ h) l =
    let stay : reads_out s ((o, Evicted k why) ∷ h) ≡ reads_out s h = count_same (reads_in ((o, Evicted k why) ∷ h)) (reads_in h) 0 (regions s) (λ j lt. refl) in
    omega (arith, never_over s h l.0, filter_shorter (λ j. not (same j k)) (residents h))
never_over s (e ∷ h) l = never_over s h l.0
