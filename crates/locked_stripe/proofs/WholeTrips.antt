-- Trips that are whole, and where lanes are then.
use Rattle.std.proofs.Common.{◌≡◌, ℕ, ◌&&◌, ◌==◌, Bool, true, false, not, cond, List, [], ◌∷◌, ◌++◌, Option, Some, None, is_none, refl, sym, subst, ap, ◌∙◌, eq-eqb, inl, inr}
use Rattle.std.proofs.lemmas.Bool.{and_from, and_parts, cases_Bool, eqb-true}
use Rattle.histories.specs.Histories.{History, calls_of}
use Rattle.page_base.specs.Laws.{SameIsEqual}
use Rattle.page_base.specs.Pages.{same}
use Rattle.page_base.specs.declared.keys.Key.{Key}
use Rattle.page_model.specs.declared.entry.Entry.{Entry}
use Rattle.page_model.specs.declared.entry.Entry.TheVariants as entry
use Rattle.page_model.specs.declared.entry.Cause.{Cause}
use Rattle.page_model.specs.Entries.{is_start, is_end, region_of}
use Rattle.page_model.specs.InFlight.{InFlight, in_flight, is_home}
use Rattle.locked_stripe.specs.declared.answers.Served.{Served}
use Rattle.locked_stripe.specs.declared.answers.Served.TheVariants as served
use Rattle.locked_stripe.specs.declared.answers.Back.{Back}
use Rattle.locked_stripe.specs.declared.answers.Back.TheVariants as back
use Rattle.locked_stripe.specs.Answers.{served_entries, back_entries}
use Rattle.locked_stripe.specs.Calls.{AllHome}
use Rattle.locked_stripe.specs.WholeTrips.{starts_read, starts_write, is_start_of, whole_below, trips_are_whole}
use Rattle.locked_stripe.specs.TripLaws.{WholeTripsAddUp}

and_self : (a : Bool) → a ≡ true → a && true ≡ true
and_self a e = and_from a true e refl

module _ (keys : SameIsEqual) where
  pub served_whole : (s : Served) → trips_are_whole (served_entries s) ≡ true
  served_whole served.Nothing = refl
  served_whole served.Room = refl
  served_whole (served.Dropped k) = refl
  served_whole (served.Opened k) = refl
  served_whole (served.Filled k why) = and_self (same k k) (keys.self_ k)
  served_whole (served.ReadFailed k n) = and_self (same k k) (keys.self_ k)

  pub back_whole : (at : ℕ) (bytes : List ℕ) (b : Back) → trips_are_whole (back_entries at bytes b) ≡ true
  back_whole at bytes back.Nothing = refl
  back_whole at bytes (back.Evicted k) = refl
  back_whole at bytes (back.Written k) = and_self (same k k) (keys.self_ k)
  back_whole at bytes (back.WriteFailed k n) = and_self (same k k) (keys.self_ k)

both_below : (o : Option Entry) (es fs : List Entry) → whole_below o es ≡ true → trips_are_whole fs ≡ true → whole_below o (es ++ fs) ≡ true
both_below None [] fs a b = b
both_below (Some end) [] fs a b = absurd cc
both_below None (e ∷ es) fs a b = elim (cases_Bool (is_end e)) [
  | inl is ↦
      let past : whole_below (Some e) es ≡ true = subst (λ (c : Bool). cond c (whole_below (Some e) es) (not (is_start e) && whole_below None es) ≡ true) is a in
      subst (λ (c : Bool). cond c (whole_below (Some e) (es ++ fs)) (not (is_start e) && whole_below None (es ++ fs)) ≡ true) (sym is) (both_below (Some e) es fs past b)
  | inr not_end ↦
      let past : (not (is_start e) && whole_below None es) ≡ true = subst (λ (c : Bool). cond c (whole_below (Some e) es) (not (is_start e) && whole_below None es) ≡ true) not_end a in
      let parts = and_parts (not (is_start e)) (whole_below None es) past in
      subst (λ (c : Bool). cond c (whole_below (Some e) (es ++ fs)) (not (is_start e) && whole_below None (es ++ fs)) ≡ true) (sym not_end) (and_from (not (is_start e)) (whole_below None (es ++ fs)) parts.0 (both_below None es fs parts.1 b))
]
both_below (Some end) (e ∷ es) fs a b =
    let parts = and_parts (is_start_of end e) (whole_below None es) a in
    and_from (is_start_of end e) (whole_below None (es ++ fs)) parts.0 (both_below None es fs parts.1 b)

pub both_whole : (later own : List Entry) → trips_are_whole later ≡ true → trips_are_whole own ≡ true → trips_are_whole (later ++ own) ≡ true
both_whole later own a b = both_below None later own a b

-- ---- where each caller's trips are whole, every lane is home

-- only a start is a start of something
read_is : (k : Key) (e : Entry) → starts_read k e ≡ true → is_start e ≡ true
read_is k (entry.Load j place bytes) b = absurd cc
read_is k (entry.Save j place bytes) b = absurd cc
read_is k (entry.Raised j why) b = absurd cc
read_is k (entry.StartRead j) b = refl
read_is k (entry.Filled j) b = absurd cc
read_is k (entry.ReadFailed j n) b = absurd cc
read_is k (entry.Opened j) b = absurd cc
read_is k (entry.Dropped j) b = absurd cc
read_is k (entry.StartWrite j why) b = absurd cc
read_is k (entry.Written j at bytes) b = absurd cc
read_is k (entry.WriteFailed j n) b = absurd cc
read_is k (entry.Evicted j why) b = absurd cc
read_is k (entry.Hint j answer) b = absurd cc
read_is k (entry.Closing r) b = absurd cc
read_is k (entry.Unmapped r) b = absurd cc

write_is : (k : Key) (e : Entry) → starts_write k e ≡ true → is_start e ≡ true
write_is k (entry.Load j place bytes) b = absurd cc
write_is k (entry.Save j place bytes) b = absurd cc
write_is k (entry.Raised j why) b = absurd cc
write_is k (entry.StartRead j) b = absurd cc
write_is k (entry.Filled j) b = absurd cc
write_is k (entry.ReadFailed j n) b = absurd cc
write_is k (entry.Opened j) b = absurd cc
write_is k (entry.Dropped j) b = absurd cc
write_is k (entry.StartWrite j why) b = refl
write_is k (entry.Written j at bytes) b = absurd cc
write_is k (entry.WriteFailed j n) b = absurd cc
write_is k (entry.Evicted j why) b = absurd cc
write_is k (entry.Hint j answer) b = absurd cc
write_is k (entry.Closing r) b = absurd cc
write_is k (entry.Unmapped r) b = absurd cc

start_is : (end e : Entry) → is_start_of end e ≡ true → is_start e ≡ true
start_is (entry.Load j place bytes) e b = absurd cc
start_is (entry.Save j place bytes) e b = absurd cc
start_is (entry.Raised j why) e b = absurd cc
start_is (entry.StartRead j) e b = absurd cc
start_is (entry.Filled j) e b = read_is j e b
start_is (entry.ReadFailed j n) e b = read_is j e b
start_is (entry.Opened j) e b = absurd cc
start_is (entry.Dropped j) e b = absurd cc
start_is (entry.StartWrite j why) e b = absurd cc
start_is (entry.Written j at bytes) e b = write_is j e b
start_is (entry.WriteFailed j n) e b = write_is j e b
start_is (entry.Evicted j why) e b = absurd cc
start_is (entry.Hint j answer) e b = absurd cc
start_is (entry.Closing r) e b = absurd cc
start_is (entry.Unmapped r) e b = absurd cc

-- an end of a page of this region is awaited
abbrev awaits : ℕ → Option Entry → Bool
awaits q None = false
awaits q (Some e) = is_end e && (region_of e == q)

awaits_read : SameIsEqual → (q : ℕ) (k : Key) (end : Entry) → (k.region == q) ≡ true → is_start_of end (entry.StartRead k) ≡ true → awaits q (Some end) ≡ true
awaits_read keys q k (entry.Load j place bytes) of b = absurd cc
awaits_read keys q k (entry.Save j place bytes) of b = absurd cc
awaits_read keys q k (entry.Raised j why) of b = absurd cc
awaits_read keys q k (entry.StartRead j) of b = absurd cc
awaits_read keys q k (entry.Filled j) of b = subst (λ (x : Key). (x.region == q) ≡ true) (keys.equal k j b) of
awaits_read keys q k (entry.ReadFailed j n) of b = subst (λ (x : Key). (x.region == q) ≡ true) (keys.equal k j b) of
awaits_read keys q k (entry.Opened j) of b = absurd cc
awaits_read keys q k (entry.Dropped j) of b = absurd cc
awaits_read keys q k (entry.StartWrite j why) of b = absurd cc
awaits_read keys q k (entry.Written j at bytes) of b = absurd cc
awaits_read keys q k (entry.WriteFailed j n) of b = absurd cc
awaits_read keys q k (entry.Evicted j why) of b = absurd cc
awaits_read keys q k (entry.Hint j answer) of b = absurd cc
awaits_read keys q k (entry.Closing r) of b = absurd cc
awaits_read keys q k (entry.Unmapped r) of b = absurd cc

awaits_write : SameIsEqual → (q : ℕ) (k : Key) (cause : Cause) (end : Entry) → (k.region == q) ≡ true → is_start_of end (entry.StartWrite k cause) ≡ true → awaits q (Some end) ≡ true
awaits_write keys q k cause (entry.Load j place bytes) of b = absurd cc
awaits_write keys q k cause (entry.Save j place bytes) of b = absurd cc
awaits_write keys q k cause (entry.Raised j why) of b = absurd cc
awaits_write keys q k cause (entry.StartRead j) of b = absurd cc
awaits_write keys q k cause (entry.Filled j) of b = absurd cc
awaits_write keys q k cause (entry.ReadFailed j n) of b = absurd cc
awaits_write keys q k cause (entry.Opened j) of b = absurd cc
awaits_write keys q k cause (entry.Dropped j) of b = absurd cc
awaits_write keys q k cause (entry.StartWrite j why) of b = absurd cc
awaits_write keys q k cause (entry.Written j at bytes) of b = subst (λ (x : Key). (x.region == q) ≡ true) (keys.equal k j b) of
awaits_write keys q k cause (entry.WriteFailed j n) of b = subst (λ (x : Key). (x.region == q) ≡ true) (keys.equal k j b) of
awaits_write keys q k cause (entry.Evicted j why) of b = absurd cc
awaits_write keys q k cause (entry.Hint j answer) of b = absurd cc
awaits_write keys q k cause (entry.Closing r) of b = absurd cc
awaits_write keys q k cause (entry.Unmapped r) of b = absurd cc

-- the newest entry of a caller
newest : (o : ℕ) (e : Entry) (h : History Entry) → calls_of o ((o, e) ∷ h) ≡ e ∷ calls_of o h
newest o e h = ap (λ (b : Bool). cond b (e ∷ calls_of o h) (calls_of o h)) (eq-eqb o o refl)

-- what is awaited below this entry of caller o
abbrev below : ℕ → Option Entry → (ℕ → Option Entry) → ℕ → Option Entry
below o now awaited p = cond (o == p) now (awaited p)

abbrev AreWhole : (ℕ → Option Entry) → History Entry → Type 0
AreWhole awaited h = (o : ℕ) → whole_below (awaited o) (calls_of o h) ≡ true

whole_next : (o : ℕ) (e : Entry) (h : History Entry) (awaited : ℕ → Option Entry) (now : Option Entry) → AreWhole awaited ((o, e) ∷ h) → whole_below now (calls_of o h) ≡ true → AreWhole (below o now awaited) h
whole_next o e h awaited now all own p = elim (cases_Bool (o == p)) [
  | inl is ↦
      let op : o ≡ p = eqb-true o p is in
      subst (λ (b : Bool). whole_below (cond b now (awaited p)) (calls_of p h) ≡ true) (sym is) (subst (λ (x : ℕ). whole_below now (calls_of x h) ≡ true) op own)
  | inr other ↦
      subst (λ (b : Bool). whole_below (cond b now (awaited p)) (calls_of p h) ≡ true) (sym other) (subst (λ (b : Bool). whole_below (awaited p) (cond b (e ∷ calls_of p h) (calls_of p h)) ≡ true) other (all p))
]

whole_own : (o : ℕ) (e : Entry) (h : History Entry) (awaited : ℕ → Option Entry) → AreWhole awaited ((o, e) ∷ h) → whole_below (awaited o) (e ∷ calls_of o h) ≡ true
whole_own o e h awaited all = subst (λ (es : List Entry). whole_below (awaited o) es ≡ true) (newest o e h) (all o)

-- a start is awaited, and below it nothing is
below_start : (w : Option Entry) (e : Entry) (es : List Entry) → is_start e ≡ true → is_end e ≡ false → whole_below w (e ∷ es) ≡ true → whole_below None es ≡ true
below_start None e es s n a =
    let past : (not (is_start e) && whole_below None es) ≡ true = subst (λ (c : Bool). cond c (whole_below (Some e) es) (not (is_start e) && whole_below None es) ≡ true) n a in
    (and_parts (not (is_start e)) (whole_below None es) past).1
below_start (Some end) e es s n a = (and_parts (is_start_of end e) (whole_below None es) a).1

-- nothing is awaited of an entry that starts nothing
none_awaited : (w : Option Entry) (e : Entry) (es : List Entry) → is_start e ≡ false → whole_below w (e ∷ es) ≡ true → w ≡ None
none_awaited None e es s a = refl
none_awaited (Some end) e es s a = let y = start_is end e (and_parts (is_start_of end e) (whole_below None es) a).0 in absurd (at (is_start e) s y)
  where
    at : (b : Bool) → b ≡ false → b ≡ true → ⊥
    at true f t = absurd cc
    at false f t = absurd cc

below_end : (e : Entry) (es : List Entry) → is_end e ≡ true → whole_below None (e ∷ es) ≡ true → whole_below (Some e) es ≡ true
below_end e es is a = subst (λ (c : Bool). cond c (whole_below (Some e) es) (not (is_start e) && whole_below None es) ≡ true) is a

below_other : (e : Entry) (es : List Entry) → is_end e ≡ false → whole_below None (e ∷ es) ≡ true → whole_below None es ≡ true
below_other e es n a = (and_parts (not (is_start e)) (whole_below None es) (subst (λ (c : Bool). cond c (whole_below (Some e) es) (not (is_start e) && whole_below None es) ≡ true) n a)).1

-- where what is awaited below is awaited here too
from_below : (q o p : ℕ) (now : Option Entry) (awaited : ℕ → Option Entry) → (awaits q now ≡ true → awaits q (awaited o) ≡ true) → awaits q (below o now awaited p) ≡ true → awaits q (awaited p) ≡ true
from_below q o p now awaited own a = elim (cases_Bool (o == p)) [
  | inl is ↦
      let op : o ≡ p = eqb-true o p is in
      subst (λ (x : ℕ). awaits q (awaited x) ≡ true) op (own (subst (λ (b : Bool). awaits q (cond b now (awaited p)) ≡ true) is a))
  | inr other ↦ subst (λ (b : Bool). awaits q (cond b now (awaited p)) ≡ true) other a
]

started_at : (b : Bool) (s t : InFlight) (before : Option InFlight) → cond b (Some s) before ≡ Some t → b ≡ true → s.owner ≡ t.owner
started_at true s t before e is = ap (λ (x : InFlight). x.owner) (some_same s t e)
  where
    some_same : (x y : InFlight) → Some x ≡ Some y → x ≡ y
    some_same x y q = cc
started_at false s t before e is = absurd cc

module _ (keys : SameIsEqual) (q : ℕ) where
  none_here : awaits q None ≡ true → ⊥
  none_here b = absurd cc

  at_start : (o : ℕ) (e : Entry) (h : History Entry) (w : Option Entry) → is_start e ≡ true → is_end e ≡ false → ((end : Entry) → is_start_of end e ≡ true → awaits q (Some end) ≡ true) → whole_below w (e ∷ calls_of o h) ≡ true → awaits q w ≡ true
  at_start o e h None s n f a = absurd (at (is_start e) s (and_parts (not (is_start e)) (whole_below None (calls_of o h)) (subst (λ (c : Bool). cond c (whole_below (Some e) (calls_of o h)) (not (is_start e) && whole_below None (calls_of o h)) ≡ true) n a)).0)
    where
      at : (b : Bool) → b ≡ true → not b ≡ true → ⊥
      at true x y = absurd cc
      at false x y = absurd cc
  at_start o e h (Some end) s n f a = f end (and_parts (is_start_of end e) (whole_below None (calls_of o h)) a).0

  -- an end ends what was in flight in its region alone
  at_end : (o : ℕ) (e : Entry) (k : Key) (h : History Entry) (awaited : ℕ → Option Entry) (t : InFlight) → is_end e ≡ true → is_start e ≡ false → region_of e ≡ k.region → AreWhole awaited ((o, e) ∷ h)
      → ((b : Bool) → (k.region == q) ≡ b → cond b None (in_flight h q) ≡ Some t) → (AreWhole (below o (Some e) awaited) h → in_flight h q ≡ Some t → awaits q (below o (Some e) awaited t.owner) ≡ true)
      → awaits q (awaited t.owner) ≡ true
  at_end o e k h awaited t is no_start region all flight rest = elim (cases_Bool (k.region == q)) [
    | inl here ↦ absurd (nothing (flight true here))
    | inr other ↦
        let own = whole_own o e h awaited all in
        let none : awaited o ≡ None = none_awaited (awaited o) e (calls_of o h) no_start own in
        let below_it = below_end e (calls_of o h) is (subst (λ (w : Option Entry). whole_below w (e ∷ calls_of o h) ≡ true) none own) in
        from_below q o t.owner (Some e) awaited (λ a. absurd (differs (k.region == q) other (subst (λ (n : ℕ). (n == q) ≡ true) region (and_parts (is_end e) (region_of e == q) a).1))) (rest (whole_next o e h awaited (Some e) all below_it) (flight false other))
  ]
    where
      nothing : ◌≡◌ {A = Option InFlight} None (Some t) → ⊥
      nothing x = absurd cc

      differs : (b : Bool) → b ≡ false → b ≡ true → ⊥
      differs true x y = absurd cc
      differs false x y = absurd cc

  in_other : (o : ℕ) (e : Entry) (h : History Entry) (awaited : ℕ → Option Entry) (t : InFlight) → is_end e ≡ false → is_start e ≡ false → AreWhole awaited ((o, e) ∷ h) → (AreWhole (below o None awaited) h → awaits q (below o None awaited t.owner) ≡ true) → awaits q (awaited t.owner) ≡ true
  in_other o e h awaited t no_end no_start all rest =
      let own = whole_own o e h awaited all in
      let none : awaited o ≡ None = none_awaited (awaited o) e (calls_of o h) no_start own in
      let below_it = below_other e (calls_of o h) no_end (subst (λ (w : Option Entry). whole_below w (e ∷ calls_of o h) ≡ true) none own) in
      from_below q o t.owner None awaited (λ b. absurd (none_here b)) (rest (whole_next o e h awaited None all below_it))

  -- what is in flight in region q is awaited of who started it
  in_flight_awaited : (h : History Entry) (awaited : ℕ → Option Entry) → AreWhole awaited h → (t : InFlight) → in_flight h q ≡ Some t → awaits q (awaited t.owner) ≡ true
  in_flight_awaited [] awaited all t e = absurd cc
  in_flight_awaited ((o, entry.Load j place bytes) ∷ h) awaited all t e = in_other o (entry.Load j place bytes) h awaited t refl refl all (λ next. in_flight_awaited h (below o None awaited) next t e)
  in_flight_awaited ((o, entry.Save j place bytes) ∷ h) awaited all t e = in_other o (entry.Save j place bytes) h awaited t refl refl all (λ next. in_flight_awaited h (below o None awaited) next t e)
  in_flight_awaited ((o, entry.Raised j why) ∷ h) awaited all t e = in_other o (entry.Raised j why) h awaited t refl refl all (λ next. in_flight_awaited h (below o None awaited) next t e)
  in_flight_awaited ((o, entry.StartRead j) ∷ h) awaited all t e =
      let own = whole_own o (entry.StartRead j) h awaited all in
      elim (cases_Bool (j.region == q)) [
        | inl is ↦
            let by_o : o ≡ t.owner = started_at (j.region == q) (record { before = h; owner = o; key = j; writes = false }) t (in_flight h q) e is in
            subst (λ (p : ℕ). awaits q (awaited p) ≡ true) by_o (at_start o (entry.StartRead j) h (awaited o) refl refl (λ end b. awaits_read keys q j end is b) own)
        | inr other ↦
            let behind : in_flight h q ≡ Some t = subst (λ (b : Bool). cond b (Some (record { before = h; owner = o; key = j; writes = false })) (in_flight h q) ≡ Some t) other e in
            from_below q o t.owner None awaited (λ b. absurd (none_here b)) (in_flight_awaited h (below o None awaited) (whole_next o (entry.StartRead j) h awaited None all (below_start (awaited o) (entry.StartRead j) (calls_of o h) refl refl own)) t behind)
      ]
  in_flight_awaited ((o, entry.Filled j) ∷ h) awaited all t e = at_end o (entry.Filled j) j h awaited t refl refl refl all (λ b is. subst (λ (c : Bool). cond c None (in_flight h q) ≡ Some t) is e) (λ next. in_flight_awaited h (below o (Some (entry.Filled j)) awaited) next t)
  in_flight_awaited ((o, entry.ReadFailed j n) ∷ h) awaited all t e = at_end o (entry.ReadFailed j n) j h awaited t refl refl refl all (λ b is. subst (λ (c : Bool). cond c None (in_flight h q) ≡ Some t) is e) (λ next. in_flight_awaited h (below o (Some (entry.ReadFailed j n)) awaited) next t)
  in_flight_awaited ((o, entry.Opened j) ∷ h) awaited all t e = in_other o (entry.Opened j) h awaited t refl refl all (λ next. in_flight_awaited h (below o None awaited) next t e)
  in_flight_awaited ((o, entry.Dropped j) ∷ h) awaited all t e = in_other o (entry.Dropped j) h awaited t refl refl all (λ next. in_flight_awaited h (below o None awaited) next t e)
  in_flight_awaited ((o, entry.StartWrite j why) ∷ h) awaited all t e =
      let own = whole_own o (entry.StartWrite j why) h awaited all in
      elim (cases_Bool (j.region == q)) [
        | inl is ↦
            let by_o : o ≡ t.owner = started_at (j.region == q) (record { before = h; owner = o; key = j; writes = true }) t (in_flight h q) e is in
            subst (λ (p : ℕ). awaits q (awaited p) ≡ true) by_o (at_start o (entry.StartWrite j why) h (awaited o) refl refl (λ end b. awaits_write keys q j why end is b) own)
        | inr other ↦
            let behind : in_flight h q ≡ Some t = subst (λ (b : Bool). cond b (Some (record { before = h; owner = o; key = j; writes = true })) (in_flight h q) ≡ Some t) other e in
            from_below q o t.owner None awaited (λ b. absurd (none_here b)) (in_flight_awaited h (below o None awaited) (whole_next o (entry.StartWrite j why) h awaited None all (below_start (awaited o) (entry.StartWrite j why) (calls_of o h) refl refl own)) t behind)
      ]
  in_flight_awaited ((o, entry.Written j at bytes) ∷ h) awaited all t e = at_end o (entry.Written j at bytes) j h awaited t refl refl refl all (λ b is. subst (λ (c : Bool). cond c None (in_flight h q) ≡ Some t) is e) (λ next. in_flight_awaited h (below o (Some (entry.Written j at bytes)) awaited) next t)
  in_flight_awaited ((o, entry.WriteFailed j n) ∷ h) awaited all t e = at_end o (entry.WriteFailed j n) j h awaited t refl refl refl all (λ b is. subst (λ (c : Bool). cond c None (in_flight h q) ≡ Some t) is e) (λ next. in_flight_awaited h (below o (Some (entry.WriteFailed j n)) awaited) next t)
  in_flight_awaited ((o, entry.Evicted j why) ∷ h) awaited all t e = in_other o (entry.Evicted j why) h awaited t refl refl all (λ next. in_flight_awaited h (below o None awaited) next t e)
  in_flight_awaited ((o, entry.Hint j answer) ∷ h) awaited all t e = in_other o (entry.Hint j answer) h awaited t refl refl all (λ next. in_flight_awaited h (below o None awaited) next t e)
  in_flight_awaited ((o, entry.Closing r) ∷ h) awaited all t e = in_other o (entry.Closing r) h awaited t refl refl all (λ next. in_flight_awaited h (below o None awaited) next t e)
  in_flight_awaited ((o, entry.Unmapped r) ∷ h) awaited all t e = in_other o (entry.Unmapped r) h awaited t refl refl all (λ next. in_flight_awaited h (below o None awaited) next t e)

pub whole_home : SameIsEqual → (h : History Entry) → ((o : ℕ) → trips_are_whole (calls_of o h) ≡ true) → AllHome h
whole_home keys h all q = at (in_flight h q) refl
  where
    at : (f : Option InFlight) → in_flight h q ≡ f → is_none (in_flight h q) ≡ true
    at None e = ap is_none e
    at (Some t) e = absurd (none_here keys q (in_flight_awaited keys q h (λ o. None) all t e))

pub whole_all : SameIsEqual → WholeTripsAddUp
whole_all keys = record { both = both_whole; served = served_whole keys; back = back_whole keys; home = whole_home keys }
