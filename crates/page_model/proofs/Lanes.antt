-- While I/O is in flight, its lane stays as it is.
use Rattle.std.proofs.Common.{Bool, List, None, Option, Some, [], ap, cond, false, filter, is_none, max, refl, subst, sym, true, ℕ, ◌&&◌, ◌++◌, ◌==◌, ◌∙◌, ◌∷◌, ◌≡◌}
use Rattle.std.proofs.lemmas.Bool.{and_from, and_left, and_right, cond-false, eq-eqb, eqb-true, false_from_ne_true, or_from, or_parts}
use Rattle.std.specs.Bool.{OnTrue}
use Rattle.std.specs.List.{list_any}
use Rattle.histories.specs.Histories.{History, calls_of}
use Rattle.page_base.specs.Pages.{same}
use Rattle.page_base.specs.declared.keys.Key.{Key}
use Rattle.page_model.specs.declared.entry.Entry.{Entry}
use Rattle.page_model.specs.declared.entry.Entry.TheVariants.{Filled, ReadFailed, StartRead, StartWrite, WriteFailed, Written}
use Rattle.page_model.specs.Entries.{is_end, region_of}
use Rattle.page_model.specs.InFlight.{InFlight, before_of, before_start, in_flight, is_home, is_own}
use Rattle.page_model.specs.Laws.{LaneStaysOut, StaysOut, TripsStayOpen, ends, is_fault_of}
use Rattle.page_model.specs.Legal.{IsLegal}
use Rattle.page_model.specs.Memory.{flat, kept}
use Rattle.page_model.specs.Setups.{Setup, is_told}
use Rattle.page_model.specs.StoreFaults.{last_fault}
use Rattle.page_model.proofs.Flight.{own}
use Rattle.page_model.proofs.Keys.{other_region}

end_is_other : (h : History Entry) (o : ℕ) (k : Key) (w : Bool) (r : ℕ) (t : InFlight) → in_flight h r ≡ Some t → is_own (in_flight h k.region) o k w ≡ true → (o == t.owner && k.region == r) ≡ false → (k.region == r) ≡ false
end_is_other h o k w r t out e none = false_from_ne_true (k.region == r) (λ is.
    let kr : k.region ≡ r = eqb-true k.region r is in
    let mine = own (in_flight h k.region) o k w e in
    let there : in_flight h k.region ≡ Some t = rw kr out in
    let one : mine.started ≡ t = cc (mine.is, there) in
    let owner : o ≡ t.owner = sym mine.owner ∙ ap (λ (x : InFlight). x.owner) one in
    let both : (o == t.owner && k.region == r) ≡ true = and_from (o == t.owner) (k.region == r) (eq-eqb o t.owner owner) is in
    cc)

start_is_other : (h : History Entry) (k : Key) (r : ℕ) (t : InFlight) → in_flight h r ≡ Some t → is_home h k.region ≡ true → (k.region == r) ≡ false
start_is_other h k r t out home = false_from_ne_true (k.region == r) (λ is.
    let kr : k.region ≡ r = eqb-true k.region r is in
    let there : in_flight h k.region ≡ Some t = rw kr out in
    let n : is_home h k.region ≡ false = ap is_none there in
    cc)

kept_elsewhere : (s : Setup) (h g : History Entry) (j k : Key) (r : ℕ) (bytes : Option (List ℕ)) → (j.region == r) ≡ false → k.region ≡ r → kept s h k ≡ kept s g k → cond (same j k) bytes (kept s h k) ≡ kept s g k
kept_elsewhere s h g j k r bytes n kr e =
    let other : (j.region == k.region) ≡ false = rw kr n in
    cond-false (same j k) bytes (kept s h k) (other_region j k other) ∙ e

fault_elsewhere : (b : Bool) (n : ℕ) (x y : ℕ) → b ≡ false → x ≡ y → cond b (max n x) x ≡ y
fault_elsewhere b n x y e f = cond-false b (max n x) x e ∙ f

faults_elsewhere : (b : Bool) (e : ℕ × Entry) (xs ys : List (ℕ × Entry)) → b ≡ false → xs ≡ ys → cond b (e ∷ xs) xs ≡ ys
faults_elsewhere b e xs ys is f = cond-false b (e ∷ xs) xs is ∙ f

pub lane_stays_out : LaneStaysOut
lane_stays_out s [] g r t l out none_ends = record { in_flight_is = out; kept_is = λ k e. refl; faults_are = refl; last_is = refl }
lane_stays_out s ((o, StartRead j) ∷ later) g r t l out none_ends =
    let ih = lane_stays_out s later g r t l.0 out none_ends in
    let n = start_is_other (later ++ g) j r t ih.in_flight_is l.2.0 in
    record { in_flight_is = cond-false (j.region == r) (Some (record { before = later ++ g; owner = o; key = j; writes = false })) (in_flight (later ++ g) r) n ∙ ih.in_flight_is; kept_is = ih.kept_is; faults_are = ih.faults_are; last_is = ih.last_is }
lane_stays_out s ((o, StartWrite j why) ∷ later) g r t l out none_ends =
    let ih = lane_stays_out s later g r t l.0 out none_ends in
    let n = start_is_other (later ++ g) j r t ih.in_flight_is l.2.home in
    record { in_flight_is = cond-false (j.region == r) (Some (record { before = later ++ g; owner = o; key = j; writes = true })) (in_flight (later ++ g) r) n ∙ ih.in_flight_is; kept_is = ih.kept_is; faults_are = ih.faults_are; last_is = ih.last_is }
lane_stays_out s ((o, Filled j) ∷ later) g r t l out none_ends =
    let q = or_parts (o == t.owner && j.region == r) (list_any (ends r t.owner) later) none_ends in
    let ih = lane_stays_out s later g r t l.0 out q.1 in
    let n = end_is_other (later ++ g) o j false r t ih.in_flight_is l.2 q.0 in
    record { in_flight_is = cond-false (j.region == r) None (in_flight (later ++ g) r) n ∙ ih.in_flight_is; kept_is = ih.kept_is; faults_are = ih.faults_are; last_is = ih.last_is }
lane_stays_out s ((o, ReadFailed j x) ∷ later) g r t l out none_ends =
    let q = or_parts (o == t.owner && j.region == r) (list_any (ends r t.owner) later) none_ends in
    let ih = lane_stays_out s later g r t l.0 out q.1 in
    let n = end_is_other (later ++ g) o j false r t ih.in_flight_is l.2.0 q.0 in
    record {
      in_flight_is = cond-false (j.region == r) None (in_flight (later ++ g) r) n ∙ ih.in_flight_is;
      kept_is = ih.kept_is;
      faults_are = faults_elsewhere (j.region == r) (o, ReadFailed j x) (filter (is_fault_of r) (later ++ g)) (filter (is_fault_of r) g) n ih.faults_are;
      last_is = fault_elsewhere (j.region == r) x (last_fault s (later ++ g) r) (last_fault s g r) n ih.last_is;
    }
lane_stays_out s ((o, WriteFailed j x) ∷ later) g r t l out none_ends =
    let q = or_parts (o == t.owner && j.region == r) (list_any (ends r t.owner) later) none_ends in
    let ih = lane_stays_out s later g r t l.0 out q.1 in
    let n = end_is_other (later ++ g) o j true r t ih.in_flight_is l.2.0 q.0 in
    record {
      in_flight_is = cond-false (j.region == r) None (in_flight (later ++ g) r) n ∙ ih.in_flight_is;
      kept_is = λ k kr. kept_elsewhere s (later ++ g) g j k r None n kr (ih.kept_is k kr);
      faults_are = faults_elsewhere (j.region == r) (o, WriteFailed j x) (filter (is_fault_of r) (later ++ g)) (filter (is_fault_of r) g) n ih.faults_are;
      last_is = fault_elsewhere (j.region == r) x (last_fault s (later ++ g) r) (last_fault s g r) n ih.last_is;
    }
lane_stays_out s ((o, Written j at bytes) ∷ later) g r t l out none_ends =
    let q = or_parts (o == t.owner && j.region == r) (list_any (ends r t.owner) later) none_ends in
    let ih = lane_stays_out s later g r t l.0 out q.1 in
    let n = end_is_other (later ++ g) o j true r t ih.in_flight_is l.2.ends q.0 in
    record { in_flight_is = cond-false (j.region == r) None (in_flight (later ++ g) r) n ∙ ih.in_flight_is; kept_is = λ k kr. kept_elsewhere s (later ++ g) g j k r (Some bytes) n kr (ih.kept_is k kr); faults_are = ih.faults_are; last_is = ih.last_is }
lane_stays_out s (e ∷ later) g r t l out none_ends =
    let ih = lane_stays_out s later g r t l.0 out none_ends in
    record { in_flight_is = ih.in_flight_is; kept_is = ih.kept_is; faults_are = ih.faults_are; last_is = ih.last_is }

-- ---- across two holds

another : (b : Bool) (e : Entry) (l : List Entry) → cond b (e ∷ l) l ≡ [] → (b ≡ false) × (l ≡ [])
another true e l n = absurd cc
another false e l n = (refl, n)

-- an owner that made no entry ended nothing
pub no_ends : (o r : ℕ) (later : History Entry) → calls_of o later ≡ [] → list_any (ends r o) later ≡ false
no_ends o r [] n = refl
no_ends o r ((p, e) ∷ later) n =
    let q = another (p == o) e (calls_of o later) n in
    or_from (ends r o (p, e)) (list_any (ends r o) later) (and_right (is_end e) (p == o && region_of e == r) (and_left (p == o) (region_of e == r) q.0)) (no_ends o r later q.1)

pub trips_stay_open : TripsStayOpen
trips_stay_open writes g h o c t others st is_open =
    let out : StaysOut c.setup g (others.later ++ g) t.key.region (record { before = is_open.before; owner = o; key = t.key; writes = writes }) =
    lane_stays_out c.setup others.later g t.key.region (record { before = is_open.before; owner = o; key = t.key; writes = writes }) (subst (IsLegal c.setup) others.is st.legal) is_open.is (no_ends o t.key.region others.later others.none) in
    let there : in_flight h t.key.region ≡ Some (record { before = is_open.before; owner = o; key = t.key; writes = writes }) =
    ap (λ (x : History Entry). in_flight x t.key.region) others.is ∙ out.in_flight_is in
    let before : before_start g t.key.region ≡ before_start h t.key.region = ap before_of (is_open.is ∙ sym there) in
    record {
      stays = record { before = is_open.before; is = there; at_is = is_open.at_is; taken = is_open.taken };
      taken = λ bytes w. subst (λ (x : History Entry). OnTrue (is_told c.setup t.key) (bytes ≡ flat c.setup x t.key)) before w;
    }
