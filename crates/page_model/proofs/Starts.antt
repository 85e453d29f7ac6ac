-- The start of what is in flight.
use Rattle.std.proofs.Common.{Bool, Some, [], ap, append_assoc, false, inl, inr, length, refl, subst, sym, true, ℕ, ◌&&◌, ◌++◌, ◌==◌, ◌∙◌, ◌∷◌, ◌≡◌}
use Rattle.std.proofs.lemmas.Bool.{eqb-true, or_from}
use Rattle.std.specs.Bool.{OnTrue}
use Rattle.std.specs.List.{list_any}
use Rattle.histories.specs.Histories.{History, first}
use Rattle.histories.specs.Relations.{FirstIsPrefix}
use Rattle.page_base.specs.declared.keys.Key.{Key}
use Rattle.page_model.specs.declared.entry.Entry.{Entry}
use Rattle.page_model.specs.declared.entry.Entry.TheVariants.{Filled, ReadFailed, StartRead, StartWrite, WriteFailed, Written}
use Rattle.page_model.specs.Entries.{is_end, is_start, key_of, region_of}
use Rattle.page_model.specs.InFlight.{InFlight, before_start, in_flight}
use Rattle.page_model.specs.Laws.{InFlightIsThere, Started, WritesAreTaken}
use Rattle.page_model.specs.Memory.{flat}
use Rattle.page_model.specs.Setups.{is_told}
use Rattle.page_model.proofs.Flight.{before_is, own, when_end, when_start}
use Rattle.page_model.proofs.Prefixes.{legal_below}

-- one entry more, which ends nothing in the region
more : (h : History Entry) (r : ℕ) (t : InFlight) (x : ℕ × Entry) → (is_end x.1 && region_of x.1 == r) ≡ false → Started h r t → Started (x ∷ h) r t
more h r t x n s = record {
  later = x ∷ s.later;
  start = s.start;
  is = ap (λ (g : History Entry). x ∷ g) s.is;
  starts = s.starts;
  key = s.key;
  region = s.region;
  no_end = or_from (is_end x.1 && region_of x.1 == r) (list_any (λ (y : ℕ × Entry). is_end y.1 && region_of y.1 == r) s.later) n s.no_end;
}

started_here : (h : History Entry) (r o : ℕ) (k : Key) (w : Bool) (e : Entry) (t : InFlight) → is_start e ≡ true → key_of e ≡ Some k → (k.region == r) ≡ true → record { before = h; owner = o; key = k; writes = w } ≡ t → Started ((o, e) ∷ h) r t
started_here h r o k w e t starts key region is =
    subst (Started ((o, e) ∷ h) r) is (record { later = []; start = e; is = refl; starts = starts; key = key; region = eqb-true k.region r region; no_end = refl })

pub in_flight_there : InFlightIsThere
in_flight_there [] r t e = absurd cc
in_flight_there ((o, StartRead k) ∷ h) r t e = elim (when_start (k.region == r) (record { before = h; owner = o; key = k; writes = false }) (in_flight h r) t e) [
  | inl q ↦ started_here h r o k false (StartRead k) t refl refl q.0 q.1
  | inr q ↦ more h r t (o, StartRead k) refl (in_flight_there h r t q.1)
]
in_flight_there ((o, StartWrite k why) ∷ h) r t e = elim (when_start (k.region == r) (record { before = h; owner = o; key = k; writes = true }) (in_flight h r) t e) [
  | inl q ↦ started_here h r o k true (StartWrite k why) t refl refl q.0 q.1
  | inr q ↦ more h r t (o, StartWrite k why) refl (in_flight_there h r t q.1)
]
in_flight_there ((o, Filled k) ∷ h) r t e = let q = when_end (k.region == r) (in_flight h r) t e in more h r t (o, Filled k) q.0 (in_flight_there h r t q.1)
in_flight_there ((o, ReadFailed k n) ∷ h) r t e = let q = when_end (k.region == r) (in_flight h r) t e in more h r t (o, ReadFailed k n) q.0 (in_flight_there h r t q.1)
in_flight_there ((o, WriteFailed k n) ∷ h) r t e = let q = when_end (k.region == r) (in_flight h r) t e in more h r t (o, WriteFailed k n) q.0 (in_flight_there h r t q.1)
in_flight_there ((o, Written k at bytes) ∷ h) r t e = let q = when_end (k.region == r) (in_flight h r) t e in more h r t (o, Written k at bytes) q.0 (in_flight_there h r t q.1)
in_flight_there (x ∷ h) r t e = more h r t x refl (in_flight_there h r t e)

-- the history before the start is the prefix that is as long as its place says
before_first : FirstIsPrefix Entry → (h : History Entry) (r : ℕ) (t : InFlight) → in_flight h r ≡ Some t → first (length t.before) h ≡ t.before
before_first first_prefix h r t e =
    let s = in_flight_there h r t e in
    first_prefix t.before h (s.later ++ (t.owner, s.start) ∷ [], s.is ∙ sym (append_assoc s.later ((t.owner, s.start) ∷ []) t.before))

pub writes_taken : FirstIsPrefix Entry → WritesAreTaken
writes_taken first_prefix s later g o at k bytes l =
    let here = legal_below s later ((o, Written k at bytes) ∷ g) l in
    let mine = own (in_flight g k.region) o k true here.2.ends in
    let before : before_start g k.region ≡ mine.started.before = before_is g k.region mine.started mine.is in
    let place : at ≡ length mine.started.before = here.2.place ∙ ap (λ (x : History Entry). length x) before in
    let whole : before_start g k.region ≡ first at g = before ∙ (sym (before_first first_prefix g k.region mine.started mine.is) ∙ ap (λ n. first n g) (sym place)) in
    subst (λ (x : History Entry). OnTrue (is_told s k) (bytes ≡ flat s x k)) whole here.2.taken
