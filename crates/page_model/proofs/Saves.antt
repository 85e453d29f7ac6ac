-- A Save is held in memory, or a later write holds it.
use Rattle.std.proofs.Common.{List, None, Some, [], ap, arith, cond, false, inl, inr, length, length-append, nat_lt, not, refl, subst, suc, true, ℕ, ◌&&◌, ◌++◌, ◌+◌, ◌==◌, ◌∙◌, ◌∷◌, ◌≡◌, ◌≤◌}
use Rattle.std.proofs.lemmas.Bool.{and_from, and_right, cases_Bool, cases_lt, false_from_ne_true, lt-ltb, or_from, or_left, or_right}
use Rattle.std.specs.List.{list_any}
use Rattle.histories.specs.Histories.{History}
use Rattle.page_base.specs.Pages.{same}
use Rattle.page_base.specs.declared.keys.Key.{Key}
use Rattle.page_model.specs.declared.entry.Entry.{Entry}
use Rattle.page_model.specs.declared.entry.Entry.TheVariants.{Evicted, Filled, Opened, ReadFailed, Save, StartRead, StartWrite, WriteFailed, Written}
use Rattle.page_model.specs.Bits.{is_dirty, opened_at, written_since}
use Rattle.page_model.specs.Faults.{is_write, last_why}
use Rattle.page_model.specs.InFlight.{InFlight, in_flight, is_reading}
use Rattle.page_model.specs.Laws.{StoresAreHeld, evicts}
use Rattle.page_model.specs.Legal.{IsLegal}
use Rattle.page_model.specs.Residents.{is_in, residents, without}
use Rattle.page_model.specs.Setups.{Setup}
use Rattle.page_model.proofs.Bits.{Later, dirty_opened, dirty_written, later_opened, later_other, opened_since, still_dirty, unprotected_dirty, written_below}
use Rattle.page_model.proofs.Flight.{at_key, before_is, own, started_before, when_end, when_start}
use Rattle.page_model.proofs.Keys.{other_region, same-true}
use Rattle.page_model.proofs.Lists.{any_grows, filter_any, last_any}
use Rattle.page_model.proofs.Raises.{apart, filled_was_reading}

-- a write that was in flight at the Save started before the page was last opened
opened_behind : (s : Setup) (later g : History Entry) (p place : ℕ) (k : Key) (bytes : List ℕ) (t : InFlight) → IsLegal s (later ++ (p, Save k place bytes) ∷ g) → in_flight (later ++ (p, Save k place bytes) ∷ g) k.region ≡ Some t → t.key ≡ k → t.writes ≡ true → length t.before ≤ length g
    → Later (opened_at (later ++ (p, Save k place bytes) ∷ g) k) (length t.before)
opened_behind s [] g p place k bytes t l e tk w le = opened_since s g k t l.0 e tk w l.2.1.unprotected
opened_behind s ((o, StartRead j) ∷ later) g p place k bytes t l e tk w le =
    let h : History Entry = later ++ (p, Save k place bytes) ∷ g in
    elim (when_start (j.region == k.region) (record { before = h; owner = o; key = j; writes = false }) (in_flight h k.region) t e) [
      | inl q ↦ let f : false ≡ t.writes = ap (λ (x : InFlight). x.writes) q.1 in absurd cc
      | inr q ↦ opened_behind s later g p place k bytes t l.0 q.1 tk w le
    ]
opened_behind s ((o, StartWrite j why) ∷ later) g p place k bytes t l e tk w le =
    let h : History Entry = later ++ (p, Save k place bytes) ∷ g in
    elim (when_start (j.region == k.region) (record { before = h; owner = o; key = j; writes = true }) (in_flight h k.region) t e) [
      | inl q ↦
          let long : length h ≡ length later + suc (length g) = length-append later ((p, Save k place bytes) ∷ g) in
          let same_length : length h ≡ length t.before = ap (λ (x : InFlight). length x.before) q.1 in
          absurd (omega (arith, long, same_length, le))
      | inr q ↦ opened_behind s later g p place k bytes t l.0 q.1 tk w le
    ]
opened_behind s ((o, Filled j) ∷ later) g p place k bytes t l e tk w le =
    let h : History Entry = later ++ (p, Save k place bytes) ∷ g in
    let q = when_end (j.region == k.region) (in_flight h k.region) t e in
    later_other (same j k) (cond (is_write (last_why h k)) (Some (length h)) None) (opened_at h k) (length t.before) (other_region j k q.0) (opened_behind s later g p place k bytes t l.0 q.1 tk w le)
opened_behind s ((o, ReadFailed j n) ∷ later) g p place k bytes t l e tk w le = opened_behind s later g p place k bytes t l.0 (when_end (j.region == k.region) (in_flight (later ++ (p, Save k place bytes) ∷ g) k.region) t e).1 tk w le
opened_behind s ((o, WriteFailed j n) ∷ later) g p place k bytes t l e tk w le = opened_behind s later g p place k bytes t l.0 (when_end (j.region == k.region) (in_flight (later ++ (p, Save k place bytes) ∷ g) k.region) t e).1 tk w le
opened_behind s ((o, Written j at x) ∷ later) g p place k bytes t l e tk w le = opened_behind s later g p place k bytes t l.0 (when_end (j.region == k.region) (in_flight (later ++ (p, Save k place bytes) ∷ g) k.region) t e).1 tk w le
opened_behind s ((o, Opened j) ∷ later) g p place k bytes t l e tk w le =
    let h : History Entry = later ++ (p, Save k place bytes) ∷ g in
    later_opened (same j k) false (length h) (opened_at h k) (length t.before) (started_before h k.region t e) (λ q. opened_behind s later g p place k bytes t l.0 e tk w le) (and_right (not (same j k)) false refl)
opened_behind s (x ∷ later) g p place k bytes t l e tk w le = opened_behind s later g p place k bytes t l.0 e tk w le

-- what is resident stays without another page
still_in : (j k : Key) (ks : List Key) → same j k ≡ false → is_in k ks ≡ true → is_in k (without j ks) ≡ true
still_in j k ks n e = filter_any (λ x. not (same x j)) (λ x. same x k) ks (any_grows (λ x. same x k) (λ x. not (same x j) && same x k) ks (λ x xk.
    let one : x ≡ k = same-true x k xk in
    let d : same x j ≡ false = false_from_ne_true (same x j) (λ xj. let two : x ≡ j = same-true x j xj in let jk : same j k ≡ true = rw (← two) xk in cc) in
    and_from (not (same x j)) (same x k) (ap not d) xk) e)

pub stores_held : StoresAreHeld
stores_held s [] g p place k bytes l = inr (record { resident = l.2.0.resident; dirty = unprotected_dirty s g k l.0 l.2.1.unprotected; stayed = refl })
stores_held s ((o, Filled j) ∷ later) g p place k bytes l =
    let h : History Entry = later ++ (p, Save k place bytes) ∷ g in
    elim (stores_held s later g p place k bytes l.0) [
      | inl w ↦ inl w
      | inr held ↦
          let n : same j k ≡ false = false_from_ne_true (same j k) (λ t.
          let r : is_reading h k ≡ true = subst (λ (x : Key). is_reading h x ≡ true) (same-true j k t) (filled_was_reading h o j l.2) in
          (apart s h k l.0).read_absent r held.resident) in
          inr (record {
            resident = last_any (λ x. same x k) (residents h) j (inl held.resident);
            dirty = still_dirty (same j k) (cond (is_write (last_why h k)) (Some (length h)) None) (opened_at h k) (written_since h k) n held.dirty;
            stayed = held.stayed;
          })
    ]
stores_held s ((o, Opened j) ∷ later) g p place k bytes l =
    let h : History Entry = later ++ (p, Save k place bytes) ∷ g in
    elim (stores_held s later g p place k bytes l.0) [
      | inl w ↦ inl w
      | inr held ↦ inr (record {
        resident = held.resident;
        dirty = dirty_opened (same j k) false (length h) (opened_at h k) (written_since h k) (written_below s h k (length h) l.0 (omega arith)) (λ q. held.dirty) (and_right (not (same j k)) false refl);
        stayed = held.stayed;
      })
    ]
stores_held s ((o, Evicted j why) ∷ later) g p place k bytes l =
    let h : History Entry = later ++ (p, Save k place bytes) ∷ g in
    elim (stores_held s later g p place k bytes l.0) [
      | inl w ↦ inl w
      | inr held ↦
          let n : same j k ≡ false = false_from_ne_true (same j k) (λ t. let d : is_dirty h k ≡ false = subst (λ (x : Key). is_dirty h x ≡ false) (same-true j k t) l.2.clean in let y : is_dirty h k ≡ true = held.dirty in cc) in
          inr (record { resident = still_in j k (residents h) n held.resident; dirty = held.dirty; stayed = or_from (same j k) (list_any (evicts k) later) n held.stayed })
    ]
stores_held s ((o, Written j at x) ∷ later) g p place k bytes l =
    let h : History Entry = later ++ (p, Save k place bytes) ∷ g in
    elim (stores_held s later g p place k bytes l.0) [
      | inl w ↦ inl (or_right (same j k && nat_lt (length g) at) (written_since h k (length g)) w)
      | inr held ↦ elim (cases_Bool (same j k)) [
        | inr n ↦ inr (record { resident = held.resident; dirty = dirty_written (same j k) (written_since h k) (opened_at h k) at (λ t. absurd cc) held.dirty; stayed = held.stayed })
        | inl t ↦ elim (cases_lt (length g) at) [
          | inl lt ↦ inl (or_left (same j k && nat_lt (length g) at) (written_since h k (length g)) (and_from (same j k) (nat_lt (length g) at) t (lt-ltb (length g) at lt)))
          | inr ge ↦
              let jk : j ≡ k = same-true j k t in
              let mine = own (in_flight h j.region) o j true l.2.ends in
              let there = at_key h j k mine.started jk mine.is in
              let place_is : at ≡ length mine.started.before = l.2.place ∙ ap length (before_is h j.region mine.started mine.is) in
              let behind = opened_behind s later g p place k bytes mine.started l.0 there (mine.key ∙ jk) mine.kind (omega (arith, ge, place_is)) in
              let later_at : Later (opened_at h k) at = record { place = behind.place; is = behind.is; after = omega (arith, behind.after, place_is) } in
              inr (record { resident = held.resident; dirty = dirty_written (same j k) (written_since h k) (opened_at h k) at (λ q. later_at) held.dirty; stayed = held.stayed })
        ]
      ]
    ]
stores_held s (e ∷ later) g p place k bytes l = elim (stores_held s later g p place k bytes l.0) [
  | inl w ↦ inl w
  | inr held ↦ inr (record { resident = held.resident; dirty = held.dirty; stayed = held.stayed })
]
