use Rattle.std.proofs.Common.{ap, subst, sym, arith, length, refl, true, ◌≡◌, ◌∙◌, ◌∷◌, ◌*◌, ◌/◌, ℕ}
use Rattle.histories.specs.Histories.{History}
use Rattle.page_base.specs.declared.keys.Key.{Key}
use Rattle.page_base.specs.Lanes.{LaneSeen}
use Rattle.store_trait.specs.Lanes.{IsPlace}
use Rattle.page_model.specs.declared.entry.Entry.{Entry}
use Rattle.page_model.specs.declared.entry.Entry.TheVariants as entry
use Rattle.page_model.specs.Core.{Core}
use Rattle.page_model.specs.InFlight.{WritesTaken}
use Rattle.page_model.specs.Readers.{IsHere, LaneHas}
use Rattle.page_model.specs.Setups.{Setup, has_page}
use Rattle.page_model.specs.Stands.{StandsFor}
use Rattle.page_model.specs.Steps as step
use Rattle.page_model.specs.Trips.{IsOpenWrite, OtherPages, WithPage}
use Rattle.serial_pager.specs.Rests.{IsAtRest}
use Rattle.serial_pager.specs.InsideServices.{Writes, FailsToWrite}
use Rattle.serial_pager.proofs.Goes.{went_trip}
use Rattle.serial_pager.proofs.ModelLaws.{Laws}
use Rattle.serial_pager.proofs.Places.{place_of, page_there, write_stands, write_leaves}
use Rattle.serial_pager.proofs.Rests.{makes_writes, makes_unwritten, rests_written, rests_unwritten}
use Rattle.serial_pager.proofs.stripe.SerialStripe.write_out.Goals as goal

-- the lane that is sent out has the page
lane_there : (laws : Laws) (c : Core) (k : Key) (lane : LaneSeen) → IsAtRest c → has_page c.setup k ≡ true → IsHere c k.region lane → LaneHas c.setup k lane
lane_there laws c k lane rest page here = laws.knows.lane_has c.setup rest.history k lane rest.stands.fits page (laws.knows.like rest.history c k.region lane rest.stands here)

pub write_to_store-requires : goal.write_to_store-requires
write_to_store-requires g c =
    let start = c.start_write-trip.ensures in
    let now : Core = c.args.self.now.core in
    let here : IsHere now c.args.key.region c.start_write-trip.result.start.taken = subst (λ (x : Core). IsHere x c.args.key.region c.start_write-trip.result.start.taken) (ap (λ v. v.core) c.self.view_is) start.here in
    let has = lane_there c.model_laws.ensures now c.args.key c.start_write-trip.result.start.taken c.requires.rest c.requires.page here in
    let size : length c.start_write-trip.new.scratch ≡ now.setup.page_size = omega (arith, c.start_write-trip.auto.scratch, c.requires.scratch) in
    record {
      place = subst (λ (l : LaneSeen). IsPlace l.origin (length c.start_write-trip.new.scratch) (c.from.result * length c.start_write-trip.new.scratch)) (sym (c.lane.ensures.value ∙ start.lane))
          (place_of now.setup c.args.key c.start_write-trip.result.start.taken (length c.start_write-trip.new.scratch) c.from.result has c.requires.rest.stands.fits.some_bytes size c.from.ensures);
    }

-- the page that is written, by the place of its bytes
page_written : (laws : Laws) (c : Core) (k : Key) (lane : LaneSeen) (n p : ℕ) → IsAtRest c → has_page c.setup k ≡ true → IsHere c k.region lane → n ≡ c.setup.page_size → p ≡ k.page → p * n / lane.origin.page_size ≡ k.page
page_written laws c k lane n p rest page here size at = page_there c.setup k lane n p (lane_there laws c k lane rest page here) rest.stands.fits.some_bytes size at

pub written-requires-clause-open_write : goal.written-requires-clause-open_write
written-requires-clause-open_write g c =
    let start = c.start_write-trip.ensures in
    let rest : IsAtRest c.self.inside.stripe = subst IsAtRest (ap (λ v. v.core) (sym c.self.view_is)) c.requires.rest in
    let h : History Entry = (0, entry.StartWrite c.args.key c.args.why) ∷ rest.history in
    let taken : WritesTaken c.start_write-trip.new.self.setup h c.args.key c.start_write-trip.new.scratch = subst (λ (s : Setup). WritesTaken s h c.args.key c.start_write-trip.new.scratch) (sym start.fixed) (start.taken rest.history 0 rest.stands) in (
      h,
      0,
      start.stands rest.history 0 rest.stands,
      subst (λ (s : Setup). IsOpenWrite s h 0 c.start_write-trip.result.start) (sym start.fixed) (start.open_write rest.history 0 rest.stands),
      subst (λ (k : Key). WritesTaken c.start_write-trip.new.self.setup h k c.start_write-trip.new.scratch) (sym start.key) taken,
    )

pub write_failed-requires-clause-open_write : goal.write_failed-requires-clause-open_write
write_failed-requires-clause-open_write g c =
    let start = c.start_write-trip.ensures in
    let rest : IsAtRest c.self.inside.stripe = subst IsAtRest (ap (λ v. v.core) (sym c.self.view_is)) c.requires.rest in
    let h : History Entry = (0, entry.StartWrite c.args.key c.args.why) ∷ rest.history in
    (h, 0, start.stands rest.history 0 rest.stands, subst (λ (s : Setup). IsOpenWrite s h 0 c.start_write-trip.result.start) (sym start.fixed) (start.open_write rest.history 0 rest.stands))

pub written-requires-clause-wrote : goal.written-requires-clause-wrote
written-requires-clause-wrote g c =
    let start = c.start_write-trip.ensures in
    let now : Core = c.args.self.now.core in
    let lane : LaneSeen = g.S.Store.seen c.write_to_store.new.self in
    let bytes = c.start_write-trip.new.scratch in
    let p : ℕ = c.start_write-trip.result.start.key.page in
    let here : IsHere now c.args.key.region c.start_write-trip.result.start.taken = subst (λ (x : Core). IsHere x c.args.key.region c.start_write-trip.result.start.taken) (ap (λ v. v.core) c.self.view_is) start.here in
    let size : length bytes ≡ now.setup.page_size = omega (arith, c.start_write-trip.auto.scratch, c.requires.scratch) in
    let page = page_written c.model_laws.ensures now c.args.key c.start_write-trip.result.start.taken (length bytes) c.from.result c.requires.rest c.requires.page here size c.from.ensures ∙ ap (λ (k : Key). k.page) (sym start.key) in
    let same = c.lane.ensures.value ∙ start.lane in
    let e = c.in-Ok.ensures in
    subst (λ (l : LaneSeen). WithPage p bytes l lane) same (write_stands _ lane p _ bytes (subst (λ (l : LaneSeen). c.from.result * length bytes / l.origin.page_size ≡ p) (sym same) page) e.origin e.written e.others e.cause.later)

pub write_failed-requires-clause-others : goal.write_failed-requires-clause-others
write_failed-requires-clause-others g c =
    let start = c.start_write-trip.ensures in
    let now : Core = c.args.self.now.core in
    let lane : LaneSeen = g.S.Store.seen c.write_to_store.new.self in
    let bytes = c.start_write-trip.new.scratch in
    let p : ℕ = c.start_write-trip.result.start.key.page in
    let here : IsHere now c.args.key.region c.start_write-trip.result.start.taken = subst (λ (x : Core). IsHere x c.args.key.region c.start_write-trip.result.start.taken) (ap (λ v. v.core) c.self.view_is) start.here in
    let size : length bytes ≡ now.setup.page_size = omega (arith, c.start_write-trip.auto.scratch, c.requires.scratch) in
    let page = page_written c.model_laws.ensures now c.args.key c.start_write-trip.result.start.taken (length bytes) c.from.result c.requires.rest c.requires.page here size c.from.ensures ∙ ap (λ (k : Key). k.page) (sym start.key) in
    let same = c.lane.ensures.value ∙ start.lane in
    let e = c.in-Err.ensures in
    subst (λ (l : LaneSeen). OtherPages p l lane) same (write_leaves _ lane p _ (subst (λ (l : LaneSeen). c.from.result * length bytes / l.origin.page_size ≡ p) (sym same) page) e.origin e.others e.cause.later)

pub returns-in-Ok-clause-steps : goal.returns-in-Ok-clause-steps
returns-in-Ok-clause-steps g c =
    let start = c.start_write-trip.ensures in
    let writes : Writes c.args.key c.self.inside.stripe c.written.new.self = makes_writes c.self.inside.stripe c.start_write-trip.new.self c.written.new.self c.args.key (g.S.Store.seen c.write_to_store.new.self) start.step
    (subst (λ (k : Key). c.written.new.self ≡ step.written c.start_write-trip.new.self k (g.S.Store.seen c.write_to_store.new.self)) start.key c.written.ensures.step) in
    subst (λ x. Writes c.args.key x c.written.new.self) (ap (λ v. v.core) c.self.view_is) writes

pub returns-in-Ok-clause-went : goal.returns-in-Ok-clause-went
returns-in-Ok-clause-went g c =
    let start = c.start_write-trip.ensures in
    let bytes = c.start_write-trip.new.scratch in
    let P : Key → ℕ → Type 0 = λ k n. (h : History Entry) → StandsFor h c.self.inside.stripe → StandsFor ((0, entry.Written k n bytes) ∷ (0, entry.StartWrite c.args.key c.args.why) ∷ h) c.written.new.self in
    let stands : P c.start_write-trip.result.start.key c.start_write-trip.result.start.at = λ h st.
    c.written.ensures.stands ((0, entry.StartWrite c.args.key c.args.why) ∷ h) 0 (start.stands h 0 st)
    (subst (λ (s : Setup). IsOpenWrite s ((0, entry.StartWrite c.args.key c.args.why) ∷ h) 0 c.start_write-trip.result.start) (sym start.fixed) (start.open_write h 0 st))
    (subst (λ (k : Key). WritesTaken c.start_write-trip.new.self.setup ((0, entry.StartWrite c.args.key c.args.why) ∷ h) k bytes) (sym start.key)
    (subst (λ (s : Setup). WritesTaken s ((0, entry.StartWrite c.args.key c.args.why) ∷ h) c.args.key bytes) (sym start.fixed) (start.taken h 0 st))) in (
      c.at-at.result,
      bytes,
      went_trip g.J.Journal.has_noted (entry.StartWrite c.args.key c.args.why) (entry.Written c.args.key c.at-at.result bytes) c.self.inside.stripe c.start_write-trip.new.self c.written.new.self c.self.inside.journal c.note.new.self c.note-in-Ok.new.self c.args.self.now c.self.view_is
          (c.written.ensures.fixed ∙ start.fixed) (ap (λ (x : Core). x.events) start.step) (ap (λ (x : Core). x.events) c.written.ensures.step)
          (subst (λ (k : Key). P k c.at-at.result) start.key (subst (λ (n : ℕ). P c.start_write-trip.result.start.key n) (sym c.at-at.ensures) stands)) c.note.ensures.noted c.note-in-Ok.ensures.noted,
    )

pub returns-in-Err-clause-fault : goal.returns-in-Err-clause-fault
returns-in-Err-clause-fault g c =
    let start = c.start_write-trip.ensures in
    let lane : LaneSeen = g.S.Store.seen c.write_to_store.new.self in
    let fails : FailsToWrite c.args.key c.self.inside.stripe c.write_failed.new.self (record { key = c.args.key; faults = c.faults-faults.result }) = makes_unwritten c.self.inside.stripe c.start_write-trip.new.self c.write_failed.new.self c.args.key lane _ refl start.step
    (subst (λ (k : Key). c.write_failed.new.self ≡ step.write_failed c.start_write-trip.new.self k lane) start.key c.write_failed.ensures.step) in
    subst (λ x. FailsToWrite c.args.key x c.write_failed.new.self (record { key = c.args.key; faults = c.faults-faults.result })) (ap (λ v. v.core) c.self.view_is) fails

pub returns-in-Err-clause-ends : goal.returns-in-Err-clause-ends
returns-in-Err-clause-ends g c =
    let start = c.start_write-trip.ensures in
    let P : Key → ℕ → Type 0 = λ k n. (h : History Entry) → StandsFor h c.self.inside.stripe → StandsFor ((0, entry.WriteFailed k n) ∷ (0, entry.StartWrite c.args.key c.args.why) ∷ h) c.write_failed.new.self in
    let stands : P c.start_write-trip.result.start.key (g.S.Store.seen c.write_to_store.new.self).count = λ h st.
    c.write_failed.ensures.stands ((0, entry.StartWrite c.args.key c.args.why) ∷ h) 0 (start.stands h 0 st)
    (subst (λ (s : Setup). IsOpenWrite s ((0, entry.StartWrite c.args.key c.args.why) ∷ h) 0 c.start_write-trip.result.start) (sym start.fixed) (start.open_write h 0 st)) in
    went_trip g.J.Journal.has_noted (entry.StartWrite c.args.key c.args.why) (entry.WriteFailed c.args.key c.faults-faults.result) c.self.inside.stripe c.start_write-trip.new.self c.write_failed.new.self c.self.inside.journal c.note.new.self c.note-in-Err.new.self c.args.self.now c.self.view_is
    (c.write_failed.ensures.fixed ∙ start.fixed) (ap (λ (x : Core). x.events) start.step) (ap (λ (x : Core). x.events) c.write_failed.ensures.step)
    (subst (λ (k : Key). P k c.faults-faults.result) start.key (subst (λ (n : ℕ). P c.start_write-trip.result.start.key n) (sym c.faults-faults.ensures) stands)) c.note.ensures.noted c.note-in-Err.ensures.noted

pub returns-in-Ok-clause-rest : goal.returns-in-Ok-clause-rest
returns-in-Ok-clause-rest g c =
    let went = (returns-in-Ok-clause-went g c).2 in
    rests_written c.model_laws.ensures c.args.self.now.core c.written.new.self c.requires.rest _ (went.stands c.requires.rest.history c.requires.rest.stands) c.args.key c.requires.can.home (returns-in-Ok-clause-steps g c)

pub returns-in-Err-clause-rest : goal.returns-in-Err-clause-rest
returns-in-Err-clause-rest g c =
    let went = returns-in-Err-clause-ends g c in
    rests_unwritten c.model_laws.ensures c.args.self.now.core c.write_failed.new.self c.requires.rest _ (went.stands c.requires.rest.history c.requires.rest.stands) c.args.key c.requires.can.home _ (returns-in-Err-clause-fault g c)

pub returns-in-Ok-clause-few : goal.returns-in-Ok-clause-few
returns-in-Ok-clause-few g c = let n = (returns-in-Ok-clause-went g c).2.events in omega (arith, n)

pub returns-in-Err-clause-few : goal.returns-in-Err-clause-few
returns-in-Err-clause-few g c = let n = (returns-in-Err-clause-ends g c).events in omega (arith, n)
