use Rattle.std.proofs.Common.{ap, subst, sym, arith, length, ◌≡◌, ◌∙◌, ◌∷◌, ◌*◌, ◌/◌, ℕ}
use Rattle.histories.specs.Histories.{History}
use Rattle.page_base.specs.declared.keys.Key.{Key}
use Rattle.page_base.specs.Lanes.{LaneSeen}
use Rattle.store_trait.specs.Lanes.{IsPlace, IsPageOf}
use Rattle.page_model.specs.declared.entry.Entry.{Entry}
use Rattle.page_model.specs.declared.entry.Entry.TheVariants as entry
use Rattle.page_model.specs.Core.{Core}
use Rattle.page_model.specs.Setups.{Setup}
use Rattle.page_model.specs.Stands.{StandsFor}
use Rattle.page_model.specs.Trips.{IsOpenRead}
use Rattle.serial_pager.specs.Rests.{IsAtRest}
use Rattle.serial_pager.specs.InsideServices.{Fills, Misses}
use Rattle.serial_pager.proofs.Goes.{went_trip}
use Rattle.serial_pager.proofs.Places.{place_of, page_there, read_holds}
use Rattle.serial_pager.proofs.Rests.{makes_fills, makes_misses, rests_filled, rests_missed}
use Rattle.serial_pager.proofs.stripe.SerialStripe.read_in.Goals as goal

pub read_from_store-requires : goal.read_from_store-requires
read_from_store-requires g c =
    let start = c.start_read-trip.ensures in
    let rest : IsAtRest c.self.inside.stripe = subst IsAtRest (ap (λ v. v.core) (sym c.self.view_is)) c.requires.rest in
    let size : length c.args.scratch.now ≡ c.self.inside.stripe.setup.page_size = c.requires.scratch ∙ ap (λ v. v.core.setup.page_size) (sym c.self.view_is) in
    record {
      place = subst (λ (l : LaneSeen). IsPlace l.origin (length c.args.scratch.now) (c.from.result * length c.args.scratch.now)) (sym c.lane.ensures.value)
          (place_of c.self.inside.stripe.setup c.start_read-trip.result.start.key c.start_read-trip.result.lane (length c.args.scratch.now) c.from.result start.serves rest.stands.fits.some_bytes size (c.from.ensures ∙ ap (λ (k : Key). k.page) c.key-key.ensures));
    }

pub filled-requires-clause-open_read : goal.filled-requires-clause-open_read
filled-requires-clause-open_read g c =
    let start = c.start_read-trip.ensures in
    let rest : IsAtRest c.self.inside.stripe = subst IsAtRest (ap (λ v. v.core) (sym c.self.view_is)) c.requires.rest in
    let h : History Entry = (0, entry.StartRead c.start_read-trip.result.start.key) ∷ rest.history in
    (h, 0, start.stands rest.history 0 rest.stands, subst (λ (s : Setup). IsOpenRead s h 0 c.start_read-trip.result.start) (sym start.fixed) (start.open_read rest.history 0 rest.stands))

pub read_failed-requires-clause-open_read : goal.read_failed-requires-clause-open_read
read_failed-requires-clause-open_read g c =
    let start = c.start_read-trip.ensures in
    let rest : IsAtRest c.self.inside.stripe = subst IsAtRest (ap (λ v. v.core) (sym c.self.view_is)) c.requires.rest in
    let h : History Entry = (0, entry.StartRead c.start_read-trip.result.start.key) ∷ rest.history in
    (h, 0, start.stands rest.history 0 rest.stands, subst (λ (s : Setup). IsOpenRead s h 0 c.start_read-trip.result.start) (sym start.fixed) (start.open_read rest.history 0 rest.stands))

pub filled-requires-clause-holds : goal.filled-requires-clause-holds
filled-requires-clause-holds g c = λ kept there.
    let start = c.start_read-trip.ensures in
    let rest : IsAtRest c.self.inside.stripe = subst IsAtRest (ap (λ v. v.core) (sym c.self.view_is)) c.requires.rest in
    let size : length c.args.scratch.now ≡ c.self.inside.stripe.setup.page_size = c.requires.scratch ∙ ap (λ v. v.core.setup.page_size) (sym c.self.view_is) in
    let bytes = subst (λ (l : LaneSeen). IsPageOf l.told (c.from.result * length c.args.scratch.now / l.origin.page_size) c.read_from_store.new.buf) c.lane.ensures.value c.in-Ok.ensures.bytes in
    let page = page_there c.self.inside.stripe.setup c.start_read-trip.result.start.key c.start_read-trip.result.lane (length c.args.scratch.now) c.from.result start.serves rest.stands.fits.some_bytes size (c.from.ensures ∙ ap (λ (k : Key). k.page) c.key-key.ensures) in
    read_holds c.start_read-trip.result.lane.told c.start_read-trip.result.start.key.page _ c.read_from_store.new.buf kept page bytes (rw start.lane there)

pub returns-in-Ok-clause-steps : goal.returns-in-Ok-clause-steps
returns-in-Ok-clause-steps g c =
    let start = c.start_read-trip.ensures in
    let fills : Fills c.self.inside.stripe c.filled.new.self = makes_fills c.self.inside.stripe c.start_read-trip.new.self c.filled.new.self c.start_read-trip.result.start.key _ c.read_from_store.new.buf start.next start.step c.filled.ensures.step in
    subst (λ x. Fills x c.filled.new.self) (ap (λ v. v.core) c.self.view_is) fills

pub returns-in-Ok-clause-went : goal.returns-in-Ok-clause-went
returns-in-Ok-clause-went g c =
    let start = c.start_read-trip.ensures in
    let key : Key = c.start_read-trip.result.start.key in
    let noted = subst (λ (k : Key). (h : History Entry) → g.J.Journal.has_noted c.self.inside.journal h → g.J.Journal.has_noted c.note.new.self ((0, entry.StartRead k) ∷ h)) c.key-key.ensures c.note.ensures.noted in
    let ended = subst (λ (k : Key). (h : History Entry) → g.J.Journal.has_noted c.note.new.self h → g.J.Journal.has_noted c.note-in-Ok.new.self ((0, entry.Filled k) ∷ h)) c.key-key.ensures c.note-in-Ok.ensures.noted in (
      key,
      went_trip g.J.Journal.has_noted (entry.StartRead key) (entry.Filled key) c.self.inside.stripe c.start_read-trip.new.self c.filled.new.self c.self.inside.journal c.note.new.self c.note-in-Ok.new.self c.args.self.now c.self.view_is
          (c.filled.ensures.fixed ∙ start.fixed) (ap (λ (x : Core). x.events) start.step) (ap (λ (x : Core). x.events) c.filled.ensures.step)
          (λ h st. c.filled.ensures.stands ((0, entry.StartRead key) ∷ h) 0 (start.stands h 0 st) (subst (λ (s : Setup). IsOpenRead s ((0, entry.StartRead key) ∷ h) 0 c.start_read-trip.result.start) (sym start.fixed) (start.open_read h 0 st)))
          noted ended,
    )

pub returns-in-Err-clause-fault : goal.returns-in-Err-clause-fault
returns-in-Err-clause-fault g c =
    let start = c.start_read-trip.ensures in
    let misses : Misses c.self.inside.stripe c.read_failed.new.self (record { key = c.key-key.result; faults = c.faults-faults.result }) = makes_misses c.self.inside.stripe c.start_read-trip.new.self c.read_failed.new.self c.start_read-trip.result.start.key _ _ c.key-key.ensures start.next start.step c.read_failed.ensures.step in
    subst (λ x. Misses x c.read_failed.new.self (record { key = c.key-key.result; faults = c.faults-faults.result })) (ap (λ v. v.core) c.self.view_is) misses

pub returns-in-Err-clause-ends : goal.returns-in-Err-clause-ends
returns-in-Err-clause-ends g c =
    let start = c.start_read-trip.ensures in
    let lane = g.S.Store.seen c.read_from_store.new.self in
    let P : Key → Type 0 = λ k. (h : History Entry) → StandsFor h c.self.inside.stripe → StandsFor ((0, entry.ReadFailed k c.faults-faults.result) ∷ (0, entry.StartRead k) ∷ h) c.read_failed.new.self in
    let stands : P c.key-key.result = subst P (sym c.key-key.ensures) (λ h st.
    subst (λ (n : ℕ). StandsFor ((0, entry.ReadFailed c.start_read-trip.result.start.key n) ∷ (0, entry.StartRead c.start_read-trip.result.start.key) ∷ h) c.read_failed.new.self) (sym c.faults-faults.ensures)
    (c.read_failed.ensures.stands ((0, entry.StartRead c.start_read-trip.result.start.key) ∷ h) 0 (start.stands h 0 st) (subst (λ (s : Setup). IsOpenRead s ((0, entry.StartRead c.start_read-trip.result.start.key) ∷ h) 0 c.start_read-trip.result.start) (sym start.fixed) (start.open_read h 0 st)))) in
    went_trip g.J.Journal.has_noted (entry.StartRead c.key-key.result) (entry.ReadFailed c.key-key.result c.faults-faults.result) c.self.inside.stripe c.start_read-trip.new.self c.read_failed.new.self c.self.inside.journal c.note.new.self c.note-in-Err.new.self c.args.self.now c.self.view_is
    (c.read_failed.ensures.fixed ∙ start.fixed) (ap (λ (x : Core). x.events) start.step) (ap (λ (x : Core). x.events) c.read_failed.ensures.step)
    stands c.note.ensures.noted c.note-in-Err.ensures.noted

pub returns-in-Ok-clause-rest : goal.returns-in-Ok-clause-rest
returns-in-Ok-clause-rest g c = rests_filled c.model_laws.ensures c.args.self.now.core c.filled.new.self c.requires.rest _ ((returns-in-Ok-clause-went g c).1.stands c.requires.rest.history c.requires.rest.stands) (returns-in-Ok-clause-steps g c)

pub returns-in-Err-clause-rest : goal.returns-in-Err-clause-rest
returns-in-Err-clause-rest g c = rests_missed c.model_laws.ensures c.args.self.now.core c.read_failed.new.self c.requires.rest _ ((returns-in-Err-clause-ends g c).stands c.requires.rest.history c.requires.rest.stands) _ (returns-in-Err-clause-fault g c)

pub returns-in-Ok-clause-few : goal.returns-in-Ok-clause-few
returns-in-Ok-clause-few g c = let n = (returns-in-Ok-clause-went g c).1.events in omega (arith, n)

pub returns-in-Err-clause-few : goal.returns-in-Err-clause-few
returns-in-Err-clause-few g c = let n = (returns-in-Err-clause-ends g c).events in omega (arith, n)
