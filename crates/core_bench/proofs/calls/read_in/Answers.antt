use Rattle.std.proofs.Common.{◌<◌, ◌≤◌, ◌∷◌, ◌∙◌, length, sym, ap, subst, arith}
use Rattle.page_base.specs.declared.keys.Key.{Key}
use Rattle.page_base.specs.Lanes.{LaneSeen}
use Rattle.page_model.specs.declared.entry.Entry.TheVariants as entry
use Rattle.core_bench.proofs.Resting.{read_ends}
use Rattle.core_bench.proofs.Places.{back, is_place, holds, bounded}
use Rattle.core_bench.proofs.calls.read_in.Goals as goal

pub overflow_mul-place : goal.overflow_mul-place
overflow_mul-place g c =
    let low = bounded c.from.result (length c.args.scratch.now) (omega (arith, c.from.ensures, c.key.type_inv)) (subst (λ n. n ≤ 1048576) (sym c.requires.size) c.requires.small) in
    omega (arith, low)

pub read_from_store-requires : goal.read_from_store-requires
read_from_store-requires g c =
    let e = c.start_read-trip.ensures in
    let one = c.requires.size ∙ sym e.serves.page_size in
    let page = c.from.ensures ∙ ap (λ (k : Key). k.page) c.key.ensures in
    rw (c.lane.ensures.value, page) (record { place = is_place _ _ _ (subst (λ n. 0 < n) (sym c.requires.size) c.requires.rest.is.fits.some_bytes) one e.serves.page })

pub filled-requires-clause-open_read : goal.filled-requires-clause-open_read
filled-requires-clause-open_read g c =
    let e = c.start_read-trip.ensures in
    let s = c.requires.rest in
    ((0, entry.StartRead c.start_read-trip.result.start.key) ∷ s.history, 0, e.stands s.history 0 s.is, rw e.fixed (e.open_read s.history 0 s.is))

pub filled-requires-clause-holds : goal.filled-requires-clause-holds
filled-requires-clause-holds g c =
    let e = c.start_read-trip.ensures in
    let some = subst (λ n. 0 < n) (sym c.requires.size) c.requires.rest.is.fits.some_bytes in
    let one = c.requires.size ∙ (sym e.serves.page_size ∙ ap (λ (l : LaneSeen). l.origin.page_size) (sym c.lane.ensures.value)) in
    let page = c.from.ensures ∙ ap (λ (k : Key). k.page) c.key.ensures in
    holds _ c.start_read-trip.result.start.taken _ _ _ _ (c.lane.ensures.value ∙ e.lane) (back _ _ _ some one ∙ page) c.in-Ok.ensures.bytes

pub read_failed-requires-clause-open_read : goal.read_failed-requires-clause-open_read
read_failed-requires-clause-open_read g c =
    let e = c.start_read-trip.ensures in
    let s = c.requires.rest in
    ((0, entry.StartRead c.start_read-trip.result.start.key) ∷ s.history, 0, e.stands s.history 0 s.is, rw e.fixed (e.open_read s.history 0 s.is))

pub returns-in-Ok-clause-rest : goal.returns-in-Ok-clause-rest
returns-in-Ok-clause-rest g c =
    let e = c.start_read-trip.ensures in
    let s = c.requires.rest in
    record { history = _; is = c.filled.ensures.stands _ 0 (e.stands s.history 0 s.is) (rw e.fixed (e.open_read s.history 0 s.is)); flight = read_ends s.history c.start_read-trip.result.start.key s.flight }

pub returns-in-Err-clause-rest : goal.returns-in-Err-clause-rest
returns-in-Err-clause-rest g c =
    let e = c.start_read-trip.ensures in
    let s = c.requires.rest in
    record { history = _; is = c.read_failed.ensures.stands _ 0 (e.stands s.history 0 s.is) (rw e.fixed (e.open_read s.history 0 s.is)); flight = read_ends s.history c.start_read-trip.result.start.key s.flight }
