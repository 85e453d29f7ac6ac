use Rattle.std.proofs.Common.{◌≡◌, ◌<◌, ◌∷◌, ◌∙◌, length, sym, ap, subst, arith, true}
use Rattle.page_base.specs.declared.keys.Key.{Key}
use Rattle.page_base.specs.Lanes.{LaneSeen}
use Rattle.page_model.specs.Readers.{LaneHas}
use Rattle.page_model.specs.Setups.{has_page}
use Rattle.page_model.specs.declared.entry.Entry.TheVariants as entry
use Rattle.core_bench.proofs.Going.{open_later, taken_later}
use Rattle.core_bench.proofs.Resting.{write_ends}
use Rattle.core_bench.proofs.Places.{back, is_place, wrote, missed, bounded}
use Rattle.core_bench.proofs.calls.write_out.Goals as goal

pub overflow_mul-place : goal.overflow_mul-place
overflow_mul-place g c =
    let low = bounded c.from.result (length c.start_write-trip.new.scratch) (omega (arith, c.from.ensures)) (omega (arith, c.requires.size, c.requires.small)) in
    omega (arith, low)

pub act-requires-clause-stands : goal.act-requires-clause-stands
act-requires-clause-stands g c =
    let s = c.requires.rest in
    record { history = _; is = c.start_write-trip.ensures.stands s.history 0 s.is }

pub write_to_store-requires : goal.write_to_store-requires
write_to_store-requires g c =
    let e = c.start_write-trip.ensures in
    let s = c.requires.rest in
    let open_ = e.open_write s.history 0 s.is in
    let its : has_page c.args.stripe.now.setup c.start_write-trip.result.start.key ≡ true = rw e.key c.requires.page in
    let lane : LaneHas c.args.stripe.now.setup c.start_write-trip.result.start.key c.start_write-trip.result.start.taken = c.service_knows.ensures.lane_has _ open_.before _ _ s.is.fits its open_.taken in
    let page : c.from.result ≡ c.start_write-trip.result.start.key.page = c.from.ensures ∙ ap (λ (k : Key). k.page) (sym e.key) in
    let len : length c.start_write-trip.new.scratch ≡ c.args.stripe.now.setup.page_size = omega (arith, c.requires.size) in
    rw (c.lane.ensures.value, e.lane, page) (record { place = is_place c.start_write-trip.result.start.taken.origin c.start_write-trip.result.start.key.page (length c.start_write-trip.new.scratch) (subst (λ n. 0 < n) (sym len) s.is.fits.some_bytes) (len ∙ sym lane.page_size) lane.page })

pub written-requires-clause-open_write : goal.written-requires-clause-open_write
written-requires-clause-open_write g c =
    let e = c.start_write-trip.ensures in
    let s = c.requires.rest in
    let on = c.act.ensures.on in
    let l = on.later _ (e.stands s.history 0 s.is) in
    let open_ = open_later _ _ l.history 0 _ l.flight (e.open_write s.history 0 s.is) in
    let taken = taken_later c.args.stripe.now.setup ((0, entry.StartWrite c.args.key c.args.why) ∷ s.history) l.history c.args.key c.start_write-trip.new.scratch l.flight (e.taken s.history 0 s.is) in
    (l.history, 0, l.is, rw (on.setup, e.fixed) open_, rw (on.setup, e.fixed, e.key) taken)

pub written-requires-clause-wrote : goal.written-requires-clause-wrote
written-requires-clause-wrote g c =
    let e = c.start_write-trip.ensures in
    let s = c.requires.rest in
    let open_ = e.open_write s.history 0 s.is in
    let its : has_page c.args.stripe.now.setup c.start_write-trip.result.start.key ≡ true = rw e.key c.requires.page in
    let lane : LaneHas c.args.stripe.now.setup c.start_write-trip.result.start.key c.start_write-trip.result.start.taken = c.service_knows.ensures.lane_has _ open_.before _ _ s.is.fits its open_.taken in
    let page : c.from.result ≡ c.start_write-trip.result.start.key.page = c.from.ensures ∙ ap (λ (k : Key). k.page) (sym e.key) in
    let same = c.lane.ensures.value ∙ e.lane in
    let len : length c.start_write-trip.new.scratch ≡ c.args.stripe.now.setup.page_size = omega (arith, c.requires.size) in
    let one = len ∙ (sym lane.page_size ∙ ap (λ (l : LaneSeen). l.origin.page_size) (sym same)) in
    let some = subst (λ n. 0 < n) (sym len) s.is.fits.some_bytes in
    wrote _ _ _ _ _ _ same (back _ _ _ some one ∙ page) c.in-Ok.ensures.written c.in-Ok.ensures.others c.in-Ok.ensures.origin c.in-Ok.ensures.cause.later

pub write_failed-requires-clause-open_write : goal.write_failed-requires-clause-open_write
write_failed-requires-clause-open_write g c =
    let e = c.start_write-trip.ensures in
    let s = c.requires.rest in
    let on = c.act.ensures.on in
    let l = on.later _ (e.stands s.history 0 s.is) in
    let open_ = open_later _ _ l.history 0 _ l.flight (e.open_write s.history 0 s.is) in
    (l.history, 0, l.is, rw (on.setup, e.fixed) open_)

pub write_failed-requires-clause-others : goal.write_failed-requires-clause-others
write_failed-requires-clause-others g c =
    let e = c.start_write-trip.ensures in
    let s = c.requires.rest in
    let open_ = e.open_write s.history 0 s.is in
    let its : has_page c.args.stripe.now.setup c.start_write-trip.result.start.key ≡ true = rw e.key c.requires.page in
    let lane : LaneHas c.args.stripe.now.setup c.start_write-trip.result.start.key c.start_write-trip.result.start.taken = c.service_knows.ensures.lane_has _ open_.before _ _ s.is.fits its open_.taken in
    let page : c.from.result ≡ c.start_write-trip.result.start.key.page = c.from.ensures ∙ ap (λ (k : Key). k.page) (sym e.key) in
    let same = c.lane.ensures.value ∙ e.lane in
    let len : length c.start_write-trip.new.scratch ≡ c.args.stripe.now.setup.page_size = omega (arith, c.requires.size) in
    let one = len ∙ (sym lane.page_size ∙ ap (λ (l : LaneSeen). l.origin.page_size) (sym same)) in
    let some = subst (λ n. 0 < n) (sym len) s.is.fits.some_bytes in
    missed _ _ _ _ _ same (back _ _ _ some one ∙ page) c.in-Err.ensures.others c.in-Err.ensures.origin c.in-Err.ensures.cause.later

pub returns-in-Ok-clause-rest : goal.returns-in-Ok-clause-rest
returns-in-Ok-clause-rest g c =
    let e = c.start_write-trip.ensures in
    let s = c.requires.rest in
    let on = c.act.ensures.on in
    let l = on.later _ (e.stands s.history 0 s.is) in
    let open_ = open_later _ _ l.history 0 _ l.flight (e.open_write s.history 0 s.is) in
    let taken = taken_later c.args.stripe.now.setup ((0, entry.StartWrite c.args.key c.args.why) ∷ s.history) l.history c.args.key c.start_write-trip.new.scratch l.flight (e.taken s.history 0 s.is) in
    record { history = _; is = c.written.ensures.stands l.history 0 l.is (rw (on.setup, e.fixed) open_) (rw (on.setup, e.fixed, e.key) taken); flight = write_ends s.history l.history c.args.key c.start_write-trip.result.start.key c.args.why (sym e.key) s.flight l.flight }

pub returns-in-Err-clause-rest : goal.returns-in-Err-clause-rest
returns-in-Err-clause-rest g c =
    let e = c.start_write-trip.ensures in
    let s = c.requires.rest in
    let on = c.act.ensures.on in
    let l = on.later _ (e.stands s.history 0 s.is) in
    let open_ = open_later _ _ l.history 0 _ l.flight (e.open_write s.history 0 s.is) in
    record { history = _; is = c.write_failed.ensures.stands l.history 0 l.is (rw (on.setup, e.fixed) open_); flight = write_ends s.history l.history c.args.key c.start_write-trip.result.start.key c.args.why (sym e.key) s.flight l.flight }
