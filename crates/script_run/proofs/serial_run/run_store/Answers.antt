use Rattle.std.proofs.Common.{◌∷◌, [], length, refl, ◌∙◌, arith}
use Rattle.workload_text.specs.Line.{store_line}
use Rattle.workload_text.specs.View.{lines_of}
use Rattle.workload_text.specs.Accepted.{regions_of}
use Rattle.flat_lines.specs.Spreads.{Spread}
use Rattle.script_run.specs.InsideRunning.{MayRun}
use Rattle.script_run.specs.Replies.{ok}
use Rattle.script_run.proofs.Shaped.{writable_is}
use Rattle.script_run.proofs.Tabled.{is_listed}
use Rattle.script_run.proofs.RanOne.{range_is, end_known, did_store, did_store_end, ran_silent, ran_end, or_false}
use Rattle.script_run.proofs.serial_run.run_store.Goals as goal

pub store-requires-clause-range : goal.store-requires-clause-range
store-requires-clause-range g c =
    let gs = regions_of (lines_of c.args.workload.now) in
    let p = c.args.pager.now in
    let t : Spread = c.requires.may.0 in
    let m : MayRun t gs (store_line c.args.region c.args.off c.args.bytes.now ∷ []) c.args.replies.now p = c.requires.may.1 in
    range_is t gs p m.shaped c.args.region c.args.off (length c.args.bytes.now) m.fit.0.range.known m.fit.0.range.inside m.fit.0.range.short (omega (arith, m.pieces))

pub store-requires-clause-listed : goal.store-requires-clause-listed
store-requires-clause-listed g c =
    let lines = lines_of c.args.workload.now in
    let p = c.args.pager.now in
    let t : Spread = c.requires.may.0 in
    let m : MayRun t (regions_of lines) (store_line c.args.region c.args.off c.args.bytes.now ∷ []) c.args.replies.now p = c.requires.may.1 in
    is_listed lines p c.args.table.now c.args.region c.args.off (length c.args.bytes.now) c.requires.table (omega (arith, m.shaped.some, m.shaped.page_size)) m.fit.0.range.known m.fit.0.range.inside

pub store-requires-clause-writable : goal.store-requires-clause-writable
store-requires-clause-writable g c = writable_is c.requires.may.0 (regions_of (lines_of c.args.workload.now)) c.args.pager.now c.requires.may.1.shaped c.args.region c.requires.may.1.fit.0.writable

pub tell_end-requires-clause-region : goal.tell_end-requires-clause-region
tell_end-requires-clause-region g c =
    let gs = regions_of (lines_of c.args.workload.now) in
    let p = c.args.pager.now in
    let x = c.in-Err.ensures.ended in
    end_known c.requires.may.0 gs p c.requires.may.1.shaped c.stripes_agree.ensures g.J.Journal.has_noted c.store.new.pager c.args.region c.args.off (length c.args.bytes.now) c.args.bytes.now x.0 c.in-Err.end x.1

pub returns-in-Ok-clause-ran : goal.returns-in-Ok-clause-ran
returns-in-Ok-clause-ran g c = λ t shaped.
    let gs = regions_of (lines_of c.args.workload.now) in
    let p = c.args.pager.now in
    let fit = c.requires.may.1.fit.0 in
    let o = c.ok.ensures in
    let e = c.in-Ok.ensures in
    ran_silent g.J.Journal.has_noted t gs (store_line c.args.region c.args.off c.args.bytes.now) ok c.args.replies.now c.ok.new.self p c.store.new.pager refl o.text (omega (arith, o.spare)) o.loaded o.sum (o.faulted ∙ or_false c.args.replies.now.faulted)
    (omega (arith, e.goes.spent, fit.range.short))
    (did_store t gs p shaped c.stripes_agree.ensures g.J.Journal.has_noted c.store.new.pager c.args.region c.args.off fit.range.known e.goes.same c.args.bytes.now e.made)

pub returns-in-Err-clause-ran : goal.returns-in-Err-clause-ran
returns-in-Err-clause-ran g c = λ t shaped.
    let gs = regions_of (lines_of c.args.workload.now) in
    let p = c.args.pager.now in
    let fit = c.requires.may.1.fit.0 in
    let o = c.tell_end.ensures in
    let e = c.in-Err.ensures in
    ran_end g.J.Journal.has_noted t gs (store_line c.args.region c.args.off c.args.bytes.now) e.ended.0 c.in-Err.end c.args.replies.now c.tell_end.new.replies p c.store.new.pager (o.text e.ended.0) (omega (arith, o.spare)) o.loaded o.sum (o.faulted e.ended.0)
    (omega (arith, e.goes.spent, fit.range.short))
    (did_store_end t gs p shaped c.stripes_agree.ensures g.J.Journal.has_noted c.store.new.pager c.args.region c.args.off fit.range.known e.goes.same c.args.bytes.now c.in-Err.end e.ended)
