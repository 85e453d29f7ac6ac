use Rattle.std.proofs.Common.{◌≡◌, ◌∷◌, [], length, ◌∙◌, arith}
use Rattle.workload_text.specs.Line.{load_line}
use Rattle.workload_text.specs.View.{lines_of}
use Rattle.workload_text.specs.Accepted.{regions_of}
use Rattle.flat_lines.specs.Spreads.{Spread}
use Rattle.script_run.specs.InsideRunning.{MayRun}
use Rattle.script_run.specs.Replies.{loaded}
use Rattle.script_run.proofs.Tabled.{is_listed}
use Rattle.script_run.proofs.RanLines.{ran_one}
use Rattle.script_run.proofs.RanOne.{range_is, end_known, did_load, did_load_end, ran_end, or_false}
use Rattle.script_run.proofs.serial_run.run_load.Goals as goal

pub load-requires-clause-range : goal.load-requires-clause-range
load-requires-clause-range g c =
    let gs = regions_of (lines_of c.args.workload.now) in
    let p = c.args.pager.now in
    let t : Spread = c.requires.may.0 in
    let m : MayRun t gs (load_line c.args.region c.args.off (length c.args.bytes.now) ∷ []) c.args.replies.now p = c.requires.may.1 in
    range_is t gs p m.shaped c.args.region c.args.off (length c.args.bytes.now) m.fit.0.known m.fit.0.inside m.fit.0.short (omega (arith, m.pieces))

pub load-requires-clause-listed : goal.load-requires-clause-listed
load-requires-clause-listed g c =
    let lines = lines_of c.args.workload.now in
    let p = c.args.pager.now in
    let t : Spread = c.requires.may.0 in
    let m : MayRun t (regions_of lines) (load_line c.args.region c.args.off (length c.args.bytes.now) ∷ []) c.args.replies.now p = c.requires.may.1 in
    is_listed lines p c.args.table.now c.args.region c.args.off (length c.args.bytes.now) c.requires.table (omega (arith, m.shaped.some, m.shaped.page_size)) m.fit.0.known m.fit.0.inside

pub tell_end-requires-clause-region : goal.tell_end-requires-clause-region
tell_end-requires-clause-region g c =
    let gs = regions_of (lines_of c.args.workload.now) in
    let p = c.args.pager.now in
    let x = c.in-Err.ensures.ended in
    end_known c.requires.may.0 gs p c.requires.may.1.shaped c.stripes_agree.ensures g.J.Journal.has_noted c.load.new.pager c.args.region c.args.off (length c.args.bytes.now) x.1 x.0 c.in-Err.end x.3

pub returns-in-Ok-clause-ran : goal.returns-in-Ok-clause-ran
returns-in-Ok-clause-ran g c = λ t shaped.
    let gs = regions_of (lines_of c.args.workload.now) in
    let p = c.args.pager.now in
    let len = length c.args.bytes.now in
    let fit = c.requires.may.1.fit.0 in
    let o = c.load-in-Ok.ensures in
    let e = c.in-Ok.ensures in
    let long : length c.load.new.buf ≡ len = c.load.auto.buf in
    ran_one g.J.Journal.has_noted t gs (load_line c.args.region c.args.off len) (loaded c.load.new.buf) c.args.replies.now c.load-in-Ok.new.self p c.load.new.pager o.text (omega (arith, o.spare, long)) o.loaded o.sum (omega (arith, long)) (o.faulted ∙ or_false c.args.replies.now.faulted)
    (omega (arith, e.goes.spent, fit.short))
    (did_load t gs p shaped c.stripes_agree.ensures g.J.Journal.has_noted c.load.new.pager c.args.region c.args.off fit.known e.goes.same len c.load.new.buf long e.made)

pub returns-in-Err-clause-ran : goal.returns-in-Err-clause-ran
returns-in-Err-clause-ran g c = λ t shaped.
    let gs = regions_of (lines_of c.args.workload.now) in
    let p = c.args.pager.now in
    let len = length c.args.bytes.now in
    let fit = c.requires.may.1.fit.0 in
    let o = c.tell_end.ensures in
    let e = c.in-Err.ensures in
    ran_end g.J.Journal.has_noted t gs (load_line c.args.region c.args.off len) e.ended.0 c.in-Err.end c.args.replies.now c.tell_end.new.replies p c.load.new.pager (o.text e.ended.0) (omega (arith, o.spare)) o.loaded o.sum (o.faulted e.ended.0)
    (omega (arith, e.goes.spent, fit.short))
    (did_load_end t gs p shaped c.stripes_agree.ensures g.J.Journal.has_noted c.load.new.pager c.args.region c.args.off fit.known e.goes.same len c.in-Err.end e.ended)
