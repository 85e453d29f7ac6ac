use Rattle.std.proofs.Common.{refl, ◌∙◌, arith}
use Rattle.workload_text.specs.Line.{unmap_line}
use Rattle.workload_text.specs.View.{lines_of}
use Rattle.workload_text.specs.Accepted.{regions_of}
use Rattle.script_run.specs.Replies.{ok}
use Rattle.script_run.proofs.RanOne.{error_known, did_unmap, did_unmap_end, ran_silent, ran_error, or_false}
use Rattle.script_run.proofs.serial_run.run_unmap.Goals as goal

pub tell_error-requires-clause-region : goal.tell_error-requires-clause-region
tell_error-requires-clause-region g c =
    error_known c.requires.may.0 (regions_of (lines_of c.args.workload.now)) c.args.pager.now c.requires.may.1.shaped c.stripes_agree.ensures g.J.Journal.has_noted c.unmap.new.self c.args.region c.in-Err.error c.in-Err.ensures.err

pub returns-in-Ok-clause-ran : goal.returns-in-Ok-clause-ran
returns-in-Ok-clause-ran g c = λ t shaped.
    let gs = regions_of (lines_of c.args.workload.now) in
    let o = c.ok.ensures in
    let e = c.in-Ok.ensures in
    ran_silent g.J.Journal.has_noted t gs (unmap_line c.args.region) ok c.args.replies.now c.ok.new.self c.args.pager.now c.unmap.new.self refl o.text (omega (arith, o.spare)) o.loaded o.sum (o.faulted ∙ or_false c.args.replies.now.faulted)
    (omega (arith, e.spent))
    (did_unmap t gs c.args.pager.now shaped c.stripes_agree.ensures g.J.Journal.has_noted c.unmap.new.self c.args.region c.requires.may.1.fit.0 e.same e.ok)

pub returns-in-Err-clause-ran : goal.returns-in-Err-clause-ran
returns-in-Err-clause-ran g c = λ t shaped.
    let gs = regions_of (lines_of c.args.workload.now) in
    let o = c.tell_error.ensures in
    let e = c.in-Err.ensures in
    ran_error g.J.Journal.has_noted t gs (unmap_line c.args.region) c.in-Err.error c.args.replies.now c.tell_error.new.replies c.args.pager.now c.unmap.new.self o.text (omega (arith, o.spare)) o.loaded o.sum o.faulted
    (omega (arith, e.spent))
    (did_unmap_end t gs c.args.pager.now shaped c.stripes_agree.ensures g.J.Journal.has_noted c.unmap.new.self c.args.region c.requires.may.1.fit.0 c.in-Err.error e.same e.err)
