use Rattle.std.proofs.Common.{refl, ◌∙◌, arith}
use Rattle.workload_text.specs.Line.{flush_line}
use Rattle.workload_text.specs.View.{lines_of}
use Rattle.workload_text.specs.Accepted.{regions_of}
use Rattle.script_run.specs.Replies.{ok, fault}
use Rattle.script_run.proofs.RanOne.{key_known, did_flush, did_flush_fault, ran_silent, or_false, or_true}
use Rattle.script_run.proofs.serial_run.run_flush.Goals as goal

pub flush-requires : goal.flush-requires
flush-requires g c = record { few = omega (arith, c.requires.may.1.pieces) }

pub tell_fault-requires-clause-region : goal.tell_fault-requires-clause-region
tell_fault-requires-clause-region g c = key_known c.requires.may.0 (regions_of (lines_of c.args.workload.now)) c.args.pager.now c.requires.may.1.shaped c.in-Err.fault.key c.in-Err.ensures.err.page

pub returns-in-Ok-clause-ran : goal.returns-in-Ok-clause-ran
returns-in-Ok-clause-ran g c = λ t shaped.
    let gs = regions_of (lines_of c.args.workload.now) in
    let o = c.ok.ensures in
    let e = c.in-Ok.ensures in
    ran_silent g.J.Journal.has_noted t gs flush_line ok c.args.replies.now c.ok.new.self c.args.pager.now c.flush.new.self refl o.text (omega (arith, o.spare)) o.loaded o.sum (o.faulted ∙ or_false c.args.replies.now.faulted)
    (omega (arith, e.spent))
    (did_flush t gs c.args.pager.now shaped c.stripes_agree.ensures g.J.Journal.has_noted c.flush.new.self e.same e.ok)

pub returns-in-Err-clause-ran : goal.returns-in-Err-clause-ran
returns-in-Err-clause-ran g c = λ t shaped.
    let gs = regions_of (lines_of c.args.workload.now) in
    let o = c.tell_fault.ensures in
    let e = c.in-Err.ensures in
    let f = c.in-Err.fault in
    ran_silent g.J.Journal.has_noted t gs flush_line (fault f.key f.faults 0) c.args.replies.now c.tell_fault.new.replies c.args.pager.now c.flush.new.self refl o.text (omega (arith, o.spare)) o.loaded o.sum (o.faulted ∙ or_true c.args.replies.now.faulted)
    (omega (arith, e.spent))
    (did_flush_fault t gs c.args.pager.now shaped c.stripes_agree.ensures g.J.Journal.has_noted c.flush.new.self f e.same e.err)
