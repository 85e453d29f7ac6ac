use Rattle.std.proofs.Common.{List, ◌++◌, map, refl, sym, subst, ◌∙◌, arith, append-nil}
use Rattle.std.specs.List.{flat_map}
use Rattle.std.proofs.lemmas.List.{take_all}
use Rattle.workload_text.specs.Line.{Line}
use Rattle.workload_text.specs.View.{lines_of, region_line, script_lines}
use Rattle.workload_text.specs.Accepted.{regions_of}
use Rattle.workload_text.specs.declared.workload.Script.{Script}
use Rattle.flat_lines.specs.Spreads.{Spread}
use Rattle.script_run.specs.InsideRunning.{MayRun, Ran}
use Rattle.script_run.proofs.RanItems.{may_item, ran_item, ran_maps, shaped_same}
use Rattle.script_run.proofs.serial_run.run_scripts.Goals as goal

pub loop-i-init : goal.loop-i-init
loop-i-init g c = record {
  ran = λ t shaped.
      let w = c.args.workload.now in
      let gs = regions_of (lines_of w) in
      subst (λ (ls : List Line). Ran g.J.Journal.has_noted t gs ls c.args.replies.now c.args.replies.now c.args.pager.now c.args.pager.now) (sym (append-nil (map region_line w.maps.items))) (ran_maps g.J.Journal.has_noted t gs w.maps.items c.args.replies.now c.args.pager.now);
  journals = refl;
}

pub run_script-requires-clause-may : goal.run_script-requires-clause-may
run_script-requires-clause-may g c =
    let w = c.args.workload.now in
    let gs = regions_of (lines_of w) in
    let t : Spread = c.requires.may.0 in
    let m : MayRun t gs (lines_of w) c.args.replies.now c.args.pager.now = c.requires.may.1 in (
      t,
      may_item g.J.Journal.has_noted t gs (map region_line w.maps.items) script_lines c.as_slice-scripts.result.now c.loop-i.i c.index-scripts-i.result (omega arith) c.index-scripts-i.is c.args.replies.now c.loop-i.replies c.args.pager.now c.loop-i.pager
          (subst (λ (ss : List Script). MayRun t gs (map region_line w.maps.items ++ flat_map script_lines ss) c.args.replies.now c.args.pager.now) (sym c.as_slice-scripts.ensures) m) (c.loop-i.invariant.ran t m.shaped),
    )

pub loop-i-preserved : goal.loop-i-preserved
loop-i-preserved g c = record {
  ran = λ t shaped.
      let w = c.args.workload.now in
      let gs = regions_of (lines_of w) in
      let pre = map region_line w.maps.items in
      let items = c.as_slice-scripts.result.now in
      let first = c.loop-i.invariant.ran t shaped in
      ran_item g.J.Journal.has_noted t gs pre script_lines items c.loop-i.i c.index-scripts-i.result (omega arith) c.index-scripts-i.is c.args.replies.now c.loop-i.replies c.run_script.new.replies c.args.pager.now c.loop-i.pager c.run_script.new.pager
      first (c.run_script.ensures.ran t (shaped_same t gs c.args.pager.now c.loop-i.pager shaped first.did.same));
  journals = c.run_script.ensures.journals ∙ c.loop-i.invariant.journals;
}

pub returns-clause-ran : goal.returns-clause-ran
returns-clause-ran g c = λ t shaped.
    let w = c.args.workload.now in
    let items = c.as_slice-scripts.result.now in
    subst (λ (ss : List Script). Ran g.J.Journal.has_noted t (regions_of (lines_of w)) (map region_line w.maps.items ++ flat_map script_lines ss) c.args.replies.now c.loop-i.replies c.args.pager.now c.loop-i.pager) (take_all c.loop-i.i items c.loop-i-test.false ∙ c.as_slice-scripts.ensures) (c.loop-i.invariant.ran t shaped)
