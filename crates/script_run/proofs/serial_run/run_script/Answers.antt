use Rattle.std.proofs.Common.{◌≡◌, List, [], ◌∷◌, take, map, refl, sym, ap, subst, ◌∙◌, arith}
use Rattle.std.specs.List.{flat_map}
use Rattle.std.proofs.lemmas.List.{take_all}
use Rattle.std.proofs.lemmas.List.Concat.{flat_map_single}
use Rattle.workload_text.specs.Line.{Line, script_line}
use Rattle.workload_text.specs.View.{lines_of, command_line}
use Rattle.workload_text.specs.Accepted.{regions_of}
use Rattle.workload_text.specs.declared.workload.Command.{Command}
use Rattle.flat_lines.specs.Spreads.{Spread}
use Rattle.script_run.specs.InsideRunning.{MayRun, Ran}
use Rattle.script_run.proofs.RanItems.{may_item, ran_item, shaped_same}
use Rattle.script_run.proofs.RanOne.{ran_script}
use Rattle.script_run.proofs.serial_run.run_script.Goals as goal

pub loop-i-init : goal.loop-i-init
loop-i-init g c = record {
  ran = λ t shaped.
      ran_script g.J.Journal.has_noted t (regions_of (lines_of c.args.workload.now)) c.args.script.now.name.items c.args.replies.now c.script.new.self c.args.pager.now (rw c.as_slice.ensures at c.script.ensures.text) (rw c.as_slice.ensures at c.script.ensures.spare) c.script.ensures.loaded c.script.ensures.sum c.script.ensures.faulted;
  journals = refl;
}

pub run_command-requires-clause-may : goal.run_command-requires-clause-may
run_command-requires-clause-may g c =
    let gs = regions_of (lines_of c.args.workload.now) in
    let s = c.args.script.now in
    let items = c.as_slice-commands.result.now in
    let one : Command → List Line = λ (k : Command). command_line k ∷ [] in
    let lines : map command_line s.commands.items ≡ flat_map one items = sym (flat_map_single command_line s.commands.items) ∙ ap (flat_map one) (sym c.as_slice-commands.ensures) in
    let t : Spread = c.requires.may.0 in
    let m : MayRun t gs (script_line s.name.items ∷ map command_line s.commands.items) c.args.replies.now c.args.pager.now = c.requires.may.1 in (
      t,
      may_item g.J.Journal.has_noted t gs (script_line s.name.items ∷ []) one items c.loop-i.i c.index-commands-i.result (omega arith) c.index-commands-i.is c.args.replies.now c.loop-i.replies c.args.pager.now c.loop-i.pager
          (subst (λ (ls : List Line). MayRun t gs (script_line s.name.items ∷ ls) c.args.replies.now c.args.pager.now) lines m) (c.loop-i.invariant.ran t m.shaped),
    )

pub loop-i-preserved : goal.loop-i-preserved
loop-i-preserved g c = record {
  ran = λ t shaped.
      let gs = regions_of (lines_of c.args.workload.now) in
      let pre = script_line c.args.script.now.name.items ∷ [] in
      let one : Command → List Line = λ (k : Command). command_line k ∷ [] in
      let items = c.as_slice-commands.result.now in
      let first = c.loop-i.invariant.ran t shaped in
      ran_item g.J.Journal.has_noted t gs pre one items c.loop-i.i c.index-commands-i.result (omega arith) c.index-commands-i.is c.args.replies.now c.loop-i.replies c.run_command.new.replies c.args.pager.now c.loop-i.pager c.run_command.new.pager
      first (c.run_command.ensures.ran t (shaped_same t gs c.args.pager.now c.loop-i.pager shaped first.did.same));
  journals = c.run_command.ensures.journals ∙ c.loop-i.invariant.journals;
}

pub returns-clause-ran : goal.returns-clause-ran
returns-clause-ran g c = λ t shaped.
    let s = c.args.script.now in
    let items = c.as_slice-commands.result.now in
    let one : Command → List Line = λ (k : Command). command_line k ∷ [] in
    let lines : flat_map one (take c.loop-i.i items) ≡ map command_line s.commands.items = ap (flat_map one) (take_all c.loop-i.i items c.loop-i-test.false ∙ c.as_slice-commands.ensures) ∙ flat_map_single command_line s.commands.items in
    subst (λ (ls : List Line). Ran g.J.Journal.has_noted t (regions_of (lines_of c.args.workload.now)) (script_line s.name.items ∷ ls) c.args.replies.now c.loop-i.replies c.args.pager.now c.loop-i.pager) lines (c.loop-i.invariant.ran t shaped)
