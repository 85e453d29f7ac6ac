use Rattle.std.proofs.Common.{◌≡◌, ◌++◌, map, take}
use Rattle.std.specs.List.{flat_map}
use Rattle.serial_pager.specs.Pagers.{journals_made}
use Rattle.workload_text.specs.View.{lines_of, region_line, script_lines}
use Rattle.workload_text.specs.Accepted.{regions_of}
use Rattle.flat_lines.specs.Spreads.{Spread}
use Rattle.script_run.specs.InsideRunning.{IsShaped, Ran}
use Rattle.script_run.proofs.serial_run.run_scripts.Given as goal

abbrev pub invariant-loop-i : goal.invariant-loop-i
invariant-loop-i g l = record {
  ran : (t : Spread) → IsShaped t (regions_of (lines_of l.fn.workload)) l.fn.pager → Ran g.J.Journal.has_noted t (regions_of (lines_of l.fn.workload)) (map region_line l.fn.workload.maps.items ++ flat_map script_lines (take l.i l.scripts)) l.fn.replies l.replies l.fn.pager l.pager;
  journals : journals_made g.J.Journal.made_with l.pager ≡ journals_made g.J.Journal.made_with l.fn.pager;
}
