use Rattle.std.proofs.Common.{◌≡◌, ◌++◌, ◌≤◌, length, take}
use Rattle.region_table.specs.Cuts.{rest_of}
use Rattle.region_table.specs.Pieces.{pieces_of}
use Rattle.serial_pager.specs.Pagers.{journals_made}
use Rattle.workload_text.specs.Line.{load_line}
use Rattle.script_run.specs.InsideRanges.{RangeSoFar, load_of}
use Rattle.script_run.specs.LineEntries.{may_make}
use Rattle.script_run.proofs.access.load.Given as goal

abbrev pub invariant-loop-piece : goal.invariant-loop-piece
invariant-loop-piece g l = record {
  within : l.done ≤ length l.buf;
  pieces : pieces_of l.initial.pager.page_size l.region l.off (length l.initial.buf) ≡ l.yielded ++ rest_of l.piece-iterator;
  far : RangeSoFar g.J.Journal.has_noted (may_make l.initial.pager.page_size (load_line l.region l.off (length l.initial.buf))) load_of l.region l.off l.yielded (take l.done l.buf) l.done l.initial.pager l.pager;
  journals : journals_made g.J.Journal.made_with l.pager ≡ journals_made g.J.Journal.made_with l.initial.pager;
}
