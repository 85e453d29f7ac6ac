use Rattle.std.proofs.Common.{ap, ◌∙◌}
use Rattle.workload_text.specs.View.{lines_of}
use Rattle.serial_pager.specs.Pagers.{rows_of}
use Rattle.script_run.specs.Contents.{origins_of}
use Rattle.script_run.specs.FitsSerial.{EndSeen}
use Rattle.region_lanes.specs.contracts.any_lane.AnyLaneStore.TheImpl.{ghosts}
use Rattle.umapsh.proofs.Closed.{LaneLaws}
use Rattle.umapsh.proofs.Ran.{leaves_told, plain, rose, none_out, unchanged}
use Rattle.umapsh.proofs.top.run_over.Goals as goal

pub returns-in-Ok-serial-clause-ran : goal.returns-in-Ok-serial-clause-ran
returns-in-Ok-serial-clause-ran g c =
    let laws : LaneLaws = record { tell = c.opened_lanes_tell_the_file.ensures; hold = c.files_hold_what_their_lanes_told.ensures; others = c.other_files_stay.ensures; none = c.no_part_stays_out.ensures; apart = c.rules_keep_regions_apart.ensures; parts = c.same_lanes_have_the_same_parts.ensures; lanes = c.same_lanes_are_of_the_same_regions.ensures; plain = c.without_faults.ensures; held = c.told_is_held.ensures; counted = c.faults_are_counted.ensures } in
    let seen = (ghosts g.row.F-Part g.F.Part.Part g.F.Part.Part-dict).seen in
    let layout = c.args.settings.now.layout in
    let lines = lines_of c.args.accepted.workload in
    let f0 = g.F.Folder.seen c.args.folder.now in
    let f1 = g.F.Folder.seen c.open_lanes.new.folder in
    let f2 = g.F.Folder.seen c.close_lanes.new.folder in
    let rows = rows_of seen c.in-Ok-open_lanes.lanes in
    let end = c.in-Ok-serial.end in
    let ends = rows_of seen end.lanes in
    let o = c.in-Ok-open_lanes.ensures in
    let s = c.in-Ok-serial.ensures in
    let e : EndSeen = record { text = end.text.items; faulted = end.faulted; loaded = end.loaded; sum = end.sum } in
    record {
      runs = record {
        rows = rows;
        ends = ends;
        loaded = end.loaded;
        sum = end.sum;
        opened = o.opened;
        fits = s.fits.0;
        files = leaves_told laws layout lines c.requires.regions f0 f1 rows o.opened o.fit o.out ends s.origins f2 c.close_lanes.ensures.closed s.told;
      };
      plain = plain laws layout lines c.requires.regions f0 f1 rows o.opened o.fit o.out ends s.origins f2 c.close_lanes.ensures.closed s.told e s.fits.0;
      cause = rose laws layout lines c.requires.regions f0 f1 rows o.opened o.fit o.out ends s.origins f2 c.close_lanes.ensures.closed s.told e s.fits.0 o.later c.close_lanes.ensures.faults;
    }

pub returns-in-Ok-serial-clause-none_out : goal.returns-in-Ok-serial-clause-none_out
returns-in-Ok-serial-clause-none_out g c =
    let laws : LaneLaws = record { tell = c.opened_lanes_tell_the_file.ensures; hold = c.files_hold_what_their_lanes_told.ensures; others = c.other_files_stay.ensures; none = c.no_part_stays_out.ensures; apart = c.rules_keep_regions_apart.ensures; parts = c.same_lanes_have_the_same_parts.ensures; lanes = c.same_lanes_are_of_the_same_regions.ensures; plain = c.without_faults.ensures; held = c.told_is_held.ensures; counted = c.faults_are_counted.ensures } in
    let seen = (ghosts g.row.F-Part g.F.Part.Part g.F.Part.Part-dict).seen in
    let o = c.in-Ok-open_lanes.ensures in
    none_out laws c.args.settings.now.layout (lines_of c.args.accepted.workload) c.requires.regions (g.F.Folder.seen c.args.folder.now) (g.F.Folder.seen c.open_lanes.new.folder) (rows_of seen c.in-Ok-open_lanes.lanes) o.opened o.fit o.out
    (rows_of seen c.in-Ok-serial.end.lanes) c.in-Ok-serial.ensures.origins (g.F.Folder.seen c.close_lanes.new.folder) c.close_lanes.ensures.closed

pub returns-clause-back : goal.returns-clause-back
returns-clause-back g c =
    let laws : LaneLaws = record { tell = c.opened_lanes_tell_the_file.ensures; hold = c.files_hold_what_their_lanes_told.ensures; others = c.other_files_stay.ensures; none = c.no_part_stays_out.ensures; apart = c.rules_keep_regions_apart.ensures; parts = c.same_lanes_have_the_same_parts.ensures; lanes = c.same_lanes_are_of_the_same_regions.ensures; plain = c.without_faults.ensures; held = c.told_is_held.ensures; counted = c.faults_are_counted.ensures } in
    let seen = (ghosts g.row.F-Part g.F.Part.Part g.F.Part.Part-dict).seen in
    let o = c.in-Ok-open_lanes.ensures in
    let back = ap (rows_of seen) c.lanes_back.ensures ∙ c.in-Err-serial.ensures.back in
    unchanged laws c.args.settings.now.layout (lines_of c.args.accepted.workload) c.requires.regions (g.F.Folder.seen c.args.folder.now) (g.F.Folder.seen c.open_lanes.new.folder) (rows_of seen c.in-Ok-open_lanes.lanes) o.opened o.fit o.out
    (rows_of seen c.lanes_back.result) (ap origins_of back) (g.F.Folder.seen c.close_lanes-in-Err-serial.new.folder) c.close_lanes-in-Err-serial.ensures.closed c.requires.none_out back

pub returns-clause-none_out : goal.returns-clause-none_out
returns-clause-none_out g c =
    let laws : LaneLaws = record { tell = c.opened_lanes_tell_the_file.ensures; hold = c.files_hold_what_their_lanes_told.ensures; others = c.other_files_stay.ensures; none = c.no_part_stays_out.ensures; apart = c.rules_keep_regions_apart.ensures; parts = c.same_lanes_have_the_same_parts.ensures; lanes = c.same_lanes_are_of_the_same_regions.ensures; plain = c.without_faults.ensures; held = c.told_is_held.ensures; counted = c.faults_are_counted.ensures } in
    let seen = (ghosts g.row.F-Part g.F.Part.Part g.F.Part.Part-dict).seen in
    let o = c.in-Ok-open_lanes.ensures in
    none_out laws c.args.settings.now.layout (lines_of c.args.accepted.workload) c.requires.regions (g.F.Folder.seen c.args.folder.now) (g.F.Folder.seen c.open_lanes.new.folder) (rows_of seen c.in-Ok-open_lanes.lanes) o.opened o.fit o.out
    (rows_of seen c.lanes_back.result) (ap origins_of (ap (rows_of seen) c.lanes_back.ensures ∙ c.in-Err-serial.ensures.back)) (g.F.Folder.seen c.close_lanes-in-Err-serial.new.folder) c.close_lanes-in-Err-serial.ensures.closed
