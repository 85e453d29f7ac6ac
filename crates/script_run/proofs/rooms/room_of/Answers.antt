use Rattle.std.proofs.Common.{◌≡◌, List, map, ap, arith}
use Rattle.std.specs.List.{flat_map}
use Rattle.workload_text.specs.Accepted.{regions_of}
use Rattle.workload_text.specs.View.{region, region_line, script_lines, lines_of}
use Rattle.workload_text.specs.declared.workload.MapLine.{MapLine}
use Rattle.workload_text.specs.declared.workload.Script.{Script}
use Rattle.script_run.specs.InsideRooms.{longest_name, fault_room, rooms}
use Rattle.script_run.proofs.RanLines.{rooms-append}
use Rattle.script_run.proofs.RoomsLeft.{next_room, rooms-maps}
use Rattle.script_run.proofs.Zeros.{regions_are}
use Rattle.script_run.proofs.rooms.room_of.Goals as goal

pub loop-i-init : goal.loop-i-init
loop-i-init c =
    let w = c.args.workload.now in
    let gs = regions_of (lines_of w) in
    omega (arith, rooms-append gs (map region_line w.maps.items) (flat_map script_lines w.scripts.items), rooms-maps gs w.maps.items, ap (λ (ss : List Script). rooms gs (flat_map script_lines ss)) c.as_slice-scripts.ensures)

pub loop-i-preserved : goal.loop-i-preserved
loop-i-preserved c =
    let w = c.args.workload.now in
    let gs = regions_of (lines_of w) in
    let fault : c.in-Some.fault ≡ fault_room gs = omega (arith, c.in-Some.ensures, c.longest_name_of.ensures, ap (λ (ms : List MapLine). longest_name (map region ms)) c.as_slice.ensures, ap longest_name (regions_are w)) in
    omega (arith, c.loop-i.invariant, c.in-Some-checked_add.ensures, c.in-Some-room_of_script.ensures gs fault, next_room gs script_lines c.as_slice-scripts.result.now c.loop-i.i c.index-scripts-i.result (omega arith) c.index-scripts-i.is)
