use Rattle.std.proofs.Common.{◌≡◌, ◌<◌, ◌++◌, ℕ, List, length, get_or, sym, ap, ◌∙◌, arith}
use Rattle.std.proofs.lemmas.List.{length-map}
use Rattle.workload_text.specs.Grammar.{Region, name_at}
use Rattle.workload_text.specs.View.{region, lines_of}
use Rattle.workload_text.specs.Accepted.{regions_of}
use Rattle.workload_text.specs.declared.workload.MapLine.{MapLine}
use Rattle.script_run.specs.Replies.{fault_reply}
use Rattle.script_run.proofs.Zeros.{regions_are}
use Rattle.script_run.proofs.RegionNames.{name_is, name_short}
use Rattle.script_run.proofs.serial_run.tell_fault.Goals as goal

pub bounds-as_slice-fault : goal.bounds-as_slice-fault
bounds-as_slice-fault c = let w = c.args.workload.now in omega (arith, c.requires.region, ap length (regions_are w), length-map w.maps.items region, ap length c.as_slice.ensures)

pub fault-requires : goal.fault-requires
fault-requires c =
    let w = c.args.workload.now in
    let gs = regions_of (lines_of w) in
    let r = c.args.fault.now.key.region in
    let m = c.index-as_slice-fault.result in
    let below : r < length w.maps.items = omega (arith, c.requires.region, ap length (regions_are w), length-map w.maps.items region) in
    let name : name_at gs r ≡ m.name.items = ap (λ (g : List Region). name_at g r) (regions_are w) ∙ name_is w.maps.items r m below (c.index-as_slice-fault.is ∙ ap (λ (ms : List MapLine). get_or ms r m) c.as_slice.ensures) in
    record { room = omega (arith, c.requires.room, ap length name, name_short gs r, ap length c.as_slice-2.ensures) }

pub returns-clause-spare : goal.returns-clause-spare
returns-clause-spare c =
    let w = c.args.workload.now in
    let gs = regions_of (lines_of w) in
    let r = c.args.fault.now.key.region in
    let m = c.index-as_slice-fault.result in
    let below : r < length w.maps.items = omega (arith, c.requires.region, ap length (regions_are w), length-map w.maps.items region) in
    let name : name_at gs r ≡ m.name.items = ap (λ (g : List Region). name_at g r) (regions_are w) ∙ name_is w.maps.items r m below (c.index-as_slice-fault.is ∙ ap (λ (ms : List MapLine). get_or ms r m) c.as_slice.ensures) in
    omega (arith, c.fault.ensures.spare, ap length name, name_short gs r, ap length c.as_slice-2.ensures)

pub returns-clause-text : goal.returns-clause-text
returns-clause-text c =
    let w = c.args.workload.now in
    let gs = regions_of (lines_of w) in
    let r = c.args.fault.now.key.region in
    let m = c.index-as_slice-fault.result in
    let below : r < length w.maps.items = omega (arith, c.requires.region, ap length (regions_are w), length-map w.maps.items region) in
    let name : name_at gs r ≡ m.name.items = ap (λ (g : List Region). name_at g r) (regions_are w) ∙ name_is w.maps.items r m below (c.index-as_slice-fault.is ∙ ap (λ (ms : List MapLine). get_or ms r m) c.as_slice.ensures) in
    c.fault.ensures.text ∙ ap (λ (n : List ℕ). c.args.replies.now.text.items ++ fault_reply n c.args.fault.now.key.page c.args.fault.now.faults) (c.as_slice-2.ensures ∙ sym name)
