use Rattle.std.proofs.Common.{refl}
use Rattle.call_words.specs.Calls.{reads_of, settings_seen}
use Rattle.umapsh.specs.Top.{outside}
use Rattle.umapsh.proofs.Outcomes.{run_says}
use Rattle.umapsh.proofs.top.answer.Goals as goal

pub returns-clause-says : goal.returns-clause-says
returns-clause-says g c =
    let reads = reads_of c.args.call.now in
    let old = outside g.S.Source.left g.S.Source.fault_count g.F.Folder.seen g.K.Sink.written g.K.Sink.fault_count c.args.source.now c.args.folder.now c.args.sink.now in
    let new = outside g.S.Source.left g.S.Source.fault_count g.F.Folder.seen g.K.Sink.written g.K.Sink.fault_count c.read_all.new.source c.run.new.folder c.args.sink.now in
    run_says reads (settings_seen c.in-Ok.settings) c.in-Ok.ensures.settings old new c.in-Ok-read_all.bytes.items c.in-Ok-read_all.ensures.all c.in-Err-run.status
    (rw c.as_slice.ensures.value at c.in-Err-run.ensures.stop) (record { written = refl; files = c.in-Err-run.ensures.back })
