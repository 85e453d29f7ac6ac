use Rattle.std.proofs.Common.{arith}
use Rattle.sparse_store.proofs.Spellings.{number_here}
use Rattle.sparse_store.proofs.meta.read_number.Goals as goal

pub returns-else-read-eq0-clause-some : goal.returns-else-read-eq0-clause-some
returns-else-read-eq0-clause-some c =
    let d = c.read_digits-read.result in
    let e = c.read_digits-read.ensures in
    number_here c.args.bytes.now d.count d.value e.within (omega arith) (λ zero. omega (arith, zero)) e.all e.value e.most e.ends
