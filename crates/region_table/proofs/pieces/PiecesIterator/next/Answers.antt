use Rattle.std.proofs.Common.{length, ap, arith}
use Rattle.region_table.proofs.Cutting.{first_piece_of}
use Rattle.region_table.proofs.pieces.PiecesIterator.next.Goals as goal

pub returns-clause-steps : goal.returns-clause-steps
returns-clause-steps c =
    first_piece_of c.args.self.now.page_size c.from-page_size.result c.args.self.now.region c.args.self.now.off c.args.self.now.left c.min-len.result c.from-page_size.ensures c.args.self.now.sized
    c.if-self-eq0.false c.min-len.ensures

pub returns-clause-goes : goal.returns-clause-goes
returns-clause-goes c =
    let steps =
    first_piece_of c.args.self.now.page_size c.from-page_size.result c.args.self.now.region c.args.self.now.off c.args.self.now.left c.min-len.result c.from-page_size.ensures c.args.self.now.sized
    c.if-self-eq0.false c.min-len.ensures
    in
    let shorter = ap length steps in
    record { on = λ _. (tt, tt, omega (arith, shorter)); keeps = tt; rests = λ _. tt }
