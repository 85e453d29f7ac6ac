use Rattle.std.proofs.Common.{[], lit≤}
use Rattle.umapsh.proofs.Inputs.{consumes_none}
use Rattle.umapsh.proofs.top.read_all.Goals as goal

pub returns-in-Err-clause-few : goal.returns-in-Err-clause-few
returns-in-Err-clause-few g c = ([], consumes_none (g.S.Source.left c.args.source.now), lit≤ tt)
