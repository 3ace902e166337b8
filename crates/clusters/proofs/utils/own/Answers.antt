use Rattle.std.proofs.Common.{arith}
use Rattle.clusters.proofs.Laws.Fills.{filled-own}
use Rattle.clusters.proofs.utils.own.Goals as goal

pub returns : goal.returns
returns c = filled-own c.loop-i.invariant (omega (arith, c.loop-i-test.false, c.loop-i.auto.parent))
