use Rattle.std.proofs.Common.{arith}
use Rattle.clusters.proofs.Laws.Counts.{tallied-fits, tallied-on, tallied-all}
use Rattle.clusters.proofs.utils.count_roots.Goals as goal

pub overflow_add-counts : goal.overflow_add-counts
overflow_add-counts c =
    let lt = c.loop-r-test.true in
    let h = c.args.roots.inside c.loop-r.r-index lt in
    omega (arith, tallied-fits c.loop-r.invariant lt h)

pub loop-r-preserved : goal.loop-r-preserved
loop-r-preserved c =
    let lt = c.loop-r-test.true in
    let h = c.args.roots.inside c.loop-r.r-index lt in
    tallied-on c.loop-r.invariant lt h

pub returns : goal.returns
returns c = tallied-all c.loop-r.invariant c.loop-r-test.false
