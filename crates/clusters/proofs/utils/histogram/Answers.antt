use Rattle.std.proofs.Common.{arith}
use Rattle.clusters.proofs.Laws.Histogram.{rising-fits, rising-on, rising-all}
use Rattle.clusters.proofs.utils.histogram.Goals as goal

pub note-requires-clause-c_bound : goal.note-requires-clause-c_bound
note-requires-clause-c_bound c =
    let h = c.requires.counts_in_bounds c.loop-c.c-index c.loop-c-test.true in
    omega (arith, rising-fits _ c.loop-c.invariant h, c.requires.entries_low _ h)

pub loop-c-preserved : goal.loop-c-preserved
loop-c-preserved c =
    let h = c.requires.counts_in_bounds c.loop-c.c-index c.loop-c-test.true in
    rising-on c.loop-c.invariant c.loop-c-test.true (omega (arith, c.loop-c.invariant.sized)) c.note.ensures

pub returns : goal.returns
returns c = rising-all c.loop-c.invariant c.loop-c-test.false
