use Rattle.clusters.proofs.Laws.Counts.{Tallied}
use Rattle.clusters.proofs.utils.count_roots.Given as goal

abbrev pub invariant-loop-r : goal.invariant-loop-r
invariant-loop-r l = Tallied l.roots.row.now l.counts l.r-index
