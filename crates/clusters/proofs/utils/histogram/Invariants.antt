use Rattle.clusters.proofs.Laws.Histogram.{Rising}
use Rattle.clusters.proofs.utils.histogram.Given as goal

abbrev pub invariant-loop-c : goal.invariant-loop-c
invariant-loop-c l = Rising l.counts l.initial.hist l.hist l.c-index
