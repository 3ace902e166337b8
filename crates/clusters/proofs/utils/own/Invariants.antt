use Rattle.clusters.proofs.Laws.Fills.{Filled}
use Rattle.clusters.proofs.utils.own.Given as goal

abbrev pub invariant-loop-i : goal.invariant-loop-i
invariant-loop-i l = Filled 0 (λ k. k) l.initial.parent l.parent l.i
