use Rattle.clusters.specs.Inside.Rep.{SameLinks}
use Rattle.clusters.proofs.Laws.Forest.{Settling}
use Rattle.clusters.proofs.links.Links.flatten.Given as goal

abbrev pub invariant-loop-i : goal.invariant-loop-i
invariant-loop-i l = SameLinks l.initial.self l.self × Settling l.initial.self l.self l.i
