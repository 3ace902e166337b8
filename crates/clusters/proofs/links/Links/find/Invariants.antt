use Rattle.std.proofs.Common.{◌-◌, get_or, length}
use Rattle.clusters.specs.Inside.Rep.{SameLinks}
use Rattle.clusters.proofs.Laws.Forest.{Walked}
use Rattle.clusters.proofs.links.Links.find.Given as goal

abbrev pub invariant-loop-self : goal.invariant-loop-self
invariant-loop-self l = SameLinks l.initial.self l.self × Walked l.initial.self l.fn.x l.self l.x

abbrev pub decreases-loop-self : goal.decreases-loop-self
decreases-loop-self l = length l.self.parent.now - get_or l.self.rank.now l.x 0
