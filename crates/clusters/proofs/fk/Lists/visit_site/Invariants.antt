use Rattle.clusters.specs.Inside.Run.{plane_of}
use Rattle.clusters.specs.Inside.Read.{extents_in, given_of, lists_of, SameLent}
use Rattle.clusters.proofs.Laws.Loops.{Going}
use Rattle.clusters.proofs.fk.Lists.visit_site.Given as goal

abbrev pub invariant-loop-axis : goal.invariant-loop-axis
invariant-loop-axis l =
    SameLent l.initial.self l.self
    × Going (given_of l.input) (extents_in l.input) (lists_of l.initial.self) (plane_of (extents_in l.input)) l.initial.pass l.site.index
    (lists_of l.self) l.pass l.axis
