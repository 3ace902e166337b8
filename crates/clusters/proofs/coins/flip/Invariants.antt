-- The invariant is `Flipping`: no later coin changes a spin that was passed.
use Rattle.clusters.proofs.Laws.Turns.{Flipping}
use Rattle.clusters.proofs.coins.flip.Given as goal

abbrev pub invariant-loop-i : goal.invariant-loop-i
invariant-loop-i l = Flipping l.roots.row.now l.initial.decisions l.initial.state l.initial.spins l.decisions l.state l.spins l.i
