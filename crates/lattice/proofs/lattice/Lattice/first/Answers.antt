-- `Lattice::first` meets its contract: the first site's rests are 0.
use Rattle.lattice.specs.Shape.{extents_of}
use Rattle.lattice.proofs.Laws.Shape.{rests-zero}
use Rattle.lattice.proofs.lattice.Lattice.first.Goals as goal

pub invariant_of-result : goal.invariant_of-result
invariant_of-result c = record { here = rests-zero (extents_of c.args.self.now.shape) }
