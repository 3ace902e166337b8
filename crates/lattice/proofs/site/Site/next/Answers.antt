-- `Site::next` meets its contract: each of the four rests is the next one on its axis.
use Rattle.lattice.specs.Shape.{rests_for}
use Rattle.lattice.proofs.site.Site.next.Goals as goal

pub invariant_of-result : goal.invariant_of-result
unfolding rests_for
invariant_of-result c = record { here = cc }
