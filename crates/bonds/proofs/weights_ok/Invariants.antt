-- The invariant: the weights rise if those from here on rise above the last one passed.
use Rattle.std.proofs.Common.{◌≡◌, drop}
use Rattle.domain.specs.Numbers.{zero_f}
use Rattle.bonds.specs.Classes.{rising}
use Rattle.bonds.proofs.weights_ok.Given as goal

abbrev pub invariant-loop-next : goal.invariant-loop-next
invariant-loop-next l = rising zero_f l.weights ≡ rising l.last (drop l.next-index l.weights)
