-- `lattice::put_entry` meets its contract: a neighbour fits the tables' numbers.
use Rattle.std.proofs.Common.{arith}
use Rattle.lattice.proofs.Laws.Axis.{ahead-fits, behind-fits}
use Rattle.lattice.proofs.put_entry.Goals as goal

pub overflow_cast-up : goal.overflow_cast-up
overflow_cast-up c = omega (arith, c.ahead.ensures, ahead-fits c.args.place.on_axis)

pub overflow_cast-down : goal.overflow_cast-down
overflow_cast-down c = omega (arith, c.behind.ensures, behind-fits c.args.place.on_axis)
