-- `Place::ahead` meets its contract: the test on the rest says whether the step stays in the block.
use Rattle.lattice.proofs.Laws.Axis.{step_in, step-over}
use Rattle.lattice.proofs.place.Place.ahead.Goals as goal

pub returns-then-self-block : goal.returns-then-self-block
returns-then-self-block c = step_in c.args.self.on_axis c.if-self-block.true

pub returns-else-self-block : goal.returns-else-self-block
returns-else-self-block c = step-over c.args.self.on_axis c.if-self-block.false
