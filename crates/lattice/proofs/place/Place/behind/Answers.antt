-- `Place::behind` meets its contract: the test on the rest says whether the step stays in the block.
use Rattle.lattice.proofs.Laws.Axis.{back_in, back-over}
use Rattle.lattice.proofs.place.Place.behind.Goals as goal

pub returns-then-self : goal.returns-then-self
returns-then-self c = back_in c.args.self.on_axis c.if-self.true

pub returns-else-self : goal.returns-else-self
returns-else-self c = back-over c.args.self.on_axis c.if-self.false
