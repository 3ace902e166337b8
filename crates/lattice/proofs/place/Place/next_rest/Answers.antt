-- `Place::next_rest` meets its contract: the rest goes up by one, and from the last of its block to 0.
use Rattle.lattice.proofs.Laws.Axis.{next-in, next-over}
use Rattle.lattice.proofs.place.Place.next_rest.Goals as goal

pub returns-then-next-self : goal.returns-then-next-self
returns-then-next-self c = next-in c.args.self.on_axis c.if-next-self.true

pub returns-else-next-self : goal.returns-else-next-self
returns-else-next-self c = next-over c.args.self.on_axis c.if-next-self.false
