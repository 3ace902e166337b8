use Rattle.std.proofs.Common.{arith, refl}
use Rattle.clusters.proofs.Laws.Linking.{rank-fits, pair, join-low, join-high, join-even}
use Rattle.clusters.proofs.links.Links.link.Goals as goal

pub returns-then-kx-ky-clause-linked : goal.returns-then-kx-ky-clause-linked
returns-then-kx-ky-clause-linked c f r = join-low c.args.x c.args.y r (pair c.args.x c.args.y r c.requires.x_in_bounds c.requires.y_in_bounds c.requires.apart) c.if-kx-ky.true

pub overflow_add-self : goal.overflow_add-self
overflow_add-self c =
    omega (arith, rank-fits c.args.x c.requires.valid.1 c.requires.x_in_bounds.0 c.requires.x_in_bounds.1 (omega (arith, c.requires.few)))

pub returns-then-kx-ky-2-clause-linked : goal.returns-then-kx-ky-2-clause-linked
returns-then-kx-ky-2-clause-linked c f r = join-even c.args.x c.args.y r (pair c.args.x c.args.y r c.requires.x_in_bounds c.requires.y_in_bounds c.requires.apart) _ refl c.if-kx-ky-2.true

pub returns-else-kx-ky-2-clause-linked : goal.returns-else-kx-ky-2-clause-linked
returns-else-kx-ky-2-clause-linked c f r = join-high c.args.x c.args.y r (pair c.args.x c.args.y r c.requires.x_in_bounds c.requires.y_in_bounds c.requires.apart) (omega arith)
