use Rattle.std.proofs.Common.{refl}
use Rattle.clusters.proofs.Laws.Forest.{halved}
use Rattle.clusters.proofs.links.Links.halve.Goals as goal

pub returns-clause-climbed : goal.returns-clause-climbed
returns-clause-climbed c f r = halved c.args.x _ _ r c.requires.x_in_bounds c.requires.not_root refl refl
