use Rattle.std.proofs.Common.{rules}
use Rattle.clusters.proofs.Laws.Counts.{at_least-counts}
use Rattle.clusters.proofs.utils.at_least.Goals as goal

pub returns : goal.returns
returns c = rw (at_least-counts c.args.t c.args.counts.now) (search rules)
