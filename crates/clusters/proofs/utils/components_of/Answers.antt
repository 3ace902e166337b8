use Rattle.std.proofs.Common.{sym, ◌∙◌}
use Rattle.clusters.proofs.Laws.Counts.{filled_is}
use Rattle.clusters.proofs.utils.components_of.Goals as goal

pub returns : goal.returns
returns c = c.at_least.ensures ∙ sym (filled_is c.args.counts.now)
