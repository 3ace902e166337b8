use Rattle.std.proofs.Common.{◌∙◌}
use Rattle.clusters.proofs.Laws.Steps.{observed-only, updated}
use Rattle.clusters.proofs.fk.act.Goals as goal

pub returns-in-Observe : goal.returns-in-Observe
returns-in-Observe c =
    let a = c.args in observed-only a.roots.row.now a.decisions.now a.spins.now a.generator c.in-Observe.is

pub returns-in-Update : goal.returns-in-Update
returns-in-Update c =
    let a = c.args in c.flip.ensures ∙ updated a.roots.row.now a.decisions.now a.spins.now a.generator c.in-Update.is
