use Rattle.std.proofs.Common.{arith}
use Rattle.clusters.proofs.Laws.Forest.{settled, kept_on}
use Rattle.clusters.proofs.links.Links.settle.Goals as goal

pub returns-clause-settled : goal.returns-clause-settled
returns-clause-settled c f r =
    let k = c.find-r.ensures.found f r in
    let t = settled c.args.x _ k.1.rep (omega (arith, k.1.rep.links, r.links, c.requires.x_in_bounds)) k.0 in
    (t.0, kept_on k.1 t.1)
