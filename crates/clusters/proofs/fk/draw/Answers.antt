use Rattle.std.proofs.Common.{arith}
use Rattle.lattice.proofs.Laws.Neighbours.{domain}
use Rattle.clusters.proofs.Laws.Steps.{started}
use Rattle.clusters.proofs.fk.draw.Goals as goal

pub start-requires : goal.start-requires
start-requires c =
    let r = c.requires in
    let l = (domain _ r.fit.domain).few in
    (omega (arith, r.roots), omega (arith, r.parents))

pub draw-requires : goal.draw-requires
draw-requires c = started c.requires c.start.ensures
