use Rattle.std.proofs.Common.{rules}
use Rattle.clusters.proofs.Laws.Forest.{climbs, walk-on}
use Rattle.clusters.proofs.links.Links.find.Goals as goal

pub loop-self-preserved : goal.loop-self-preserved
loop-self-preserved c = (search rules, walk-on _ _ c.requires.valid c.loop-self.invariant.1 c.halve-x.ensures.climbed)

pub loop-self-smaller : goal.loop-self-smaller
loop-self-smaller c =
    let v = c.requires.valid in
    let r = (c.loop-self.invariant.1.keeps v.0 v.1).1.rep in
    let k = c.halve-x.ensures.climbed v.0 r in
    climbs _ _ r k.1.rep c.loop-self.invariant.1.inside k.0
