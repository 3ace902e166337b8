use Rattle.std.proofs.Common.{arith, rules}
use Rattle.clusters.proofs.Laws.Forest.{settle-on, settled-length, all_settled}
use Rattle.clusters.proofs.links.Links.flatten.Goals as goal

pub loop-i-preserved : goal.loop-i-preserved
loop-i-preserved c =
    let w = c.loop-i.invariant.1 in
    (search rules, settle-on c.settle.new.self w (omega (arith, c.loop-i-test.true, w.sized)) c.settle.ensures.settled (settled-length c.settle.new.self c.requires.valid w c.settle.ensures.settled))

pub returns-clause-flattened : goal.returns-clause-flattened
returns-clause-flattened c f r = let w = c.loop-i.invariant.1 in all_settled w (omega (arith, c.loop-i-test.false, w.sized)) f r
