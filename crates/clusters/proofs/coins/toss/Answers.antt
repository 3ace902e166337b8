use Rattle.clusters.proofs.Laws.Turns.{tossed, not-tossed, byte-coin}
use Rattle.clusters.proofs.coins.toss.Goals as goal

pub returns-then-decisions-r-ne2 : goal.returns-then-decisions-r-ne2
returns-then-decisions-r-ne2 c = not-tossed c.args.r c.args.decisions.now c.args.generator c.if-decisions-r-ne2.true

pub returns : goal.returns
returns c = rw (c.from.ensures, c.coin-heads.ensures, byte-coin) (tossed c.args.r c.args.decisions.now c.args.generator c.if-decisions-r-ne2.false)
