-- `lattice::fill` meets its contract.
use Rattle.std.proofs.Common.{◌≡◌, arith}
use Rattle.lattice.proofs.Filling.{up-whole, down-whole}
use Rattle.lattice.proofs.fill.Goals as goal
use Rattle.lattice.proofs.fill.Goals.{After-loop}

-- the loop ends at the number of sites
end : (c : After-loop) → c.loop.site.index ≡ c.args.lattice.now.shape.sites
end c = omega (arith, c.loop.invariant.1, c.loop-test.false, c.loop.auto.counter-end)

pub returns-clause-up_after : goal.returns-clause-up_after
returns-clause-up_after c = let i = c.loop.invariant in up-whole c.args.lattice.now.good _ i.4 (rw (end c) at i.2)

pub returns-clause-down_after : goal.returns-clause-down_after
returns-clause-down_after c = let i = c.loop.invariant in down-whole c.args.lattice.now.good _ i.5 (rw (end c) at i.3)
