use Rattle.std.proofs.Common.{◌<◌, arith, rules}
use Rattle.lattice.specs.Lattice.{sites}
use Rattle.lattice.proofs.Laws.Shape.{sites-of}
use Rattle.clusters.specs.declared.Action.TheVariants.{Observe}
use Rattle.clusters.specs.Inside.Read.{given_of, extents_in}
use Rattle.clusters.proofs.Laws.Loops.{walking-clear, site-at, walking_on, walked}
use Rattle.clusters.proofs.fk.Lists.visit_all.Goals as goal
use Rattle.clusters.proofs.fk.Lists.visit_all.Goals.{In-loop}

inner : (c : In-loop) → c.loop.site.index < sites (extents_in c.args.input.now)
inner c = omega (arith, sites-of _ c.args.input.now.lattice.good, c.loop.invariant.2, c.loop-test.true)

pub loop-init : goal.loop-init
loop-init c =
    let d = c.default.ensures in
    let f = c.first-site.ensures in
    let w = walking-clear (given_of c.args.input.now) (extents_in c.args.input.now) c.requires c.args.generator c.default.result d.0 d.1.0 d.1.1 in
    (search rules, f.lattice_is, f.index_is, rw f.index_is w)

pub visit_site-pass-requires-clause-site_ready : goal.visit_site-pass-requires-clause-site_ready
visit_site-pass-requires-clause-site_ready c =
    (_, Observe, site-at (given_of c.args.input.now) (extents_in c.args.input.now) c.requires c.loop.invariant.3 (inner (goal.at.visit_site-pass-requires-clause-site_ready c).In-loop) Observe)

pub loop-preserved : goal.loop-preserved
loop-preserved c =
    let i = c.loop.invariant in
    let n = c.next-site.ensures in
    let w = walking_on (given_of c.args.input.now) (extents_in c.args.input.now) c.requires i.3 (inner (goal.at.loop-preserved c).In-loop) _ c.visit_site-pass.ensures.sized c.visit_site-pass.ensures.done in
    (search rules, search rules, search rules, rw n.index_is w)

pub returns-clause-done : goal.returns-clause-done
returns-clause-done c =
    walked (given_of c.args.input.now) (extents_in c.args.input.now) c.requires c.loop.invariant.3 (omega (arith, sites-of _ c.args.input.now.lattice.good, c.loop.invariant.2, c.loop-test.false))
