use Rattle.std.proofs.Common.{◌<◌, ◌*◌, ◌+◌, ◌≡◌, arith, length, rules}
use Rattle.lattice.specs.Lattice.{fwd}
use Rattle.lattice.proofs.Laws.Neighbours.{domain}
use Rattle.lattice.proofs.Laws.Shape.{axes-of, axes-le, sites-of}
use Rattle.clusters.specs.Inside.Run.{plane_of}
use Rattle.clusters.specs.Inside.Read.{given_of, extents_in, lists_of}
use Rattle.clusters.proofs.Laws.Asked.{few-bonds}
use Rattle.clusters.proofs.Laws.Loops.{visitable, going_on, bond-below, gone}
use Rattle.clusters.proofs.fk.Lists.visit_site.Goals as goal
use Rattle.clusters.proofs.fk.Lists.visit_site.Goals.{After-ahead-to, In-loop-axis}

inner : (c : In-loop-axis) → c.loop-axis.axis < length (extents_in c.args.input.now)
inner c = omega (arith, axes-of _ c.args.input.now.lattice.good, c.loop-axis-test.true)

below : (c : In-loop-axis) → c.args.site.now.index * c.args.input.now.lattice.shape.axes + c.loop-axis.axis < length c.args.input.now.tile.couplings.now
below c =
    bond-below (given_of c.args.input.now) (extents_in c.args.input.now) (lists_of c.args.self.now) (plane_of (extents_in c.args.input.now)) c.args.pass c.args.site.now.index
    c.requires.site_ready _ c.loop-axis.axis (axes-of _ c.args.input.now.lattice.good) c.loop-axis-test.true

-- the neighbour that was found
found : (c : After-ahead-to) → c.ahead-to.result ≡ fwd (extents_in c.args.input.now) c.args.site.now.index c.loop-axis.axis
found c = search rules

pub place-requires-clause-index_lt_sites : goal.place-requires-clause-index_lt_sites
place-requires-clause-index_lt_sites c = rw c.requires.lattice_is (omega (arith, sites-of _ c.args.input.now.lattice.good, c.requires.site_ready.2.inside))

pub place-requires-clause-axis_lt_4 : goal.place-requires-clause-axis_lt_4
place-requires-clause-axis_lt_4 c = omega (arith, axes-le _ c.args.input.now.lattice.good, c.loop-axis-test.true)

pub overflow_mul-index : goal.overflow_mul-index
overflow_mul-index c = let f = c.args.input.now.fit in let d = domain _ f.domain in omega (arith, below (goal.at.overflow_mul-index c).In-loop-axis, f.couplings-n, few-bonds d.few d.four)

pub overflow_add-index : goal.overflow_add-index
overflow_add-index c = let f = c.args.input.now.fit in let d = domain _ f.domain in omega (arith, below (goal.at.overflow_add-index c).In-loop-axis, f.couplings-n, few-bonds d.few d.four)

pub visit-pass-requires : goal.visit-pass-requires
visit-pass-requires c =
    visitable (given_of c.args.input.now) (extents_in c.args.input.now) _ (plane_of (extents_in c.args.input.now)) _ c.args.site.now.index c.loop-axis.invariant.1
    (inner (goal.at.visit-pass-requires c).In-loop-axis) _ (found (goal.at.visit-pass-requires c).After-ahead-to) _ (axes-of _ c.args.input.now.lattice.good)
    c.requires.site_ready

pub loop-axis-preserved : goal.loop-axis-preserved
loop-axis-preserved c = (
  search rules,
  going_on (given_of c.args.input.now) (extents_in c.args.input.now) _ (plane_of (extents_in c.args.input.now)) _ c.args.site.now.index c.loop-axis.invariant.1
      (inner (goal.at.loop-axis-preserved c).In-loop-axis) _ (found (goal.at.loop-axis-preserved c).After-ahead-to) _ (axes-of _ c.args.input.now.lattice.good) _
      c.visit-pass.ensures.sized c.visit-pass.ensures.visited,
)

pub returns-clause-done : goal.returns-clause-done
returns-clause-done c =
    gone (given_of c.args.input.now) (extents_in c.args.input.now) _ (plane_of (extents_in c.args.input.now)) _ c.args.site.now.index c.loop-axis.invariant.1
    (omega (arith, axes-of _ c.args.input.now.lattice.good, c.loop-axis-test.false))
