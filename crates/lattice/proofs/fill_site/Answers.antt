-- `lattice::fill_site` meets its contract: each turn adds one entry to both tables, until the axes are done.
use Rattle.std.proofs.Common.{arith, ◌≡◌, ◌+◌, ◌*◌, ◌∙◌, min, ap, set, length, add-mul, one-mul}
use Rattle.std.proofs.lemmas.List.{length-set}
use Rattle.lattice.specs.Lattice.{fwd, bwd}
use Rattle.lattice.specs.Shape.{extents_of}
use Rattle.lattice.proofs.Laws.Shape.{axes-le}
use Rattle.lattice.proofs.Filling.{up_more, down_more, as_far}
use Rattle.lattice.proofs.fill_site.Goals as goal
use Rattle.lattice.proofs.fill_site.Goals.{After-loop-axis, then-axis-axes, else-axis-axes}

pub loop-axis-preserved : goal.loop-axis-preserved
loop-axis-preserved c =
    let s = c.args.site.now.lattice.now.shape in
    let site = c.args.site.now.index in
    let axis = c.loop-axis.axis in
    let g = c.args.site.now.lattice.now.good in
    let i = c.loop-axis.invariant in
    elim c.if-axis-axes.branch [
      | then-axis-axes w ↦
          let u : c.if-axis-axes.up ≡ set c.loop-axis.up (site * s.axes + axis) (fwd (extents_of s) site axis) = cc in
          let d : c.if-axis-axes.down ≡ set c.loop-axis.down (site * s.axes + axis) (bwd (extents_of s) site axis) = cc in
          let here : site * s.axes + min axis s.axes ≡ site * s.axes + axis = omega (arith, w.if-axis-axes.true) in
          let next : site * s.axes + (axis + 1) ≡ site * s.axes + min (axis + 1) s.axes = omega (arith, w.if-axis-axes.true) in (
            as_far _ _ next (up_more g c.requires.index_lt_sites w.if-axis-axes.true _ _ i.2 (as_far _ _ here i.0) u),
            as_far _ _ next (down_more g c.requires.index_lt_sites w.if-axis-axes.true _ _ i.3 (as_far _ _ here i.1) d),
            ap length u ∙ simp length-set i.2,
            ap length d ∙ simp length-set i.3,
          )
      | else-axis-axes w ↦
          let same : site * s.axes + min axis s.axes ≡ site * s.axes + min (axis + 1) s.axes = omega (arith, w.if-axis-axes.false) in
          (rw w.up-is (as_far _ _ same i.0), rw w.down-is (as_far _ _ same i.1), ap length w.up-is ∙ i.2, ap length w.down-is ∙ i.3)
    ]

-- no axis is left, as a lattice has four at most
full : (c : After-loop-axis) → c.args.site.now.index * c.args.site.now.lattice.now.shape.axes + min c.loop-axis.axis c.args.site.now.lattice.now.shape.axes
    ≡ (c.args.site.now.index + 1) * c.args.site.now.lattice.now.shape.axes
full c =
    let m = c.args.site.now.lattice.now.shape.axes in
    omega (arith, axes-le _ c.args.site.now.lattice.now.good, c.loop-axis-test.false, add-mul c.args.site.now.index 1 m, one-mul m)

pub returns-clause-up_after : goal.returns-clause-up_after
returns-clause-up_after c = as_far _ _ (full c) c.loop-axis.invariant.0

pub returns-clause-down_after : goal.returns-clause-down_after
returns-clause-down_after c = as_far _ _ (full c) c.loop-axis.invariant.1
