use Rattle.std.proofs.Common.{arith, ◌∙◌, sym, Some, eq-eqb, ne_eqb}
use Rattle.lattice.proofs.Laws.Shape.{extent-of, axes-of}
use Rattle.clusters.proofs.fk.plane_of.Goals as goal

pub returns-then-lattice-eq2 : goal.returns-then-lattice-eq2
returns-then-lattice-eq2 c =
    let g = c.args.lattice.now.good in
    let x = extent-of _ g 0 (omega arith) in
    let y = extent-of _ g 1 (omega arith) in
    let n = sym (axes-of _ g) ∙ c.if-lattice-eq2.true in
    rw (eq-eqb _ _ n) (λ i. Some (x i, y i))

pub returns-else-lattice-eq2 : goal.returns-else-lattice-eq2
returns-else-lattice-eq2 c =
    rw (ne_eqb _ 2 (λ e. c.if-lattice-eq2.false (axes-of _ c.args.lattice.now.good ∙ e)))
