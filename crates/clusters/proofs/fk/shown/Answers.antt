use Rattle.std.proofs.Common.{sym, ◌∙◌}
use Rattle.lattice.proofs.Laws.Shape.{axes-of}
use Rattle.clusters.proofs.Laws.Steps.{shown-two, shown-other}
use Rattle.clusters.proofs.fk.shown.Goals as goal

pub returns-then-lattice-eq2 : goal.returns-then-lattice-eq2
returns-then-lattice-eq2 c = shown-two _ _ (sym (axes-of _ c.args.lattice.now.good) ∙ c.if-lattice-eq2.true)

pub returns-else-lattice-eq2 : goal.returns-else-lattice-eq2
returns-else-lattice-eq2 c =
    let d = c.default.ensures in
    shown-other _ _ _ (λ e. c.if-lattice-eq2.false (axes-of _ c.args.lattice.now.good ∙ e)) d.0 d.1.0 d.1.1
