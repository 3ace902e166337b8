-- `clusters::fk::tallies` meets its contract, each tally by its function's contract over the counts at the roots.
use Rattle.std.proofs.Common.{ℕ, List, length, ap, ◌∙◌}
use Rattle.lattice.specs.Shape.{extents_of}
use Rattle.graph.specs.Forest.{filled}
use Rattle.clusters.specs.Sizes.{four_of, descending, at_least, twentieth}
use Rattle.clusters.specs.Inside.Bare.{sizes_of}
use Rattle.clusters.specs.Inside.Run.{plane_of}
use Rattle.clusters.proofs.Laws.Steps.{counted, same-observation}
use Rattle.clusters.proofs.fk.tallies.Goals as goal

pub histogram-requires-clause-counts_in_bounds : goal.histogram-requires-clause-counts_in_bounds
histogram-requires-clause-counts_in_bounds c = (counted c.requires _ c.count_roots.ensures).inside

pub returns-clause-seen : goal.returns-clause-seen
returns-clause-seen c =
    let e = c.count_roots.ensures in
    same-observation (sizes_of c.args.roots.row.now) (plane_of (extents_of c.args.lattice.now.shape)) c.args.pass
    (c.components_of.ensures ∙ ap filled e)
    (c.top_four.ensures ∙ ap (λ (q : List ℕ). four_of (descending q)) e)
    (c.large_of.ensures ∙ ap (λ (q : List ℕ). at_least (twentieth (length q)) q) e)
    c.shown-marks.ensures
