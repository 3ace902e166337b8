-- `clusters::winding::Winding::way` meets its contract: two lookups, and the way around on each axis.
use Rattle.std.proofs.Common.{◌∙◌, subst, sym}
use Rattle.clusters.specs.Inside.Sway.{bond_of, around_of, Near}
use Rattle.clusters.proofs.Laws.Sway.{near-found, way-is}
use Rattle.clusters.proofs.winding.Winding.way.Goals as goal

pub around-requires : goal.around-requires
around-requires c =
    let k = c.requires.held.0 in
    let h = c.requires.held.1 in (
      subst Near (sym (c.find-f.ensures k h)) (near-found k h _ c.requires.x),
      subst Near (sym (c.find-g.ensures k h)) (near-found k h _ c.requires.y),
    )

pub returns : goal.returns
returns c k h =
    c.around.ensures ∙ (λ i. around_of (c.find-f.ensures k h i) (c.find-g.ensures k h i) c.args.bond.axis) ∙ way-is k (bond_of c.args.bond)
