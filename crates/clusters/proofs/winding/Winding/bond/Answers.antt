-- `clusters::winding::Winding::bond` meets its contract.
use Rattle.std.proofs.Common.{sym, ◌∙◌}
use Rattle.clusters.specs.Inside.Sway.{bond_of, marks}
use Rattle.clusters.proofs.Laws.Sway.{marks-next}
use Rattle.clusters.proofs.winding.Winding.bond.Goals as goal

pub returns-clause-bonded : goal.returns-clause-bonded
returns-clause-bonded c k h ex ey ef =
    let u = c.union-closing.ensures.united k h in
    record {
      swung = u.swung;
      answer = c.after.ensures ∙ (λ i. marks (ef i) (u.answer i) (sym ex i) (sym ey i)) ∙ marks-next k (bond_of c.args.bond) h c.requires.bondable.x c.requires.bondable.y;
    }
