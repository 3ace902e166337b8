-- `clusters::winding::Winding::union` meets its contract: the way around the bond says whether it closes, else the two roots are joined.
use Rattle.std.proofs.Common.{sym, ap, subst, ◌∙◌}
use Rattle.clusters.specs.declared.winding.Way.{Way}
use Rattle.clusters.specs.Inside.Join.{Wind, wind_of, join}
use Rattle.clusters.specs.Inside.Sway.{bond_of, next, closing, Swung}
use Rattle.clusters.proofs.Laws.Sway.{linkable, closes, joins, closed, joined}
use Rattle.clusters.proofs.winding.Winding.union.Goals as goal

pub returns-then-way-clause-united : goal.returns-then-way-clause-united
returns-then-way-clause-united c k h =
    let e = c.way-way.ensures k h in
    record {
      swung = closed k (bond_of c.args.bond) h c.requires.x c.requires.y (sym (ap (λ (v : Way). v.a) e) ∙ c.if-way.true ∙ ap (λ (v : Way). v.b) e);
      answer = sym (closes c.way-way.result c.if-way.true) ∙ ap closing e;
    }

pub join-requires : goal.join-requires
join-requires c =
    let k = c.requires.held.0 in
    let h = c.requires.held.1 in
    linkable k h (bond_of c.args.bond) c.requires.x c.requires.y _ (c.way-way.ensures k h)

pub returns-clause-united : goal.returns-clause-united
returns-clause-united c k h =
    let m = bond_of c.args.bond in
    let e = c.way-way.ensures k h in
    let n = c.if-way.false in
    record {
      swung = subst (λ (w : Wind). Swung (next k m) w.parents w.ranks w.offsets)
          (sym (c.join.ensures.joined ∙ ap (λ (w : Way). join (wind_of c.args.self.now) w.a w.b w.around.0 w.around.1) e))
          (joined k m h c.requires.x c.requires.y (λ z. n (ap (λ (w : Way). w.a) e ∙ z ∙ sym (ap (λ (w : Way). w.b) e))));
      answer = sym (joins c.way-way.result n) ∙ ap closing e;
    }
