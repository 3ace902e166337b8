use Rattle.std.proofs.Common.{refl, sym, true≢false, arith, ◌∙◌, ◌≡◌, length}
use Rattle.lattice.specs.Shape.{extents_of}
use Rattle.clusters.specs.Inside.Sway.{bond_of}
use Rattle.clusters.specs.Inside.Run.{scene, plane_of}
use Rattle.clusters.proofs.Laws.Run.{forest-joined, links-sized, swung-sized, one_size, plane-some, plane-none, plane-pos}
use Rattle.clusters.proofs.fk.Lists.join.Goals as goal
use Rattle.clusters.proofs.fk.Lists.join.Goals.{After-union}

pub bond-requires-clause-bondable : goal.bond-requires-clause-bondable
bond-requires-clause-bondable c =
    let pl = plane_of (extents_of c.args.lattice.now.shape) in
    let k = plane-some pl _ _ c.plane_of.ensures c.in-Some.is in
    let j = c.requires.joinable.2 in
    let t = j.turned k.two in
    let e = one_size c.requires.joinable.0 pl c.requires.joinable.1 j.rep t in
    record {
      held = (scene c.requires.joinable.0 pl c.requires.joinable.1, t.swung);
      x = omega (arith, c.requires.inside.0);
      y = omega (arith, c.requires.inside.1);
    }

pub bond-requires-clause-extents_positive : goal.bond-requires-clause-extents_positive
bond-requires-clause-extents_positive c =
    let k = plane-some (plane_of (extents_of c.args.lattice.now.shape)) _ _ c.plane_of.ensures c.in-Some.is in
    let p = plane-pos _ c.args.lattice.now.good.within in
    (omega (arith, p.0, k.ex), omega (arith, p.1, k.ey))

pub returns-in_default-clause-joined : goal.returns-in_default-clause-joined
returns-in_default-clause-joined c n bs j =
    let f = plane-none (plane_of (extents_of c.args.lattice.now.shape)) c.plane_of.ensures c.in_default.is in
    record { rep = forest-joined n bs (bond_of c.args.bond) c.args.self.now.links.now c.union.new.self j.rep c.union.ensures.joined; turned = λ t. absurd (true≢false (sym t ∙ f)) }

pub returns-clause-joined : goal.returns-clause-joined
returns-clause-joined c n bs j =
    let pl = plane_of (extents_of c.args.lattice.now.shape) in
    let k = plane-some pl _ _ c.plane_of.ensures c.in-Some.is in
    record {
      rep = forest-joined n bs (bond_of c.args.bond) c.args.self.now.links.now c.union.new.self j.rep c.union.ensures.joined;
      turned = λ t.
          let u = j.turned t in
          let w = c.bond.ensures.bonded (scene n pl bs) u.swung k.ex k.ey u.flags in
          record { swung = w.swung; flags = w.answer };
    }

-- the links are as long as they were
linked : (c : After-union) → (length c.union.new.self.parent.now ≡ length c.args.self.now.links.now.parent.now) × (length c.union.new.self.rank.now ≡ length c.args.self.now.links.now.rank.now)
linked c = links-sized c.args.self.now.links.now c.union.new.self c.args.bond.x c.args.bond.y (_, c.requires.joinable.2.rep) c.union.ensures.joined

pub returns-in_default-clause-sized : goal.returns-in_default-clause-sized
returns-in_default-clause-sized c =
    let z = linked (goal.at.returns-in_default-clause-sized c).After-union in
    record { roots = z.0; decisions = z.1; parents = refl; ranks = refl; offsets = refl }

pub returns-clause-sized : goal.returns-clause-sized
returns-clause-sized c =
    let z = linked (goal.at.returns-clause-sized c).After-union in
    let pl = plane_of (extents_of c.args.lattice.now.shape) in
    let k = plane-some pl _ _ c.plane_of.ensures c.in-Some.is in
    let s = scene c.requires.joinable.0 pl c.requires.joinable.1 in
    let t = c.requires.joinable.2.turned k.two in
    swung-sized s (bond_of c.args.bond) z.0 z.1 t.swung (c.bond.ensures.bonded s t.swung k.ex k.ey t.flags).swung
