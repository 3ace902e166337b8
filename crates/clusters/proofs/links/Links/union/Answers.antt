use Rattle.clusters.proofs.Laws.Forest.{root-links}
use Rattle.clusters.proofs.Laws.Linking.{join_by, join-same}
use Rattle.clusters.proofs.links.Links.union.Goals as goal

pub link-requires-clause-x_in_bounds : goal.link-requires-clause-x_in_bounds
link-requires-clause-x_in_bounds c =
    let v = c.requires.valid in
    let k = c.find-rx.ensures.found v.0 v.1 in
    let m = c.find-ry.ensures.found v.0 k.1.rep in
    root-links c.args.x _ m.1.rep (rw (v.1.links, ← m.1.rep.links) at c.requires.x_in_bounds.0) k.0

pub link-requires-clause-y_in_bounds : goal.link-requires-clause-y_in_bounds
link-requires-clause-y_in_bounds c =
    let v = c.requires.valid in
    let k = c.find-rx.ensures.found v.0 v.1 in
    let m = c.find-ry.ensures.found v.0 k.1.rep in
    root-links c.args.y _ m.1.rep (rw (v.1.links, ← m.1.rep.links) at c.requires.x_in_bounds.1) m.0

pub returns-then-rx-ry-clause-joined : goal.returns-then-rx-ry-clause-joined
returns-then-rx-ry-clause-joined c f r =
    let k = c.find-rx.ensures.found f r in
    let m = c.find-ry.ensures.found f k.1.rep in
    join_by f c.args.x c.args.y k.0 m.0 (c.link.ensures.linked f m.1.rep)

pub returns-else-rx-ry-clause-joined : goal.returns-else-rx-ry-clause-joined
returns-else-rx-ry-clause-joined c f r =
    let k = c.find-rx.ensures.found f r in
    let m = c.find-ry.ensures.found f k.1.rep in
    join-same f c.args.x c.args.y k.0 m.0 c.if-rx-ry.false m.1.rep
