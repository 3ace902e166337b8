use Rattle.std.proofs.Common.{arith}
use Rattle.lattice.proofs.Laws.Neighbours.{domain}
use Rattle.clusters.specs.Inside.Run.{call_of}
use Rattle.clusters.specs.Inside.Read.{given_of}
use Rattle.clusters.proofs.Laws.Asked.{few-bonds}
use Rattle.clusters.proofs.Laws.Run.{site-in, to_in, roots-n, few-sites, on-plane, off-plane, active-le, taken, passed}
use Rattle.clusters.proofs.fk.Lists.visit.Goals as goal

pub visit-active-requires-clause-next_in_bounds : goal.visit-active-requires-clause-next_in_bounds
visit-active-requires-clause-next_in_bounds c =
    let v = c.requires.1 in rw v.fit.spins-n (to_in (given_of c.args.input.now) c.requires.0 v)

pub join-marks-requires-clause-inside : goal.join-marks-requires-clause-inside
join-marks-requires-clause-inside c =
    let o = c.requires.0 in
    let v = c.requires.1 in
    let g = given_of c.args.input.now in
    (rw (roots-n g o v) (site-in g o v), rw (roots-n g o v) (to_in g o v), let l = few-sites g o v in let m = roots-n g o v in omega arith)

pub overflow_add-result : goal.overflow_add-result
overflow_add-result c =
    let v = c.requires.1 in
    let l = v.here.active in
    let m = v.below in
    let d = domain _ v.fit.domain in
    omega (arith, active-le (call_of (given_of c.args.input.now) c.requires.0) c.args.index, few-bonds d.few d.four)

pub returns-then-not-active-clause-visited : goal.returns-then-not-active-clause-visited
returns-then-not-active-clause-visited c o v = passed (given_of c.args.input.now) o v c.visit-active.result c.visit-active.ensures c.if-not-active.true

pub returns-clause-visited : goal.returns-clause-visited
returns-clause-visited c o v =
    let g = given_of c.args.input.now in
    taken g o v c.visit-active.result c.visit-active.ensures c.if-not-active.false c.join-marks.result
    (off-plane g o v (c.join-marks.ensures.joined _ _ (on-plane g o v)))
