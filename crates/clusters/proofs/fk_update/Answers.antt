-- `fk_update` meets its contract: refused, nothing is written; accepted, its parts are the call.
use Rattle.std.proofs.Common.{ℕ, ◌∙◌, ap, sym, replicate, pos}
use Rattle.std.proofs.lemmas.Result.{err_from_is_err_and}
use Rattle.clusters.specs.Call.{Call, Lent}
use Rattle.clusters.specs.Inside.Whole.{call_by, lent_by}
use Rattle.clusters.proofs.Laws.Whole.{in-domain, ready, room, plane-is, drew, inside-roots, countable, finished, accepts, refuses}
use Rattle.clusters.proofs.fk_update.Goals as goal
use Rattle.clusters.proofs.fk_update.Goals.{After-judge, In_ok-input, After-draw-pass}

-- the call, and what is lent to it
abbrev call : After-judge → Call
call c = let a = c.args in call_by a.job.extents.now a.spins.now a.job.couplings.now a.job.weights.now a.job.thresholds.now a.job.generator a.job.action

abbrev lent : After-judge → Lent
lent c = let a = c.args in lent_by a.roots.now a.counts.now a.decisions.now a.histogram.now a.parents.now a.ranks.now a.offsets.now a.marks.now

pub returns-in_err-input : goal.returns-in_err-input
returns-in_err-input c =
    let p = err_from_is_err_and c.from_residual.result c.from_residual.ensures.1 in
    let j = (goal.at.returns-in_err-input c).After-judge in
    rw (p.1, p.2) (refuses (call j) (lent j) _ (sym c.in_err-input.ensures.verdict))

pub draw-pass-requires : goal.draw-pass-requires
draw-pass-requires c =
    let j = (goal.at.draw-pass-requires c).After-judge in
    room (call j) (lent j) (sym c.in_ok-input.ensures.verdict) c.in_ok-input.ensures.reads

pub invariant_of-roots : goal.invariant_of-roots
invariant_of-roots c =
    let j = (goal.at.invariant_of-roots c).After-judge in
    let e = sym c.in_ok-input.ensures.verdict in
    record { inside = inside-roots (call j) (in-domain (call j) (lent j) e) (drew (call j) (lent j) e c.in_ok-input.ensures.reads c.draw-pass.ensures) }

pub tallies-observation-requires : goal.tallies-observation-requires
tallies-observation-requires c =
    let j = (goal.at.tallies-observation-requires c).After-judge in
    let e = sym c.in_ok-input.ensures.verdict in
    countable (call j) (in-domain (call j) (lent j) e) (drew (call j) (lent j) e c.in_ok-input.ensures.reads c.draw-pass.ensures) (ready (call j) (lent j) e)

pub act-generator-requires-clause-decisions_len : goal.act-generator-requires-clause-decisions_len
act-generator-requires-clause-decisions_len c =
    let j = (goal.at.act-generator-requires-clause-decisions_len c).After-judge in
    let r = ready (call j) (lent j) (sym c.in_ok-input.ensures.verdict) in
    c.draw-pass.auto.decisions ∙ r.decisions-n ∙ sym r.roots-n ∙ sym c.draw-pass.auto.roots

pub act-generator-requires-clause-roots_len : goal.act-generator-requires-clause-roots_len
act-generator-requires-clause-roots_len c =
    let j = (goal.at.act-generator-requires-clause-roots_len c).After-judge in
    let r = ready (call j) (lent j) (sym c.in_ok-input.ensures.verdict) in
    c.draw-pass.auto.roots ∙ r.roots-n ∙ sym r.fit.spins-n

pub returns : goal.returns
returns c =
    let j = (goal.at.returns c).After-judge in
    let e = sym c.in_ok-input.ensures.verdict in
    let r = c.in_ok-input.ensures.reads in
    let t = c.tallies-observation.ensures in
    let z = c.clean.ensures in
    let k = c.draw-pass.auto in
    finished (call j) (in-domain (call j) (lent j) e) (drew (call j) (lent j) e r c.draw-pass.ensures)
    (plane-is (call j) (lent j) e r) t.seen c.act-generator.ensures (lent j) (ready (call j) (lent j) e) t.counted t.risen
    (z.parents ∙ ap (λ (n : ℕ). replicate n 0) k.parents) (z.ranks ∙ ap (λ (n : ℕ). replicate n 0) k.ranks)
    (z.offsets ∙ ap (λ (n : ℕ). replicate n (pos 0)) k.offsets) z.marks
    ∙ accepts (call j) (lent j) e
