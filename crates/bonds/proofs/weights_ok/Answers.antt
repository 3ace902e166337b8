-- `bonds::weights_ok` meets its contract. By the two tests of a weight, where they join.
use Rattle.std.proofs.Common.{sym, ◌∙◌, get_or}
use Rattle.std.specs.Float.{nan}
use Rattle.bonds.proofs.Laws.{finite-is, rising_step}
use Rattle.bonds.proofs.weights_ok.Goals as goal
use Rattle.bonds.proofs.weights_ok.Goals.{then-last-next, else-last-next}

pub returns-then-not-is_finite : goal.returns-then-not-is_finite
returns-then-not-is_finite c =
    let l = c.loop-next in
    let ws = c.args.weights.now in
    let here = l.invariant ∙ rising_step l.last ws l.next-index c.loop-next-test.true in
    let f = finite-is (get_or ws l.next-index nan) in
    elim c.if-last-next.branch [
      | then-last-next w ↦ sym (here ∙ rw (w.if-last-next.true, ← f, ← w.is_finite.ensures.value, ← w.value-is, c.if-not-is_finite.true))
      | else-last-next w ↦ sym (here ∙ rw w.if-last-next.false)
    ]

pub loop-next-preserved : goal.loop-next-preserved
loop-next-preserved c =
    let l = c.loop-next in
    let ws = c.args.weights.now in
    let here = l.invariant ∙ rising_step l.last ws l.next-index c.loop-next-test.true in
    let f = finite-is (get_or ws l.next-index nan) in
    elim c.if-last-next.branch [
      | then-last-next w ↦ here ∙ rw (w.if-last-next.true, ← f, ← w.is_finite.ensures.value, ← w.value-is, c.if-not-is_finite.false)
      | else-last-next w ↦ absurd (cc)
    ]
