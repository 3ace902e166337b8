-- `clusters::coins::flip` meets its contract.
use Rattle.std.proofs.Common.{ℕ, arith, ap, set, ◌≡◌, ◌∙◌, length, replicate}
use Rattle.clusters.proofs.Laws.Turns.{flipping-none, flipping-on, next-spin, all-flipped}
use Rattle.clusters.proofs.coins.flip.Goals as goal
use Rattle.clusters.proofs.coins.flip.Goals.{At-loop-i}

-- a coin's place for each root, at each turn
full : (l : At-loop-i) → length l.loop-i.decisions ≡ length l.args.roots.row.now
full l = l.loop-i.invariant.coins-n ∙ l.fill.auto.self ∙ l.requires.decisions_len

pub loop-i-init : goal.loop-i-init
loop-i-init c = flipping-none c.args.roots.row.now c.args.generator c.args.spins.now (c.fill.ensures.after (λ y e. e) ∙ ap (λ (n : ℕ). replicate n 2) c.requires.decisions_len)

pub turn-requires-clause-is_spin : goal.turn-requires-clause-is_spin
turn-requires-clause-is_spin c =
    let h = c.loop-i-test.true in
    let z = c.loop-i.invariant.spins-n in next-spin c.loop-i.invariant (omega (arith, c.requires.roots_len)) c.requires.spins_are

pub loop-i-preserved : goal.loop-i-preserved
loop-i-preserved c =
    let h = c.loop-i-test.true in
    flipping-on c.loop-i.invariant h c.requires.roots_len (rw (full (goal.at.loop-i-preserved c).At-loop-i) (c.args.roots.inside c.loop-i.i h)) c.toss-state.auto.decisions c.toss-state.ensures (ap (set c.loop-i.spins c.loop-i.i) c.turn.ensures)

pub returns : goal.returns
returns c = all-flipped c.loop-i.invariant c.loop-i-test.false c.requires.roots_len
