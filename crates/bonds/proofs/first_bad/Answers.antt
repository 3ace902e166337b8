-- `bonds::first_bad` meets its contract.
use Rattle.std.proofs.Common.{◌≡◌, sym, ap, ◌∙◌, ◌+◌, ◌*◌, ◌<◌, not, length, ℕ, add_assoc, le_of_eq, arith}
use Rattle.std.proofs.Math.Arith.{digits_lt}
use Rattle.std.specs.Float.{nan}
use Rattle.domain.specs.declared.Refusal.TheVariants.{Coupling}
use Rattle.domain.specs.Each.{each_from, each-found, each-passed, each-ended}
use Rattle.bonds.proofs.Laws.{fair}
use Rattle.bonds.proofs.first_bad.Goals as goal
use Rattle.bonds.proofs.first_bad.Goals.{In-loop-d}

-- where the inner loop stands, the bond is in range
in-range : (c : In-loop-d) → c.loop-site.site * c.args.axes + c.loop-d.d < length c.args.couplings.now
in-range c = rw c.requires (digits_lt c.loop-site-test.true c.loop-d-test.true)

pub loop-d-preserved : goal.loop-d-preserved
loop-d-preserved c =
    let x = c.args in
    let ok = fair x.classes.weights.now x.classes.thresholds.now in
    let k = c.loop-site.site * x.axes + c.loop-d.d in
    c.loop-d.invariant
    ∙ each-passed ok nan x.couplings.now Coupling k (in-range (goal.at.loop-d-preserved c).In-loop-d) (ap not (sym c.is_bad.ensures ∙ c.if-is_bad.false))
    ∙ ap (each_from ok Coupling x.couplings.now) (add_assoc (c.loop-site.site * x.axes) c.loop-d.d 1)

pub returns-then-is_bad : goal.returns-then-is_bad
returns-then-is_bad c =
    let x = c.args in
    let k = c.loop-site.site * x.axes + c.loop-d.d in
    sym
    (c.loop-d.invariant
    ∙ each-found (fair x.classes.weights.now x.classes.thresholds.now) nan x.couplings.now Coupling k (in-range (goal.at.returns-then-is_bad c).In-loop-d) (ap not (sym c.is_bad.ensures ∙ c.if-is_bad.true)))

pub returns-after-loop-site : goal.returns-after-loop-site
returns-after-loop-site c =
    let x = c.args in
    let e : x.sites ≡ c.loop-site.site = omega arith in
    sym
    (c.loop-site.invariant
    ∙ each-ended (fair x.classes.weights.now x.classes.thresholds.now) Coupling x.couplings.now (c.loop-site.site * x.axes)
    (le_of_eq (c.requires ∙ ap (λ (n : ℕ). n * x.axes) e)))
