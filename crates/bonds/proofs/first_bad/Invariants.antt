-- The invariants: the first bad bond is the first from this site on, and from this direction of it on.
use Rattle.std.proofs.Common.{◌≡◌, ◌+◌, ◌*◌}
use Rattle.domain.specs.declared.Refusal.TheVariants.{Coupling}
use Rattle.domain.specs.Refusals.{need_each}
use Rattle.bonds.proofs.Laws.{fair}
use Rattle.domain.specs.Each.{each_from}
use Rattle.bonds.proofs.first_bad.Given as goal

abbrev pub invariant-loop-d : goal.invariant-loop-d
invariant-loop-d l =
    let ok = fair l.classes.weights.now l.classes.thresholds.now in
    need_each ok Coupling 0 l.couplings ≡ each_from ok Coupling l.couplings (l.site * l.axes + l.d)

abbrev pub invariant-loop-site : goal.invariant-loop-site
invariant-loop-site l =
    let ok = fair l.classes.weights.now l.classes.thresholds.now in
    need_each ok Coupling 0 l.couplings ≡ each_from ok Coupling l.couplings (l.site * l.axes)
