use Rattle.std.proofs.Common.{◌≡◌}
use Rattle.clusters.specs.Inside.Read.{extents_in, given_of, lists_of, SameLent}
use Rattle.clusters.proofs.Laws.Loops.{Walking}
use Rattle.clusters.proofs.fk.Lists.visit_all.Given as goal

abbrev pub invariant-loop : goal.invariant-loop
invariant-loop l =
    SameLent l.initial.self l.self
    × (l.site.lattice.now ≡ l.input.lattice)
    × (l.site.index ≡ l.counter)
    × Walking (given_of l.input) (extents_in l.input) (lists_of l.initial.self) l.initial.pass
    (lists_of l.self) l.pass l.site.index
