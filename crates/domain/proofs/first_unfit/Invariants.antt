-- The invariant: the answer is that from this place on.
use Rattle.std.proofs.Common.{◌≡◌}
use Rattle.domain.specs.Refusals.{need_each}
use Rattle.domain.specs.Each.{each_from}
use Rattle.domain.proofs.first_unfit.Given as goal

abbrev pub invariant-loop-place : goal.invariant-loop-place
invariant-loop-place g l = need_each g.J.Judged.fits g.J.Judged.refusal 0 l.row ≡ each_from g.J.Judged.fits g.J.Judged.refusal l.row l.place
