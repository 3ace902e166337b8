-- The invariant: the flag is that of the entries before this one.
use Rattle.std.proofs.Common.{◌≡◌, take}
use Rattle.std.specs.List.{list_all}
use Rattle.domain.proofs.all_fit.Given as goal

abbrev pub invariant-loop-entry : goal.invariant-loop-entry
invariant-loop-entry g l = l.ok ≡ list_all g.J.Judged.fits (take l.entry-index l.row)
