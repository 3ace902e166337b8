-- `domain::first_unfit` meets its contract.
use Rattle.std.proofs.Common.{◌∙◌, sym, ap, Err}
use Rattle.domain.specs.Each.{each-found, each-passed, each-ended}
use Rattle.domain.proofs.first_unfit.Goals as goal

pub returns-then-not-fits : goal.returns-then-not-fits
returns-then-not-fits g c =
    let e = ap g.J.Judged.fits (sym c.index-row-place.is) ∙ sym c.fits.ensures ∙ c.if-not-fits.true in
    sym (c.loop-place.invariant ∙ each-found g.J.Judged.fits _ _ g.J.Judged.refusal _ c.loop-place-test.true e ∙ ap Err (sym c.refusal.ensures))

pub loop-place-preserved : goal.loop-place-preserved
loop-place-preserved g c =
    let e = ap g.J.Judged.fits (sym c.index-row-place.is) ∙ sym c.fits.ensures ∙ c.if-not-fits.false in
    c.loop-place.invariant ∙ each-passed g.J.Judged.fits _ _ g.J.Judged.refusal _ c.loop-place-test.true e

pub returns : goal.returns
returns g c = sym (c.loop-place.invariant ∙ each-ended g.J.Judged.fits g.J.Judged.refusal _ _ c.loop-place-test.false)
