-- `bonds::Classes::is_bad` meets its contract. Its tests, one after the other.
use Rattle.std.proofs.Common.{◌≡◌, true, false, sym, ◌∙◌, ap}
use Rattle.std.specs.Option.{is_some}
use Rattle.std.specs.Float.Ieee.Scale.{finite}
use Rattle.std.specs.Float.Ieee.{Float, of_bits}
use Rattle.bonds.specs.Classes.{lookup}
use Rattle.bonds.proofs.Laws.{finite-is, size-is, is_zero, by-lookup}
use Rattle.bonds.proofs.Classes.is_bad.Goals as goal

pub returns-then-not-is_finite : goal.returns-then-not-is_finite
returns-then-not-is_finite c =
    let f : finite c.args.coupling ≡ false = sym (finite-is c.args.coupling) ∙ sym c.is_finite.ensures.value ∙ c.if-not-is_finite.true in
    rw (c.if-not-is_finite.true, f)

pub returns-then-coupling : goal.returns-then-coupling
unfolding of_bits
returns-then-coupling c =
    let x = c.args in
    let f : finite x.coupling ≡ true = sym (finite-is x.coupling) ∙ sym c.is_finite.ensures.value ∙ c.if-not-is_finite.false in
    let size = c.abs.ensures.value ∙ size-is x.coupling in
    by-lookup x.self.weights.now x.self.thresholds.now x.coupling f c.if-coupling.true c.is_none.result
    (ap is_some (sym (c.find.ensures ∙ ap (λ (w : Float). lookup w x.self.weights.now x.self.thresholds.now) size)) ∙ c.is_none.ensures)

pub returns-else-coupling : goal.returns-else-coupling
unfolding of_bits
returns-else-coupling c =
    let x = c.args in
    let f : finite x.coupling ≡ true = sym (finite-is x.coupling) ∙ sym c.is_finite.ensures.value ∙ c.if-not-is_finite.false in
    c.if-coupling.false ∙ is_zero x.self.weights.now x.self.thresholds.now x.coupling f c.if-coupling.false
