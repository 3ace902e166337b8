-- `bonds::Classes::find` meets its contract. By where the weight stands.
use Rattle.std.proofs.Common.{sym, ◌∙◌}
use Rattle.bonds.proofs.Laws.{lookup-found, lookup-missed}
use Rattle.bonds.proofs.Classes.find.Goals as goal

pub returns-in_err-i : goal.returns-in_err-i
returns-in_err-i c =
    let x = c.args in
    c.from_residual.ensures ∙ sym (lookup-missed x.weight x.self.weights.now x.self.thresholds.now (sym c.place_of.ensures ∙ c.in_err-i.was))

pub returns : goal.returns
returns c =
    let x = c.args in
    sym (lookup-found x.weight x.self.weights.now x.self.thresholds.now x.self.same_length c.in_ok-i.i (sym c.place_of.ensures ∙ c.in_ok-i.was))
