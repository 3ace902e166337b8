-- `domain::judge_each` meets its contract: where the flag stands, no entry is refused.
use Rattle.std.proofs.Common.{sym, ◌∙◌}
use Rattle.domain.specs.Each.{all-accept}
use Rattle.domain.proofs.judge_each.Goals as goal

pub returns-then-all_fit : goal.returns-then-all_fit
returns-then-all_fit g c = sym (all-accept g.J.Judged.fits g.J.Judged.refusal 0 c.args.row.now (sym c.all_fit.ensures ∙ c.if-all_fit.true))
