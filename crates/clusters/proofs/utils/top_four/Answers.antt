-- `clusters::utils::top_four` meets its contract: the counts come from the last one back.
use Rattle.std.proofs.Common.{rules, ◌≡◌, ◌∙◌}
use Rattle.std.specs.Iterator.Adapters.{rev_steps}
use Rattle.std.specs.Slice.Iter.{iter_steps_back}
use Rattle.std.proofs.lemmas.Fn.{fold_over}
use Rattle.std.proofs.lemmas.Iterator.Adapters.{YieldsList-from_rev_slice}
use Rattle.clusters.proofs.Laws.Top.{top_of, topped, top-none, top-all}
use Rattle.clusters.proofs.utils.top_four.Goals as goal

pub returns : goal.returns
returns c =
    fold_over (rev_steps iter_steps_back) (λ y. y.now) _ (λ met t. t ≡ top_of met) _ (λ met t x r f' e p. let h = topped met x.now t r e in search rules)
    c.rev.result _ _ _ (YieldsList-from_rev_slice c.args.counts.now (search rules)).runs (search (rules, top-none)) c.fold.ensures.ran
    ∙ top-all c.args.counts.now
