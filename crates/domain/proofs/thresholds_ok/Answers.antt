-- `domain::thresholds_ok` meets its contract: the definition is the test of all thresholds.
use Rattle.std.proofs.Common.{◌≡◌, ◌∙◌, refl, ap, List, [], ◌∷◌, ◌&&◌, ℕ, rules, tests}
use Rattle.std.specs.Prelude.{leb}
use Rattle.std.specs.List.{list_all}
use Rattle.std.proofs.lemmas.Iterator.{YieldsList-from_slice}
use Rattle.std.proofs.lemmas.Iterator.Search.{all_from_yields_List}
use Rattle.domain.specs.Numbers.{always, thresholds_ok}
use Rattle.domain.proofs.thresholds_ok.Goals as goal

all-low : (ts : List ℕ) → list_all (λ t. leb t always) ts ≡ thresholds_ok ts
all-low [] = refl
all-low (t ∷ ts) = ap (λ b. leb t always && b) (all-low ts)

pub returns : goal.returns
returns c =
    all_from_yields_List (λ t. leb t always) _ _ _ c.all.ensures.ran (YieldsList-from_slice c.args.thresholds.now cc) (λ x b q k. search (rules, tests))
    ∙ all-low c.args.thresholds.now
