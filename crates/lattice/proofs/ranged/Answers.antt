-- `lattice::ranged` meets its contract: the definition is the test of all extents.
use Rattle.std.proofs.Common.{◌≡◌, ◌∙◌, refl, ap, List, [], ◌∷◌, ◌&&◌, ℕ, rules, tests}
use Rattle.std.specs.Prelude.{leb}
use Rattle.std.specs.List.{list_all}
use Rattle.std.proofs.lemmas.Iterator.{YieldsList-from_slice}
use Rattle.std.proofs.lemmas.Iterator.Search.{all_from_yields_List}
use Rattle.lattice.specs.Lattice.{in_range}
use Rattle.lattice.proofs.ranged.Goals as goal

all-in : (sh : List ℕ) → list_all (λ e. leb 1 e && leb e 4096) sh ≡ in_range sh
unfolding in_range
all-in [] = refl
all-in (e ∷ es) = ap (λ b. leb 1 e && leb e 4096 && b) (all-in es)

pub returns : goal.returns
returns c =
    all_from_yields_List (λ e. leb 1 e && leb e 4096) _ _ _ c.all.ensures.ran (YieldsList-from_slice c.args.extents.now cc) (λ x b q k. search (rules, tests))
    ∙ all-in c.args.extents.now
