-- `clusters::winding::Found::around` meets its contract.
use Rattle.std.proofs.Common.{◌≡◌, ℕ, ℤ, arith}
use Rattle.std.proofs.lemmas.Bool.Decides.{nat_tests}
use Rattle.std.proofs.lemmas.Int.{ints}
use Rattle.clusters.specs.declared.winding.Way.{Way}
use Rattle.clusters.proofs.winding.Found.around.Goals as goal

same_way : (a b : ℕ) {x x' y y' : ℤ} → x ≡ x' → y ≡ y' → ◌≡◌ {A = Way} (record { a = a; b = b; around = (x, y) }) (record { a = a; b = b; around = (x', y') })
same_way a b p q = λ i. record { a = a; b = b; around = (p i, q i) }

pub returns : goal.returns
returns c = same_way _ _ (grind (arith, ints, nat_tests)) (grind (arith, ints, nat_tests))
