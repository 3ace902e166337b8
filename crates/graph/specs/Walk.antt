-- A walk over active bonds, with its sum along an axis.
use mathlib.Core.List.{List, Memᴰ}
use Rattle.std.specs.Prelude.{◌≡◌, ℕ, ◌<◌, ℤ, pos, ◌+ℤ◌, ◌-ℤ◌, ◌*ℤ◌}
use Rattle.graph.specs.Forest.{Bond}

-- `Walk step bonds a b z`: a walk from a to b over the bonds, each taken forward or backward, whose steps sum to z
pub data Walk (step : Bond → ℤ) (bonds : List Bond) (a : ℕ) : ℕ → ℤ → Type 0 where
  stay : Walk step bonds a a (pos 0)
  ahead : {z : ℤ} (c : Bond) → Memᴰ c bonds → Walk step bonds a c.x z → Walk step bonds a c.y (z +ℤ step c)
  back : {z : ℤ} (c : Bond) → Memᴰ c bonds → Walk step bonds a c.y z → Walk step bonds a c.x (z -ℤ step c)

-- both ends of each bond are among the n sites
abbrev pub Within : ℕ → List Bond → Type 0
Within n bonds = (c : Bond) → Memᴰ c bonds → (c.x < n) × (c.y < n)

-- every bond of one list is in the other
abbrev pub Among : List Bond → List Bond → Type 0
Among ls bs = (c : Bond) → Memᴰ c ls → Memᴰ c bs

-- z is e taken a whole number of times
abbrev pub Multiple : ℕ → ℤ → Type 0
Multiple e z = (k : ℤ) × (z ≡ k *ℤ pos e)
