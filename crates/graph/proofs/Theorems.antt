-- What is proved of the clusters and of the winding, on one page. The proofs are in Laws.
-- n is the number of sites, and `Within n bonds` says that every bond's two sites are among them. `step` is any measure of a bond along an
-- axis; for the axis d it is `along d`. e is the axis's extent.
use Rattle.std.specs.Prelude.{◌≡◌, ◌↔◌, ◌≢◌, true, false, cond, ℕ, ◌+◌, ◌%◌, ◌^◌, ◌≤◌, ◌<◌, eqb, ℤ, pos, ◌+ℤ◌, nat_abs}
use mathlib.Core.List.{List, Memᴰ}
use Rattle.graph.specs.Forest.{Bond, root_of, rank_of, forest, count, sizes, total, components, largest}
use Rattle.graph.specs.Winding.{offset, along, around, winding}
use Rattle.graph.specs.Walk.{Walk, Within, Among, Multiple}
use Rattle.graph.proofs.Laws.Same as Same
use Rattle.graph.proofs.Laws.Joined as Joined
use Rattle.graph.proofs.Laws.Torn as Torn
use Rattle.graph.proofs.Laws.Bounds as Bounds
use Rattle.graph.proofs.Laws.Sizes as Sizes

-- 1. Two sites have one root just where a walk over active bonds leads from one to the other.
pub joined : (step : Bond → ℤ) (n : ℕ) (bonds : List Bond) → Within n bonds → (a b : ℕ) → a < n → b < n
    → (root_of (forest n bonds) a ≡ root_of (forest n bonds) b) ↔ ((z : ℤ) × Walk step bonds a b z)
joined = Joined.joined

-- 2. An axis's flag is set just where some closed walk over active bonds has a sum other than 0 along that axis.
pub flag : (step : Bond → ℤ) (e n : ℕ) (bonds : List Bond) → Within n bonds
    → ((winding step e n bonds).wraps ≡ true) ↔ ((a : ℕ) × (z : ℤ) × Walk step bonds a a z × (z ≢ pos 0))
flag = Joined.flag

-- While it is clear, a walk's sum is the difference of the offsets of its ends.
pub walk-offset : (step : Bond → ℤ) (e n : ℕ) (bonds : List Bond) → Within n bonds → (winding step e n bonds).wraps ≡ false
    → {a b : ℕ} {z : ℤ} → Walk step bonds a b z → offset (winding step e n bonds) b ≡ offset (winding step e n bonds) a +ℤ z
walk-offset = Joined.walk-offset

-- Every axis's winding has the one forest.
pub one-forest : (step : Bond → ℤ) (e n : ℕ) (bonds : List Bond) → (winding step e n bonds).trees ≡ forest n bonds
one-forest = Same.winding-trees

-- 3. Growth: with more active bonds joined sites stay joined, a set flag stays set, the largest component is no smaller and the
-- components are no more.
module _ (n : ℕ) (few many : List Bond) (among : Among few many) (within : Within n many) where
  pub joined-grows : (a b : ℕ) → a < n → b < n → root_of (forest n few) a ≡ root_of (forest n few) b → root_of (forest n many) a ≡ root_of (forest n many) b
  joined-grows = Joined.joined-grows n few many among within

  pub flag-grows : (step : Bond → ℤ) (e : ℕ) → (winding step e n few).wraps ≡ true → (winding step e n many).wraps ≡ true
  flag-grows = Joined.flag-grows n few many among within

  pub largest-grows : largest n (forest n few) ≤ largest n (forest n many)
  largest-grows = Joined.largest-grows n few many among within

  pub components-fall : components n (forest n many) ≤ components n (forest n few)
  components-fall = Joined.components-fall n few many among within

-- The component sizes sum to the number of sites.
pub sizes-total : (n : ℕ) (bonds : List Bond) → Within n bonds → total (sizes n (forest n bonds)) ≡ n
sizes-total = Joined.sizes-total

-- 4. Where each bond goes by its step in a coordinate, modulo the extent, a closed walk sums to a multiple of the extent, so torn is never set.
pub closed-multiple : (d e : ℕ) (bonds : List Bond) (coord : ℕ → ℕ)
    → ((c : Bond) → Memᴰ c bonds → coord c.y ≡ (coord c.x + cond (eqb c.axis d) 1 0) % e)
    → {a : ℕ} {z : ℤ} → Walk (along d) bonds a a z → Multiple e z
closed-multiple d e bonds coord forward = Torn.closed-multiple (along d) e 0 bonds (λ i. pos (coord i)) (λ c m. Torn.goes-forward d e coord c (forward c m))

pub torn-never : (d e n : ℕ) (bonds : List Bond) (coord : ℕ → ℕ)
    → ((c : Bond) → Memᴰ c bonds → coord c.y ≡ (coord c.x + cond (eqb c.axis d) 1 0) % e)
    → Within n bonds → (winding (along d) e n bonds).torn ≡ false
torn-never d e n bonds coord forward = Torn.torn-never (along d) e n bonds (λ i. pos (coord i)) (λ c m. Torn.goes-forward d e coord c (forward c m))

-- 5. Bounds, for any list of bonds, so after each bond of a longer one. An offset is less than its component is large, the displacement
-- around the next bond is below 2n, and two to a rank is at most the component's size.
pub offset-bound : (d e n : ℕ) (bonds : List Bond) → Within n bonds → (i : ℕ) → i < n
    → nat_abs (offset (winding (along d) e n bonds) i) < count (root_of (forest n bonds) i) (forest n bonds).roots
offset-bound d e n bonds within i h = rw (← Same.winding-trees (along d) e n bonds) (Bounds.offset-bound (along d) e n bonds (Bounds.short-along d) within i h)

pub around-lt : (d e n : ℕ) (bonds : List Bond) → Within n bonds → (c : Bond) → c.x < n → c.y < n
    → nat_abs (around (along d) e (winding (along d) e n bonds) c) < n + n
around-lt d e n bonds within c hx hy = Bounds.around-lt (along d) e n bonds (Bounds.short-along d) within c hx hy

pub rank-bound : (n : ℕ) (bonds : List Bond) → Within n bonds → (i : ℕ) → i < n
    → 2 ^ rank_of (forest n bonds) i ≤ count (root_of (forest n bonds) i) (forest n bonds).roots
rank-bound = Sizes.rank-bound

-- with 2^24 sites a rank is at most 24, and fits a byte
pub rank-le : (n : ℕ) (bonds : List Bond) → Within n bonds → (k : ℕ) → n ≤ 2 ^ k → (i : ℕ) → i < n → rank_of (forest n bonds) i ≤ k
rank-le = Sizes.rank-le
