-- `lattice::shape_of` meets its contract. No product wraps, since each factor is at most 4,096.
use Rattle.std.proofs.Common.{ℕ, ◌≤◌, ◌*◌, ◌≡◌, arith, mul-le-mul}
use Rattle.std.proofs.Math.Path.{subst⁻¹}
use Rattle.lattice.specs.Lattice.{extent}
use Rattle.lattice.proofs.Laws.Neighbours.{extent-le}
use Rattle.lattice.proofs.Laws.Shape.{shape-made}
use Rattle.lattice.proofs.shape_of.Goals as goal
use Rattle.lattice.proofs.shape_of.Goals.{After-extent_at-e3}

module _ (c : After-extent_at-e3) where
  le : {e : ℕ} (d : ℕ) → e ≡ extent c.args.extents.now d → e ≤ 4096
  le d h = subst⁻¹ (λ (e : ℕ). e ≤ 4096) h (extent-le _ d c.requires.extents_value)

  bound₁ : c.extent_at-e2.result * c.extent_at-e3.result ≤ 4096 * 4096
  bound₁ = mul-le-mul (le 2 c.extent_at-e2.ensures) (le 3 c.extent_at-e3.ensures)

  bound₀ : c.extent_at-e1.result * (c.extent_at-e2.result * c.extent_at-e3.result) ≤ 4096 * (4096 * 4096)
  bound₀ = mul-le-mul (le 1 c.extent_at-e1.ensures) bound₁

  bound : c.extent_at-e0.result * (c.extent_at-e1.result * (c.extent_at-e2.result * c.extent_at-e3.result)) ≤ 4096 * (4096 * (4096 * 4096))
  bound = mul-le-mul (le 0 c.extent_at-e0.ensures) bound₀

pub overflow_mul-s1 : goal.overflow_mul-s1
overflow_mul-s1 c = omega (arith, bound₁ c)

pub overflow_mul-s0 : goal.overflow_mul-s0
overflow_mul-s0 c = omega (arith, bound₀ c)

pub overflow_mul-result : goal.overflow_mul-result
overflow_mul-result c = omega (arith, bound c)

pub returns : goal.returns
returns c = shape-made _ c.requires.extents_len_bound c.extent_at-e0.ensures c.extent_at-e1.ensures c.extent_at-e2.ensures c.extent_at-e3.ensures
