-- The active bonds that step 1 draws: which they are, how many, and how they grow with the thresholds.
use Rattle.std.specs.Prelude.{◌≡◌, refl, ◌⊎◌, Bool, true, false, cond}
use Rattle.std.proofs.Common.{inl, inr}
use mathlib.Core.List.Memᴰ
use mathlib.Core.List.{[], ◌∷◌, Memᴰ}
use Prim.Native.Nat.{ℕ, zero, suc, ◌<◌}
use native.Mathlib.Omega.{arith}
use Rattle.graph.specs.Forest.{Bond}
use Rattle.clusters.specs.Call.{Call}
use Rattle.clusters.specs.Update.{bond_at, drawn, is_active}

one_of : (t : Bool) {a k : Bond} → Memᴰ k (cond t (a ∷ []) []) → (t ≡ true) × (k ≡ a)
one_of true m = (refl, Memᴰ.eq_of_singleton m)
one_of false m = absurd (Memᴰ.not-nil m)

module _ (c : Call) where
  -- each active bond is a bond active by step 1
  pub drawn-sound : (b : ℕ) (k : Bond) → Memᴰ k (drawn c b).active → (j : ℕ) × (j < b) × (is_active c j ≡ true) × (k ≡ bond_at c.extents j)
  unfolding drawn
  drawn-sound zero k m = absurd (Memᴰ.not-nil m)
  drawn-sound (suc b) k m = go (λ m'. drawn-sound b k m') (Memᴰ.append_cases (drawn c b).active m)
    where
      go : (Memᴰ k (drawn c b).active → (j : ℕ) × (j < b) × (is_active c j ≡ true) × (k ≡ bond_at c.extents j))
          → Memᴰ k (drawn c b).active ⊎ Memᴰ k (cond (is_active c b) (bond_at c.extents b ∷ []) [])
          → (j : ℕ) × (j < suc b) × (is_active c j ≡ true) × (k ≡ bond_at c.extents j)
      go rest (inl m') = let r = rest m' in (r.0, omega (arith, r.1), r.2, r.3)
      go rest (inr m') = let r = one_of (is_active c b) m' in (b, omega arith, r.0, r.1)
