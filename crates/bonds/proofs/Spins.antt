-- Each of a list of spins is a spin, and what a load of it gives is the spin.
use mathlib.Core.Path.{◌≡◌, refl}
use mathlib.Core.List.{List, [], ◌∷◌}
use Prim.Native.Nat.{ℕ, zero, suc, ◌<◌}
use native.Mathlib.Nat.{le_of_suc-le-suc, not-suc-le-zero}
use lib.Dec.{T}
use lib.IntN.{ℤ, pos}
use lib.ListN.{length, get_or}
use lib.Ieee.Fits.{and_l, and_r}
use mir.Syntax.{w8}
use mir.Val.{to_z, of_z}
use Rattle.domain.specs.Numbers.{is_spin}
use Rattle.bonds.proofs.Signs.{at-spin}
use Rattle.bonds.specs.Visit.{all_spins}

pub spin-at : (l : List ℤ) (i : ℕ) → T (all_spins l) → i < length l → T (is_spin (get_or l i (pos 0)))
spin-at [] i t h = absurd (not-suc-le-zero h)
spin-at (s ∷ ss) zero t h = and_l (is_spin s) (all_spins ss) t
spin-at (s ∷ ss) (suc i) t h = spin-at ss i (and_r (is_spin s) (all_spins ss) t) (le_of_suc-le-suc h)

pub loaded : (z : ℤ) → T (is_spin z) → to_z w8 (of_z w8 z) ≡ z
loaded z t = at-spin (λ (x : ℤ). to_z w8 (of_z w8 x) ≡ x) refl refl z t
