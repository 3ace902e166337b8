-- A nonzero coupling that is not below zero is its own magnitude; and what the tests of a coupling say together.
use mathlib.Core.Path.{◌≡◌, refl, sym, ap, ◌∙◌}
use mathlib.Core.Bool.{true, false, ◌&&◌, ◌||◌, true≢false}
use Prim.Native.Nat.{ℕ, zero, suc, ◌+◌, ◌*◌}
use native.Mathlib.Nat.{zero-mul, add-zero, zero-lt-suc}
use borrow.Author.Tests.{lt-ltb}
use lib.Dec.{ltb, eqb}
use lib.Ieee.{Float, nan, inf, fin, up, down, lt, eq}
use lib.Ieee.Scale.{finite}
use Rattle.domain.specs.Numbers.{zero_f}
use Rattle.bonds.specs.Bond.{magnitude}

-- a size that is not above zero is zero
no_size : (a z : ℕ) → z ≡ 0 → ltb 0 (a + z) ≡ false → (eqb a z && (false || eqb a 0)) ≡ false → ⊥
no_size zero z p g h = true≢false (rw p at h)
no_size (suc a) z p g h = true≢false (sym (lt-ltb 0 (suc a) (zero-lt-suc a)) ∙ ap (ltb 0) (sym (add-zero (suc a)) ∙ ap (λ (x : ℕ). suc a + x) (sym p)) ∙ g)

pub not-below : (j : Float) → eq j zero_f ≡ false → lt j zero_f ≡ false → j ≡ magnitude j
unfolding eq lt
not-below nan h g = refl
not-below (inf true) h g = absurd (true≢false g)
not-below (inf false) h g = refl
not-below (fin true m e) h g = absurd (no_size (m * up e * 1) (0 * down e) (zero-mul (down e)) g h)
not-below (fin false m e) h g = refl

-- ---- finite, by a comparison with each infinity
pub above-bottom : (x : Float) → lt (inf true) x ≡ true → lt x (inf false) ≡ finite x
unfolding lt
above-bottom nan e = refl
above-bottom (inf true) e = sym e
above-bottom (inf false) e = refl
above-bottom (fin s m d) e = refl

pub not-above-bottom : (x : Float) → lt (inf true) x ≡ false → false ≡ finite x
unfolding lt
not-above-bottom nan e = refl
not-above-bottom (inf s) e = refl
not-above-bottom (fin s m d) e = sym e
