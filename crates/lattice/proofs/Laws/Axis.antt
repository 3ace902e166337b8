-- A site on one axis with its rest in its block: what the code's steps and tests on the rest mean.
use Rattle.std.specs.Prelude.{ℕ, ◌+◌, ◌*◌, ◌-◌, ◌%◌, ◌^◌, ◌≤◌, ◌<◌, ◌≡◌}
use Rattle.std.proofs.Common.{ap, ◌∙◌, sym, subst, arith, mul-pos, mul-le-mul_right, mod-lt, mod-eq_of_lt}
use Rattle.std.proofs.Math.Decide.{dec_lt}
use Rattle.std.proofs.Math.Nat.{mod-le, mod-add-mod, mod_self}
use Rattle.lattice.specs.Lattice.{ahead, behind}
use Rattle.lattice.specs.Shape.{OnAxis}
use Rattle.lattice.proofs.Laws.Radix as radix

module _ {e s i rest : ℕ} (k : OnAxis e s i rest) where
  pub block-pos : 0 < e * s
  block-pos = mul-pos k.wide k.apart

  pub stride-le : s ≤ e * s
  stride-le =
      let a : 1 * s ≤ e * s = mul-le-mul_right s k.wide in
      omega arith

  pub rest_le : rest ≤ i
  rest_le = omega (arith, k.left, mod-le i (e * s))

  pub rest_lt : rest < e * s
  rest_lt = omega (arith, k.left, mod-lt i block-pos)

  pub step_in : rest + s < e * s → i + s ≡ ahead e s i
  step_in h = sym (radix.ahead_in e s k.wide k.apart i (subst (λ (r : ℕ). r + s < e * s) k.left h))

  pub step-over : e * s ≤ rest + s → i + s - e * s ≡ ahead e s i
  step-over h = sym (radix.ahead-over e s k.wide k.apart i (subst (λ (r : ℕ). e * s ≤ r + s) k.left h))

  pub back_in : s ≤ rest → i - s ≡ behind e s i
  back_in h = sym (radix.behind-in e s k.wide k.apart i (subst (λ (r : ℕ). s ≤ r) k.left h))

  pub back-over : rest < s → i + e * s - s ≡ behind e s i
  back-over h = sym (radix.behind-over e s k.wide k.apart i (subst (λ (r : ℕ). r < s) k.left h))

  next : (i + 1) % (e * s) ≡ (rest + 1) % (e * s)
  next = sym (ap (λ (r : ℕ). (r + 1) % (e * s)) k.left ∙ mod-add-mod i (e * s) 1)

  pub next-in : rest + 1 < e * s → rest + 1 ≡ (i + 1) % (e * s)
  next-in h = sym (next ∙ mod-eq_of_lt h)

  pub next-over : e * s ≤ rest + 1 → 0 ≡ (i + 1) % (e * s)
  next-over h = sym (next ∙ ap (λ (r : ℕ). r % (e * s)) (omega (arith, rest_lt)) ∙ mod_self (e * s))

  -- a neighbour fits a u32
  pub ahead-fits : ahead e s i < 2 ^ 32
  ahead-fits = go (dec_lt (rest + s) (e * s))
    where
      go : Dec (rest + s < e * s) → ahead e s i < 2 ^ 32
      go (yes h) = omega (arith, step_in h, stride-le)
      go (no h) = omega (arith, step-over (omega arith), stride-le)

  pub behind-fits : behind e s i < 2 ^ 32
  behind-fits = go (dec_lt rest s)
    where
      go : Dec (rest < s) → behind e s i < 2 ^ 32
      go (yes h) = omega (arith, back-over h)
      go (no h) = omega (arith, back_in (omega arith))
