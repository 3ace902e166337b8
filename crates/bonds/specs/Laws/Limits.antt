-- Threshold 2 ^ 62 is always active and 0 never; an idle bond leaves the generator alone, and a pulling one steps it once.
use Rattle.std.specs.Prelude.{◌≡◌, refl, List, true, false, ℕ, ◌^◌, ltb, Float}
use Rattle.std.proofs.Common.{ap, ◌∙◌, zero-le, lt-ltb, le-ltb}
use Rattle.generator.specs.declared.Xoshiro256StarStar.{Xoshiro256StarStar}
use Rattle.generator.specs.Xoshiro.{step, draw_of}
use Rattle.generator.specs.Laws.{draw-lt}
use Rattle.bonds.specs.declared.BondState.TheVariants.{Idle, Pull}
use Rattle.bonds.specs.Classes.{lookup}
use Rattle.bonds.specs.Activation.{threshold_of, activation_of}

module _ (ws : List Float) (ts : List ℕ) (g : Xoshiro256StarStar) where
  pub always : (w : Float) → threshold_of (lookup w ws ts) ≡ 2 ^ 62 → (activation_of (Pull w) ws ts g).active ≡ true
  always w h = ap (ltb (draw_of g)) h ∙ lt-ltb (draw_of g) (2 ^ 62) (draw-lt g)

  pub never : (w : Float) → threshold_of (lookup w ws ts) ≡ 0 → (activation_of (Pull w) ws ts g).active ≡ false
  never w h = ap (ltb (draw_of g)) h ∙ le-ltb (draw_of g) 0 zero-le

  pub idle-keeps : (activation_of Idle ws ts g).state ≡ g
  idle-keeps = refl

  pub pull-steps : (w : Float) → (activation_of (Pull w) ws ts g).state ≡ step g
  pull-steps w = refl
