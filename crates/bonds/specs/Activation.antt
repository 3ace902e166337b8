-- Step 1 of an update, for one bond: no draw where it is idle, and one draw, compared with its class's threshold, where it pulls.
use Rattle.std.specs.Prelude.{ℕ, false, List, ltb, Float, Option, Some, None}
use Rattle.generator.specs.declared.Xoshiro256StarStar.{Xoshiro256StarStar}
use Rattle.generator.specs.Xoshiro.{step, draw_of}
use Rattle.bonds.specs.declared.BondState.{BondState}
use Rattle.bonds.specs.declared.BondState.TheVariants.{Idle, Pull}
use Rattle.bonds.specs.declared.Class.{Class}
use Rattle.bonds.specs.Classes.{lookup}
use Rattle.bonds.specs.declared.Activation.{Activation}

-- a weight in no class, which refusal 6 rules out, has the threshold 0
abbrev pub threshold_of : Option Class → ℕ
threshold_of (Some c) = c.threshold
threshold_of None = 0

abbrev pub activation_of : BondState → List Float → List ℕ → Xoshiro256StarStar → Activation
activation_of Idle ws ts g = record { active = false; state = g }
activation_of (Pull w) ws ts g = record { active = ltb (draw_of g) (threshold_of (lookup w ws ts)); state = step g }
