-- What fits a signed number of the machine, and what comes back of one that was put into a local.
use Rattle.std.specs.Prelude.{◌≡◌, ℕ, ◌<◌, ◌≤◌, ◌^◌, ℤ, pos, negsuc, nat_abs}
use Rattle.std.proofs.Common.{◌∙◌, le_refl, le_trans, lt_of_le_of_lt, arith}
use Rattle.std.specs.Int.Signed.{mag}
use Rattle.std.specs.Int.{Width, w64}
use mir.Val.{SFits, hbits, to_z, of_z}
use Rattle.std.proofs.lemmas.Int.{to_z-of_z}

mag-le : (z : ℤ) → mag z ≤ nat_abs z
mag-le (pos n) = le_refl n
mag-le (negsuc n) = omega arith

-- what is at most b away from 0 fits
pub near_fits : (z : ℤ) (b : ℕ) → nat_abs z ≤ b → b < 2 ^ 63 → SFits w64 z
near_fits z b h l = record { sfits = lt_of_le_of_lt (le_trans (mag-le z) h) l }

-- what a call f gave, where it is handed on: `told_at w c.f.ensures c.f.ok`
pub told_at : (w : Width) {z z' : ℤ} → z ≡ z' → mag z < 2 ^ hbits w → to_z w (of_z w z) ≡ z'
told_at w {z} e h = to_z-of_z w z (record { sfits = h }) ∙ e

-- the same of 64 bits
pub told : {z z' : ℤ} → z ≡ z' → mag z < 2 ^ 63 → to_z w64 (of_z w64 z) ≡ z'
told e h = told_at w64 e h

pub read_back : (z : ℤ) → mag z < 2 ^ 63 → to_z w64 (of_z w64 z) ≡ z
read_back z h = to_z-of_z w64 z (record { sfits = h })
