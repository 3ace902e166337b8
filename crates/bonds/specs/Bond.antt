-- What a bond is, by the signs of its spins and its coupling.
use Rattle.std.specs.Prelude.{Bool, true, false, cond, ℤ, pos, negsuc, Float}
use Rattle.std.specs.Float.{nan, inf, fin}
use Rattle.std.specs.Float.Ieee.{lt}
use Rattle.domain.specs.Numbers.{zero_f}
use Rattle.bonds.specs.declared.BondState.{BondState}
use Rattle.bonds.specs.declared.BondState.TheVariants.{Idle, Pull}

-- two spins have the same sign
abbrev pub alike : ℤ → ℤ → Bool
alike (pos a) (pos b) = true
alike (pos a) (negsuc b) = false
alike (negsuc a) (pos b) = false
alike (negsuc a) (negsuc b) = true

-- a coupling without its sign
abbrev pub magnitude : Float → Float
magnitude nan = nan
magnitude (inf s) = inf false
magnitude (fin s m e) = fin false m e

-- like spins are pulled by a coupling above zero, unlike spins by one below zero
abbrev pub pulls : ℤ → ℤ → Float → Bool
pulls a b j = cond (alike a b) (lt zero_f j) (lt j zero_f)

-- a pulling bond has the coupling's magnitude for its weight
abbrev pub bond_of : ℤ → ℤ → Float → BondState
bond_of a b j = cond (pulls a b j) (Pull (magnitude j)) Idle
