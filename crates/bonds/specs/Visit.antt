-- One bond of step 1, over the lists.
use Rattle.std.specs.Prelude.{ℕ, Bool, true, ◌&&◌, List, [], ◌∷◌, ℤ, pos, get_or, Float}
use Rattle.std.specs.Float.{nan}
use Rattle.generator.specs.declared.Xoshiro256StarStar.{Xoshiro256StarStar}
use Rattle.domain.specs.Numbers.{is_spin}
use Rattle.bonds.specs.Bond.{bond_of}
use Rattle.bonds.specs.declared.Activation.{Activation}
use Rattle.bonds.specs.Activation.{activation_of}

-- every spin is 1 or -1
abbrev pub all_spins : List ℤ → Bool
all_spins [] = true
all_spins (s ∷ ss) = is_spin s && all_spins ss

-- the bond numbered `bond` from `site` to `next`
abbrev pub visit_of : List ℤ → List Float → List Float → List ℕ → ℕ → ℕ → ℕ → Xoshiro256StarStar → Activation
visit_of spins js ws ts site next bond g = activation_of (bond_of (get_or spins site (pos 0)) (get_or spins next (pos 0)) (get_or js bond nan)) ws ts g
