-- Weight classes: what a table of them must be, which class a weight is in, and which coupling is bad.
use Rattle.std.specs.Prelude.{ℕ, Bool, true, false, not, ◌&&◌, ◌||◌, cond, List, [], ◌∷◌, length, eqb, leb, Float, Option, Some, None}
use Rattle.std.specs.Float.Ieee.{lt, eq}
use Rattle.std.specs.Float.Ieee.Scale.{finite}
use Rattle.domain.specs.Numbers.{zero_f, thresholds_ok}
use Rattle.bonds.specs.Bond.{magnitude}
use Rattle.bonds.specs.declared.Class.{Class}

-- weights above `last`, finite and strictly rising
abbrev pub rising : Float → List Float → Bool
rising last [] = true
rising last (x ∷ xs) = lt last x && finite x && rising x xs

-- a table of classes: two lists of one length, at most 64, weights above zero and rising, thresholds at most 2 ^ 62
abbrev pub classes_ok : List Float → List ℕ → Bool
classes_ok ws ts = eqb (length ws) (length ts) && leb (length ws) 64 && rising zero_f ws && thresholds_ok ts

-- the class of the weight w
abbrev pub lookup : Float → List Float → List ℕ → Option Class
lookup w [] ts = None
lookup w (x ∷ xs) [] = None
lookup w (x ∷ xs) (t ∷ ts) = cond (eq x w) (Some (record { weight = x; threshold = t })) (lookup w xs ts)

abbrev pub missing : Option Class → Bool
missing (Some c) = false
missing None = true

-- not finite, or nonzero with a magnitude in no class
abbrev pub bad_coupling : List Float → List ℕ → Float → Bool
bad_coupling ws ts j = not (finite j) || (not (eq j zero_f) && missing (lookup (magnitude j) ws ts))
