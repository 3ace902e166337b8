-- Document 01, "Numbers of the domain". (The shape's are the lattice's `in_domain`, the classes' `classes_ok`.)
use Rattle.std.specs.Prelude.{ℕ, ◌^◌, Bool, true, false, ◌&&◌, List, [], ◌∷◌, eqb, leb, ℤ, pos, negsuc, Float}
use Rattle.std.specs.Float.{fin}

-- a spin is 1 or -1
abbrev pub is_spin : ℤ → Bool
is_spin (pos n) = eqb n 1
is_spin (negsuc n) = eqb n 0

-- the f32 values 0, 1 and -1
abbrev pub zero_f : Float
zero_f = fin false 0 (pos 0)

abbrev pub one_f : Float
one_f = fin false 1 (pos 0)

abbrev pub minus_one_f : Float
minus_one_f = fin true 1 (pos 0)

-- thresholds are at most 2^62, the threshold of a bond that is always active
abbrev pub always : ℕ
always = 2 ^ 62

abbrev pub thresholds_ok : List ℕ → Bool
thresholds_ok [] = true
thresholds_ok (t ∷ ts) = leb t always && thresholds_ok ts

-- a histogram's entry, as the call begins
abbrev pub is_entry : ℕ → Bool
is_entry h = leb h (2 ^ 63)
