-- The coins so far, and a spin after them.
use Rattle.std.specs.Prelude.{cond, List, ℕ, eqb, get_or, ℤ, neg_ℤ}
use Rattle.generator.specs.declared.Xoshiro256StarStar.{Xoshiro256StarStar}
use Rattle.clusters.specs.Update.{Coins}

abbrev pub coins_of : List ℕ → Xoshiro256StarStar → Coins
coins_of ds g = record { decisions = ds; generator = g }

-- a spin whose component has the root r
abbrev pub turned_at : List ℕ → ℕ → ℤ → ℤ
turned_at ds r s = cond (eqb (get_or ds r 0) 1) (neg_ℤ s) s
