-- W1: the first outputs and draws from the state (1, 2, 3, 4), by computation.
use Rattle.std.specs.Prelude.{◌≡◌, ℕ, zero, suc, List, [], ◌∷◌, refl}
use Rattle.generator.specs.declared.Xoshiro256StarStar.{Xoshiro256StarStar}
use Rattle.generator.specs.Xoshiro.{output, step, draw_of}

-- what f says of a state and of the n - 1 states after it
abbrev pub run : (Xoshiro256StarStar → ℕ) → ℕ → Xoshiro256StarStar → List ℕ
run f zero g = []
run f (suc n) g = f g ∷ run f n (step g)

abbrev pub seed : Xoshiro256StarStar
seed = record { s0 = 1; s1 = 2; s2 = 3; s3 = 4 }

pub outputs : run output 3 seed ≡ 11520 ∷ 0 ∷ 1509978240 ∷ []
outputs = refl

pub draws : run draw_of 3 seed ≡ 2880 ∷ 0 ∷ 377494560 ∷ []
draws = refl
