-- xoshiro256** as Blackman and Vigna publish it, over natural numbers.
use Rattle.std.specs.Prelude.{ℕ, ◌-◌, ◌*◌, ◌/◌, ◌%◌, ◌^◌, Bool, ◌&&◌, ◌==◌, bit_or, bit_xor, List, ◌∷◌, ◌++◌}
use Rattle.std.specs.Fmt.{decimal}
use Rattle.generator.specs.declared.Xoshiro256StarStar.{Xoshiro256StarStar}

-- the lowest 64 bits of a number
abbrev pub word : ℕ → ℕ
word x = x % 2 ^ 64

-- x rotated left by k of its 64 bits: (x << k) | (x >> (64 - k))
abbrev pub rotl : ℕ → ℕ → ℕ
rotl k x = bit_or (word (x * 2 ^ k)) (x / 2 ^ (64 - k))

-- the output of a state: rotl(s1 * 5, 7) * 9
abbrev pub output : Xoshiro256StarStar → ℕ
output g = word (rotl 7 (word (g.s1 * 5)) * 9)

-- the state after: t = s1 << 17; s2 ^= s0; s3 ^= s1; s1 ^= s2; s0 ^= s3; s2 ^= t; s3 = rotl(s3, 45)
abbrev pub step : Xoshiro256StarStar → Xoshiro256StarStar
step g =
    let t = word (g.s1 * 2 ^ 17) in
    let s2 = bit_xor g.s2 g.s0 in
    let s3 = bit_xor g.s3 g.s1 in
    record { s0 = bit_xor g.s0 s3; s1 = bit_xor g.s1 s2; s2 = bit_xor s2 t; s3 = rotl 45 s3 }

-- a draw is an output divided by 4
abbrev pub draw_of : Xoshiro256StarStar → ℕ
draw_of g = output g / 4

-- a coin is heads when its output's top bit is 0
abbrev pub heads_of : Xoshiro256StarStar → Bool
heads_of g = output g / 2 ^ 63 == 0

-- all four words are zero
abbrev pub dead : Xoshiro256StarStar → Bool
dead g = g.s0 == 0 && g.s1 == 0 && g.s2 == 0 && g.s3 == 0

-- the four words in decimal, with a space between
abbrev pub shown : Xoshiro256StarStar → List ℕ
shown g = decimal g.s0 ++ (32 ∷ decimal g.s1 ++ (32 ∷ decimal g.s2 ++ (32 ∷ decimal g.s3)))
