-- A step keeps 64-bit words, an output is one, and a draw is below 2 ^ 62.
use Rattle.std.specs.Prelude.{ℕ, ◌*◌, ◌/◌, ◌^◌, ◌<◌}
use Rattle.std.proofs.Common.{mod-lt, arith, pow_pos}
use Rattle.std.proofs.lemmas.Nat.{or_lt, xor_lt}
use Rattle.generator.specs.declared.Xoshiro256StarStar.{Xoshiro256StarStar}
use Rattle.generator.specs.Xoshiro.{word, rotl, output, step, draw_of}

pub record Words (g : Xoshiro256StarStar) : Type 0 where
  pub w0 : g.s0 < 2 ^ 64
  pub w1 : g.s1 < 2 ^ 64
  pub w2 : g.s2 < 2 ^ 64
  pub w3 : g.s3 < 2 ^ 64

pub word_lt : (x : ℕ) → word x < 2 ^ 64
word_lt x = mod-lt x (pow_pos 64)

pub rotl-45-lt : (x : ℕ) → x < 2 ^ 64 → rotl 45 x < 2 ^ 64
rotl-45-lt x h = or_lt 64 (word (x * 2 ^ 45)) (x / 2 ^ 19) (word_lt (x * 2 ^ 45)) (omega arith)

pub output-lt : (g : Xoshiro256StarStar) → output g < 2 ^ 64
output-lt g = word_lt (rotl 7 (word (g.s1 * 5)) * 9)

pub draw-lt : (g : Xoshiro256StarStar) → draw_of g < 2 ^ 62
draw-lt g = let h = output-lt g in omega arith

pub step_words : (g : Xoshiro256StarStar) → Words g → Words (step g)
step_words g k =
    let x2 = xor_lt 64 g.s2 g.s0 k.w2 k.w0 in
    let x3 = xor_lt 64 g.s3 g.s1 k.w3 k.w1 in
    record {
      w0 = xor_lt 64 g.s0 _ k.w0 x3;
      w1 = xor_lt 64 g.s1 _ k.w1 x2;
      w2 = xor_lt 64 _ (word (g.s1 * 2 ^ 17)) x2 (word_lt (g.s1 * 2 ^ 17));
      w3 = rotl-45-lt _ x3;
    }
