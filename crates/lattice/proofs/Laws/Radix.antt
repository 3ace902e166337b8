-- Laws of one axis of extent e and stride s: replacing a coordinate. Nothing here knows of shapes.
use Prim.Native.Nat.{ℕ, suc, ◌+◌, ◌*◌, ◌-◌, ◌/◌, ◌%◌, ◌≤◌, ◌<◌}
use Rattle.std.specs.Prelude.{◌≡◌, refl}
use Rattle.std.proofs.Math.Path.{ap}
use Rattle.std.proofs.Common.{ap₂, ◌∙◌, sym, div-lt_iff_lt-mul}
use native.Mathlib.Omega.{arith}
use Rattle.std.proofs.Math.Nat.{mul_assoc, add-mul, mod-lt, mod-le, div-mul-le_self, div-add-mod', mul-add-div_right, mul-add-mod_self_right, mod-eq_of_lt, div-eq_of_lt, suc-mul, zero-mul, mod_self, mod-one, mod-add-mod, add-mod_right, lt_of_mul-lt-mul_right, mul-le-mul_right}
use Rattle.lattice.specs.Lattice.{coord_at, put, ahead, behind}

module _ (e s : ℕ) (0<e : 0 < e) (0<s : 0 < s) where
  -- the number of whole blocks below the site
  pub outer : ℕ → ℕ
  outer i = i / s / e

  -- put in the radix form: block, coordinate, rest
  pub put-radix : (i c : ℕ) → put e s i c ≡ (i / s / e * e + c) * s + i % s
  unfolding put coord_at
  put-radix i c =
      let q = i / s / e in
      let k = i / s % e in
      let a : q * e + k ≡ i / s = div-add-mod' (i / s) e in
      let b : i / s * s + i % s ≡ i = div-add-mod' i s in
      let d : (q * e + k) * s ≡ q * e * s + k * s = add-mul (q * e) k s in
      let f : (q * e + c) * s ≡ q * e * s + c * s = add-mul (q * e) c s in
      let g : (q * e + k) * s ≡ i / s * s = ap (λ (x : ℕ). x * s) a in
      omega arith

  pub put-div : (i c : ℕ) → put e s i c / s ≡ i / s / e * e + c
  put-div i c =
      ap (λ (x : ℕ). x / s) (put-radix i c) ∙ mul-add-div_right 0<s (i / s / e * e + c) (i % s)
      ∙ omega (arith, div-eq_of_lt (mod-lt i 0<s))

  pub put-mod : (i c : ℕ) → put e s i c % s ≡ i % s
  put-mod i c =
      ap (λ (x : ℕ). x % s) (put-radix i c) ∙ mul-add-mod_self_right (i / s / e * e + c) s (i % s)
      ∙ mod-eq_of_lt (mod-lt i 0<s)

  -- the coordinate of put is the one that was put, and the block stays
  pub put-coord : (i c : ℕ) → c < e → coord_at e s (put e s i c) ≡ c
  unfolding coord_at
  put-coord i c h =
      ap (λ (x : ℕ). x % e) (put-div i c) ∙ mul-add-mod_self_right (i / s / e) e c ∙ mod-eq_of_lt h

  pub put-outer : (i c : ℕ) → c < e → put e s i c / s / e ≡ i / s / e
  put-outer i c h =
      ap (λ (x : ℕ). x / e) (put-div i c) ∙ mul-add-div_right 0<e (i / s / e) c
      ∙ omega (arith, div-eq_of_lt h)

  pub coord-lt : (i : ℕ) → coord_at e s i < e
  unfolding coord_at
  coord-lt i = mod-lt (i / s) 0<e

  -- the later put counts; putting a site's own coordinate changes nothing
  pub put-put : (i c k : ℕ) → c < e → put e s (put e s i c) k ≡ put e s i k
  put-put i c k h =
      put-radix (put e s i c) k
      ∙ ap₂ (λ (x y : ℕ). (x * e + k) * s + y) (put-outer i c h) (put-mod i c)
      ∙ sym (put-radix i k)

  pub put-own : (i : ℕ) → put e s i (coord_at e s i) ≡ i
  unfolding put coord_at
  put-own i =
      let a : i / s % e ≤ i / s = mod-le (i / s) e in
      let b : i / s % e * s ≤ i / s * s = mul-le-mul_right s a in
      omega (arith, div-mul-le_self i s)

  -- below a whole number of blocks it stays
  pub put-lt : (p i c : ℕ) → i < p * e * s → c < e → put e s i c < p * e * s
  put-lt p i c h k =
      let a : i / s < p * e = (div-lt_iff_lt-mul 0<s).1 h in
      let b : i / s / e < p = (div-lt_iff_lt-mul 0<e).1 a in
      let d : suc (i / s / e) * e ≤ p * e = mul-le-mul_right e b in
      let f : suc (i / s / e) * e ≡ i / s / e * e + e = suc-mul (i / s / e) e in
      let g : suc (i / s / e * e + c) * s ≤ p * e * s = mul-le-mul_right s (omega arith) in
      let m : suc (i / s / e * e + c) * s ≡ (i / s / e * e + c) * s + s = suc-mul (i / s / e * e + c) s in
      omega (arith, put-radix i c, mod-lt i 0<s)

  -- a step stays below the same number of blocks, and a step back undoes a step
  pub ahead-lt : (p i : ℕ) → i < p * e * s → ahead e s i < p * e * s
  unfolding ahead
  ahead-lt p i h = put-lt p i _ h (mod-lt (coord_at e s i + 1) 0<e)

  pub behind-lt : (p i : ℕ) → i < p * e * s → behind e s i < p * e * s
  unfolding behind
  behind-lt p i h = put-lt p i _ h (mod-lt (coord_at e s i + (e - 1)) 0<e)

  pub behind-ahead : (i : ℕ) → behind e s (ahead e s i) ≡ i
  unfolding ahead behind
  behind-ahead i =
      let c = coord_at e s i in
      let h : (c + 1) % e < e = mod-lt (c + 1) 0<e in
      let a : ((c + 1) % e + (e - 1)) % e ≡ c =
      mod-add-mod (c + 1) e (e - 1) ∙ ap (λ (x : ℕ). x % e) (omega arith) ∙ add-mod_right c e ∙ mod-eq_of_lt (coord-lt i)
      in
      put-put i ((c + 1) % e) _ h ∙ ap (λ (x : ℕ). put e s i ((x + (e - 1)) % e)) (put-coord i _ h)
      ∙ ap (put e s i) a ∙ put-own i

  pub ahead-behind : (i : ℕ) → ahead e s (behind e s i) ≡ i
  unfolding ahead behind
  ahead-behind i =
      let c = coord_at e s i in
      let h : (c + (e - 1)) % e < e = mod-lt (c + (e - 1)) 0<e in
      let a : ((c + (e - 1)) % e + 1) % e ≡ c =
      mod-add-mod (c + (e - 1)) e 1 ∙ ap (λ (x : ℕ). x % e) (omega arith) ∙ add-mod_right c e ∙ mod-eq_of_lt (coord-lt i)
      in
      put-put i ((c + (e - 1)) % e) _ h ∙ ap (λ (x : ℕ). put e s i ((x + 1) % e)) (put-coord i _ h)
      ∙ ap (put e s i) a ∙ put-own i

  -- the rest of a site in its block of e·s sites
  pub rest-form : (i : ℕ) → i % (e * s) ≡ coord_at e s i * s + i % s
  unfolding coord_at
  rest-form i =
      let q = i / s / e in
      let c = i / s % e in
      let r = i % s in
      let a : q * e + c ≡ i / s = div-add-mod' (i / s) e in
      let b : i / s * s + r ≡ i = div-add-mod' i s in
      let f : (q * e + c) * s ≡ q * e * s + c * s = add-mul (q * e) c s in
      let g : (q * e + c) * s ≡ i / s * s = ap (λ (x : ℕ). x * s) a in
      let k : q * e * s ≡ q * (e * s) = mul_assoc q e s in
      let m : suc c * s ≤ e * s = mul-le-mul_right s (mod-lt (i / s) 0<e) in
      let n : suc c * s ≡ c * s + s = suc-mul c s in
      let o : i ≡ q * (e * s) + (c * s + r) = omega arith in
      ap (λ (x : ℕ). x % (e * s)) o ∙ mul-add-mod_self_right q (e * s) (c * s + r)
      ∙ mod-eq_of_lt (omega (arith, mod-lt i 0<s))

  -- by the rest alone: whether a step stays in the block, and where it goes
  pub ahead_in : (i : ℕ) → i % (e * s) + s < e * s → ahead e s i ≡ i + s
  unfolding ahead put
  ahead_in i h =
      let c = coord_at e s i in
      let n : (c + 1) * s ≡ c * s + 1 * s = add-mul c 1 s in
      let m : c + 1 < e = lt_of_mul-lt-mul_right s (omega (arith, rest-form i)) in
      let k : (c + 1) % e ≡ c + 1 = mod-eq_of_lt m in
      let l : (c + 1) % e * s ≡ (c + 1) * s = ap (λ (x : ℕ). x * s) k in
      omega (arith, put-own i, rest-form i, mod-le i (e * s))

  pub ahead-over : (i : ℕ) → e * s ≤ i % (e * s) + s → ahead e s i ≡ i + s - e * s
  unfolding ahead put
  ahead-over i h =
      let c = coord_at e s i in
      let n : (c + 1) * s ≡ c * s + 1 * s = add-mul c 1 s in
      let o : (c + 1 + 1) * s ≡ (c + 1) * s + 1 * s = add-mul (c + 1) 1 s in
      let m : e < c + 1 + 1 = lt_of_mul-lt-mul_right s (omega (arith, rest-form i, mod-lt i 0<s)) in
      let k : c + 1 ≡ e = omega (arith, coord-lt i) in
      let l : (c + 1) % e ≡ 0 = ap (λ (x : ℕ). x % e) k ∙ mod_self e in
      let j : (c + 1) % e * s ≡ 0 = ap (λ (x : ℕ). x * s) l ∙ zero-mul s in
      let t : (c + 1) * s ≡ e * s = ap (λ (x : ℕ). x * s) k in
      omega (arith, rest-form i, mod-le i (e * s))

  pub behind-in : (i : ℕ) → s ≤ i % (e * s) → behind e s i ≡ i - s
  unfolding behind put
  behind-in i h =
      let c = coord_at e s i in
      let m : 0 < c = lt_of_mul-lt-mul_right s (omega (arith, rest-form i, mod-lt i 0<s, zero-mul s)) in
      let k : (c + (e - 1)) % e ≡ c - 1 =
      ap (λ (x : ℕ). x % e) (omega arith) ∙ add-mod_right (c - 1) e ∙ mod-eq_of_lt (omega (arith, coord-lt i))
      in
      let l : (c + (e - 1)) % e * s ≡ (c - 1) * s = ap (λ (x : ℕ). x * s) k in
      let n : (c - 1 + 1) * s ≡ (c - 1) * s + 1 * s = add-mul (c - 1) 1 s in
      let o : (c - 1 + 1) * s ≡ c * s = ap (λ (x : ℕ). x * s) (omega arith) in
      omega (arith, rest-form i, mod-le i (e * s))

  pub behind-over : (i : ℕ) → i % (e * s) < s → behind e s i ≡ i + e * s - s
  unfolding behind put
  behind-over i h =
      let c = coord_at e s i in
      let m : c < 1 = lt_of_mul-lt-mul_right s (omega (arith, rest-form i)) in
      let k : (c + (e - 1)) % e ≡ e - 1 = ap (λ (x : ℕ). x % e) (omega arith) ∙ mod-eq_of_lt (omega arith) in
      let l : (c + (e - 1)) % e * s ≡ (e - 1) * s = ap (λ (x : ℕ). x * s) k in
      let n : (e - 1 + 1) * s ≡ (e - 1) * s + 1 * s = add-mul (e - 1) 1 s in
      let o : (e - 1 + 1) * s ≡ e * s = ap (λ (x : ℕ). x * s) (omega arith) in
      let q : c * s ≡ 0 = ap (λ (x : ℕ). x * s) (omega arith) ∙ zero-mul s in
      omega arith

-- extent 1: a site is its own neighbour both ways
pub ahead-one : (s i : ℕ) → ahead 1 s i ≡ i
unfolding ahead put coord_at
ahead-one s i = simp (mod-one, zero-mul) (omega arith)

pub behind-one : (s i : ℕ) → behind 1 s i ≡ i
unfolding behind put coord_at
behind-one s i = simp (mod-one, zero-mul) (omega arith)

-- extent 2: forward and backward neighbour are one site
pub ahead-two : (s i : ℕ) → ahead 2 s i ≡ behind 2 s i
unfolding ahead behind
ahead-two s i = refl
