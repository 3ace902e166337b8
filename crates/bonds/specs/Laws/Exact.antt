-- A product by 1 or by -1 loses nothing: at every value that the format holds, it is the value, or the value with the other sign.
-- The way there: the exact product is a fraction that the format holds, so `round_exact` says that rounding keeps its value; the result and the
-- value then have the same bits (`same_bits`), and what fits is read back from its bits (`of_bits-to_bits`), so the two are equal as data.
use Rattle.std.specs.Prelude.{◌≡◌, refl, ℕ, zero, suc, ◌+◌, ◌-◌, ◌*◌, ◌/◌, ◌%◌, ◌^◌, ◌≤◌, ◌<◌, Bool, true, false, ◌&&◌, cond, ℤ, pos, negsuc, T, leb, ltb, eqb, Float}
use Rattle.std.proofs.Common.{sym, ap, ◌∙◌, subst, suc-le-suc, mul_assoc, mul_comm, mul-one, one-mul, mul_right_comm, mul-lt-mul_of_pos_right, zero-mul, mul-pos, lt_irrefl, lt_of_lt_of_le, le_trans, le_of_eq, lt_of_not-le, lt_of_mul-lt-mul_right, ltb→lt, leb→le, eqb→eq, pow-add, pow_pos}
use Rattle.std.proofs.Math.Pow.{pow-lt}
use Rattle.std.specs.Float.{nan, inf, fin, Format, binary32, binary64}
use Rattle.std.specs.Float.Ieee.{prec, emax, low, up, down, size, round, neg, mul, of_int, fits, top, hid, to_bits, of_bits}
use Rattle.std.specs.Float.Ieee.Digits.{back}
use Rattle.std.specs.Float.Ieee.Fits.{and_l, and_r, down_pos, round-fits}
use Rattle.std.specs.Float.Ieee.Exact.{HasValue, round_exact}
use Rattle.std.specs.Float.Ieee.Bits.{of_bits-to_bits}
use Rattle.std.specs.Float.Ieee.Nearest.{div_same}

-- what `fits` says of a finite value, as three bounds
flat-down : (e : ℤ) → up e * down e ≡ 1 → down e ≡ 1
flat-down (pos k) h = refl
flat-down (negsuc k) h = sym (one-mul (2 ^ suc k)) ∙ h

record Held (f : Format) (m : ℕ) (e : ℤ) : Type 0 where
  digits : m < 2 ^ prec f
  fine : down e ≤ 2 ^ low f
  under : m * up e < 2 ^ suc (emax f) * down e

held : (f : Format) (s : Bool) (m : ℕ) (e : ℤ) → T (fits f (fin s m e)) → Held f m e
unfolding fits
held f s zero e t =
    let flat : up e * down e ≡ 1 = eqb→eq (up e * down e) 1 t in
    record {
      digits = pow_pos (prec f);
      fine = le_trans (le_of_eq (flat-down e flat)) (pow_pos (low f));
      under = subst (λ (x : ℕ). x < 2 ^ suc (emax f) * down e) (sym (zero-mul (up e))) (mul-pos (pow_pos (suc (emax f))) (down_pos e));
    }
held f s (suc m) e t =
    let a : Bool = eqb (suc m % 2) 1 in
    let b : Bool = ltb (suc m) (2 ^ prec f) in
    let c : Bool = leb (down e) (2 ^ low f) in
    let d : Bool = ltb (suc m * up e) (2 ^ suc (emax f) * down e) in
    record {
      digits = ltb→lt (suc m) (2 ^ prec f) (and_r a b (and_l (a && b) c (and_l (a && b && c) d t)));
      fine = leb→le (down e) (2 ^ low f) (and_r (a && b) c (and_l (a && b && c) d t));
      under = ltb→lt (suc m * up e) (2 ^ suc (emax f) * down e) (and_r (a && b && c) d t);
    }

-- two ways to write one value have the same bits
same_bits : (f : Format) (s : Bool) (m n : ℕ) (e d : ℤ) → m * up e * down d ≡ n * up d * down e → to_bits f (fin s m e) ≡ to_bits f (fin s n d)
unfolding to_bits
same_bits f s m n e d h = ap (λ (u : ℕ). cond s (top f) 0 + (size u - prec f) * hid f + u / 2 ^ (size u - prec f)) same
  where
    same : m * up e * 2 ^ low f / down e ≡ n * up d * 2 ^ low f / down d
    same =
        div_same (m * up e * 2 ^ low f) (down e) (n * up d * 2 ^ low f) (down d) (down_pos e) (down_pos d)
        (mul_right_comm (m * up e) (2 ^ low f) (down d) ∙ ap (λ (x : ℕ). x * 2 ^ low f) h ∙ mul_right_comm (n * up d) (down e) (2 ^ low f))

-- so a value that fits is known by its sign and its size
known : (f : Format) (x : Float) (s : Bool) (n : ℕ) (d : ℤ) → T (fits f x) → T (fits f (fin s n d)) → HasValue x s (n * up d) (down d) → x ≡ fin s n d
known f nan s n d p q v = absurd v
known f (inf t) s n d p q v = absurd v
known f (fin t m e) s n d p q v =
    sym (of_bits-to_bits f (fin t m e) p)
    ∙ ap (of_bits f) (ap (λ (u : Bool). to_bits f (fin u m e)) v.0 ∙ same_bits f s m n e d v.1)
    ∙ of_bits-to_bits f (fin s n d) q

-- in units of 2 ^ -l, 2 ^ d is a power of two
units : (l : ℕ) (d : ℤ) → down d ≤ 2 ^ l → (j : ℕ) × (up d * 2 ^ l ≡ 2 ^ j * down d)
units l (pos k) h = (k + l, sym (pow-add 2 k l) ∙ sym (mul-one (2 ^ (k + l))))
units l (negsuc k) h =
    let le : suc k ≤ l = lt_of_not-le (λ (g : l ≤ k). lt_irrefl (2 ^ l) (lt_of_lt_of_le (pow-lt (suc-le-suc g)) h)) in
    (l - suc k, one-mul (2 ^ l) ∙ ap (λ (x : ℕ). 2 ^ x) (sym (back l (suc k) le)) ∙ pow-add 2 (l - suc k) (suc k))

-- rounding keeps the value of what the format holds
kept : (f : Format) (s : Bool) (n : ℕ) (d : ℤ) → Held f n d → HasValue (round f s (n * up d) (down d)) s (n * up d) (down d)
kept f s n d h =
    let l = low f in
    let u = units l d h.fine in
    let j = u.0 in
    let same : n * up d * 2 ^ l ≡ n * 2 ^ j * down d = mul_assoc n (up d) (2 ^ l) ∙ ap (λ (x : ℕ). n * x) u.1 ∙ sym (mul_assoc n (2 ^ j) (down d)) in
    let wide : n * 2 ^ j * down d < 2 ^ (l + suc (emax f)) * down d =
    subst (λ (x : ℕ). x < 2 ^ (l + suc (emax f)) * down d) same
    (subst (λ (x : ℕ). n * up d * 2 ^ l < x)
    (mul_right_comm (2 ^ suc (emax f)) (down d) (2 ^ l) ∙ ap (λ (x : ℕ). x * down d) (mul_comm (2 ^ suc (emax f)) (2 ^ l) ∙ sym (pow-add 2 l (suc (emax f)))))
    (mul-lt-mul_of_pos_right h.under (pow_pos l))) in
    round_exact f s (n * up d) (down d) n j (down_pos d) h.digits (lt_of_mul-lt-mul_right (down d) wide) same

pub round-fitting : (f : Format) (s : Bool) (n : ℕ) (d : ℤ) → T (fits f (fin s n d)) → round f s (n * up d) (down d) ≡ fin s n d
round-fitting f s n d t = known f (round f s (n * up d) (down d)) s n d (round-fits f s (n * up d) (down d)) t (kept f s n d (held f s n d t))

-- ---- the product by 1, and by -1
unit-is : (f : Format) → of_int f (pos 1) ≡ fin false 1 (pos 0)
unfolding of_int round
unit-is binary32 = refl
unit-is binary64 = refl

minus-unit-is : (f : Format) → of_int f (negsuc 0) ≡ fin true 1 (pos 0)
unfolding of_int round
minus-unit-is binary32 = refl
minus-unit-is binary64 = refl

-- the exact product by ±1
by-unit : (f : Format) (s : Bool) (n : ℕ) (d : ℤ) → T (fits f (fin s n d)) → round f s (1 * 1 * (n * up d)) (1 * down d) ≡ fin s n d
by-unit f s n d t = rw (one-mul (n * up d), one-mul (down d)) (round-fitting f s n d t)

other_fits : (f : Format) (s t : Bool) (n : ℕ) (d : ℤ) → T (fits f (fin s n d)) → T (fits f (fin t n d))
unfolding fits
other_fits f s t zero d h = h
other_fits f s t (suc n) d h = h

pub one-times : (f : Format) (x : Float) → T (fits f x) → mul f (of_int f (pos 1)) x ≡ x
unfolding mul
one-times f x t = rw (unit-is f) (go x t)
  where
    go : (x : Float) → T (fits f x) → mul f (fin false 1 (pos 0)) x ≡ x
    go nan t = refl
    go (inf true) t = refl
    go (inf false) t = refl
    go (fin true n d) t = by-unit f true n d t
    go (fin false n d) t = by-unit f false n d t

pub minus-one-times : (f : Format) (x : Float) → T (fits f x) → mul f (of_int f (negsuc 0)) x ≡ neg x
unfolding mul neg
minus-one-times f x t = rw (minus-unit-is f) (go x t)
  where
    go : (x : Float) → T (fits f x) → mul f (fin true 1 (pos 0)) x ≡ neg x
    go nan t = refl
    go (inf true) t = refl
    go (inf false) t = refl
    go (fin true n d) t = by-unit f false n d (other_fits f true false n d t)
    go (fin false n d) t = by-unit f true n d (other_fits f false true n d t)
