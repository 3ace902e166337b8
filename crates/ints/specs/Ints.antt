-- A kit for linear facts about ℤ. `omega` reads only ℕ, so each integer is written as a difference of two naturals, `diff a b`, sums and
-- negations of differences are differences, and an equation of differences is an equation of sums in ℕ, which `omega` proves.
-- The recipe for an identity over integers a, b, ..:  rw (view a, view b) (simp (diff-add, diff-neg) (diff-eq _ _ _ _ (omega arith)))
-- Products of differences are differences too, so that an equation of polynomials is one of polynomials in ℕ: list diff-mul with the others.
use Rattle.std.specs.Prelude.{◌≡◌, refl, ℕ, zero, suc, ◌+◌, ◌*◌, ◌≤◌, ℤ, pos, negsuc, ◌+ℤ◌, ◌-ℤ◌, ◌*ℤ◌, neg_ℤ, nat_abs}
use Rattle.std.proofs.Common.{sym, ap, ◌∙◌, arith}
use Rattle.std.proofs.Math.IntN.{+ℤ_idl, +ℤ_idr, +ℤ_assoc, +ℤ_comm, neg_ℤ-+ℤ, neg_ℤ-neg_ℤ, +ℤ-neg_ℤ_cancel, -ℤ-+ℤ_cancel}

unfoldable pub diff : ℕ → ℕ → ℤ
diff a b = pos a -ℤ pos b

-- the two parts of an integer: it is up - down, and one of the two is 0
unfoldable pub up : ℤ → ℕ
up (pos n) = n
up (negsuc n) = zero

unfoldable pub down : ℤ → ℕ
down (pos n) = zero
down (negsuc n) = suc n

pub view : (z : ℤ) → z ≡ diff (up z) (down z)
unfolding diff up down
view (pos n) = sym (+ℤ_idr (pos n))
view (negsuc n) = sym (+ℤ_idl (negsuc n))

pub abs-parts : (z : ℤ) → nat_abs z ≡ up z + down z
unfolding up down
abs-parts (pos n) = omega arith
abs-parts (negsuc n) = omega arith

-- ---- the group laws behind the kit
pub +ℤ-left-comm : (a b c : ℤ) → a +ℤ (b +ℤ c) ≡ b +ℤ (a +ℤ c)
+ℤ-left-comm a b c = sym (+ℤ_assoc a b c) ∙ ap (λ (x : ℤ). x +ℤ c) (+ℤ_comm a b) ∙ +ℤ_assoc b a c

swap : (p q r s : ℤ) → (p +ℤ q) +ℤ (r +ℤ s) ≡ (p +ℤ r) +ℤ (q +ℤ s)
swap p q r s = +ℤ_assoc p q (r +ℤ s) ∙ ap (λ (x : ℤ). p +ℤ x) (+ℤ-left-comm q r s) ∙ sym (+ℤ_assoc p r (q +ℤ s))

-- p - q and r - s are equal just where p + s and r + q are
minus-eq : (p q r s : ℤ) → p +ℤ s ≡ r +ℤ q → p -ℤ q ≡ r -ℤ s
minus-eq p q r s e =
    sym (+ℤ-neg_ℤ_cancel (p -ℤ q) s)
    ∙ ap (λ (x : ℤ). x -ℤ s) (+ℤ_assoc p (neg_ℤ q) s ∙ ap (λ (x : ℤ). p +ℤ x) (+ℤ_comm (neg_ℤ q) s) ∙ sym (+ℤ_assoc p s (neg_ℤ q)) ∙ ap (λ (x : ℤ). x -ℤ q) e ∙ +ℤ-neg_ℤ_cancel r q)

eq-minus : (p q r s : ℤ) → p -ℤ q ≡ r -ℤ s → p +ℤ s ≡ r +ℤ q
eq-minus p q r s e =
    ap (λ (x : ℤ). x +ℤ s) (sym (-ℤ-+ℤ_cancel p q) ∙ ap (λ (x : ℤ). x +ℤ q) e)
    ∙ +ℤ_assoc (r -ℤ s) q s ∙ ap (λ (x : ℤ). r -ℤ s +ℤ x) (+ℤ_comm q s) ∙ sym (+ℤ_assoc (r -ℤ s) s q)
    ∙ ap (λ (x : ℤ). x +ℤ q) (-ℤ-+ℤ_cancel r s)

-- ---- the kit
pub diff-add : (a b c d : ℕ) → diff a b +ℤ diff c d ≡ diff (a + c) (b + d)
unfolding diff
diff-add a b c d = swap (pos a) (neg_ℤ (pos b)) (pos c) (neg_ℤ (pos d)) ∙ ap (λ (x : ℤ). pos (a + c) +ℤ x) (sym (neg_ℤ-+ℤ (pos b) (pos d)))

pub diff-neg : (a b : ℕ) → neg_ℤ (diff a b) ≡ diff b a
unfolding diff
diff-neg a b = neg_ℤ-+ℤ (pos a) (neg_ℤ (pos b)) ∙ ap (λ (x : ℤ). neg_ℤ (pos a) +ℤ x) (neg_ℤ-neg_ℤ (pos b)) ∙ +ℤ_comm (neg_ℤ (pos a)) (pos b)

pub diff-eq : (a b c d : ℕ) → a + d ≡ c + b → diff a b ≡ diff c d
unfolding diff
diff-eq a b c d e = minus-eq (pos a) (pos b) (pos c) (pos d) (ap pos e)

pub diff-inj : (a b c d : ℕ) → diff a b ≡ diff c d → a + d ≡ c + b
unfolding diff
diff-inj a b c d e = ap nat_abs (eq-minus (pos a) (pos b) (pos c) (pos d) e)

pub diff-zero : pos zero ≡ diff zero zero
unfolding diff
diff-zero = refl

-- ---- sizes
-- a difference is within k of zero just where its parts are within k of one another
pub abs_diff : (a b k : ℕ) → a ≤ b + k → b ≤ a + k → nat_abs (diff a b) ≤ k
unfolding up down
abs_diff a b k h l = go (diff a b) refl
  where
    go : (z : ℤ) → diff a b ≡ z → nat_abs z ≤ k
    go (pos m) e = let f : a + 0 ≡ m + b = diff-inj a b m 0 (e ∙ view (pos m)) in omega arith
    go (negsuc m) e = let f : a + suc m ≡ 0 + b = diff-inj a b 0 (suc m) (e ∙ view (negsuc m)) in omega arith

sum_view : (a b : ℤ) → a +ℤ b ≡ diff (up a + up b) (down a + down b)
sum_view a b = ap (λ (x : ℤ). x +ℤ b) (view a) ∙ ap (λ (x : ℤ). diff (up a) (down a) +ℤ x) (view b) ∙ diff-add (up a) (down a) (up b) (down b)

pub abs-add : (a b : ℤ) → nat_abs (a +ℤ b) ≤ nat_abs a + nat_abs b
abs-add a b = rw sum_view (abs_diff _ _ _ (omega (arith, abs-parts a, abs-parts b)) (omega (arith, abs-parts a, abs-parts b)))

pub abs_neg : (a : ℤ) → nat_abs (neg_ℤ a) ≡ nat_abs a
abs_neg (pos zero) = refl
abs_neg (pos (suc n)) = refl
abs_neg (negsuc n) = refl

pub abs-sub : (a b : ℤ) → nat_abs (a -ℤ b) ≤ nat_abs a + nat_abs b
abs-sub a b = omega (arith, abs-add a (neg_ℤ b), abs_neg b)

pub abs-zero : (z : ℤ) → nat_abs z ≡ zero → z ≡ pos zero
abs-zero (pos n) e = ap pos e
abs-zero (negsuc n) e = absurd (omega arith)

-- ---- products
prod : (x y : ℤ) → x *ℤ y ≡ diff (up x * up y + down x * down y) (up x * down y + down x * up y)
unfolding up down
prod (pos a) (pos b) = view (pos (a * b)) ∙ diff-eq _ _ _ _ (omega arith)
prod (pos a) (negsuc b) = ap neg_ℤ (view (pos (a * suc b))) ∙ diff-neg _ _ ∙ diff-eq _ _ _ _ (omega arith)
prod (negsuc a) (pos b) = ap neg_ℤ (view (pos (suc a * b))) ∙ diff-neg _ _ ∙ diff-eq _ _ _ _ (omega arith)
prod (negsuc a) (negsuc b) = view (pos (suc a * suc b)) ∙ diff-eq _ _ _ _ (omega arith)

pub diff-mul : (a b c d : ℕ) → diff a b *ℤ diff c d ≡ diff (a * c + b * d) (a * d + b * c)
diff-mul a b c d =
    let x = diff a b in
    let y = diff c d in
    let h : a + down x ≡ up x + b = diff-inj a b (up x) (down x) (view x) in
    let k : c + down y ≡ up y + d = diff-inj c d (up y) (down y) (view y) in
    prod x y
    ∙ diff-eq _ _ _ _
    (omega (
      arith,
      ap (λ (n : ℕ). n * up y) h,
      ap (λ (n : ℕ). n * down y) h,
      ap (λ (n : ℕ). a * n) k,
      ap (λ (n : ℕ). b * n) k,
    ))

-- ---- identities of products
pub mul_left : (x y z : ℤ) → x *ℤ (y *ℤ z) ≡ y *ℤ (x *ℤ z)
mul_left x y z = rw (view x, view y, view z) (simp (diff-mul) (diff-eq _ _ _ _ (omega arith)))

pub mul-neg : (x y : ℤ) → x *ℤ neg_ℤ y ≡ neg_ℤ (x *ℤ y)
mul-neg x y = rw (view x, view y) (simp (diff-mul, diff-neg) (diff-eq _ _ _ _ (omega arith)))

pub mul-add : (x y z : ℤ) → x *ℤ (y +ℤ z) ≡ (x *ℤ y) +ℤ (x *ℤ z)
mul-add x y z = rw (view x, view y, view z) (simp (diff-mul, diff-add) (diff-eq _ _ _ _ (omega arith)))
