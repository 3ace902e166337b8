-- The identities of integers that the winding theory uses, each by the recipe of the crate ints; and multiples.
use Rattle.std.specs.Prelude.{◌≡◌, ℕ, suc, ◌+◌, ◌*◌, ◌/◌, ◌%◌, ℤ, pos, negsuc, ◌+ℤ◌, ◌-ℤ◌, ◌*ℤ◌, neg_ℤ, nat_abs}
use Rattle.std.proofs.Common.{sym, ap, ◌∙◌, zero-mul, div-add-mod', arith}
use Rattle.std.proofs.Math.Nat.{mul-mod_left}
use Rattle.std.proofs.Math.IntN.{+ℤ_idl, +ℤ_idr, +ℤ_assoc, +ℤ_comm, +ℤ_invr, neg_ℤ-+ℤ, neg_ℤ-neg_ℤ, +ℤ-neg_ℤ_cancel, -ℤ-+ℤ_cancel}
use Rattle.ints.specs.Ints.{diff, up, down, view, diff-add, diff-neg, diff-eq, diff-inj, diff-zero, abs_neg}
use Rattle.graph.specs.Walk.{Multiple}

-- ---- the identities of the winding theory, each by the recipe
pub shift-both : (d a s : ℤ) → d +ℤ (a +ℤ s) ≡ (d +ℤ a) +ℤ s
shift-both d a s = sym (+ℤ_assoc d a s)

-- a bond that joins by the gap d = a + s - b: the far end, moved by d, stands at a + s
pub gap-far : (a s b : ℤ) → (a +ℤ s -ℤ b) +ℤ b ≡ a +ℤ s
gap-far a s b = -ℤ-+ℤ_cancel (a +ℤ s) b

-- and the near end, moved by -d, stands s before b
pub gap-near : (a s b : ℤ) → b ≡ (neg_ℤ (a +ℤ s -ℤ b) +ℤ a) +ℤ s
gap-near a s b = rw (view a, view s, view b) (simp (diff-add, diff-neg) (diff-eq _ _ _ _ (omega arith)))

-- a walk's sum, taken backwards
pub back-ahead : (z s : ℤ) → (pos 0 -ℤ s) +ℤ neg_ℤ z ≡ neg_ℤ (z +ℤ s)
back-ahead z s = simp (+ℤ_idl, neg_ℤ-+ℤ, +ℤ_comm)

pub back-back : (z s : ℤ) → (pos 0 +ℤ s) +ℤ neg_ℤ z ≡ neg_ℤ (z -ℤ s)
back-back z s = simp (+ℤ_idl, neg_ℤ-+ℤ, neg_ℤ-neg_ℤ, +ℤ_comm)

-- if b stands at a + s, a stands at b - s
pub step_back : (a s b : ℤ) → b ≡ a +ℤ s → a ≡ b -ℤ s
step_back a s b e = sym (+ℤ-neg_ℤ_cancel a s) ∙ ap (λ (x : ℤ). x -ℤ s) (sym e)

-- a gap of 0
pub gap-zero : (a s b : ℤ) → a +ℤ s -ℤ b ≡ pos 0 → b ≡ a +ℤ s
gap-zero a s b e = sym (+ℤ_idl b) ∙ ap (λ (x : ℤ). x +ℤ b) (sym e) ∙ gap-far a s b

pub add-cancel : (a z : ℤ) → a ≡ a +ℤ z → z ≡ pos 0
add-cancel a z e = sym (+ℤ-neg_ℤ_cancel z a) ∙ ap (λ (x : ℤ). x -ℤ a) (+ℤ_comm z a ∙ sym e) ∙ +ℤ_invr a

-- ---- sums along a walk, seen from a coordinate
pub sum-stay : (p : ℤ) → p +ℤ pos 0 -ℤ p ≡ pos 0
sum-stay p = ap (λ (x : ℤ). x -ℤ p) (+ℤ_idr p) ∙ +ℤ_invr p

pub sum-ahead : (p z x s y : ℤ) → p +ℤ (z +ℤ s) -ℤ y ≡ (p +ℤ z -ℤ x) +ℤ (x +ℤ s -ℤ y)
sum-ahead p z x s y = rw (view p, view z, view x, view s, view y) (simp (diff-add, diff-neg) (diff-eq _ _ _ _ (omega arith)))

pub sum_back : (p z x s y : ℤ) → p +ℤ (z -ℤ s) -ℤ x ≡ (p +ℤ z -ℤ y) -ℤ (x +ℤ s -ℤ y)
sum_back p z x s y = rw (view p, view z, view x, view s, view y) (simp (diff-add, diff-neg) (diff-eq _ _ _ _ (omega arith)))

pub sum-closed : (p z : ℤ) → p +ℤ z -ℤ p ≡ z
sum-closed p z = ap (λ (x : ℤ). x -ℤ p) (+ℤ_comm p z) ∙ +ℤ-neg_ℤ_cancel z p

-- ---- differences of offsets
pub minus-self : (d i j : ℤ) → (d +ℤ i) -ℤ (d +ℤ j) ≡ i -ℤ j
minus-self d i j = rw (view d, view i, view j) (simp (diff-add, diff-neg) (diff-eq _ _ _ _ (omega arith)))

pub minus-swap : (a b : ℤ) → a -ℤ b ≡ neg_ℤ (b -ℤ a)
minus-swap a b = rw (view a, view b) (simp (diff-add, diff-neg) (diff-eq _ _ _ _ (omega arith)))

pub split-far : (x s y i j : ℤ) → (x +ℤ s -ℤ y) +ℤ i -ℤ j ≡ (i -ℤ y) +ℤ (x -ℤ j) +ℤ s
split-far x s y i j = rw (view x, view s, view y, view i, view j) (simp (diff-add, diff-neg) (diff-eq _ _ _ _ (omega arith)))

pub split-near : (x s y i j : ℤ) → neg_ℤ (x +ℤ s -ℤ y) +ℤ i -ℤ j ≡ (i -ℤ x) +ℤ (y -ℤ j) +ℤ neg_ℤ s
split-near x s y i j = rw (view x, view s, view y, view i, view j) (simp (diff-add, diff-neg) (diff-eq _ _ _ _ (omega arith)))

-- ---- multiples
times : (k : ℤ) (e : ℕ) → k *ℤ pos e ≡ diff (up k * e) (down k * e)
unfolding up down diff
times (pos m) e = sym (+ℤ_idr (pos (m * e))) ∙ ap (λ (x : ℕ). pos (m * e) -ℤ pos x) (sym (zero-mul e))
times (negsuc m) e = sym (+ℤ_idl (neg_ℤ (pos (suc m * e)))) ∙ ap (λ (x : ℕ). pos x -ℤ pos (suc m * e)) (sym (zero-mul e))

diff-times : (a b e : ℕ) → diff a b *ℤ pos e ≡ diff (a * e) (b * e)
diff-times a b e =
    let k = diff a b in
    let h : a + down k ≡ up k + b = diff-inj a b (up k) (down k) (view k) in
    times k e ∙ diff-eq (up k * e) (down k * e) (a * e) (b * e) (omega (arith, ap (λ (x : ℕ). x * e) h))

pub multiple-diff : (e : ℕ) (z : ℤ) (a b : ℕ) → z ≡ diff (a * e) (b * e) → Multiple e z
multiple-diff e z a b k = (diff a b, k ∙ sym (diff-times a b e))

pub multiple-zero : (e : ℕ) → Multiple e (pos 0)
multiple-zero e = multiple-diff e (pos 0) 0 0 (diff-zero ∙ diff-eq _ _ _ _ (omega arith))

pub multiple-add : (e : ℕ) (z y : ℤ) → Multiple e z → Multiple e y → Multiple e (z +ℤ y)
multiple-add e z y (k, p) (m, q) =
    multiple-diff e (z +ℤ y) (up k + up m) (down k + down m)
    (ap (λ (x : ℤ). x +ℤ y) (p ∙ times k e) ∙ ap (λ (x : ℤ). diff (up k * e) (down k * e) +ℤ x) (q ∙ times m e) ∙ diff-add _ _ _ _ ∙ diff-eq _ _ _ _ (omega arith))

pub multiple-neg : (e : ℕ) (z : ℤ) → Multiple e z → Multiple e (neg_ℤ z)
multiple-neg e z (k, p) = multiple-diff e (neg_ℤ z) (down k) (up k) (ap neg_ℤ (p ∙ times k e) ∙ diff-neg _ _)

pub multiple-mod : (e : ℕ) (z : ℤ) → Multiple e z → nat_abs z % e ≡ 0
multiple-mod e z (k, p) = ap (λ (x : ℤ). nat_abs x % e) p ∙ go k
  where
    go : (k : ℤ) → nat_abs (k *ℤ pos e) % e ≡ 0
    go (pos m) = mul-mod_left m e
    go (negsuc m) = ap (λ (x : ℕ). x % e) (abs_neg (pos (suc m * e))) ∙ mul-mod_left (suc m) e

-- a number less its remainder
pub multiple-rest : (e k m : ℕ) → m ≡ k % e → Multiple e (pos k -ℤ pos m)
unfolding diff
multiple-rest e k m h = multiple-diff e (diff k m) (k / e) 0 (diff-eq k m (k / e * e) (0 * e) (omega (arith, div-add-mod' k e)))
