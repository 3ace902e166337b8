-- What stands where in the lists that the definitions make.
use Rattle.std.specs.Prelude.{◌≡◌, refl, ◌≢◌, Bool, true, false, cond, not, List, [], ◌∷◌, ℕ, zero, suc, ◌+◌, ◌<◌, T, eqb, length, get_or, ℤ, pos, ◌+ℤ◌}
use Rattle.std.proofs.Common.{sym, ap, ◌∙◌, le_of_suc-le-suc, not-suc-le-zero, arith, eqb→eq}
use Rattle.std.proofs.lemmas.Bool.{false≢true}
use Rattle.std.proofs.Math.Dec.{eqb_refl}
use Rattle.graph.specs.Forest.{up_from, relabel}
use Rattle.graph.specs.Winding.{shift}

-- ---- tests
true_of : (b : Bool) → T b → b ≡ true
true_of true t = refl
true_of false t = absurd t

false_of : (b : Bool) → ¬ (T b) → b ≡ false
false_of true f = absurd (f tt)
false_of false f = refl

pub eqb_yes : (a b : ℕ) → a ≡ b → eqb a b ≡ true
eqb_yes a b e = ap (λ (n : ℕ). eqb a n) (sym e) ∙ true_of (eqb a a) (eqb_refl a)

pub eqb-not : (a b : ℕ) → a ≢ b → eqb a b ≡ false
eqb-not a b f = false_of (eqb a b) (λ t. f (eqb→eq a b t))

pub true-test : (a : ℕ) → not (eqb a 0) ≡ true → a ≢ 0
true-test a t e = false≢true (sym (ap not (eqb_yes a 0 e)) ∙ t)

pub unlike : (a b : ℕ) → eqb a b ≡ false → a ≢ b
unlike a b t e = false≢true (sym t ∙ eqb_yes a b e)

-- a choice by a test: what holds of each branch where it is taken holds of the choice
pub by-test {ℓ} : {A : Type ℓ} (P : A → Type 0) (b : Bool) (p q : A) → (T b → P p) → (T (not b) → P q) → P (cond b p q)
by-test P true p q f g = f tt
by-test P false p q f g = g tt

-- ---- numbers in a row
pub length-up_from : (a n : ℕ) → length (up_from a n) ≡ n
unfolding up_from
length-up_from a zero = refl
length-up_from a (suc n) = ap suc (length-up_from (suc a) n)

pub get_or-up_from : (a n i : ℕ) → i < n → get_or (up_from a n) i 0 ≡ a + i
unfolding up_from
get_or-up_from a zero i h = absurd (not-suc-le-zero h)
get_or-up_from a (suc n) zero h = omega arith
get_or-up_from a (suc n) (suc i) h = get_or-up_from (suc a) n i (le_of_suc-le-suc h) ∙ omega arith

-- ---- relabelled roots
pub length-relabel : (w l : ℕ) (rs : List ℕ) → length (relabel w l rs) ≡ length rs
unfolding relabel
length-relabel w l [] = refl
length-relabel w l (r ∷ rs) = ap suc (length-relabel w l rs)

pub relabel-hit : (w l : ℕ) (rs : List ℕ) (i : ℕ) → i < length rs → get_or rs i 0 ≡ l → get_or (relabel w l rs) i 0 ≡ w
unfolding relabel
relabel-hit w l [] i h e = absurd (not-suc-le-zero h)
relabel-hit w l (r ∷ rs) zero h e = ap (λ (b : Bool). cond b w r) (eqb_yes r l e)
relabel-hit w l (r ∷ rs) (suc i) h e = relabel-hit w l rs i (le_of_suc-le-suc h) e

pub relabel-miss : (w l : ℕ) (rs : List ℕ) (i : ℕ) → i < length rs → get_or rs i 0 ≢ l → get_or (relabel w l rs) i 0 ≡ get_or rs i 0
unfolding relabel
relabel-miss w l [] i h e = absurd (not-suc-le-zero h)
relabel-miss w l (r ∷ rs) zero h e = ap (λ (b : Bool). cond b w r) (eqb-not r l e)
relabel-miss w l (r ∷ rs) (suc i) h e = relabel-miss w l rs i (le_of_suc-le-suc h) e

-- ---- shifted offsets
pub length_shift : (l : ℕ) (d : ℤ) (rs : List ℕ) (os : List ℤ) → length rs ≡ length os → length (shift l d rs os) ≡ length os
unfolding shift
length_shift l d (r ∷ rs) (o ∷ os) e = ap suc (length_shift l d rs os (omega arith))
length_shift l d (r ∷ rs) [] e = refl
length_shift l d [] os e = e

pub shift-hit : (l : ℕ) (d : ℤ) (rs : List ℕ) (os : List ℤ) (i : ℕ) → i < length rs → i < length os → get_or rs i 0 ≡ l
    → get_or (shift l d rs os) i (pos 0) ≡ d +ℤ get_or os i (pos 0)
unfolding shift
shift-hit l d [] os i h k e = absurd (not-suc-le-zero h)
shift-hit l d (r ∷ rs) [] i h k e = absurd (not-suc-le-zero k)
shift-hit l d (r ∷ rs) (o ∷ os) zero h k e = ap (λ (b : Bool). cond b (d +ℤ o) o) (eqb_yes r l e)
shift-hit l d (r ∷ rs) (o ∷ os) (suc i) h k e = shift-hit l d rs os i (le_of_suc-le-suc h) (le_of_suc-le-suc k) e

pub shift-miss : (l : ℕ) (d : ℤ) (rs : List ℕ) (os : List ℤ) (i : ℕ) → i < length rs → i < length os → get_or rs i 0 ≢ l
    → get_or (shift l d rs os) i (pos 0) ≡ get_or os i (pos 0)
unfolding shift
shift-miss l d [] os i h k e = absurd (not-suc-le-zero h)
shift-miss l d (r ∷ rs) [] i h k e = absurd (not-suc-le-zero k)
shift-miss l d (r ∷ rs) (o ∷ os) zero h k e = ap (λ (b : Bool). cond b (d +ℤ o) o) (eqb-not r l e)
shift-miss l d (r ∷ rs) (o ∷ os) (suc i) h k e = shift-miss l d rs os i (le_of_suc-le-suc h) (le_of_suc-le-suc k) e
