-- What the code computes of a bond is what the definition says: the machine's product of two spins and a coupling is the coupling, or its negation,
-- and its sign picks the state.
use mathlib.Core.Path.{◌≡◌, refl, sym, ap, ◌∙◌, subst}
use Prim.Native.Nat.{ℕ, ◌*◌, zero-le}
use native.Mathlib.Nat.{zero-mul, add-zero}
use mathlib.Core.Bool.{Bool, true, false, cond, true≢false}
use lib.IntN.{ℤ, pos, negsuc, ◌*ℤ◌}
use lib.Dec.{T, eqb→eq}
use borrow.Author.Tests.{le-ltb}
use lib.Ieee.{Float, nan, inf, fin, binary32, up, down, lt, neg, mul, of_int, fits}
use mir.Syntax.{w8}
use mir.Val.{to_z, of_z}
use Rattle.bonds.specs.declared.BondState.TheVariants.{Idle, Pull}
use Rattle.domain.specs.Numbers.{is_spin, zero_f}
use Rattle.bonds.specs.Bond.{alike, magnitude, bond_of}
use Rattle.bonds.specs.Laws.Exact.{one-times, minus-one-times}

-- what holds at 1 and at -1 holds at a spin
pub at-spin : (P : ℤ → Type 0) → P (pos 1) → P (negsuc 0) → (a : ℤ) → T (is_spin a) → P a
at-spin P p q (pos n) t = subst (λ (k : ℕ). P (pos k)) (sym (eqb→eq n 1 t)) p
at-spin P p q (negsuc n) t = subst (λ (k : ℕ). P (negsuc k)) (sym (eqb→eq n 0 t)) q

-- the machine's product of two spins, an i8
abbrev pub spins : ℤ → ℤ → ℤ
spins a b = to_z w8 (of_z w8 a) *ℤ to_z w8 (of_z w8 b)

-- the machine's interaction, an f32
abbrev pub interaction : ℤ → ℤ → Float → Float
interaction a b j = mul binary32 (of_int binary32 (to_z w8 (of_z w8 (spins a b)))) j

pub interaction-is : (a b : ℤ) (j : Float) → T (is_spin a) → T (is_spin b) → fits binary32 j ≡ true → interaction a b j ≡ cond (alike a b) j (neg j)
interaction-is a b j ha hb fit =
    let t : T (fits binary32 j) = subst (λ (k : Bool). T k) (sym fit) tt in
    at-spin (λ (x : ℤ). interaction x b j ≡ cond (alike x b) j (neg j))
    (at-spin (λ (y : ℤ). interaction (pos 1) y j ≡ cond (alike (pos 1) y) j (neg j)) (one-times binary32 j t) (minus-one-times binary32 j t) b hb)
    (at-spin (λ (y : ℤ). interaction (negsuc 0) y j ≡ cond (alike (negsuc 0) y) j (neg j)) (minus-one-times binary32 j t) (one-times binary32 j t) b hb) a ha

-- ---- a sign turned round
pub above-neg : (j : Float) → lt zero_f (neg j) ≡ lt j zero_f
unfolding lt neg
above-neg nan = refl
above-neg (inf true) = refl
above-neg (inf false) = refl
above-neg (fin true m e) = simp (zero-mul (down e), add-zero (m * up e * 1))
above-neg (fin false m e) = simp (zero-mul (down e)) (sym (le-ltb (m * up e * 1) 0 zero-le))

pub magnitude-above : (j : Float) → lt zero_f j ≡ true → magnitude j ≡ j
unfolding lt
magnitude-above nan h = refl
magnitude-above (inf true) h = absurd (true≢false (sym h))
magnitude-above (inf false) h = refl
magnitude-above (fin true m e) h = absurd (true≢false (sym h))
magnitude-above (fin false m e) h = refl

pub magnitude-below : (j : Float) → lt j zero_f ≡ true → magnitude j ≡ neg j
unfolding lt neg
magnitude-below nan h = refl
magnitude-below (inf true) h = refl
magnitude-below (inf false) h = absurd (true≢false (sym h))
magnitude-below (fin true m e) h = refl
magnitude-below (fin false m e) h = absurd (true≢false (sym h ∙ sym (above-neg (fin false m e))))

-- ---- the state that the machine's test picks
pub pull-is : (a b : ℤ) (j w : Float) → w ≡ cond (alike a b) j (neg j) → lt zero_f w ≡ true → Pull w ≡ bond_of a b j
pull-is a b j w e h = go (alike a b) e
  where
    go : (k : Bool) → w ≡ cond k j (neg j) → Pull w ≡ cond (cond k (lt zero_f j) (lt j zero_f)) (Pull (magnitude j)) Idle
    go true e =
        let up : lt zero_f j ≡ true = ap (lt zero_f) (sym e) ∙ h in
        ap Pull (e ∙ sym (magnitude-above j up)) ∙ ap (λ (k : Bool). cond k (Pull (magnitude j)) Idle) (sym up)
    go false e =
        let below : lt j zero_f ≡ true = sym (above-neg j) ∙ ap (lt zero_f) (sym e) ∙ h in
        ap Pull (e ∙ sym (magnitude-below j below)) ∙ ap (λ (k : Bool). cond k (Pull (magnitude j)) Idle) (sym below)

pub idle-is : (a b : ℤ) (j w : Float) → w ≡ cond (alike a b) j (neg j) → lt zero_f w ≡ false → Idle ≡ bond_of a b j
idle-is a b j w e h = go (alike a b) e
  where
    go : (k : Bool) → w ≡ cond k j (neg j) → Idle ≡ cond (cond k (lt zero_f j) (lt j zero_f)) (Pull (magnitude j)) Idle
    go true e = ap (λ (k : Bool). cond k (Pull (magnitude j)) Idle) (sym (ap (lt zero_f) (sym e) ∙ h))
    go false e = ap (λ (k : Bool). cond k (Pull (magnitude j)) Idle) (sym (sym (above-neg j) ∙ ap (lt zero_f) (sym e) ∙ h))
