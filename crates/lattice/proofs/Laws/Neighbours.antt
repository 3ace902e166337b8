-- Laws of the lattice, each of a shape in the domain (or with positive extents) and an axis of it. Callers cite these and not the definitions' text.
--     fwd-lt, bwd-lt             a neighbour is a site
--     bwd-fwd, fwd-bwd           a step back undoes a step
--     fwd-one, bwd-one           extent 1: a site is its own neighbour
--     fwd-two                    extent 2: both neighbours are one site
use Rattle.std.specs.Prelude.{ℕ, zero, suc, ◌+◌, ◌*◌, ◌≤◌, ◌<◌, ◌≡◌, refl, true, false, List, [], ◌∷◌, length, get_or, drop}
use Rattle.std.proofs.Common.{ap, ◌∙◌, sym, subst, arith, mul_assoc, one-mul, mul-pos, not-suc-le-zero, le_of_suc-le-suc, mul-le-mul_right, leb-true, le-leb, drop-cons, add-one}
use Rattle.std.proofs.Math.Bool.{and-eq-true_iff, and-false}
use Rattle.std.proofs.lemmas.Bool.{lt-leb}
use Rattle.std.proofs.Math.ListN.{get_or-eq_default}
use Rattle.std.proofs.Math.Decide.{dec_lt}
use Rattle.lattice.specs.Lattice.{sites, extent, stride, ahead, behind, fwd, bwd, in_range, in_domain}
use Rattle.lattice.proofs.Laws.Radix as radix

-- what the domain says
pub record Domain (sh : List ℕ) : Type 0 where
  pub some : 1 ≤ length sh
  pub four : length sh ≤ 4
  pub range : in_range sh ≡ true
  pub few : sites sh ≤ 16777216

pub domain : (sh : List ℕ) → in_domain sh ≡ true → Domain sh
unfolding in_domain
domain sh h =
    let a = (and-eq-true_iff _ _).0 h in
    let b = (and-eq-true_iff _ _).0 a.0 in
    let c = (and-eq-true_iff _ _).0 b.0 in
    record { some = leb-true _ _ c.0; four = leb-true _ _ c.1; range = b.1; few = leb-true _ _ a.1 }

pub range_cons : (e : ℕ) (es : List ℕ) → in_range (e ∷ es) ≡ true → (1 ≤ e) × (e ≤ 4096) × (in_range es ≡ true)
unfolding in_range
range_cons e es h =
    let a = (and-eq-true_iff _ _).0 h in
    let b = (and-eq-true_iff _ _).0 a.0 in
    (leb-true _ _ b.0, leb-true _ _ b.1, a.1)

pub extent-pos : (sh : List ℕ) (d : ℕ) → in_range sh ≡ true → 0 < extent sh d
extent-pos [] d h = omega arith
extent-pos (e ∷ es) zero h = (range_cons e es h).0
extent-pos (e ∷ es) (suc d) h = extent-pos es d (range_cons e es h).2

pub extent-le : (sh : List ℕ) (d : ℕ) → in_range sh ≡ true → extent sh d ≤ 4096
extent-le [] d h = omega arith
extent-le (e ∷ es) zero h = (range_cons e es h).1
extent-le (e ∷ es) (suc d) h = extent-le es d (range_cons e es h).2

pub sites-pos : (sh : List ℕ) → in_range sh ≡ true → 0 < sites sh
unfolding sites
sites-pos [] h = omega arith
sites-pos (e ∷ es) h = mul-pos (range_cons e es h).0 (sites-pos es (range_cons e es h).2)

pub stride-pos : (sh : List ℕ) (d : ℕ) → in_range sh ≡ true → 0 < stride sh d
unfolding stride
stride-pos [] d h = omega arith
stride-pos (e ∷ es) zero h = sites-pos es (range_cons e es h).2
stride-pos (e ∷ es) (suc d) h = stride-pos es d (range_cons e es h).2

-- the mixed radix: the sites are whole blocks of an axis, as many as the extents before it make
pub blocks : List ℕ → ℕ → ℕ
blocks [] d = 1
blocks (e ∷ es) zero = 1
blocks (e ∷ es) (suc d) = e * blocks es d

pub sites-split : (sh : List ℕ) (d : ℕ) → d < length sh → sites sh ≡ blocks sh d * extent sh d * stride sh d
unfolding sites stride blocks
sites-split [] d h = absurd (not-suc-le-zero h)
sites-split (e ∷ es) zero h = rw one-mul
sites-split (e ∷ es) (suc d) h =
    ap (λ (x : ℕ). e * x) (sites-split es d (le_of_suc-le-suc h))
    ∙ sym (ap (λ (x : ℕ). x * stride es d) (mul_assoc e (blocks es d) (extent es d))
    ∙ mul_assoc e (blocks es d * extent es d) (stride es d))

blocks-pos : (sh : List ℕ) (d : ℕ) → in_range sh ≡ true → 0 < blocks sh d
unfolding blocks
blocks-pos [] d h = omega arith
blocks-pos (e ∷ es) zero h = omega arith
blocks-pos (e ∷ es) (suc d) h = mul-pos (range_cons e es h).0 (blocks-pos es d (range_cons e es h).2)

pub block-le : (sh : List ℕ) (d : ℕ) → in_range sh ≡ true → d < length sh → extent sh d * stride sh d ≤ sites sh
block-le sh d h k =
    let a : 1 * (extent sh d * stride sh d) ≤ blocks sh d * (extent sh d * stride sh d) =
    mul-le-mul_right (extent sh d * stride sh d) (blocks-pos sh d h)
    in
    omega (arith, sites-split sh d k, mul_assoc (blocks sh d) (extent sh d) (stride sh d))

module _ (sh : List ℕ) (d : ℕ) (ok : in_range sh ≡ true) where
  pub bwd-fwd : (i : ℕ) → bwd sh (fwd sh i d) d ≡ i
  bwd-fwd i = radix.behind-ahead _ _ (extent-pos sh d ok) (stride-pos sh d ok) i

  pub fwd-bwd : (i : ℕ) → fwd sh (bwd sh i d) d ≡ i
  fwd-bwd i = radix.ahead-behind _ _ (extent-pos sh d ok) (stride-pos sh d ok) i

  pub fwd-lt : (i : ℕ) → d < length sh → i < sites sh → fwd sh i d < sites sh
  fwd-lt i h k =
      let e = sites-split sh d h in
      subst (λ (n : ℕ). fwd sh i d < n) (sym e)
      (radix.ahead-lt _ _ (extent-pos sh d ok) (stride-pos sh d ok) (blocks sh d) i (subst (λ (n : ℕ). i < n) e k))

  pub bwd-lt : (i : ℕ) → d < length sh → i < sites sh → bwd sh i d < sites sh
  bwd-lt i h k =
      let e = sites-split sh d h in
      subst (λ (n : ℕ). bwd sh i d < n) (sym e)
      (radix.behind-lt _ _ (extent-pos sh d ok) (stride-pos sh d ok) (blocks sh d) i (subst (λ (n : ℕ). i < n) e k))

pub fwd-one : (sh : List ℕ) (d i : ℕ) → extent sh d ≡ 1 → fwd sh i d ≡ i
fwd-one sh d i h = ap (λ (e : ℕ). ahead e (stride sh d) i) h ∙ radix.ahead-one _ i

pub bwd-one : (sh : List ℕ) (d i : ℕ) → extent sh d ≡ 1 → bwd sh i d ≡ i
bwd-one sh d i h = ap (λ (e : ℕ). behind e (stride sh d) i) h ∙ radix.behind-one _ i

pub fwd-two : (sh : List ℕ) (d i : ℕ) → extent sh d ≡ 2 → fwd sh i d ≡ bwd sh i d
fwd-two sh d i h = rw h (radix.ahead-two (stride sh d) i)

-- how strides go on: each is the next extent times the next stride
pub sites-step : (sh : List ℕ) → sites sh ≡ extent sh 0 * stride sh 0
unfolding sites stride
sites-step [] = refl
sites-step (e ∷ es) = refl

pub stride-step : (sh : List ℕ) (d : ℕ) → stride sh d ≡ extent sh (suc d) * stride sh (suc d)
unfolding stride
stride-step [] d = refl
stride-step (e ∷ es) zero = sites-step es
stride-step (e ∷ es) (suc d) = stride-step es d

pub stride-last : (sh : List ℕ) (d : ℕ) → length sh ≤ suc d → stride sh d ≡ 1
unfolding stride sites
stride-last [] d h = refl
stride-last (e ∷ []) zero h = refl
stride-last (e ∷ f ∷ es) zero h = absurd (not-suc-le-zero (le_of_suc-le-suc h))
stride-last (e ∷ es) (suc d) h = stride-last es d (le_of_suc-le-suc h)

-- extents read by the code
pub extent-in : (sh : List ℕ) (d : ℕ) → d < length sh → get_or sh d 0 ≡ extent sh d
extent-in [] d h = absurd (not-suc-le-zero h)
extent-in (e ∷ es) zero h = refl
extent-in (e ∷ es) (suc d) h = extent-in es d (le_of_suc-le-suc h)

pub extent-out : (sh : List ℕ) (d : ℕ) → length sh ≤ d → extent sh d ≡ 1
extent-out sh d h = get_or-eq_default sh 1 h

-- the range test, one extent after the other
pub range-step : (sh : List ℕ) (i : ℕ) → i < length sh → 1 ≤ get_or sh i 0 → get_or sh i 0 ≤ 4096 → in_range (drop i sh) ≡ in_range (drop (i + 1) sh)
unfolding in_range
range-step sh i h a b = rw (add-one, drop-cons sh i 0 h) (simp (le-leb _ _ a, le-leb _ _ b))

pub range-low : (sh : List ℕ) (i : ℕ) → i < length sh → get_or sh i 0 < 1 → in_range (drop i sh) ≡ false
unfolding in_range
range-low sh i h a = rw (drop-cons sh i 0 h) (simp (lt-leb _ _ a))

pub range-high : (sh : List ℕ) (i : ℕ) → i < length sh → 4096 < get_or sh i 0 → in_range (drop i sh) ≡ false
unfolding in_range
range-high sh i h a = rw (drop-cons sh i 0 h) (simp (lt-leb _ _ a, and-false))

-- a block is no longer than the largest lattice, past the last axis too
pub block-few : (sh : List ℕ) (d : ℕ) → Domain sh → extent sh d * stride sh d ≤ 16777216
block-few sh d w = go (dec_lt d (length sh))
  where
    go : Dec (d < length sh) → extent sh d * stride sh d ≤ 16777216
    go (yes h) = omega (arith, block-le sh d w.range h, w.few)
    go (no h) = rw (extent-out sh d (omega arith), stride-last sh d (omega arith)) (omega arith)
