-- Laws of the shape that the code carries.
use Rattle.std.specs.Prelude.{ℕ, zero, suc, ◌*◌, ◌%◌, ◌≤◌, ◌<◌, ◌≡◌, refl, true, length}
use Rattle.std.proofs.Math.Path.{ap, ap₂}
use Rattle.std.proofs.Common.{◌∙◌, sym, arith, mul-one, not-suc-le-zero, le_of_suc-le-suc}
use mathlib.Core.List.{List, [], ◌∷◌}
use Rattle.std.proofs.Math.Nat.{zero-mod}
use Rattle.std.proofs.Math.ListN.{get_or}
use Rattle.lattice.specs.Lattice.{sites, extent, stride, ahead, behind, fwd, bwd, in_domain}
use Rattle.lattice.proofs.Laws.Neighbours.{domain, fwd-lt, bwd-lt, sites-step, stride-step, stride-last, extent-pos, stride-pos, block-few}
use Rattle.lattice.specs.Shape.{four, shape_for, extents_of, Good, OnAxis, rests_for}
use Rattle.lattice.specs.declared.Shape.{Shape}

-- the code's way to it: each stride is the next extent times the next stride
pub shape-made : (sh : List ℕ) {e₀ e₁ e₂ e₃ : ℕ} → length sh ≤ 4 → e₀ ≡ extent sh 0 → e₁ ≡ extent sh 1 → e₂ ≡ extent sh 2 → e₃ ≡ extent sh 3 →
    ◌≡◌ {A = Shape}
    (record { axes = length sh; sites = e₀ * (e₁ * (e₂ * e₃)); extents = e₀ ∷ e₁ ∷ e₂ ∷ e₃ ∷ []; strides = e₁ * (e₂ * e₃) ∷ e₂ * e₃ ∷ e₃ ∷ 1 ∷ [] })
    (shape_for sh)
unfolding shape_for
shape-made sh {e₀} {e₁} {e₂} {e₃} h p q r t =
    let d : 1 ≡ stride sh 3 = sym (stride-last sh 3 h) in
    let c : e₃ ≡ stride sh 2 = sym (mul-one e₃) ∙ ap₂ ◌*◌ t d ∙ sym (stride-step sh 2) in
    let b : e₂ * e₃ ≡ stride sh 1 = ap₂ ◌*◌ r c ∙ sym (stride-step sh 1) in
    let a : e₁ * (e₂ * e₃) ≡ stride sh 0 = ap₂ ◌*◌ q b ∙ sym (stride-step sh 0) in
    let n : e₀ * (e₁ * (e₂ * e₃)) ≡ sites sh = ap₂ ◌*◌ p a ∙ sym (sites-step sh) in
    λ i. record { axes = length sh; sites = n i; extents = p i ∷ q i ∷ r i ∷ t i ∷ []; strides = a i ∷ b i ∷ c i ∷ d i ∷ [] }

pub rests-zero : (sh : List ℕ) → 0 ∷ 0 ∷ 0 ∷ 0 ∷ [] ≡ rests_for sh 0
unfolding rests_for
rests-zero sh = simp zero-mod

pub four-at : (f : ℕ → ℕ) (d : ℕ) → d < 4 → get_or (four f) d 0 ≡ f d
four-at f zero h = refl
four-at f (suc zero) h = refl
four-at f (suc (suc zero)) h = refl
four-at f (suc (suc (suc zero))) h = refl
four-at f (suc (suc (suc (suc d)))) h = absurd (not-suc-le-zero (le_of_suc-le-suc (le_of_suc-le-suc (le_of_suc-le-suc (le_of_suc-le-suc h)))))

-- a good shape's parts, by its extents
module _ (s : Shape) (g : Good s) where
  pub axes-of : s.axes ≡ length (extents_of s)
  unfolding shape_for
  axes-of = ap (λ (x : Shape). x.axes) g.whole

  pub sites-of : s.sites ≡ sites (extents_of s)
  unfolding shape_for
  sites-of = ap (λ (x : Shape). x.sites) g.whole

  pub axes-le : s.axes ≤ 4
  axes-le = omega (arith, axes-of, (domain (extents_of s) g.within).four)

  pub sites-le : s.sites ≤ 16777216
  sites-le = omega (arith, sites-of, (domain (extents_of s) g.within).few)

  pub extent-of : (d : ℕ) → d < 4 → get_or s.extents d 0 ≡ extent (extents_of s) d
  unfolding shape_for
  extent-of d h = ap (λ (x : Shape). get_or x.extents d 0) g.whole ∙ four-at (extent (extents_of s)) d h

  pub stride-of : (d : ℕ) → d < 4 → get_or s.strides d 0 ≡ stride (extents_of s) d
  unfolding shape_for
  stride-of d h = ap (λ (x : Shape). get_or x.strides d 0) g.whole ∙ four-at (stride (extents_of s)) d h

  -- a site on any of the four axes, with its rest there, and that rest among the four
  pub on-axis : (i d : ℕ) {rest : ℕ} → i < s.sites → d < 4 → rest ≡ i % (get_or s.extents d 0 * get_or s.strides d 0) →
      OnAxis (get_or s.extents d 0) (get_or s.strides d 0) i rest
  on-axis i d h k r =
      let w = domain (extents_of s) g.within in
      let e = extent-of d k in
      let f = stride-of d k in
      record {
        wide = omega (arith, e, extent-pos (extents_of s) d w.range);
        apart = omega (arith, f, stride-pos (extents_of s) d w.range);
        block = rw (e, f) (block-few (extents_of s) d w);
        site = omega (arith, sites-of, w.few);
        left = r;
      }

  pub rest_at : (i d : ℕ) {rests : List ℕ} → d < 4 → rests ≡ rests_for (extents_of s) i →
      get_or rests d 0 ≡ i % (get_or s.extents d 0 * get_or s.strides d 0)
  unfolding rests_for
  rest_at i d k r =
      ap (λ (l : List ℕ). get_or l d 0) r ∙ four-at (λ x. i % (extent (extents_of s) x * stride (extents_of s) x)) d k
      ∙ ap₂ (λ (a b : ℕ). i % (a * b)) (sym (extent-of d k)) (sym (stride-of d k))

  pub placed : (i d : ℕ) {rests : List ℕ} → i < s.sites → d < 4 → rests ≡ rests_for (extents_of s) i →
      OnAxis (get_or s.extents d 0) (get_or s.strides d 0) i (get_or rests d 0)
  placed i d h k r = on-axis i d h k (rest_at i d k r)

  -- a step by the shape's numbers is the step on its extents, and it ends at a site
  pub ahead-fwd : (i d : ℕ) → d < 4 → ahead (get_or s.extents d 0) (get_or s.strides d 0) i ≡ fwd (extents_of s) i d
  ahead-fwd i d h = ap₂ (λ (a b : ℕ). ahead a b i) (extent-of d h) (stride-of d h)

  pub behind-bwd : (i d : ℕ) → d < 4 → behind (get_or s.extents d 0) (get_or s.strides d 0) i ≡ bwd (extents_of s) i d
  behind-bwd i d h = ap₂ (λ (a b : ℕ). behind a b i) (extent-of d h) (stride-of d h)

  pub fwd-below : (i d : ℕ) → i < s.sites → d < s.axes → fwd (extents_of s) i d < s.sites
  fwd-below i d h k =
      omega (arith, sites-of, fwd-lt (extents_of s) d (domain _ g.within).range i (omega (arith, axes-of)) (omega (arith, sites-of)))

  pub bwd-below : (i d : ℕ) → i < s.sites → d < s.axes → bwd (extents_of s) i d < s.sites
  bwd-below i d h k =
      omega (arith, sites-of, bwd-lt (extents_of s) d (domain _ g.within).range i (omega (arith, axes-of)) (omega (arith, sites-of)))

  -- four rests, each right on its axis
  pub rests-made : (i : ℕ) {r₀ r₁ r₂ r₃ : ℕ} → (let f : ℕ → ℕ = λ d. i % (get_or s.extents d 0 * get_or s.strides d 0) in (r₀ ≡ f 0) × (r₁ ≡ f 1) × (r₂ ≡ f 2) × (r₃ ≡ f 3)) →
      r₀ ∷ r₁ ∷ r₂ ∷ r₃ ∷ [] ≡ rests_for (extents_of s) i
  unfolding rests_for
  rests-made i h =
      let at : (d : ℕ) → d < 4 → i % (get_or s.extents d 0 * get_or s.strides d 0) ≡ i % (extent (extents_of s) d * stride (extents_of s) d) =
      λ d k. ap₂ (λ (a b : ℕ). i % (a * b)) (extent-of d k) (stride-of d k)
      in
      let p = h.0 ∙ at 0 (omega arith) in
      let q = h.1 ∙ at 1 (omega arith) in
      let r = h.2 ∙ at 2 (omega arith) in
      let t = h.3 ∙ at 3 (omega arith) in
      λ j. p j ∷ q j ∷ r j ∷ t j ∷ []

-- the shape that is made of extents gives them back
extents-made : (sh : List ℕ) → length sh ≤ 4 → extents_of (shape_for sh) ≡ sh
unfolding extents_of shape_for
extents-made [] h = refl
extents-made (a ∷ []) h = refl
extents-made (a ∷ b ∷ []) h = refl
extents-made (a ∷ b ∷ c ∷ []) h = refl
extents-made (a ∷ b ∷ c ∷ d ∷ []) h = refl
extents-made (a ∷ b ∷ c ∷ d ∷ e ∷ f) h = absurd (not-suc-le-zero (le_of_suc-le-suc (le_of_suc-le-suc (le_of_suc-le-suc (le_of_suc-le-suc h)))))

-- what an entry point learns of the shape that it made of extents in the domain
pub record Made (sh : List ℕ) (s : Shape) : Type 0 where
  pub good : Good s
  pub back : extents_of s ≡ sh
  pub axes-are : s.axes ≡ length sh
  pub sites-are : s.sites ≡ sites sh

pub made : {s : Shape} (sh : List ℕ) → in_domain sh ≡ true → s ≡ shape_for sh → Made sh s
made {s} sh h e =
    let b = ap extents_of e ∙ extents-made sh (domain sh h).four in
    let g : Good s = record { whole = e ∙ ap shape_for (sym b); within = ap in_domain b ∙ h } in
    record { good = g; back = b; axes-are = axes-of s g ∙ ap length b; sites-are = sites-of s g ∙ ap sites b }
