-- What a step does to the coordinates, and that the coordinates say which site it is. So `fwd` is what document 01 says in words:
-- the one site below n whose coordinate on axis d is one more, modulo the extent, and whose other coordinates are the same.
--     coord-fwd, coord-bwd               on the axis of the step
--     coord-fwd-other, coord-bwd-other   on every other axis
--     same-site                          two sites with the same coordinates are one
--     fwd-two-other, two-bonds           extent 2: the neighbour is another site, over two distinct bonds
use Rattle.std.specs.Prelude.{ℕ, zero, suc, ◌+◌, ◌*◌, ◌-◌, ◌/◌, ◌%◌, ◌<◌, ◌≡◌, true, List, [], ◌∷◌, length}
use Rattle.std.proofs.Math.Path.{ap, sym}
use Rattle.std.proofs.Common.{ap₂, ◌∙◌, subst, arith, mul_assoc, one-mul, mod-lt, mod-eq_of_lt}
use Rattle.std.proofs.Math.Decide.{dec_lt}
use Rattle.std.proofs.Math.Nat.{mul_comm, mod-one, mod-mod_of_dvd, dvd-mul_left, div-div-eq-div-mul, mul-add-div_right, div-eq_of_lt, eq_of_mul-eq-mul_right}
use Rattle.lattice.specs.Lattice.{sites, extent, stride, coord_at, put, ahead, behind, coord, fwd, bwd, in_range}
use Rattle.lattice.proofs.Laws.Neighbours.{range_cons, extent-pos, stride-pos, sites-pos, stride-step}
use Rattle.lattice.proofs.Laws.Radix as radix

module _ (sh : List ℕ) (ok : in_range sh ≡ true) (i d : ℕ) where
  pub coord-fwd : coord sh (fwd sh i d) d ≡ (coord sh i d + 1) % extent sh d
  unfolding ahead
  coord-fwd = radix.put-coord _ _ (extent-pos sh d ok) (stride-pos sh d ok) i _ (mod-lt _ (extent-pos sh d ok))

  pub coord-bwd : coord sh (bwd sh i d) d ≡ (coord sh i d + (extent sh d - 1)) % extent sh d
  unfolding behind
  coord-bwd = radix.put-coord _ _ (extent-pos sh d ok) (stride-pos sh d ok) i _ (mod-lt _ (extent-pos sh d ok))

-- a stride is a whole number of blocks of each later axis
between : (sh : List ℕ) (d j : ℕ) → (k : ℕ) × (stride sh d ≡ k * (extent sh (suc (d + j)) * stride sh (suc (d + j))))
between sh d zero = (1, stride-step sh d ∙ ap (λ (x : ℕ). extent sh (suc x) * stride sh (suc x)) (omega arith) ∙ sym (one-mul _))
between sh d (suc j) =
    let b = between sh d j in (
      b.0 * extent sh (suc (d + j)),
      b.1 ∙ ap (λ (x : ℕ). b.0 * (extent sh (suc (d + j)) * x)) (stride-step sh (suc (d + j)))
          ∙ sym (mul_assoc b.0 _ _)
          ∙ ap (λ (x : ℕ). b.0 * extent sh (suc (d + j)) * (extent sh (suc x) * stride sh (suc x))) (omega arith),
    )

later : (sh : List ℕ) {d e : ℕ} → d < e → (k : ℕ) × (stride sh d ≡ k * (extent sh e * stride sh e))
later sh {d} {e} h = subst (λ (x : ℕ). (k : ℕ) × (stride sh d ≡ k * (extent sh x * stride sh x))) (omega arith) (between sh d (e - suc d))

-- a coordinate is read off the rest in the block
coord-rest : (e s i : ℕ) → 0 < e → 0 < s → coord_at e s i ≡ (i % (e * s)) / s
coord-rest e s i p q =
    sym (ap (λ (x : ℕ). x / s) (radix.rest-form e s p q i) ∙ mul-add-div_right q (coord_at e s i) (i % s) ∙ omega (arith, div-eq_of_lt (mod-lt i q)))

module _ (sh : List ℕ) (ok : in_range sh ≡ true) (i d : ℕ) (c : ℕ) (h : c < extent sh d) where
  -- putting a coordinate of axis d leaves those of the axes after it, and of those before it
  put-after : (a : ℕ) → d < a → coord sh (put (extent sh d) (stride sh d) i c) a ≡ coord sh i a
  put-after a l =
      let p = extent-pos sh d ok in
      let q = stride-pos sh d ok in
      let w = later sh l in
      let b = extent sh a * stride sh a in
      let m : (x : ℕ) → x % stride sh d % b ≡ x % b =
      λ x. ap (λ (y : ℕ). x % y % b) w.1 ∙ mod-mod_of_dvd b x (dvd-mul_left b w.0)
      in
      coord-rest _ _ _ (extent-pos sh a ok) (stride-pos sh a ok)
      ∙ ap (λ (x : ℕ). x / stride sh a) (sym (m (put (extent sh d) (stride sh d) i c)) ∙ ap (λ (x : ℕ). x % b) (radix.put-mod _ _ p q i c) ∙ m i)
      ∙ sym (coord-rest _ _ i (extent-pos sh a ok) (stride-pos sh a ok))

  put-before : (a : ℕ) → a < d → coord sh (put (extent sh d) (stride sh d) i c) a ≡ coord sh i a
  unfolding coord_at
  put-before a l =
      let p = extent-pos sh d ok in
      let q = stride-pos sh d ok in
      let w = later sh l in
      let m : (x : ℕ) → x / stride sh a ≡ x / stride sh d / extent sh d / w.0 =
      λ x.
      ap (λ (y : ℕ). x / y) (w.1 ∙ mul_comm w.0 _ ∙ ap (λ (y : ℕ). y * w.0) (mul_comm (extent sh d) (stride sh d)))
      ∙ sym (div-div-eq-div-mul x (stride sh d * extent sh d) w.0)
      ∙ ap (λ (y : ℕ). y / w.0) (sym (div-div-eq-div-mul x (stride sh d) (extent sh d)))
      in
      ap (λ (x : ℕ). x % extent sh a)
      (m (put (extent sh d) (stride sh d) i c) ∙ ap (λ (x : ℕ). x / w.0) (radix.put-outer _ _ p q i c h) ∙ sym (m i))

  put_other : (a : ℕ) → (a ≡ d → ⊥) → coord sh (put (extent sh d) (stride sh d) i c) a ≡ coord sh i a
  put_other a n = go (dec_lt a d)
    where
      go : Dec (a < d) → coord sh (put (extent sh d) (stride sh d) i c) a ≡ coord sh i a
      go (yes l) = put-before a l
      go (no l) = put-after a (omega arith)

module _ (sh : List ℕ) (ok : in_range sh ≡ true) (i d a : ℕ) (n : a ≡ d → ⊥) where
  pub coord-fwd-other : coord sh (fwd sh i d) a ≡ coord sh i a
  unfolding ahead
  coord-fwd-other = put_other sh ok i d _ (mod-lt _ (extent-pos sh d ok)) a n

  pub coord-bwd-other : coord sh (bwd sh i d) a ≡ coord sh i a
  unfolding behind
  coord-bwd-other = put_other sh ok i d _ (mod-lt _ (extent-pos sh d ok)) a n

-- two sites that agree in each coordinate are one
same_rest : (sh : List ℕ) → in_range sh ≡ true → (i j : ℕ) → ((d : ℕ) → d < length sh → coord sh i d ≡ coord sh j d) → i % sites sh ≡ j % sites sh
unfolding sites stride
same_rest [] ok i j h = mod-one i ∙ sym (mod-one j)
same_rest (e ∷ es) ok i j h =
    let p = range_cons e es ok in
    let r = same_rest es p.2 i j (λ d k. h (suc d) (omega arith)) in
    radix.rest-form e (sites es) p.0 (sites-pos es p.2) i
    ∙ ap₂ (λ (x y : ℕ). x * sites es + y) (h 0 (omega arith)) r
    ∙ sym (radix.rest-form e (sites es) p.0 (sites-pos es p.2) j)

pub same-site : (sh : List ℕ) → in_range sh ≡ true → (i j : ℕ) → i < sites sh → j < sites sh → ((d : ℕ) → d < length sh → coord sh i d ≡ coord sh j d) → i ≡ j
same-site sh ok i j a b h = sym (mod-eq_of_lt a) ∙ same_rest sh ok i j h ∙ mod-eq_of_lt b

-- extent 2: the neighbour is another site, so that the two bonds between them are two
pub fwd-two-other : (sh : List ℕ) → in_range sh ≡ true → (i d : ℕ) → extent sh d ≡ 2 → fwd sh i d ≡ i → ⊥
unfolding coord_at
fwd-two-other sh ok i d e s =
    let c = coord-fwd sh ok i d in
    let h : coord sh i d < 2 = subst (λ (x : ℕ). coord sh i d < x) e (mod-lt (i / stride sh d) (extent-pos sh d ok)) in
    let q : coord sh i d ≡ (coord sh i d + 1) % 2 = sym (ap (λ (j : ℕ). coord sh j d) s) ∙ c ∙ ap (λ (x : ℕ). (coord sh i d + 1) % x) e in
    omega arith

pub two-bonds : (sh : List ℕ) → in_range sh ≡ true → (i d : ℕ) → d < length sh → extent sh d ≡ 2 → fwd sh i d * length sh + d ≡ i * length sh + d → ⊥
two-bonds sh ok i d k e s = fwd-two-other sh ok i d e (eq_of_mul-eq-mul_right (length sh) (omega arith) (fwd sh i d) i (omega arith))
