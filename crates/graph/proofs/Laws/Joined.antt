-- The theorems of the clusters and of the winding flag.
use Rattle.std.specs.Prelude.{◌≡◌, refl, ◌↔◌, ◌≢◌, ◌⊎◌, Bool, true, false, not, List, ℕ, ◌≤◌, ◌<◌, length, ℤ, pos, ◌+ℤ◌, ◌-ℤ◌, neg_ℤ}
use Rattle.std.proofs.Math.Path.{sym}
use Rattle.std.proofs.Common.{ap, ◌∙◌, subst, inl, inr}
use native.Mathlib.Omega.{arith}
use Rattle.std.proofs.Math.IntN.{+ℤ_idr, +ℤ_assoc}
use Rattle.graph.specs.Forest.{Bond, Forest, root_of, forest, count, sizes, total, largest, components}
use Rattle.graph.specs.Winding.{root, offset, winding}
use Rattle.graph.specs.Walk.{Walk, stay, ahead, back, Within, Among}
use Rattle.graph.proofs.Laws.Ints.{step_back, add-cancel}
use Rattle.graph.proofs.Laws.Kept.{reached, even}
use Rattle.graph.proofs.Laws.Walks.{onward, reverse, widen}
use Rattle.graph.proofs.Laws.Same.{winding-trees}
use Rattle.graph.proofs.Laws.Roots.{sound-forest}
use Rattle.graph.proofs.Laws.Counts.{count-le, count-some, count-pos, largest-le, le-largest}
use Rattle.graph.proofs.Laws.Lookup.{eqb-not, true-test}
use Rattle.graph.proofs.Laws.Tally.{fills, components-tally, Into, OneToOne, tally-into, sizes-sum}

module _ (step : Bond → ℤ) (e n : ℕ) (bonds : List Bond) (within : Within n bonds) where
  walk-root : {a b : ℕ} {z : ℤ} → Walk step bonds a b z → root (winding step e n bonds) a ≡ root (winding step e n bonds) b
  walk-root stay = refl
  walk-root (ahead c m v) = walk-root v ∙ (even step e n bonds within c m).rooted
  walk-root (back c m v) = walk-root v ∙ sym (even step e n bonds within c m).rooted

  -- while the flag is clear a walk's sum is the difference of the offsets of its ends
  pub walk-offset : (winding step e n bonds).wraps ≡ false → {a b : ℕ} {z : ℤ} → Walk step bonds a b z
      → offset (winding step e n bonds) b ≡ offset (winding step e n bonds) a +ℤ z
  walk-offset t {a} stay = sym (+ℤ_idr (offset (winding step e n bonds) a))
  walk-offset t {a} (ahead {z = z} c m v) =
      (even step e n bonds within c m).level t ∙ ap (λ (o : ℤ). o +ℤ step c) (walk-offset t v)
      ∙ +ℤ_assoc (offset (winding step e n bonds) a) z (step c)
  walk-offset t {a} (back {z = z} c m v) =
      step_back (offset (winding step e n bonds) c.x) (step c) (offset (winding step e n bonds) c.y) ((even step e n bonds within c m).level t)
      ∙ ap (λ (o : ℤ). o -ℤ step c) (walk-offset t v)
      ∙ +ℤ_assoc (offset (winding step e n bonds) a) z (neg_ℤ (step c))

  joined-winding : (a b : ℕ) → a < n → b < n
      → (root (winding step e n bonds) a ≡ root (winding step e n bonds) b) ↔ ((z : ℤ) × Walk step bonds a b z)
  joined-winding a b ha hb = (to, λ w. walk-root w.1)
    where
      to : root (winding step e n bonds) a ≡ root (winding step e n bonds) b → (z : ℤ) × Walk step bonds a b z
      to k =
          let r = (reached step e n bonds within).1 in
          (_, onward (reverse (r.way a ha)) (subst (λ (p : ℕ). Walk step bonds p b (offset (winding step e n bonds) b)) (sym k) (r.way b hb)))

  -- Flag: it is set just where some closed walk over active bonds has a sum other than 0.
  pub flag : ((winding step e n bonds).wraps ≡ true) ↔ ((a : ℕ) × (z : ℤ) × Walk step bonds a a z × (z ≢ pos 0))
  flag = ((reached step e n bonds within).1.wrapped, λ w. from (winding step e n bonds).wraps refl w)
    where
      from : (t : Bool) → (winding step e n bonds).wraps ≡ t → (a : ℕ) × (z : ℤ) × Walk step bonds a a z × (z ≢ pos 0) → (winding step e n bonds).wraps ≡ true
      from true k w = k
      from false k w = absurd (w.3 (add-cancel (offset (winding step e n bonds) w.0) w.1 (walk-offset k w.2)))

-- Joined: two sites have one root just where a walk over active bonds leads from one to the other.
pub joined : (step : Bond → ℤ) (n : ℕ) (bonds : List Bond) → Within n bonds → (a b : ℕ) → a < n → b < n
    → (root_of (forest n bonds) a ≡ root_of (forest n bonds) b) ↔ ((z : ℤ) × Walk step bonds a b z)
joined step n bonds within a b ha hb =
    subst (λ (f : Forest). (root_of f a ≡ root_of f b) ↔ ((z : ℤ) × Walk step bonds a b z)) (winding-trees step 1 n bonds)
    (joined-winding step 1 n bonds within a b ha hb)

-- the sizes sum to the number of sites
pub sizes-total : (n : ℕ) (bonds : List Bond) → Within n bonds → total (sizes n (forest n bonds)) ≡ n
sizes-total n bonds within = sizes-sum n (forest n bonds) (sound-forest n bonds within).roots-n (sound-forest n bonds within).root-lt

-- a site that counts is its own root, and a root counts
fills-root : (n : ℕ) (bonds : List Bond) → Within n bonds → (i : ℕ) → i < n → fills (forest n bonds) i ≡ true → root_of (forest n bonds) i ≡ i
unfolding fills
fills-root n bonds within i h t = go (count-some i (forest n bonds).roots)
  where
    f : Forest
    f = forest n bonds

    go : (count i f.roots ≡ 0) ⊎ ((j : ℕ) × (j < length f.roots) × (root_of f j ≡ i)) → root_of f i ≡ i
    go (inl z) = absurd (true-test (count i f.roots) t z)
    go (inr (j, l, k)) =
        let hj : j < n = omega (arith, (sound-forest n bonds within).roots-n) in
        ap (root_of f) (sym k) ∙ (sound-forest n bonds within).root-root j hj ∙ k

root-fills : (n : ℕ) (bonds : List Bond) → Within n bonds → (i : ℕ) → i < n → fills (forest n bonds) (root_of (forest n bonds) i) ≡ true
unfolding fills
root-fills n bonds within i h =
    let k = count-pos (forest n bonds).roots i (omega (arith, (sound-forest n bonds within).roots-n)) in
    ap not (eqb-not (count (root_of (forest n bonds) i) (forest n bonds).roots) 0 (λ (z : count (root_of (forest n bonds) i) (forest n bonds).roots ≡ 0). omega arith))

-- ---- growth: more active bonds
module _ (n : ℕ) (few many : List Bond) (among : Among few many) (within : Within n many) where
  within-few : Within n few
  within-few c m = within c (among c m)

  pub joined-grows : (a b : ℕ) → a < n → b < n → root_of (forest n few) a ≡ root_of (forest n few) b → root_of (forest n many) a ≡ root_of (forest n many) b
  joined-grows a b ha hb k =
      let none : Bond → ℤ = λ _. pos 0 in
      let w = (joined none n few within-few a b ha hb).0 k in
      (joined none n many within a b ha hb).1 (w.0, widen among w.1)

  pub flag-grows : (step : Bond → ℤ) (e : ℕ) → (winding step e n few).wraps ≡ true → (winding step e n many).wraps ≡ true
  flag-grows step e t =
      let w = (flag step e n few within-few).0 t in
      (flag step e n many within).1 (w.0, w.1, widen among w.2, w.3)

  pub largest-grows : largest n (forest n few) ≤ largest n (forest n many)
  largest-grows = largest-le n (forest n few) (forest n many) (λ i h. go i (count-some i (forest n few).roots))
    where
      nf : length (forest n few).roots ≡ n
      nf = (sound-forest n few within-few).roots-n

      nm : length (forest n many).roots ≡ n
      nm = (sound-forest n many within).roots-n

      go : (i : ℕ) → (count i (forest n few).roots ≡ 0) ⊎ ((j : ℕ) × (j < length (forest n few).roots) × (root_of (forest n few) j ≡ i))
          → count i (forest n few).roots ≤ largest n (forest n many)
      go i (inl z) = omega arith
      go i (inr t) =
          let j = t.0 in
          let hj : j < n = omega (arith, nf, t.1) in
          let k : count i (forest n few).roots ≤ count (root_of (forest n many) j) (forest n many).roots =
          count-le i (root_of (forest n many) j) (forest n few).roots (forest n many).roots (nf ∙ sym nm)
          (λ a ha e. joined-grows a j (omega (arith, nf)) hj (e ∙ sym t.2)) in
          omega (arith, k, le-largest n (forest n many) (root_of (forest n many) j) ((sound-forest n many within).root-lt j hj))

  pub components-fall : components n (forest n many) ≤ components n (forest n few)
  unfolding Into OneToOne
  components-fall = rw (components-tally n (forest n many), components-tally n (forest n few))
      (tally-into (fills (forest n many)) (fills (forest n few)) (root_of (forest n few)) n 0 n
      (λ i _ h t. let h' : i < n = omega arith in ((sound-forest n few within-few).root-lt i h', root-fills n few within-few i h'))
      (λ i j _ hi _ hj ti tj k.
      let hi' : i < n = omega arith in let hj' : j < n = omega arith in
      sym (fills-root n many within i hi' ti) ∙ joined-grows i j hi' hj' k ∙ fills-root n many within j hj' tj))
