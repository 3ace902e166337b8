-- Offsets are shorter than the component is large.
use Rattle.std.specs.Prelude.{◌≡◌, ℕ, ◌+◌, ◌≤◌, ◌<◌, eqb, ℤ, pos, ◌+ℤ◌, ◌-ℤ◌, neg_ℤ}
use Rattle.std.proofs.Common.{sym, ◌∙◌}
use Rattle.std.proofs.Math.Path.{ap, subst}
use mathlib.Core.List.{List, Memᴰ}
use Rattle.std.proofs.Math.Decide.{ℕ_discrete}
use native.Mathlib.Omega.{arith}
use Rattle.std.proofs.Math.IntN.{nat_abs, +ℤ_idr}
use Rattle.graph.specs.Forest.{Bond, count}
use Rattle.graph.specs.Winding.{Winding, root, offset, still, attach, close, around, along, wind, winding}
use Rattle.graph.specs.Walk.{Within}
use Rattle.ints.specs.Ints.{abs-add, abs_neg}
use Rattle.graph.proofs.Laws.Ints.{minus-self, minus-swap, split-far, split-near}
use Rattle.graph.proofs.Laws.Lookup.{by-test}
use Rattle.graph.proofs.Laws.Counts.{count-pos, count-bound}
use Rattle.graph.proofs.Laws.Trees.{Good, root-hit, root-miss, offset-hit, offset-miss, still-offset, good-still, Joins, far, near, wind-cases, joins-apart, winds-keep}
use Rattle.graph.proofs.Laws.Roots.{Apart}
use Rattle.graph.proofs.Laws.Sizes.{size_at, size-won, size-grows}

-- the size of the component of the site i
abbrev pub size : Winding → ℕ → ℕ
size s i = size_at s.trees i

-- ---- offsets
-- two sites of one component stand less far apart than it is large
pub Spread : ℕ → Winding → Type 0
Spread n s = (i j : ℕ) → i < n → j < n → root s i ≡ root s j → nat_abs (offset s i -ℤ offset s j) < size s i

-- the same for a site of l's and a site of w's, once l stands d from w
Meets : ℕ → Winding → ℕ → ℕ → ℤ → Type 0
Meets n s w l d = (i j : ℕ) → i < n → j < n → root s i ≡ l → root s j ≡ w
    → nat_abs (d +ℤ offset s i -ℤ offset s j) < count w s.trees.roots + count l s.trees.roots

spread-still : (n : ℕ) → Spread n (still n)
unfolding Spread still
spread-still n i j hi hj k =
    let p : offset (still n) i -ℤ offset (still n) j ≡ pos 0 = ap (λ (z : ℤ). z -ℤ offset (still n) j) (still-offset n i hi) ∙ ap (λ (z : ℤ). pos 0 -ℤ z) (still-offset n j hj) in
    subst (λ (z : ℤ). nat_abs z < size (still n) i) (sym p) (count-pos (still n).trees.roots i (omega (arith, (good-still n).sound.roots-n)))

spread-attach : (n : ℕ) (s : Winding) (w l : ℕ) (d : ℤ) → Good n s → Apart n s.trees w l → Meets n s w l d → Spread n s → Spread n (attach s w l d)
unfolding Spread Meets attach
spread-attach n s w l d good apart meets spread i j hi hj k = go (ℕ_discrete (root s i) l) (ℕ_discrete (root s j) l)
  where
    t : Winding
    t = attach s w l d

    won : (a : ℕ) → root t a ≡ w → size t a ≡ count w s.trees.roots + count l s.trees.roots
    won = size-won n s.trees w l good.sound apart

    grows : (a : ℕ) → a < n → size s a ≤ size t a
    grows = size-grows n s.trees w l good.sound apart

    at : (o p : ℤ) → offset t i ≡ o → offset t j ≡ p → nat_abs (o -ℤ p) < size t i → nat_abs (offset t i -ℤ offset t j) < size t i
    at o p e f h = subst (λ (z : ℤ). nat_abs z < size t i) (sym (ap (λ (z : ℤ). z -ℤ offset t j) e ∙ ap (λ (z : ℤ). o -ℤ z) f)) h

    go : Dec (root s i ≡ l) → Dec (root s j ≡ l) → nat_abs (offset t i -ℤ offset t j) < size t i
    go (yes p) (yes q) =
        at (d +ℤ offset s i) (d +ℤ offset s j) (offset-hit n s w l d good i hi p) (offset-hit n s w l d good j hj q)
        (omega (arith, ap nat_abs (minus-self d (offset s i) (offset s j)), spread i j hi hj (p ∙ sym q), grows i hi))
    go (yes p) (no q) =
        let r : root s j ≡ w = sym (root-miss n s w l d good j hj q) ∙ sym k ∙ root-hit n s w l d good i hi p in
        at (d +ℤ offset s i) (offset s j) (offset-hit n s w l d good i hi p) (offset-miss n s w l d good j hj q)
        (omega (arith, meets i j hi hj p r, won i (root-hit n s w l d good i hi p)))
    go (no p) (yes q) =
        let r : root s i ≡ w = sym (root-miss n s w l d good i hi p) ∙ k ∙ root-hit n s w l d good j hj q in
        at (offset s i) (d +ℤ offset s j) (offset-miss n s w l d good i hi p) (offset-hit n s w l d good j hj q)
        (omega (arith, ap nat_abs (minus-swap (offset s i) (d +ℤ offset s j)), abs_neg (d +ℤ offset s j -ℤ offset s i), meets j i hj hi q r, won i (root-miss n s w l d good i hi p ∙ r)))
    go (no p) (no q) =
        at (offset s i) (offset s j) (offset-miss n s w l d good i hi p) (offset-miss n s w l d good j hj q)
        (omega (arith, spread i j hi hj (sym (root-miss n s w l d good i hi p) ∙ k ∙ root-miss n s w l d good j hj q), grows i hi))

-- a bond goes at most 1 along an axis
pub short-along : (d : ℕ) (c : Bond) → nat_abs (along d c) ≤ 1
unfolding along
short-along d c = by-test (λ (z : ℤ). nat_abs z ≤ 1) (eqb c.axis d) (pos 1) (pos 0) (λ _. omega arith) (λ _. omega arith)

module _ (step : Bond → ℤ) (e n : ℕ) (bonds : List Bond) (short : (c : Bond) → nat_abs (step c) ≤ 1) where
  meets-joins : (s : Winding) (c : Bond) {w l : ℕ} {d : ℤ} → c.x < n → c.y < n → Spread n s → Joins step e s c w l d → Meets n s w l d
  unfolding Spread Meets around
  meets-joins s c hx hy spread (far _ _) i j hi hj p q =
      let x = offset s c.x in let y = offset s c.y in let a = offset s i in let b = offset s j in let z = step c in
      omega (
        arith,
        ap nat_abs (split-far x z y a b),
        abs-add ((a -ℤ y) +ℤ (x -ℤ b)) z,
        abs-add (a -ℤ y) (x -ℤ b),
        short c,
        spread i c.y hi hy p,
        ap (λ (r : ℕ). count r s.trees.roots) p,
        spread c.x j hx hj (sym q),
      )
  meets-joins s c hx hy spread (near _ _) i j hi hj p q =
      let x = offset s c.x in let y = offset s c.y in let a = offset s i in let b = offset s j in let z = step c in
      omega (
        arith,
        ap nat_abs (split-near x z y a b),
        abs-add ((a -ℤ x) +ℤ (y -ℤ b)) (neg_ℤ z),
        abs-add (a -ℤ x) (y -ℤ b),
        short c,
        abs_neg z,
        spread i c.x hi hx p,
        ap (λ (r : ℕ). count r s.trees.roots) p,
        spread c.y j hy hj (sym q),
      )

  spread-wind : Within n bonds → (s : Winding) (c : Bond) → Memᴰ c bonds → Good n s → Spread n s → Spread n (wind step e s c)
  unfolding Spread close
  spread-wind within s c m good spread =
      wind-cases step e (Spread n) s c (λ _. spread)
      (λ w l d j. spread-attach n s w l d good (joins-apart step e n s c good (within c m).0 (within c m).1 j) (meets-joins s c (within c m).0 (within c m).1 spread j) spread)

  pub spread-all : Within n bonds → Good n (winding step e n bonds) × Spread n (winding step e n bonds)
  unfolding winding
  spread-all within = winds-keep step e n bonds within (Spread n) (spread-wind within) bonds (λ c m. m) (still n) (good-still n) (spread-still n)

  -- Offset: less than the size of the site's component.
  pub offset-bound : Within n bonds → (i : ℕ) → i < n → nat_abs (offset (winding step e n bonds) i) < size (winding step e n bonds) i
  unfolding Spread
  offset-bound within i h =
      let s = winding step e n bonds in
      let g = spread-all within in
      let k : offset s i -ℤ offset s (root s i) ≡ offset s i = ap (λ (z : ℤ). offset s i -ℤ z) (g.0.root-offset i h) ∙ +ℤ_idr (offset s i) in
      subst (λ (z : ℤ). nat_abs z < size s i) k (g.1 i (root s i) h (g.0.sound.root-lt i h) (sym (g.0.sound.root-root i h)))

  -- and so below n
  pub offset-lt : Within n bonds → (i : ℕ) → i < n → nat_abs (offset (winding step e n bonds) i) < n
  offset-lt within i h =
      let s = winding step e n bonds in
      omega (arith, offset-bound within i h, count-bound (root s i) s.trees.roots, (spread-all within).0.sound.roots-n)

  -- The displacement around a bond, visited next: below twice n.
  pub around-lt : Within n bonds → (c : Bond) → c.x < n → c.y < n → nat_abs (around step e (winding step e n bonds) c) < n + n
  unfolding around
  around-lt within c hx hy =
      let s = winding step e n bonds in let x = offset s c.x in let y = offset s c.y in
      omega (arith, abs-add (x +ℤ step c) (neg_ℤ y), abs-add x (step c), abs_neg y, short c, offset-lt within c.x hx, offset-lt within c.y hy)
