-- The tables half filled: what one more entry makes of the rows before it, and what all rows are.
use Rattle.std.specs.Prelude.{ℕ, ◌+◌, ◌*◌, ◌<◌, ◌≡◌, List, [], ◌∷◌, ◌++◌, length, get_or, set, take}
use Rattle.std.proofs.Common.{ap, ap₂, ◌∙◌, sym, subst, arith}
use Rattle.std.proofs.lemmas.List.{take_more, take_more_set, take_all}
use Rattle.lattice.specs.Lattice.{sites, fwd, bwd, fwd_table, bwd_table}
use Rattle.lattice.specs.Shape.{extents_of, Good}
use Rattle.lattice.specs.declared.Shape.{Shape}
use Rattle.lattice.proofs.Laws.Rows.{length-tab, row_lt, fwd_table-at, bwd_table-at}
use Rattle.lattice.proofs.Laws.Shape.{axes-of, sites-of}

-- a list that begins as another, with its next entry set to that one's
one-more : (xs ts : List ℕ) {n k v : ℕ} → length xs ≡ n → length ts ≡ n → k < n → take k xs ≡ take k ts → get_or ts k 0 ≡ v
    → take (k + 1) (set xs k v) ≡ take (k + 1) ts
one-more xs ts {n} {k} {v} a b h e t =
    take_more_set xs k v (omega arith) ∙ ap₂ (λ (l : List ℕ) (x : ℕ). l ++ x ∷ []) e (sym t) ∙ sym (take_more ts k 0 (omega arith))

-- alike as far as one number, and so as far as its equal
pub as_far : (xs ts : List ℕ) {k n : ℕ} → k ≡ n → take k xs ≡ take k ts → take n xs ≡ take n ts
as_far xs ts e p = subst (λ (m : ℕ). take m xs ≡ take m ts) e p

module _ {s : Shape} (g : Good s) where
  area : s.sites * s.axes ≡ sites (extents_of s) * length (extents_of s)
  area = ap₂ ◌*◌ (sites-of s g) (axes-of s g)

  fwd-long : length (fwd_table (extents_of s)) ≡ s.sites * s.axes
  unfolding fwd_table
  fwd-long = length-tab _ 0 _ ∙ sym area

  bwd-long : length (bwd_table (extents_of s)) ≡ s.sites * s.axes
  unfolding bwd_table
  bwd-long = length-tab _ 0 _ ∙ sym area

  module _ {site axis : ℕ} (h : site < s.sites) (k : axis < s.axes) where
    at : (t : List ℕ) → get_or t (site * s.axes + axis) 0 ≡ get_or t (site * length (extents_of s) + axis) 0
    at t = ap (λ (m : ℕ). get_or t (site * m + axis) 0) (axes-of s g)

    next : site * s.axes + (axis + 1) ≡ site * s.axes + axis + 1
    next = omega arith

    pub up_more : (xs ys : List ℕ) → length xs ≡ s.sites * s.axes
        → take (site * s.axes + axis) xs ≡ take (site * s.axes + axis) (fwd_table (extents_of s))
        → ys ≡ set xs (site * s.axes + axis) (fwd (extents_of s) site axis)
        → take (site * s.axes + (axis + 1)) ys ≡ take (site * s.axes + (axis + 1)) (fwd_table (extents_of s))
    up_more xs ys n e u = rw (next, u) (one-more xs _ n fwd-long (row_lt _ _ _ _ h k) e
        (at _ ∙ fwd_table-at (extents_of s) site axis (omega (arith, axes-of s g)) (omega (arith, sites-of s g))))

    pub down_more : (xs ys : List ℕ) → length xs ≡ s.sites * s.axes
        → take (site * s.axes + axis) xs ≡ take (site * s.axes + axis) (bwd_table (extents_of s))
        → ys ≡ set xs (site * s.axes + axis) (bwd (extents_of s) site axis)
        → take (site * s.axes + (axis + 1)) ys ≡ take (site * s.axes + (axis + 1)) (bwd_table (extents_of s))
    down_more xs ys n e u = rw (next, u) (one-more xs _ n bwd-long (row_lt _ _ _ _ h k) e
        (at _ ∙ bwd_table-at (extents_of s) site axis (omega (arith, axes-of s g)) (omega (arith, sites-of s g))))

  -- all rows are the whole table
  pub up-whole : (xs : List ℕ) → length xs ≡ s.sites * s.axes
      → take (s.sites * s.axes) xs ≡ take (s.sites * s.axes) (fwd_table (extents_of s)) → xs ≡ fwd_table (extents_of s)
  up-whole xs n e = sym (take_all _ xs (omega arith)) ∙ e ∙ take_all _ _ (omega (arith, fwd-long))

  pub down-whole : (xs : List ℕ) → length xs ≡ s.sites * s.axes
      → take (s.sites * s.axes) xs ≡ take (s.sites * s.axes) (bwd_table (extents_of s)) → xs ≡ bwd_table (extents_of s)
  down-whole xs n e = sym (take_all _ xs (omega arith)) ∙ e ∙ take_all _ _ (omega (arith, bwd-long))
