-- The winding of a list of active bonds, for one axis. `step c` is how far the bond c goes along that axis (`along d` for axis d), and e is
-- the axis's extent. Each site has an offset, its displacement from its root.
use Rattle.std.specs.Prelude.{Bool, false, not, ◌||◌, ℕ, ◌%◌, eqb, ltb, get_or, replicate, ℤ, pos, ◌+ℤ◌, ◌-ℤ◌, neg_ℤ, nat_abs}
use Rattle.std.proofs.Math.Bool.{cond}
use mathlib.Core.List.{List, [], ◌∷◌}
use Rattle.graph.specs.Forest.{Bond, Forest, root_of, rank_of, fresh, absorb}

unfoldable pub along : ℕ → Bond → ℤ
along d c = cond (eqb c.axis d) (pos 1) (pos 0)

pub record Winding : Type 0 where
  pub trees : Forest
  pub offsets : List ℤ
  pub wraps : Bool
  pub torn : Bool

abbrev pub root : Winding → ℕ → ℕ
root s i = root_of s.trees i

abbrev pub rank : Winding → ℕ → ℕ
rank s i = rank_of s.trees i

abbrev pub offset : Winding → ℕ → ℤ
offset s i = get_or s.offsets i (pos 0)

unfoldable pub still : ℕ → Winding
unfolding fresh
still n = record { trees = fresh n; offsets = replicate n (pos 0); wraps = false; torn = false }

-- d more for each site whose root is l
unfoldable pub shift : ℕ → ℤ → List ℕ → List ℤ → List ℤ
shift l d (r ∷ rs) (o ∷ os) = cond (eqb r l) (d +ℤ o) o ∷ shift l d rs os
shift l d (r ∷ rs) [] = []
shift l d [] os = []

-- the root w takes over the sites of the root l, which stands d from w
unfoldable pub attach : Winding → ℕ → ℕ → ℤ → Winding
unfolding absorb shift
attach s w l d = record {
  trees = absorb s.trees w l;
  offsets = shift l d s.trees.roots s.offsets;
  wraps = s.wraps;
  torn = s.torn;
}

-- a closing bond, d the displacement around it
unfoldable pub close : ℕ → Winding → ℤ → Winding
close e s d = record {
  trees = s.trees;
  offsets = s.offsets;
  wraps = s.wraps || not (eqb (nat_abs d) 0);
  torn = s.torn || not (eqb (nat_abs d % e) 0);
}

module _ (step : Bond → ℤ) (e : ℕ) where
  -- from the root of x over the bond to the root of y
  unfoldable pub around : Winding → Bond → ℤ
  around s c = offset s c.x +ℤ step c -ℤ offset s c.y

  unfoldable pub wind : Winding → Bond → Winding
  unfolding attach close around
  wind s c =
      cond (eqb (root s c.x) (root s c.y)) (close e s (around s c))
      (cond (ltb (rank s (root s c.x)) (rank s (root s c.y)))
      (attach s (root s c.y) (root s c.x) (neg_ℤ (around s c)))
      (attach s (root s c.x) (root s c.y) (around s c)))

  unfoldable pub winds : Winding → List Bond → Winding
  unfolding wind
  winds s [] = s
  winds s (c ∷ cs) = winds (wind s c) cs

  -- the winding of n sites and the active bonds
  unfoldable pub winding : ℕ → List Bond → Winding
  unfolding still winds
  winding n bonds = winds (still n) bonds
