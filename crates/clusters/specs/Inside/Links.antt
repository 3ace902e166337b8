-- The parent links of the code: each site's parent, itself at a root.
use Rattle.std.specs.Prelude.{◌≡◌, ◌≢◌, List, ℕ, ◌<◌, length, get_or}
use Rattle.graph.specs.Forest.{Forest, root_of, rank_of}

-- A site i and its parent p, in the forest f: a root is its own parent, and up any other link the rank rises and the root stays.
pub record Hung (n : ℕ) (f : Forest) (i p : ℕ) : Type 0 where
  pub parent-lt : p < n
  pub ends : p ≡ i → root_of f i ≡ i
  pub tops : root_of f i ≡ i → p ≡ i
  pub rises : p ≢ i → rank_of f i < rank_of f p
  pub same-root : root_of f p ≡ root_of f i

-- The parents stand for the forest.
pub record Hangs (n : ℕ) (ps : List ℕ) (f : Forest) : Type 0 where
  pub parents-n : length ps ≡ n
  pub hung : (i : ℕ) → i < n → Hung n f i (get_or ps i 0)
