-- What the code's two slices, parent links and ranks, have to do with a forest.
use Rattle.std.specs.Prelude.{ℕ, ◌<◌, ◌≤◌, ◌^◌, ◌≡◌, ◌⊎◌, List, length, get_or}
use Rattle.graph.specs.Forest.{Forest, root_of, count, unite}
use Rattle.clusters.specs.declared.links.Links.{Links}

-- site i, whose link is q: the link stays inside and in the component; a root links to itself, any other site to one of a higher rank
pub record Site (f : Forest) (i q : ℕ) : Type 0 where
  pub inside : q < length f.roots
  pub same : get_or f.roots q 0 ≡ get_or f.roots i 0
  pub up : ((q ≡ i) × (get_or f.roots i 0 ≡ i)) ⊎ ((get_or f.roots i 0 ≡ i → ⊥) × (get_or f.ranks i 0 < get_or f.ranks q 0))

-- a forest that joins can make: as many ranks as sites, each root is its own root, any other site is of lower rank than its root, and a root of
-- rank k has 2^k sites at least
pub record Grown (f : Forest) : Type 0 where
  pub sized : length f.ranks ≡ length f.roots
  pub inside : (i : ℕ) → i < length f.roots → get_or f.roots i 0 < length f.roots
  pub rooted : (i : ℕ) → i < length f.roots → get_or f.roots (get_or f.roots i 0) 0 ≡ get_or f.roots i 0
  pub tall : (i : ℕ) → i < length f.roots → (get_or f.roots i 0 ≡ i → ⊥) → get_or f.ranks i 0 < get_or f.ranks (get_or f.roots i 0) 0
  pub big : (i : ℕ) → i < length f.roots → get_or f.roots i 0 ≡ i → 2 ^ get_or f.ranks i 0 ≤ count i f.roots

pub record Rep (parent rank : List ℕ) (f : Forest) : Type 0 where
  pub grown : Grown f
  pub links : length parent ≡ length f.roots
  pub ranks : rank ≡ f.ranks
  pub site : (i : ℕ) → i < length f.roots → Site f i (get_or parent i 0)

-- the code's two slices hold the forest, and some forest
abbrev pub Holds : Links → Forest → Type 0
Holds l f = Rep l.parent.now l.rank.now f

abbrev pub Valid : Links → Type 0
Valid l = (f : Forest) × Holds l f

-- the same two are lent
abbrev pub SameLinks : Links → Links → Type 0
SameLinks l l' = (l'.parent.ghost_name ≡ l.parent.ghost_name) × (l'.rank.ghost_name ≡ l.rank.ghost_name)

-- links were moved: the slices, now after and rank, hold f still, and what linked to its root does so still
pub record Kept (f : Forest) (before rank after : List ℕ) : Type 0 where
  pub rep : Rep after rank f
  pub flat : (k : ℕ) → get_or before k 0 ≡ get_or f.roots k 0 → get_or after k 0 ≡ get_or f.roots k 0

abbrev pub Moved : Forest → Links → Links → Type 0
Moved f l l' = Kept f l.parent.now l'.rank.now l'.parent.now

-- whatever forest the slices held, r is the root of x there, and they hold it still
abbrev pub Found : Links → Links → ℕ → ℕ → Type 0
Found l l' x r = (f : Forest) → Holds l f → (r ≡ get_or f.roots x 0) × Moved f l l'

-- r is a site of x's component, of a higher rank than x
pub record Higher (f : Forest) (x r : ℕ) : Type 0 where
  pub inside : r < length f.roots
  pub same : get_or f.roots r 0 ≡ get_or f.roots x 0
  pub up : get_or f.ranks x 0 < get_or f.ranks r 0

abbrev pub Climbed : Links → Links → ℕ → ℕ → Type 0
Climbed l l' x r = (f : Forest) → Holds l f → Higher f x r × Moved f l l'

-- the same with x linked to its root
abbrev pub Settled : Links → Links → ℕ → Type 0
Settled l l' x = (f : Forest) → Holds l f → (get_or l'.parent.now x 0 ≡ get_or f.roots x 0) × Moved f l l'

-- the links are the roots
abbrev pub Flattened : Links → Links → Type 0
Flattened l l' = (f : Forest) → Holds l f → (l'.parent.now ≡ f.roots) × (l'.rank.now ≡ f.ranks)

-- whatever forest the slices held, they hold the one in which the roots x and y are joined
abbrev pub Linked : Links → Links → ℕ → ℕ → Type 0
Linked l l' x y = (f : Forest) → Holds l f → Holds l' (unite f x y)

-- whatever forest the slices held, they hold the one in which the sites x and y are joined
abbrev pub Joined : Links → Links → ℕ → ℕ → Type 0
Joined l l' x y = (f : Forest) → Holds l f → Holds l' (unite f (root_of f x) (root_of f y))
