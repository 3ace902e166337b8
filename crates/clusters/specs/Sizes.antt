-- What the counts say: the histogram, the largest sizes, the number of large components. Document 01, "One update", step 3 and the observation.
-- `counts` is the component size at each root, 0 elsewhere.
use Rattle.std.specs.Prelude.{ℕ, suc, ◌+◌, ◌/◌, cond, List, [], ◌∷◌, get_or, eqb, ltb, leb}
use Rattle.graph.specs.Forest.{count}
use Rattle.clusters.specs.declared.Top.{Top}

-- how many components have the size s
abbrev pub of_size : ℕ → List ℕ → ℕ
of_size s counts = cond (eqb s 0) 0 (count s counts)

-- a histogram from entry s on: each entry rises by the number of components of its size
unfoldable pub raised : ℕ → List ℕ → List ℕ → List ℕ
unfolding count
raised s counts [] = []
raised s counts (h ∷ hs) = (h + of_size s counts) ∷ raised (suc s) counts hs

-- in descending order
unfoldable pub insert : ℕ → List ℕ → List ℕ
insert x [] = x ∷ []
insert x (y ∷ ys) = cond (ltb x y) (y ∷ insert x ys) (x ∷ y ∷ ys)

unfoldable pub descending : List ℕ → List ℕ
unfolding insert
descending [] = []
descending (x ∷ xs) = insert x (descending xs)

-- the first four, padded with 0
abbrev pub four_of : List ℕ → Top
four_of l = record { first = get_or l 0 0; second = get_or l 1 0; third = get_or l 2 0; fourth = get_or l 3 0 }

-- how many are t or more
unfoldable pub at_least : ℕ → List ℕ → ℕ
at_least t [] = 0
at_least t (x ∷ xs) = cond (leb t x) 1 0 + at_least t xs

-- a twentieth of n, rounded up
abbrev pub twentieth : ℕ → ℕ
twentieth n = (n + 19) / 20
