-- The counts of a list of roots, whose ranks do not matter, and one component more in a histogram.
use Rattle.std.specs.Prelude.{ℕ, ◌+◌, cond, List, [], eqb, length, get_or, set}
use Rattle.graph.specs.Forest.{Forest, sizes}

abbrev pub bare : List ℕ → Forest
bare roots = record { roots = roots; ranks = [] }

-- the component size at each root, 0 elsewhere
abbrev pub sizes_of : List ℕ → List ℕ
sizes_of roots = sizes (length roots) (bare roots)

-- one component more, of size c
abbrev pub noted : List ℕ → ℕ → List ℕ
noted hist c = cond (eqb c 0) hist (set hist c (get_or hist c 0 + 1))
