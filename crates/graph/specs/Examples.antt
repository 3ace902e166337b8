-- Forests and windings of short lists of bonds, by computation. Each mistake that somebody may make in the definitions changes a value here.
use Rattle.std.specs.Prelude.{◌≡◌, refl, true, false, List, [], ◌∷◌, ℕ, pos, negsuc}
use Rattle.domain.specs.Table.{Row, ◌gives◌, computed, written}
use Rattle.graph.specs.Forest.{Bond, forest, largest, sizes, components}
use Rattle.graph.specs.Winding.{along, winding}

abbrev bond : ℕ → ℕ → ℕ → Bond
bond a b d = record { x = a; y = b; axis = d }

-- shape 2: its two bonds
abbrev pair : List Bond
pair = bond 0 1 0 ∷ bond 1 0 0 ∷ []

-- shape 1×1: its two bonds, both from the site to itself
abbrev point : List Bond
point = bond 0 0 0 ∷ bond 0 0 1 ∷ []

-- shape 2×2: all eight bonds
abbrev square : List Bond
square = bond 0 2 0 ∷ bond 0 1 1 ∷ bond 1 3 0 ∷ bond 1 0 1 ∷ bond 2 0 0 ∷ bond 2 3 1 ∷ bond 3 1 0 ∷ bond 3 2 1 ∷ []

-- shape 2×2: bonds 0 and 4, the two between sites 0 and 2
abbrev column : List Bond
column = bond 0 2 0 ∷ bond 2 0 0 ∷ []

-- shape 1×3: a ring, visited so that a root of lower rank joins
abbrev ring : List Bond
ring = bond 1 2 1 ∷ bond 0 1 1 ∷ bond 2 0 1 ∷ []

-- shape 2×2: two pairs, then joined
abbrev pairs : List Bond
pairs = bond 0 1 1 ∷ bond 2 3 1 ∷ bond 3 1 0 ∷ []

abbrev rows : List Row
rows =
    forest 2 (bond 1 0 0 ∷ []) gives record { roots = 1 ∷ 1 ∷ []; ranks = 0 ∷ 1 ∷ [] }
    ∷ sizes 2 (forest 2 (bond 1 0 0 ∷ [])) gives (0 ∷ 2 ∷ [])
    ∷ forest 2 pair gives record { roots = 0 ∷ 0 ∷ []; ranks = 1 ∷ 0 ∷ [] }
    -- a self-bond closes on its axis
    ∷ (winding (along 0) 1 1 point).wraps gives true
    ∷ (winding (along 1) 1 1 point).wraps gives true
    ∷ forest 4 square gives record { roots = 0 ∷ 0 ∷ 0 ∷ 0 ∷ []; ranks = 1 ∷ 0 ∷ 0 ∷ 0 ∷ [] }
    ∷ largest 4 (forest 4 square) gives 4
    ∷ (winding (along 0) 2 4 square).wraps gives true
    ∷ (winding (along 0) 2 4 square).torn gives false
    -- one of the two bonds of extent 2 closes nothing; both go around the axis, and only that one
    ∷ (winding (along 0) 2 4 (bond 0 2 0 ∷ [])).wraps gives false
    ∷ (winding (along 0) 2 4 column).wraps gives true
    ∷ (winding (along 1) 2 4 column).wraps gives false
    -- the site that joined stands at -1, and the closing displacement is 3
    ∷ (winding (along 1) 3 3 ring).offsets gives (negsuc 0 ∷ pos 0 ∷ pos 1 ∷ [])
    ∷ (winding (along 1) 3 3 ring).wraps gives true
    ∷ (winding (along 1) 3 3 ring).torn gives false
    ∷ components 3 (forest 3 (bond 1 2 1 ∷ [])) gives 2
    -- every site of the loser moves, and only the winner's rank rises
    ∷ forest 4 pairs gives record { roots = 2 ∷ 2 ∷ 2 ∷ 2 ∷ []; ranks = 1 ∷ 0 ∷ 2 ∷ 0 ∷ [] }
    ∷ []

rows-hold : computed rows ≡ written rows
unfolding forest sizes largest components winding along
rows-hold = refl
