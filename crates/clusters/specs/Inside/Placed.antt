-- One more among the four largest.
use Rattle.std.specs.Prelude.{◌≡◌, List, ℕ}
use Rattle.clusters.specs.declared.Top.{Top}
use Rattle.clusters.specs.Sizes.{insert, four_of}

-- of whatever list t is the first four, r is the first four with x put in
abbrev pub Placed : Top → ℕ → Top → Type 0
Placed t x r = (l : List ℕ) → t ≡ four_of l → r ≡ four_of (insert x l)
