-- The shape that the code carries, and where its loops stand: what the contracts of the steps cite.
use Rattle.std.specs.Prelude.{ℕ, ◌*◌, ◌%◌, ◌≤◌, ◌<◌, ◌≡◌, true, List, [], ◌∷◌, length, take}
use Rattle.lattice.specs.Lattice.{sites, extent, stride, in_domain}
use Rattle.lattice.specs.declared.Shape.{Shape}

-- the values at 0, 1, 2, 3
abbrev pub four : (ℕ → ℕ) → List ℕ
four f = f 0 ∷ f 1 ∷ f 2 ∷ f 3 ∷ []

-- the shape of a list of at most four extents; past the last axis stand ones
unfoldable pub shape_for : List ℕ → Shape
shape_for sh = record { axes = length sh; sites = sites sh; extents = four (extent sh); strides = four (stride sh) }

-- the list of extents of a shape
unfoldable pub extents_of : Shape → List ℕ
extents_of s = take s.axes s.extents

-- a shape that is the one of its extents, and in the domain
pub record Good (s : Shape) : Type 0 where
  pub whole : s ≡ shape_for (extents_of s)
  pub within : in_domain (extents_of s) ≡ true

-- site i on an axis of extent e and stride s, with its rest in its block of e·s sites
pub record OnAxis (e s i rest : ℕ) : Type 0 where
  pub wide : 0 < e
  pub apart : 0 < s
  pub block : e * s ≤ 16777216
  pub site : i < 16777216
  pub left : rest ≡ i % (e * s)

-- the rests of site i in its blocks, one for each of the four axes
unfoldable pub rests_for : List ℕ → ℕ → List ℕ
rests_for sh i = four (λ d. i % (extent sh d * stride sh d))
