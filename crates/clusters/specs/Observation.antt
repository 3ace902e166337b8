-- What a list of active bonds says of a shape: document 01, the observation.
use Rattle.std.specs.Prelude.{Bool, ◌&&◌, ◌||◌, List, ℕ, length, eqb}
use Rattle.lattice.specs.Lattice.{sites, extent}
use Rattle.graph.specs.Forest.{Bond, forest, sizes, filled}
use Rattle.graph.specs.Winding.{Winding, winding, along}
use Rattle.clusters.specs.Sizes.{descending, four_of, at_least, twentieth}
use Rattle.clusters.specs.declared.Observation.{Observation}

abbrev pub two_axes : List ℕ → Bool
two_axes sh = eqb (length sh) 2

-- the winding along axis d
unfoldable pub winding_of : List ℕ → ℕ → List Bond → Winding
unfolding winding along
winding_of sh d active = winding (along d) (extent sh d) (sites sh) active

unfoldable pub observation : List ℕ → List Bond → Observation
unfolding forest sizes filled descending at_least winding_of
observation sh active =
    let counts = sizes (sites sh) (forest (sites sh) active) in
    record {
      components = filled counts;
      active = length active;
      top = four_of (descending counts);
      large = at_least (twentieth (sites sh)) counts;
      winding = record { x = two_axes sh && (winding_of sh 0 active).wraps; y = two_axes sh && (winding_of sh 1 active).wraps };
      torn = two_axes sh && ((winding_of sh 0 active).torn || (winding_of sh 1 active).torn);
    }
