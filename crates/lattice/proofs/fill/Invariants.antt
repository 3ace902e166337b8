-- The invariant: the site is the next one of the lattice, and the rows before it are the tables'.
use Rattle.std.proofs.Common.{◌≡◌, ◌*◌, take, length}
use Rattle.lattice.specs.Lattice.{fwd_table, bwd_table}
use Rattle.lattice.specs.Shape.{extents_of}
use Rattle.lattice.proofs.fill.Given as goal

abbrev pub invariant-loop : goal.invariant-loop
invariant-loop l =
    (l.site.lattice.now ≡ l.lattice)
    × (l.site.index ≡ l.counter)
    × (take (l.site.index * l.lattice.shape.axes) l.up ≡ take (l.site.index * l.lattice.shape.axes) (fwd_table (extents_of l.lattice.shape)))
    × (take (l.site.index * l.lattice.shape.axes) l.down ≡ take (l.site.index * l.lattice.shape.axes) (bwd_table (extents_of l.lattice.shape)))
    × (length l.up ≡ l.lattice.shape.sites * l.lattice.shape.axes)
    × (length l.down ≡ l.lattice.shape.sites * l.lattice.shape.axes)
