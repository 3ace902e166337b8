-- The invariant: the entries before this axis's, or of the whole row, are the tables'.
use Rattle.std.proofs.Common.{◌≡◌, ◌+◌, ◌*◌, min, take, length}
use Rattle.lattice.specs.Lattice.{fwd_table, bwd_table}
use Rattle.lattice.specs.Shape.{extents_of}
use Rattle.lattice.proofs.fill_site.Given as goal

abbrev pub invariant-loop-axis : goal.invariant-loop-axis
invariant-loop-axis l =
    (take (l.site.index * l.site.lattice.now.shape.axes + min l.axis l.site.lattice.now.shape.axes) l.up ≡ take (l.site.index * l.site.lattice.now.shape.axes + min l.axis l.site.lattice.now.shape.axes) (fwd_table (extents_of l.site.lattice.now.shape)))
    × (take (l.site.index * l.site.lattice.now.shape.axes + min l.axis l.site.lattice.now.shape.axes) l.down ≡ take (l.site.index * l.site.lattice.now.shape.axes + min l.axis l.site.lattice.now.shape.axes) (bwd_table (extents_of l.site.lattice.now.shape)))
    × (length l.up ≡ l.site.lattice.now.shape.sites * l.site.lattice.now.shape.axes)
    × (length l.down ≡ l.site.lattice.now.shape.sites * l.site.lattice.now.shape.axes)
