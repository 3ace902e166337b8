-- `Lattice::new` meets its contract.
use Rattle.std.proofs.Common.{◌∙◌, sym}
use Rattle.lattice.proofs.Laws.Neighbours.{domain}
use Rattle.lattice.proofs.Laws.Shape.{made}
use Rattle.lattice.proofs.lattice.Lattice.new.Goals as goal

pub shape_of-shape-requires-clause-extents_len_bound : goal.shape_of-shape-requires-clause-extents_len_bound
shape_of-shape-requires-clause-extents_len_bound c = (domain _ (sym c.in_domain.ensures ∙ c.if-not-in_domain.false)).four

pub shape_of-shape-requires-clause-extents_value : goal.shape_of-shape-requires-clause-extents_value
shape_of-shape-requires-clause-extents_value c = (domain _ (sym c.in_domain.ensures ∙ c.if-not-in_domain.false)).range

pub invariant_of-result : goal.invariant_of-result
invariant_of-result c = record { good = (made _ (sym c.in_domain.ensures ∙ c.if-not-in_domain.false) c.shape_of-shape.ensures).good }
