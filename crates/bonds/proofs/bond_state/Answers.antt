-- `bonds::bond_state` meets its contract. The product of two spins fits an i8; the interaction is the coupling or its negation, and its sign picks the state.
use Rattle.std.specs.Float.Ieee.{of_bits}
use Rattle.bonds.proofs.Signs.{interaction-is, pull-is, idle-is}
use Rattle.bonds.proofs.bond_state.Goals as goal

pub returns-then-interaction : goal.returns-then-interaction
unfolding of_bits
returns-then-interaction c =
    let x = c.args in
    pull-is x.a x.b x.coupling _
    (interaction-is x.a x.b x.coupling c.requires.a_is_spin c.requires.b_is_spin c.well_formed.1.1.0.1) c.if-interaction.true

pub returns-else-interaction : goal.returns-else-interaction
unfolding of_bits
returns-else-interaction c =
    let x = c.args in
    idle-is x.a x.b x.coupling _
    (interaction-is x.a x.b x.coupling c.requires.a_is_spin c.requires.b_is_spin c.well_formed.1.1.0.1) c.if-interaction.false
