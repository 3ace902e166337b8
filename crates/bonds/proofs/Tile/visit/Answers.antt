-- `bonds::Tile::visit` meets its contract. The contracts of `bond_state` and `activate`, one after the other.
use Rattle.bonds.proofs.Spins.{spin-at, loaded}
use Rattle.bonds.proofs.Tile.visit.Goals as goal

pub bond_state-state-requires-clause-a_is_spin : goal.bond_state-state-requires-clause-a_is_spin
bond_state-state-requires-clause-a_is_spin c =
    let x = c.args in
    let a = spin-at x.self.spins.now x.site x.self.spins_are c.requires.site_in_bounds in
    rw (loaded _ a) a

pub bond_state-state-requires-clause-b_is_spin : goal.bond_state-state-requires-clause-b_is_spin
bond_state-state-requires-clause-b_is_spin c =
    let x = c.args in
    let b = spin-at x.self.spins.now x.next x.self.spins_are c.requires.next_in_bounds in
    rw (loaded _ b) b
