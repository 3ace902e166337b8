-- Values of single bonds and of class tables, by computation: what W3, W4 and W9 say of their bonds, and what a mistake would change.
use Rattle.std.specs.Prelude.{◌≡◌, refl, List, [], ◌∷◌, true, false, not, ℕ, pos, negsuc, Float, Ok, Err}
use Rattle.std.specs.Float.{inf, fin}
use Rattle.std.specs.Float.Ieee.{lt, eq}
use Rattle.domain.specs.Numbers.{always, zero_f, one_f, minus_one_f}
use Rattle.domain.specs.Refusals.{Verdict, need_each}
use Rattle.domain.specs.Table.{Row, ◌gives◌, computed, written}
use Rattle.domain.specs.declared.Refusal.TheVariants.{Coupling}
use Rattle.generator.specs.Xoshiro.{step}
use Rattle.generator.specs.Examples.{seed}
use Rattle.bonds.specs.declared.Activation.{Activation}
use Rattle.bonds.specs.declared.BondState.TheVariants.{Pull}
use Rattle.bonds.specs.Bond.{bond_of}
use Rattle.bonds.specs.Classes.{classes_ok, bad_coupling}
use Rattle.bonds.specs.Activation.{activation_of}

-- a bond of like spins and coupling 1, whose class has this threshold
abbrev pulled : ℕ → Activation
pulled t = activation_of (bond_of (pos 1) (pos 1) one_f) (one_f ∷ []) (t ∷ []) seed

-- couplings judged by one class of weight 1
abbrev judged : List Float → Verdict
judged js = need_each (λ j. not (bad_coupling (one_f ∷ []) (5 ∷ []) j)) Coupling 0 js

abbrev pub rows : List Row
rows =
    -- the draw is 2880: a threshold that equals it leaves the bond out
    pulled 2880 gives record { active = false; state = step seed }
    ∷ pulled 2881 gives record { active = true; state = step seed }
    -- never and always: the draw is taken all the same
    ∷ pulled 0 gives record { active = false; state = step seed }
    ∷ pulled always gives record { active = true; state = step seed }
    -- idle: no draw
    ∷ activation_of (bond_of (pos 1) (pos 1) minus_one_f) (one_f ∷ []) (always ∷ []) seed gives record { active = false; state = seed }
    ∷ activation_of (bond_of (pos 1) (pos 1) (fin true 0 (pos 0))) (one_f ∷ []) (always ∷ []) seed gives record { active = false; state = seed }
    -- unlike spins are pulled by a coupling below zero
    ∷ bond_of (pos 1) (negsuc 0) minus_one_f gives Pull one_f
    -- class tables: one class; a repeated weight; a threshold above 2^62; a weight 0
    ∷ classes_ok (one_f ∷ []) (always ∷ []) gives true
    ∷ classes_ok (one_f ∷ one_f ∷ []) (1 ∷ 2 ∷ []) gives false
    ∷ classes_ok (one_f ∷ []) (4611686018427387905 ∷ []) gives false
    ∷ classes_ok (zero_f ∷ []) (1 ∷ []) gives false
    -- zeros of either sign need no class; the first bad bond gives the place
    ∷ judged (minus_one_f ∷ zero_f ∷ fin true 0 (pos 0) ∷ []) gives Ok tt
    ∷ judged (one_f ∷ fin true 0 (pos 0) ∷ inf true ∷ fin false 1 (pos 1) ∷ []) gives Err (Coupling 2)
    ∷ judged (one_f ∷ fin false 1 (pos 1) ∷ []) gives Err (Coupling 1)
    ∷ []

pub rows-hold : computed rows ≡ written rows
unfolding need_each lt eq
rows-hold = refl
