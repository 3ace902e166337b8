-- A call of update or observe: what it is given, what it is lent, and the verdict of its checks, in document 01's order.
use Rattle.std.specs.Prelude.{ℕ, ◌+◌, ◌*◌, Bool, not, List, [], ◌∷◌, length, eqb, ℤ, Float}
use Rattle.domain.specs.declared.Refusal.TheVariants.{Shape, Length, Generator, Classes, Spin, Coupling, Histogram}
use Rattle.domain.specs.Numbers.{is_spin, is_entry}
use Rattle.domain.specs.Refusals.{Verdict, need, every, need_each, checks}
use Rattle.generator.specs.declared.Xoshiro256StarStar.{Xoshiro256StarStar}
use Rattle.generator.specs.Xoshiro.{dead}
use Rattle.lattice.specs.Lattice.{sites, in_domain}
use Rattle.bonds.specs.Classes.{classes_ok, bad_coupling}
use Rattle.clusters.specs.declared.Action.{Action}

-- what is given
pub record Call : Type 0 where
  pub extents : List ℕ
  pub spins : List ℤ
  pub couplings : List Float
  pub weights : List Float
  pub thresholds : List ℕ
  pub generator : Xoshiro256StarStar
  pub action : Action

-- what is lent, besides the spins: the histogram is added to, the others' contents on entry do not matter
pub record Lent : Type 0 where
  pub roots : List ℕ
  pub counts : List ℕ
  pub decisions : List ℕ
  pub histogram : List ℕ
  pub parents : List ℕ
  pub ranks : List ℕ
  pub offsets : List ℤ
  pub marks : List ℕ

-- the number of sites, and of bonds
abbrev pub size : Call → ℕ
size c = sites c.extents

abbrev pub bonds : Call → ℕ
bonds c = size c * length c.extents

-- every length is the one asked for
unfoldable pub lengths_ok : Call → Lent → List Bool
lengths_ok c l =
    eqb (length c.spins) (size c)
    ∷ eqb (length c.couplings) (bonds c)
    ∷ eqb (length l.roots) (size c)
    ∷ eqb (length l.counts) (size c)
    ∷ eqb (length l.decisions) (size c)
    ∷ eqb (length l.histogram) (size c + 1)
    ∷ eqb (length l.parents) (size c)
    ∷ eqb (length l.ranks) (size c)
    ∷ eqb (length l.offsets) (2 * size c)
    ∷ eqb (length l.marks) (2 * size c)
    ∷ []

-- finite, and zero or of a magnitude in a class
abbrev pub is_coupling : Call → Float → Bool
is_coupling c j = not (bad_coupling c.weights c.thresholds j)

-- the checks, in order
unfoldable pub asked : Call → Lent → List Verdict
asked c l =
    need (in_domain c.extents) Shape
    ∷ need (every (lengths_ok c l)) Length
    ∷ need (not (dead c.generator)) Generator
    ∷ need (classes_ok c.weights c.thresholds) Classes
    ∷ need_each is_spin Spin 0 c.spins
    ∷ need_each (is_coupling c) Coupling 0 c.couplings
    ∷ need_each is_entry Histogram 0 l.histogram
    ∷ []

unfoldable pub judge : Call → Lent → Verdict
unfolding asked checks
judge c l = checks (asked c l)
