-- What the checks give: their verdict, and what the call reads.
use Rattle.std.specs.Prelude.{◌≡◌, List, ℕ, ℤ, Float, Result, Ok, Err}
use Rattle.domain.specs.declared.Refusal.{Refusal}
use Rattle.domain.specs.Refusals.{Verdict}
use Rattle.lattice.specs.Shape.{shape_for, extents_of}
use Rattle.clusters.specs.declared.input.Input.{Input}
use Rattle.clusters.specs.declared.fk.Lists.{Lists as CodeLists}
use Rattle.clusters.specs.Inside.Join.{SameLists}
use Rattle.clusters.specs.Inside.Rep.{SameLinks}
use Rattle.clusters.specs.Inside.Run.{Given, given, Lists, lists}

-- the verdict of checks that give a value where they pass
abbrev pub verdict_of : {A : Type 0} → Result A Refusal → Verdict
verdict_of (Ok a) = Ok tt
verdict_of (Err r) = Err r

-- what is read, as lists
abbrev pub given_of : Input → Given
given_of k = given k.tile.spins.now k.tile.couplings.now k.tile.classes.weights.now k.tile.classes.thresholds.now

abbrev pub extents_in : Input → List ℕ
extents_in k = extents_of k.lattice.shape

-- it is what was given
pub record Reads (k : Input) (sh : List ℕ) (ss : List ℤ) (js ws : List Float) (ts : List ℕ) : Type 0 where
  pub shape : k.lattice.shape ≡ shape_for sh
  pub tile : given_of k ≡ given ss js ws ts

-- the five lists of a pass
abbrev pub lists_of : CodeLists → Lists
lists_of l = lists l.links.now.parent.now l.links.now.rank.now l.winding.now.parents.now l.winding.now.ranks.now l.winding.now.offsets.now

-- the same five are lent
abbrev pub SameLent : CodeLists → CodeLists → Type 0
SameLent l l' =
    (l'.links.ghost_name ≡ l.links.ghost_name) × (l'.winding.ghost_name ≡ l.winding.ghost_name)
    × SameLinks l.links.now l'.links.now × SameLists l.winding.now l'.winding.now
