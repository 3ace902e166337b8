-- The parts of a call that is accepted: what each leaves.
use Rattle.std.specs.Prelude.{◌≡◌, true, ◌&&◌, List, ℕ, ◌+◌, ◌*◌, ◌<◌, ◌≤◌, ◌^◌, length, get_or, ℤ}
use Rattle.generator.specs.declared.Xoshiro256StarStar.{Xoshiro256StarStar}
use Rattle.lattice.specs.Lattice.{sites}
use Rattle.graph.specs.Forest.{Forest, forest, filled}
use Rattle.clusters.specs.Inside.Sway.{marks_of}
use Rattle.clusters.specs.declared.Action.{Action}
use Rattle.clusters.specs.declared.Observation.{Observation}
use Rattle.clusters.specs.Call.{Call, size, bonds}
use Rattle.clusters.specs.Sizes.{four_of, descending, at_least, twentieth}
use Rattle.clusters.specs.Observation.{two_axes}
use Rattle.clusters.specs.Update.{drawn, active}
use Rattle.clusters.specs.declared.winding.Marks.{Marks}
use Rattle.clusters.specs.declared.fk.Pass.{Pass}
use Rattle.clusters.specs.Inside.Run.{Plane, Given, call_of, origin, scene, plane_of, Fit}

-- after the pass, with the roots flattened
pub record Drew (c : Call) (roots decisions : List ℕ) (p : Pass) : Type 0 where
  pub roots-are : roots ≡ (forest (size c) (active c)).roots
  pub ranks-are : decisions ≡ (forest (size c) (active c)).ranks
  pub state : p.state ≡ (drawn c (bonds c)).generator
  pub count : p.active ≡ length (active c)
  pub flags : two_axes c.extents ≡ true → p.marks ≡ marks_of (scene (size c) (plane_of c.extents) (active c))

abbrev pub DrewAll : Given → List ℕ → Xoshiro256StarStar → List ℕ → List ℕ → Pass → Type 0
DrewAll g sh x roots decisions p = (a : Action) → Drew (call_of g (origin sh x a)) roots decisions p

-- what a pass asks of the lists lent to it
pub record Room (g : Given) (sh : List ℕ) (pl : Plane) (fs ks ps rs : List ℕ) (os : List ℤ) : Type 0 where
  pub fit : Fit g sh
  pub plane : pl ≡ plane_of sh
  pub roots : length fs ≡ sites sh
  pub decisions : length ks ≡ sites sh
  pub parents : length ps ≡ sites sh
  pub ranks : length rs ≡ sites sh
  pub offsets : length os ≡ 2 * sites sh

-- the flags, all clear but on two axes
abbrev pub shown : Plane → Marks → Marks
shown pl f = record { x = pl.two && f.x; y = pl.two && f.y; torn = pl.two && f.torn }

-- the observation, from the counts and the pass
abbrev pub observed_by : List ℕ → Plane → Pass → Observation
observed_by counts pl p = record {
  components = filled counts;
  active = p.active;
  top = four_of (descending counts);
  large = at_least (twentieth (length counts)) counts;
  winding = record { x = pl.two && p.marks.x; y = pl.two && p.marks.y };
  torn = pl.two && p.marks.torn;
}

-- what the tallies ask
pub record Countable (roots counts hist : List ℕ) : Type 0 where
  pub counts-n : length counts ≡ length roots
  pub few : length roots ≤ 16777216
  pub hist-n : length hist ≡ length roots + 1
  pub low : (s : ℕ) → s < length hist → get_or hist s 0 ≤ 2 ^ 63

-- a forest from its two lists
abbrev pub held : List ℕ → List ℕ → Forest
held roots ranks = record { roots = roots; ranks = ranks }
