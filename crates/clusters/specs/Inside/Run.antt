-- What the code holds after some bonds: the forest, the winding and the generator of the bonds drawn.
use Rattle.std.specs.Prelude.{◌≡◌, Bool, true, false, List, [], ℕ, ◌+◌, ◌*◌, ◌<◌, T, length, ℤ, Float, Option, Some, None, cond}
use Rattle.generator.specs.declared.Xoshiro256StarStar.{Xoshiro256StarStar}
use Rattle.lattice.specs.Lattice.{sites, extent, in_domain}
use Rattle.bonds.specs.Visit.{all_spins}
use Rattle.graph.specs.Forest.{Bond, forest}
use Rattle.clusters.specs.Inside.Rep.{Rep}
use Rattle.clusters.specs.declared.winding.Marks.{Marks}
use Rattle.clusters.specs.Inside.Sway.{Scene, Swung, marks_of, next}
use Rattle.clusters.specs.declared.Action.{Action}
use Rattle.clusters.specs.Call.{Call}
use Rattle.clusters.specs.Observation.{two_axes}
use Rattle.clusters.specs.Update.{bond_at, drawn}
use Rattle.clusters.specs.declared.fk.Pass.{Pass}

-- the five lists that the pass works on
pub record Lists : Type 0 where
  pub roots : List ℕ
  pub decisions : List ℕ
  pub parents : List ℕ
  pub ranks : List ℕ
  pub offsets : List ℤ

abbrev pub lists : List ℕ → List ℕ → List ℕ → List ℕ → List ℤ → Lists
lists fs ks ps rs os = record { roots = fs; decisions = ks; parents = ps; ranks = rs; offsets = os }

-- the lists are as long as they were
pub record Sized (l₀ l : Lists) : Type 0 where
  pub roots : length l.roots ≡ length l₀.roots
  pub decisions : length l.decisions ≡ length l₀.decisions
  pub parents : length l.parents ≡ length l₀.parents
  pub ranks : length l.ranks ≡ length l₀.ranks
  pub offsets : length l.offsets ≡ length l₀.offsets

-- the extents of the first two axes, and whether there are just two
pub record Plane : Type 0 where
  pub ex : ℕ
  pub ey : ℕ
  pub two : Bool

-- those of two axes
abbrev pub plane_in : Plane → Option (ℕ × ℕ)
plane_in pl = cond pl.two (Some (pl.ex, pl.ey)) None

-- the scene of n sites on a plane, after the bonds bs
abbrev pub scene : ℕ → Plane → List Bond → Scene
scene n pl bs = record { n = n; ex = pl.ex; ey = pl.ey; bonds = bs }

-- the winding is kept where there are two axes
pub record Turned (k : Scene) (l : Lists) (f : Marks) : Type 0 where
  pub swung : Swung k l.parents l.ranks l.offsets
  pub flags : f ≡ marks_of k

pub record Joint (two : Bool) (k : Scene) (l : Lists) (f : Marks) : Type 0 where
  pub rep : Rep l.roots l.decisions (forest k.n k.bonds)
  pub turned : two ≡ true → Turned k l f

-- one bond joined
abbrev pub JoinedBy : Lists → Lists → Bond → Plane → Marks → Marks → Type 0
JoinedBy l l' c pl f r = (n : ℕ) (bs : List Bond) → Joint pl.two (scene n pl bs) l f → Joint pl.two (next (scene n pl bs) c) l' r

abbrev pub Joinable : Lists → Plane → Marks → Type 0
Joinable l pl f = (n : ℕ) × (bs : List Bond) × Joint pl.two (scene n pl bs) l f

-- ---- the call
-- the extents, the generator at the start, and the action
pub record Origin : Type 0 where
  pub extents : List ℕ
  pub generator : Xoshiro256StarStar
  pub action : Action

-- what is lent to the pass to read
pub record Given : Type 0 where
  pub spins : List ℤ
  pub couplings : List Float
  pub weights : List Float
  pub thresholds : List ℕ

abbrev pub given : List ℤ → List Float → List Float → List ℕ → Given
given ss js ws ts = record { spins = ss; couplings = js; weights = ws; thresholds = ts }

abbrev pub call_of : Given → Origin → Call
call_of g o = record {
  extents = o.extents;
  spins = g.spins;
  couplings = g.couplings;
  weights = g.weights;
  thresholds = g.thresholds;
  generator = o.generator;
  action = o.action;
}

abbrev pub plane_of : List ℕ → Plane
plane_of sh = record { ex = extent sh 0; ey = extent sh 1; two = two_axes sh }

-- what a call on a shape of the domain has checked
pub record Fit (g : Given) (sh : List ℕ) : Type 0 where
  pub domain : in_domain sh ≡ true
  pub spins : T (all_spins g.spins)
  pub spins-n : length g.spins ≡ sites sh
  pub couplings-n : length g.couplings ≡ sites sh * length sh
  pub classes : length g.weights ≡ length g.thresholds

-- after the first b bonds
pub record Stands (c : Call) (b : ℕ) (l : Lists) (p : Pass) : Type 0 where
  pub state : p.state ≡ (drawn c b).generator
  pub active : p.active ≡ length (drawn c b).active
  pub joint : Joint (two_axes c.extents) (scene (sites c.extents) (plane_of c.extents) (drawn c b).active) l p.marks

-- bond b is next, which is k
pub record Visit (g : Given) (o : Origin) (l : Lists) (pl : Plane) (p : Pass) (k : Bond) (b : ℕ) : Type 0 where
  pub fit : Fit g o.extents
  pub plane : pl ≡ plane_of o.extents
  pub place : bond_at o.extents b ≡ k
  pub below : b < sites o.extents * length o.extents
  pub here : Stands (call_of g o) b l p

abbrev pub Visitable : Given → Lists → Plane → Pass → Bond → ℕ → Type 0
Visitable g l pl p k b = (o : Origin) × Visit g o l pl p k b

abbrev pub Visited : Given → Lists → Lists → Plane → Pass → Bond → ℕ → Pass → Type 0
Visited g l l' pl p k b r = (o : Origin) → Visit g o l pl p k b → Stands (call_of g o) (b + 1) l' r

-- ---- the loops
-- after b bonds, of every call with these extents
abbrev pub origin : List ℕ → Xoshiro256StarStar → Action → Origin
origin sh g a = record { extents = sh; generator = g; action = a }

pub record SiteAt (g : Given) (o : Origin) (l : Lists) (pl : Plane) (p : Pass) (site : ℕ) : Type 0 where
  pub fit : Fit g o.extents
  pub plane : pl ≡ plane_of o.extents
  pub inside : site < sites o.extents
  pub here : Stands (call_of g o) (site * length o.extents) l p

abbrev pub SiteReady : Given → List ℕ → Lists → Plane → Pass → ℕ → Type 0
SiteReady g sh l pl p site = (x : Xoshiro256StarStar) × (a : Action) × SiteAt g (origin sh x a) l pl p site

abbrev pub SiteDone : Given → List ℕ → Lists → Lists → Plane → Pass → ℕ → Pass → Type 0
SiteDone g sh l l' pl p site r = (x : Xoshiro256StarStar) (a : Action) → SiteAt g (origin sh x a) l pl p site
    → Stands (call_of g (origin sh x a)) ((site + 1) * length sh) l' r

-- at the start: no bonds
pub record Start (g : Given) (sh : List ℕ) (l : Lists) (pl : Plane) : Type 0 where
  pub fit : Fit g sh
  pub plane : pl ≡ plane_of sh
  pub fresh : Joint (two_axes sh) (scene (sites sh) (plane_of sh) []) l (record { x = false; y = false; torn = false })

-- at the end: all bonds
abbrev pub Done : Given → List ℕ → Lists → Xoshiro256StarStar → Pass → Type 0
Done g sh l x r = (a : Action) → Stands (call_of g (origin sh x a)) (sites sh * length sh) l r
