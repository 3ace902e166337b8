-- Calls for the tables of examples, and what the examples look at.
use Rattle.std.specs.Prelude.{Bool, List, [], ◌∷◌, ℕ, ◌+◌, ◌*◌, replicate, ℤ, pos, negsuc, Float}
use Rattle.domain.specs.Numbers.{one_f}
use Rattle.domain.specs.Refusals.{Reply, done, refused}
use Rattle.generator.specs.declared.Xoshiro256StarStar.{Xoshiro256StarStar}
use Rattle.generator.specs.Examples.{seed}
use Rattle.clusters.specs.declared.Action.{Action}
use Rattle.clusters.specs.Call.{Call, Lent, size}
use Rattle.clusters.specs.declared.Seen.{Seen}
use Rattle.clusters.specs.Update.{outcome}

abbrev pub up : ℤ
up = pos 1

abbrev pub down : ℤ
down = negsuc 0

-- a call with a generator and one class of weight 1, by shape, spins, couplings, the threshold and the action
abbrev pub call_from : Xoshiro256StarStar → List ℕ → List ℤ → List Float → ℕ → Action → Call
call_from g sh ss js t a = record { extents = sh; spins = ss; couplings = js; weights = one_f ∷ []; thresholds = t ∷ []; generator = g; action = a }

abbrev pub call : List ℕ → List ℤ → List Float → ℕ → Action → Call
call = call_from seed

-- buffers of the lengths asked for, with a histogram of h everywhere
abbrev pub lent_with : ℕ → Call → Lent
lent_with h c = record {
  roots = replicate (size c) 0;
  counts = replicate (size c) 0;
  decisions = replicate (size c) 0;
  histogram = replicate (size c + 1) h;
  parents = replicate (size c) 0;
  ranks = replicate (size c) 0;
  offsets = replicate (2 * size c) (pos 0);
  marks = replicate (2 * size c) 0;
}

abbrev pub lent : Call → Lent
lent = lent_with 0

-- what a call leaves of the tile
pub record Tile : Type 0 where
  pub roots : List ℕ
  pub counts : List ℕ
  pub decisions : List ℕ
  pub spins : List ℤ

abbrev pub tile : Call → Tile
tile c =
    let o = outcome c (lent c) in
    record { roots = o.lent.roots; counts = o.lent.counts; decisions = o.lent.decisions; spins = o.spins }

-- what it replies: components and active bonds; the four largest sizes and the number of large ones; flags x and y, and torn; the generator
abbrev pub reply : Call → Reply Seen
reply c = (outcome c (lent c)).reply

abbrev pub clusters : Reply Seen → List ℕ
clusters (done s) = s.observation.components ∷ s.observation.active ∷ []
clusters (refused n p) = []

abbrev pub sizes : Reply Seen → List ℕ
sizes (done s) =
    let t = s.observation.top in t.first ∷ t.second ∷ t.third ∷ t.fourth ∷ s.observation.large ∷ []
sizes (refused n p) = []

abbrev pub flags : Reply Seen → List Bool
flags (done s) = s.observation.winding.x ∷ s.observation.winding.y ∷ s.observation.torn ∷ []
flags (refused n p) = []

abbrev pub generator_of : Reply Seen → List Xoshiro256StarStar
generator_of (done s) = s.generator ∷ []
generator_of (refused n p) = []
