-- One update: document 01, "One update", steps 1 to 4, and everything that a call leaves.
use Rattle.std.specs.Prelude.{ℕ, zero, suc, ◌*◌, ◌/◌, ◌%◌, Bool, cond, List, [], ◌∷◌, ◌++◌, length, get_or, set, replicate, eqb, ℤ, pos, neg_ℤ, Result, Ok, Err}
use Rattle.std.specs.Float.{nan}
use Rattle.domain.specs.declared.Refusal.{Refusal}
use Rattle.domain.specs.Refusals.{Verdict, Reply, done, refused_as}
use Rattle.generator.specs.declared.Xoshiro256StarStar.{Xoshiro256StarStar}
use Rattle.generator.specs.Xoshiro.{step, heads_of}
use Rattle.lattice.specs.Lattice.{fwd}
use Rattle.bonds.specs.declared.BondState.{BondState}
use Rattle.bonds.specs.declared.Activation.{Activation}
use Rattle.bonds.specs.Bond.{bond_of}
use Rattle.bonds.specs.Activation.{activation_of}
use Rattle.graph.specs.Forest.{Bond, Forest, forest, sizes}
use Rattle.clusters.specs.Sizes.{raised}
use Rattle.clusters.specs.declared.Action.{Action}
use Rattle.clusters.specs.declared.Action.TheVariants.{Observe, Update}
use Rattle.clusters.specs.declared.Seen.{Seen}
use Rattle.clusters.specs.Call.{Call, Lent, size, bonds, judge}
use Rattle.clusters.specs.Observation.{observation}

-- ---- step 1
-- bond b: from site b / m to its forward neighbour on axis b mod m
abbrev pub bond_at : List ℕ → ℕ → Bond
bond_at sh b = record { x = b / length sh; y = fwd sh (b / length sh) (b % length sh); axis = b % length sh }

abbrev pub spin_at : Call → ℕ → ℤ
spin_at c i = get_or c.spins i (pos 0)

-- idle, or pulling with a weight
abbrev pub state_at : Call → ℕ → BondState
state_at c b = let k = bond_at c.extents b in bond_of (spin_at c k.x) (spin_at c k.y) (get_or c.couplings b nan)

-- bond b visited with the generator g: is it active, and the generator after its draw if it takes one
abbrev pub visit_at : Call → ℕ → Xoshiro256StarStar → Activation
visit_at c b g = activation_of (state_at c b) c.weights c.thresholds g

-- the active bonds so far, in the order of the visits, and the generator
pub record Drawn : Type 0 where
  pub active : List Bond
  pub generator : Xoshiro256StarStar

abbrev pub note : Bond → List Bond → Activation → Drawn
note k active a = record { active = active ++ cond a.active (k ∷ []) []; generator = a.state }

-- after the first b bonds, site by site and direction by direction
unfoldable pub drawn : Call → ℕ → Drawn
drawn c zero = record { active = []; generator = c.generator }
drawn c (suc b) = let d = drawn c b in note (bond_at c.extents b) d.active (visit_at c b d.generator)

-- a bond is active by step 1
abbrev pub is_active : Call → ℕ → Bool
is_active c b = (visit_at c b (drawn c b).generator).active

-- the active bonds of the whole call
abbrev pub active : Call → List Bond
active c = (drawn c (bonds c)).active

-- ---- step 4
-- a coin for each component met so far, 1 or 0 at its root, and 2 everywhere else; with the generator
pub record Coins : Type 0 where
  pub decisions : List ℕ
  pub generator : Xoshiro256StarStar

unfoldable pub toss : ℕ → Coins → Coins
toss r k =
    cond (eqb (get_or k.decisions r 0) 2)
    (record { decisions = set k.decisions r (cond (heads_of k.generator) 1 0); generator = step k.generator })
    k

-- after the first i sites: the first site met of each component draws its coin
unfoldable pub coins : List ℕ → Xoshiro256StarStar → ℕ → Coins
unfolding toss
coins roots g zero = record { decisions = replicate (length roots) 2; generator = g }
coins roots g (suc i) = toss (get_or roots i 0) (coins roots g i)

-- a component with heads is negated whole
unfoldable pub turned : List ℕ → List ℕ → List ℤ → List ℤ
turned decisions (r ∷ rs) (s ∷ ss) = cond (eqb (get_or decisions r 0) 1) (neg_ℤ s) s ∷ turned decisions rs ss
turned decisions (r ∷ rs) [] = []
turned decisions [] ss = []

-- ---- what the action leaves, of a forest, the spins and the generator
pub record Ended : Type 0 where
  pub decisions : List ℕ
  pub spins : List ℤ
  pub generator : Xoshiro256StarStar

unfoldable pub ended : Action → Forest → List ℤ → Xoshiro256StarStar → Ended
unfolding coins turned
ended Observe f spins g = record { decisions = f.ranks; spins = spins; generator = g }
ended Update f spins g =
    let k = coins f.roots g (length f.roots) in
    record { decisions = k.decisions; spins = turned k.decisions f.roots spins; generator = k.generator }

-- ---- the whole call
-- what a call answers: what it has seen, or its refusal
abbrev pub Answer : Type 0
Answer = Result Seen Refusal

abbrev pub reply_of : Answer → Reply Seen
reply_of (Ok s) = done s
reply_of (Err r) = refused_as r

-- what a call leaves: its reply, the spins, and what was lent
pub record Outcome : Type 0 where
  pub reply : Reply Seen
  pub spins : List ℤ
  pub lent : Lent

abbrev pub left : Answer → List ℤ → Lent → Outcome
left r spins lent = record { reply = reply_of r; spins = spins; lent = lent }

abbrev zeros : ℕ → List ℕ
zeros n = replicate n 0

unfoldable pub accepted : Call → Lent → Outcome
unfolding drawn forest sizes raised observation ended
accepted c l =
    let d = drawn c (bonds c) in
    let f = forest (size c) d.active in
    let e = ended c.action f c.spins d.generator in
    let counts = sizes (size c) f in
    left (Ok (record { generator = e.generator; observation = observation c.extents d.active })) e.spins
    (record {
      roots = f.roots;
      counts = counts;
      decisions = e.decisions;
      histogram = raised 0 counts l.histogram;
      parents = zeros (size c);
      ranks = zeros (size c);
      offsets = replicate (2 * size c) (pos 0);
      marks = zeros (2 * size c);
    })

unfoldable pub settled : Call → Lent → Verdict → Outcome
unfolding accepted
settled c l (Ok tt) = accepted c l
settled c l (Err r) = left (Err r) c.spins l

-- what a call leaves: on refusal, everything as it was
unfoldable pub outcome : Call → Lent → Outcome
unfolding judge settled
outcome c l = settled c l (judge c l)
