-- The words in which the claims about calls are said.
use Rattle.std.specs.Prelude.{◌≡◌, ◌≢◌, Bool, cond, List, ℕ, zero, suc, ◌+◌, get_or, ℤ, pos}
use Rattle.domain.specs.Promise.{Promised}
use Rattle.domain.specs.Refusals.{done}
use Rattle.graph.specs.Winding.{along}
use Rattle.graph.specs.Walk.{Walk}
use Rattle.clusters.specs.declared.Observation.{Observation}
use Rattle.clusters.specs.Call.{Call, Lent}
use Rattle.clusters.specs.declared.Seen.{Seen}
use Rattle.clusters.specs.Update.{Outcome, outcome, active}

-- an accepted call: given c and lent l it kept its promise, left o, and answered with s
pub record Ran (c : Call) (l : Lent) (o : Outcome) (s : Seen) : Type 0 where
  pub promised : Promised (outcome c) l o
  pub answered : o.reply ≡ done s

-- a walk over the call's active bonds; a closed one whose sum along axis d is not 0
abbrev pub Joined : Call → ℕ → ℕ → Type 0
Joined c a b = (z : ℤ) × Walk (along 0) (active c) a b z

abbrev pub Wound : Call → ℕ → Type 0
Wound c d = (a : ℕ) × (z : ℤ) × Walk (along d) (active c) a a z × (z ≢ pos 0)

-- the flag of axis 0, and that of axis 1
abbrev pub flag_of : Observation → ℕ → Bool
flag_of o zero = o.winding.x
flag_of o (suc d) = o.winding.y

-- the root, the decision and the spin that an outcome leaves at a site
abbrev pub root_in : Outcome → ℕ → ℕ
root_in o i = get_or o.lent.roots i 0

abbrev pub decision_in : Outcome → ℕ → ℕ
decision_in o i = get_or o.lent.decisions i 0

abbrev pub spin_in : Outcome → ℕ → ℤ
spin_in o i = get_or o.spins i (pos 0)

-- how many of the first k numbers pass a test
unfoldable pub how_many : (ℕ → Bool) → ℕ → ℕ
how_many p zero = 0
how_many p (suc k) = how_many p k + cond (p k) 1 0

-- the same call with other thresholds
abbrev pub raise : Call → List ℕ → Call
raise c ts = record {
  extents = c.extents;
  spins = c.spins;
  couplings = c.couplings;
  weights = c.weights;
  thresholds = ts;
  generator = c.generator;
  action = c.action;
}
