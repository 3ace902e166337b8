-- A whole call over the lists that are lent to it.
use Rattle.std.specs.Prelude.{◌≡◌, List, ℕ, ◌+◌, ◌*◌, ◌<◌, ◌≤◌, ◌^◌, length, get_or, ℤ, Float}
use Rattle.generator.specs.declared.Xoshiro256StarStar.{Xoshiro256StarStar}
use Rattle.lattice.specs.Lattice.{sites}
use Rattle.clusters.specs.declared.Action.{Action}
use Rattle.clusters.specs.Call.{Call, Lent}
use Rattle.clusters.specs.Inside.Run.{Given, Fit}

abbrev pub call_by : List ℕ → List ℤ → List Float → List Float → List ℕ → Xoshiro256StarStar → Action → Call
call_by sh ss js ws ts g a = record { extents = sh; spins = ss; couplings = js; weights = ws; thresholds = ts; generator = g; action = a }

abbrev pub lent_by : List ℕ → List ℕ → List ℕ → List ℕ → List ℕ → List ℕ → List ℤ → List ℕ → Lent
lent_by fs cs ks hs ps rs os ms =
    record { roots = fs; counts = cs; decisions = ks; histogram = hs; parents = ps; ranks = rs; offsets = os; marks = ms }

-- what the checks have shown of what is lent
pub record Ready (sh : List ℕ) (g : Given) (l : Lent) : Type 0 where
  pub fit : Fit g sh
  pub roots-n : length l.roots ≡ sites sh
  pub counts-n : length l.counts ≡ sites sh
  pub decisions-n : length l.decisions ≡ sites sh
  pub histogram-n : length l.histogram ≡ sites sh + 1
  pub parents-n : length l.parents ≡ sites sh
  pub ranks-n : length l.ranks ≡ sites sh
  pub offsets-n : length l.offsets ≡ 2 * sites sh
  pub marks-n : length l.marks ≡ 2 * sites sh
  pub low : (s : ℕ) → s < length l.histogram → get_or l.histogram s 0 ≤ 2 ^ 63
