-- What the claims' proofs need of an accepted call's outcome.
use Rattle.std.specs.Prelude.{◌≡◌, ◌↔◌, Bool, ◌&&◌, List, ℕ, ◌<◌, length, get_or}
use Rattle.std.proofs.Common.{sym, ◌∙◌, arith}
use Rattle.std.proofs.Math.Path.{ap}
use Rattle.std.proofs.Math.Bool.{true, false}
use Rattle.lattice.specs.Lattice.{extent, coord}
use Rattle.graph.specs.Forest.{Forest, root_of, forest, Sound}
use Rattle.graph.specs.Winding.{along}
use Rattle.graph.specs.Walk.{Among, Within}
use Rattle.graph.proofs.Theorems as T
use Rattle.graph.proofs.Laws.Roots.{sound-forest}
use Rattle.clusters.specs.declared.Action.TheVariants.{Update}
use Rattle.clusters.specs.Call.{Call, Lent, size, bonds}
use Rattle.clusters.specs.Observation.{winding_of}
use Rattle.clusters.specs.declared.Seen.{Seen}
use Rattle.clusters.specs.Update.{Outcome, Coins, drawn, active, coins, turned, ended, accepted}
use Rattle.claims.specs.Terms.{Ran, Wound, root_in, raise}
use Rattle.claims.specs.Laws.Accepted.{in-domain, one-length, ok, leaves}
use Rattle.clusters.proofs.Laws.Places.{within, one-step}

-- the forest of a call
abbrev pub trees : Call → Forest
trees c = forest (size c) (active c)

-- its coins, where it updates
unfoldable pub tossed : Call → Coins
tossed c = coins (trees c).roots (drawn c (bonds c)).generator (length (trees c).roots)

module _ (c : Call) (l : Lent) (o : Outcome) (s : Seen) (ran : Ran c l o s) where
  pub inside : Within (size c) (active c)
  inside = within c (in-domain c l (ok c l o s ran))

  pub sound : Sound (size c) (trees c)
  sound = sound-forest (size c) (active c) inside

  pub roots_in : (k : ℕ) → k < length (trees c).roots → get_or (trees c).roots k 0 < length (trees c).roots
  roots_in k h = omega (arith, sound.roots-n, sound.root-lt k (omega (arith, sound.roots-n)))

  pub roots-are : (i : ℕ) → root_in o i ≡ root_of (trees c) i
  unfolding accepted
  roots-are i = ap (λ (x : Outcome). root_in x i) (leaves c l o s ran)

  pub decisions-are : c.action ≡ Update → o.lent.decisions ≡ (tossed c).decisions
  unfolding accepted ended tossed
  decisions-are update = ap (λ (x : Outcome). x.lent.decisions) (leaves c l o s ran) ∙ rw update

  pub spins-are : c.action ≡ Update → o.spins ≡ turned (tossed c).decisions (trees c).roots c.spins
  unfolding accepted ended tossed
  spins-are update = ap (λ (x : Outcome). x.spins) (leaves c l o s ran) ∙ rw update

  pub flag : (d : ℕ) → ((winding_of c.extents d (active c)).wraps ≡ true) ↔ Wound c d
  unfolding winding_of
  flag d = T.flag (along d) (extent c.extents d) (size c) (active c) inside

  pub whole : (d : ℕ) → (winding_of c.extents d (active c)).torn ≡ false
  unfolding winding_of
  whole d = T.torn-never d (extent c.extents d) (size c) (active c) (λ i. coord c.extents i d) (one-step c (in-domain c l (ok c l o s ran)) d) inside

-- the histogram is all that an accepted call reads of the lent buffers
pub same-accepted : (c : Call) (l m : Lent) → l.histogram ≡ m.histogram → accepted c l ≡ accepted c m
unfolding accepted
same-accepted c l m e = rw e

module _ (c : Call) (l : Lent) (o : Outcome) (s : Seen) (ran : Ran c l o s) (us : List ℕ) (m : Lent) (p : Outcome) (t : Seen) (ran' : Ran (raise c us) m p t) where
  pub same_length : length c.thresholds ≡ length us
  same_length = sym (one-length c l (ok c l o s ran)) ∙ one-length (raise c us) m (ok (raise c us) m p t ran')

  pub flag-stays : Among (active c) (active (raise c us)) → (d : ℕ) (two : Bool)
      → (two && (winding_of c.extents d (active c)).wraps) ≡ true → (two && (winding_of c.extents d (active (raise c us))).wraps) ≡ true
  unfolding winding_of
  flag-stays among d true e = T.flag-grows (size c) (active c) (active (raise c us)) among (inside (raise c us) m p t ran') (along d) (extent c.extents d) e
  flag-stays among d false e = e
