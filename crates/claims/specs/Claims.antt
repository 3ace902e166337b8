-- What is proved of the calls of `fk_update`, on one page, in the words of Terms. `Ran c l o s`: a call that was given c and lent l, kept its promise, left
-- o and answered with s. The proofs are in Laws.
use Rattle.std.specs.Prelude.{◌≡◌, ◌↔◌, ◌≢◌, true, false, cond, length, get_or, eqb, ℤ, neg_ℤ, Err}
use Rattle.std.proofs.Common.{sym, ◌∙◌, subst, arith}
use Rattle.std.proofs.Math.Path.{ap}
use Rattle.std.proofs.Math.Bool.{and-false}
use mathlib.Core.List.{List, Memᴰ}
use Prim.Native.Nat.{ℕ, zero, suc, ◌≤◌, ◌<◌}
use borrow.Author.Tests.{eq-eqb}
use Rattle.domain.specs.declared.Refusal.{Refusal}
use Rattle.domain.specs.Promise.{Promised}
use Rattle.lattice.specs.Lattice.{extent, coord}
use Rattle.lattice.proofs.Laws.Neighbours.{domain}
use Rattle.graph.specs.Forest.{Bond, root_of, total, largest, components}
use Rattle.graph.specs.Winding.{along}
use Rattle.graph.specs.Walk.{Walk, Among, Multiple}
use Rattle.graph.proofs.Theorems as T
use Rattle.clusters.specs.declared.Action.TheVariants.{Observe, Update}
use Rattle.clusters.specs.declared.Observation.{Observation}
use Rattle.clusters.specs.Call.{Call, Lent, size, bonds, judge}
use Rattle.clusters.specs.Observation.{observation, two_axes}
use Rattle.clusters.specs.declared.Seen.{Seen}
use Rattle.clusters.specs.Update.{Outcome, left, bond_at, spin_at, drawn, is_active, active, ended, accepted, outcome}
use Rattle.clusters.proofs.Laws.Places.{one-step}
use Rattle.clusters.proofs.Laws.Drawn.{drawn-sound}
use Rattle.clusters.proofs.Laws.Outcome as O
use Rattle.claims.specs.Terms.{Ran, Joined, Wound, flag_of, root_in, decision_in, spin_in, how_many, raise}
use Rattle.claims.specs.Laws.Accepted.{in-domain, spins-full, ok, leaves, observes, same-generator}
use Rattle.claims.specs.Laws.Calls as A
use Rattle.claims.specs.Laws.Calls.{tossed}
use Rattle.claims.specs.Laws.Coins as C
use Rattle.claims.specs.Laws.Drawn as D
use Rattle.claims.specs.Laws.Largest.{first-greatest}

-- ---- 1. A refused call leaves everything as it was.
pub refused-unchanged : (c : Call) (l : Lent) (r : Refusal) (o : Outcome) → Promised (outcome c) l o → judge c l ≡ Err r → o ≡ left (Err r) c.spins l
refused-unchanged c l r o = O.refused-unchanged c l r

-- What an accepted one leaves does not turn on what the lent buffers held, the histogram apart.
pub entry-is-free : (c : Call) (l m : Lent) (o p : Outcome) (s t : Seen) → Ran c l o s → Ran c m p t → l.histogram ≡ m.histogram → o ≡ p
entry-is-free c l m o p s t ran ran' e = leaves c l o s ran ∙ A.same-accepted c l m e ∙ sym (leaves c m p t ran')

module _ (c : Call) (l : Lent) (o : Outcome) (s : Seen) (ran : Ran c l o s) where
  -- ---- 2. The active bonds are the bonds active by step 1, and the active count is the number of them.
  pub active-are : (k : Bond) → Memᴰ k (active c) → (b : ℕ) × (b < bonds c) × (is_active c b ≡ true) × (k ≡ bond_at c.extents b)
  active-are = drawn-sound c (bonds c)

  pub all-active : (b : ℕ) → b < bonds c → is_active c b ≡ true → Memᴰ (bond_at c.extents b) (active c)
  all-active = D.drawn-complete c (bonds c)

  pub active-count : s.observation.active ≡ how_many (is_active c) (bonds c)
  unfolding observation
  active-count = ap (λ (x : Observation). x.active) (observes c l o s ran) ∙ D.drawn-count c (bonds c)

  -- ---- 3. Two sites share a root exactly when a walk over active bonds leads from one to the other. The counts sum to n.
  pub joined : (a b : ℕ) → a < size c → b < size c → (root_in o a ≡ root_in o b) ↔ Joined c a b
  joined a b ha hb = rw (A.roots-are c l o s ran a, A.roots-are c l o s ran b) (T.joined (along 0) (size c) (active c) (A.inside c l o s ran) a b ha hb)

  pub counts-total : total o.lent.counts ≡ size c
  unfolding accepted
  counts-total = ap (λ (x : Outcome). total x.lent.counts) (leaves c l o s ran) ∙ T.sizes-total (size c) (active c) (A.inside c l o s ran)

  -- ---- 4. With two axes, an axis's flag is set exactly when some closed walk over active bonds has steps on that axis that do not sum to 0.
  pub flag : length c.extents ≡ 2 → (d : ℕ) → d < 2 → (flag_of s.observation d ≡ true) ↔ Wound c d
  unfolding observation
  flag two zero h = rw (observes c l o s ran, eq-eqb (length c.extents) 2 two) (A.flag c l o s ran 0)
  flag two (suc zero) h = rw (observes c l o s ran, eq-eqb (length c.extents) 2 two) (A.flag c l o s ran 1)
  flag two (suc (suc d)) h = absurd (omega arith)

  -- A closed walk sums to a multiple of its axis's extent, so that torn is never set.
  pub closed-multiple : (d a : ℕ) (z : ℤ) → Walk (along d) (active c) a a z → Multiple (extent c.extents d) z
  closed-multiple d a z = T.closed-multiple d (extent c.extents d) (active c) (λ i. coord c.extents i d) (one-step c (in-domain c l (ok c l o s ran)) d)

  pub never-torn : s.observation.torn ≡ false
  unfolding observation
  never-torn = rw (observes c l o s ran, A.whole c l o s ran 0, A.whole c l o s ran 1) (and-false (two_axes c.extents))

  -- ---- 5. Observing leaves the spins, and the decision bytes hold the ranks, none above 24.
  module _ (observe : c.action ≡ Observe) where
    pub spins-stay : o.spins ≡ c.spins
    unfolding accepted ended
    spins-stay = ap (λ (x : Outcome). x.spins) (leaves c l o s ran) ∙ rw observe

    pub decisions-are-ranks : o.lent.decisions ≡ (A.trees c).ranks
    unfolding accepted ended
    decisions-are-ranks = ap (λ (x : Outcome). x.lent.decisions) (leaves c l o s ran) ∙ rw observe

    pub ranks-fit : (i : ℕ) → i < size c → decision_in o i ≤ 24
    ranks-fit i h = rw decisions-are-ranks (T.rank-le (size c) (active c) (A.inside c l o s ran) 24 (domain c.extents (in-domain c l (ok c l o s ran))).few i h)

  -- Updating: each component has a coin at its root, 1 or 0; a 2 stands at every other site; a component with heads is negated whole.
  module _ (update : c.action ≡ Update) where
    pub coin-at-root : (i : ℕ) → i < size c → decision_in o (root_in o i) < 2
    unfolding tossed
    coin-at-root i h =
        rw (A.decisions-are c l o s ran update, A.roots-are c l o s ran i)
        (C.coin-at-root (A.trees c).roots (A.roots_in c l o s ran) (drawn c (bonds c)).generator i (omega (arith, (A.sound c l o s ran).roots-n)))

    pub two-elsewhere : (j : ℕ) → j < size c → root_in o j ≢ j → ◌≡◌ {A = ℕ} (decision_in o j) 2
    unfolding tossed
    two-elsewhere j h f =
        let w = A.sound c l o s ran in
        rw (A.decisions-are c l o s ran update)
        (C.two-elsewhere (A.trees c).roots (A.roots_in c l o s ran) (drawn c (bonds c)).generator j (omega (arith, w.roots-n))
        (λ k q e. f (A.roots-are c l o s ran j ∙ ap (root_of (A.trees c)) (sym e) ∙ w.root-root k (omega (arith, w.roots-n)) ∙ e)))

    pub heads-negate : (i : ℕ) → i < size c → spin_in o i ≡ cond (eqb (decision_in o (root_in o i)) 1) (neg_ℤ (spin_at c i)) (spin_at c i)
    heads-negate i h =
        let full = spins-full c l (ok c l o s ran) in
        rw (A.spins-are c l o s ran update, A.decisions-are c l o s ran update, A.roots-are c l o s ran i)
        (C.turned-at (tossed c).decisions (A.trees c).roots c.spins ((A.sound c l o s ran).roots-n ∙ sym full) i (omega arith))

-- ---- 6. Growth: an accepted call, and the same call with other thresholds, none of them lower, accepted too.
module _ (c : Call) (l : Lent) (o : Outcome) (s : Seen) (ran : Ran c l o s) (us : List ℕ) (m : Lent) (p : Outcome) (t : Seen) (ran' : Ran (raise c us) m p t)
    (higher : (i : ℕ) → get_or c.thresholds i 0 ≤ get_or us i 0) where
  -- every active bond stays active
  pub active-grows : Among (active c) (active (raise c us))
  active-grows k q =
      let w = drawn-sound c (bonds c) k q in
      subst (λ (b : Bond). Memᴰ b (active (raise c us))) (sym w.3)
      (D.drawn-complete (raise c us) (bonds c) w.0 w.1 (D.more-active c us (A.same_length c l o s ran us m p t ran') higher w.0 w.2))

  -- joined sites stay joined
  pub joined-stays : (a b : ℕ) → a < size c → b < size c → root_in o a ≡ root_in o b → root_in p a ≡ root_in p b
  joined-stays a b ha hb e =
      A.roots-are (raise c us) m p t ran' a
      ∙ T.joined-grows (size c) (active c) (active (raise c us)) active-grows (A.inside (raise c us) m p t ran') a b ha hb
      (sym (A.roots-are c l o s ran a) ∙ e ∙ A.roots-are c l o s ran b)
      ∙ sym (A.roots-are (raise c us) m p t ran' b)

  -- a set flag stays set
  pub flag-stays : (d : ℕ) → d < 2 → flag_of s.observation d ≡ true → flag_of t.observation d ≡ true
  unfolding observation
  flag-stays zero h e = rw (observes (raise c us) m p t ran') (A.flag-stays c l o s ran us m p t ran' active-grows 0 (two_axes c.extents) (rw (observes c l o s ran) at e))
  flag-stays (suc zero) h e = rw (observes (raise c us) m p t ran') (A.flag-stays c l o s ran us m p t ran' active-grows 1 (two_axes c.extents) (rw (observes c l o s ran) at e))
  flag-stays (suc (suc d)) h e = absurd (omega arith)

  -- the largest component does not shrink, and the components are no more
  pub largest-stays : s.observation.top.first ≤ t.observation.top.first
  unfolding observation largest
  largest-stays =
      rw (observes c l o s ran, observes (raise c us) m p t ran')
      (simp first-greatest (T.largest-grows (size c) (active c) (active (raise c us)) active-grows (A.inside (raise c us) m p t ran')))

  pub components-fall : t.observation.components ≤ s.observation.components
  unfolding observation components
  components-fall =
      rw (observes c l o s ran, observes (raise c us) m p t ran')
      (T.components-fall (size c) (active c) (active (raise c us)) active-grows (A.inside (raise c us) m p t ran'))

  -- and two observing calls end with one generator
  pub one-generator : c.action ≡ Observe → s.generator ≡ t.generator
  one-generator observe =
      same-generator c l o s ran observe
      ∙ sym (same-generator (raise c us) m p t ran' observe ∙ D.one-generator c us (A.same_length c l o s ran us m p t ran') higher (bonds c))
