-- The coins of step 4: each component has one, at its root, and there are no others.
use Rattle.std.specs.Prelude.{◌≡◌, refl, ◌≢◌, Bool, true, false, cond, List, [], ◌∷◌, length, get_or, set, replicate, eqb, ℤ, pos, neg_ℤ}
use Rattle.std.proofs.Common.{sym, ap, ◌∙◌, subst, not-suc-le-zero, le_of_suc-le-suc, arith, length-set, get_or-set_same, get_or-set_other}
use Prim.Native.Nat.{ℕ, zero, suc, ◌≤◌, ◌<◌}
use Rattle.std.proofs.Math.Decide.{ℕ_discrete}
use Rattle.std.proofs.lemmas.List.{length-replicate, get_or-replicate}
use Rattle.std.proofs.Math.Dec.{T, T_not}
use Rattle.generator.specs.declared.Xoshiro256StarStar.{Xoshiro256StarStar}
use Rattle.generator.specs.Xoshiro.{step, heads_of}
use Rattle.graph.proofs.Laws.Lookup.{by-test}
use Rattle.clusters.specs.Update.{Coins, coins, turned}

coin-small : (b : Bool) → cond b 1 0 < 2
coin-small true = omega arith
coin-small false = omega arith

module _ (rs : List ℕ) (inside : (k : ℕ) → k < length rs → get_or rs k 0 < length rs) where
  -- after i sites
  record Tossed (i : ℕ) (k : Coins) : Type 0 where
    full : length k.decisions ≡ length rs
    small : (j : ℕ) → j < length rs → get_or k.decisions j 0 ≤ 2
    met : (j : ℕ) → j < i → get_or k.decisions (get_or rs j 0) 0 < 2
    rest : (j : ℕ) → j < length rs → ((m : ℕ) → m < i → get_or rs m 0 ≢ j) → ◌≡◌ {A = ℕ} (get_or k.decisions j 0) 2

  first : (g : Xoshiro256StarStar) → Tossed 0 (record { decisions = replicate (length rs) 2; generator = g })
  first g = record {
    full = length-replicate (length rs) 2;
    small = λ j h. omega (arith, get_or-replicate {A = ℕ} (length rs) j 2 0 h);
    met = λ j h. absurd (not-suc-le-zero h);
    rest = λ j h f. get_or-replicate {A = ℕ} (length rs) j 2 0 h;
  }

  -- site i, of root r, draws
  drawn : (i : ℕ) (k : Coins) (v : ℕ) (g : Xoshiro256StarStar) → i < length rs → v < 2 → Tossed i k
      → Tossed (suc i) (record { decisions = set k.decisions (get_or rs i 0) v; generator = g })
  drawn i k v g h l t = record {
    full = length-set k.decisions (get_or rs i 0) v ∙ t.full;
    small = λ j p. at j (ℕ_discrete j (get_or rs i 0)) (λ (x : ℕ). x ≤ 2) (omega arith) (λ _. t.small j p);
    met = λ j p. at (get_or rs j 0) (ℕ_discrete (get_or rs j 0) (get_or rs i 0)) (λ (x : ℕ). x < 2) l (λ f. t.met j (before j p f (ℕ_discrete j i)));
    rest = λ j p f. get_or-set_other k.decisions (get_or rs i 0) j v 0 (λ e. f i (omega arith) (sym e)) ∙ t.rest j p (λ m q. f m (omega arith));
  }
    where
      at : (j : ℕ) → Dec (j ≡ get_or rs i 0) → (P : ℕ → Type 0) → P v → (j ≢ get_or rs i 0 → P (get_or k.decisions j 0))
          → P (get_or (set k.decisions (get_or rs i 0) v) j 0)
      at j (yes e) P new old =
          subst (λ (m : ℕ). P (get_or (set k.decisions (get_or rs i 0) v) m 0)) (sym e)
          (subst P (sym (get_or-set_same k.decisions (get_or rs i 0) v 0 (omega (arith, inside i h, t.full)))) new)
      at j (no f) P new old = subst P (sym (get_or-set_other k.decisions (get_or rs i 0) j v 0 f)) (old f)

      before : (j : ℕ) → j < suc i → get_or rs j 0 ≢ get_or rs i 0 → Dec (j ≡ i) → j < i
      before j p f (yes e) = absurd (f (ap (λ (m : ℕ). get_or rs m 0) e))
      before j p f (no q) = omega arith

  -- site i, whose component was met before
  passed : (i : ℕ) (k : Coins) → i < length rs → (get_or k.decisions (get_or rs i 0) 0 ≢ 2) → Tossed i k → Tossed (suc i) k
  passed i k h f t = record {
    full = t.full;
    small = t.small;
    met = λ j p. go j p (ℕ_discrete j i);
    rest = λ j p g. t.rest j p (λ m q. g m (omega arith));
  }
    where
      own : get_or k.decisions (get_or rs i 0) 0 < 2
      own = omega (arith, t.small (get_or rs i 0) (inside i h))

      go : (j : ℕ) → j < suc i → Dec (j ≡ i) → get_or k.decisions (get_or rs j 0) 0 < 2
      go j p (yes e) = subst (λ (m : ℕ). get_or k.decisions (get_or rs m 0) 0 < 2) (sym e) own
      go j p (no q) = t.met j (omega arith)

  tossed : (g : Xoshiro256StarStar) (i : ℕ) → i ≤ length rs → Tossed i (coins rs g i)
  unfolding coins
  tossed g zero h = first g
  tossed g (suc i) h =
      let k = coins rs g i in
      let t = tossed g i (omega arith) in
      by-test (Tossed (suc i)) (eqb (get_or k.decisions (get_or rs i 0) 0) 2) _ _
      (λ _. drawn i k (cond (heads_of k.generator) 1 0) (step k.generator) (omega arith) (coin-small (heads_of k.generator)) t)
      (λ n. passed i k (omega arith) (λ e. T_not (eqb (get_or k.decisions (get_or rs i 0) 0) 2) n (subst (λ (x : ℕ). T (eqb x 2)) (sym e) tt)) t)

  -- a coin at each site's root, and 2 where no site has its root
  pub coin-at-root : (g : Xoshiro256StarStar) (i : ℕ) → i < length rs → get_or (coins rs g (length rs)).decisions (get_or rs i 0) 0 < 2
  coin-at-root g i h = (tossed g (length rs) (omega arith)).met i h

  pub two-elsewhere : (g : Xoshiro256StarStar) (j : ℕ) → j < length rs → ((m : ℕ) → m < length rs → get_or rs m 0 ≢ j) → ◌≡◌ {A = ℕ} (get_or (coins rs g (length rs)).decisions j 0) 2
  two-elsewhere g j h f = (tossed g (length rs) (omega arith)).rest j h f

-- ---- the spins: a component with heads is negated whole
pub turned-at : (ds rs : List ℕ) (ss : List ℤ) → length rs ≡ length ss → (i : ℕ) → i < length ss
    → get_or (turned ds rs ss) i (pos 0) ≡ cond (eqb (get_or ds (get_or rs i 0) 0) 1) (neg_ℤ (get_or ss i (pos 0))) (get_or ss i (pos 0))
unfolding turned
turned-at ds [] ss e i h = absurd (omega arith)
turned-at ds (r ∷ rs) [] e i h = absurd (not-suc-le-zero h)
turned-at ds (r ∷ rs) (s ∷ ss) e zero h = refl
turned-at ds (r ∷ rs) (s ∷ ss) e (suc i) h = turned-at ds rs ss (omega arith) i (le_of_suc-le-suc h)
