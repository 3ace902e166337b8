-- Coins and turned spins, one site after the other.
use Rattle.std.specs.Prelude.{◌≡◌, refl, Bool, true, false, ℕ, zero, suc, ◌+◌, ◌<◌, ◌≤◌, T, eqb, set, replicate, ℤ, pos, neg_ℤ}
use Rattle.std.proofs.Common.{sym, ◌∙◌, subst, le_of_suc-le-suc, not-suc-le-zero, add-one, arith, eq-eqb, ne_eqb, ext_get_or}
use Rattle.std.proofs.Math.Path.{ap}
use Rattle.std.proofs.Math.Bool.{cond}
use Rattle.std.proofs.Math.Decide.{ℕ_discrete}
use Rattle.domain.specs.Cases.{by-dec}
use mir.Val.{bool_byte}
use mathlib.Core.List.{List, [], ◌∷◌}
use borrow.Author.Count.{below_none, below_more}
use Rattle.std.proofs.Math.ListN.{length, get_or, length-set}
use Rattle.std.proofs.Math.Seq.{get_or-set_same, get_or-set_other}
use Rattle.std.proofs.lemmas.List.{set-get_or}
use Rattle.domain.specs.Numbers.{is_spin}
use Rattle.generator.specs.declared.Xoshiro256StarStar.{Xoshiro256StarStar}
use Rattle.generator.specs.Xoshiro.{step, heads_of}
use Rattle.bonds.specs.Visit.{all_spins}
use Rattle.bonds.proofs.Spins.{spin-at}
use Rattle.clusters.specs.Inside.Bare.{bare}
use Rattle.clusters.specs.declared.Action.TheVariants.{Update}
use Rattle.clusters.specs.Update.{Coins, Ended, toss, coins, turned, ended}
use Rattle.clusters.specs.Inside.Turns.{coins_of, turned_at}

-- ---- one coin
module _ (r : ℕ) (ds : List ℕ) (g : Xoshiro256StarStar) where
  pub tossed : get_or ds r 0 ≡ 2 → coins_of (set ds r (cond (heads_of g) 1 0)) (step g) ≡ toss r (coins_of ds g)
  unfolding toss
  tossed e = rw (eq-eqb (get_or ds r 0) 2 e)

  pub not-tossed : (get_or ds r 0 ≡ 2 → ⊥) → coins_of ds g ≡ toss r (coins_of ds g)
  unfolding toss
  not-tossed n = rw (ne_eqb (get_or ds r 0) 2 n)

-- heads as a byte
pub byte-coin : (b : Bool) → bool_byte b ≡ cond b 1 0
byte-coin true = refl
byte-coin false = refl

-- a coin is no 2
no-coin : (b : Bool) → ◌≡◌ {A = ℕ} (cond b 1 0) 2 → ⊥
no-coin true e = omega arith
no-coin false e = omega arith

-- a coin once tossed stays, and a site that tossed has one
module _ (r : ℕ) (k : Coins) where
  pub toss-keeps : (q : ℕ) → (get_or k.decisions q 0 ≡ 2 → ⊥) → get_or (toss r k).decisions q 0 ≡ get_or k.decisions q 0
  unfolding toss
  toss-keeps q n =
      by-dec (ℕ_discrete (get_or k.decisions r 0) 2)
      (λ e. rw (eq-eqb (get_or k.decisions r 0) 2 e) (get_or-set_other k.decisions r q (cond (heads_of k.generator) 1 0) 0 (λ h. n (ap (λ (m : ℕ). get_or k.decisions m 0) h ∙ e))))
      (λ f. rw (ne_eqb (get_or k.decisions r 0) 2 f))

  pub toss-meets : r < length k.decisions → get_or (toss r k).decisions r 0 ≡ 2 → ⊥
  unfolding toss
  toss-meets h =
      by-dec (ℕ_discrete (get_or k.decisions r 0) 2)
      (λ e. rw (eq-eqb (get_or k.decisions r 0) 2 e, get_or-set_same k.decisions r (cond (heads_of k.generator) 1 0) 0 h) (no-coin (heads_of k.generator)))
      (λ f. rw (ne_eqb (get_or k.decisions r 0) 2 f) f)

-- ---- turned spins
length-turned : (ds rs : List ℕ) (ss : List ℤ) → length rs ≡ length ss → length (turned ds rs ss) ≡ length ss
unfolding turned
length-turned ds (r ∷ rs) (s ∷ ss) e = ap suc (length-turned ds rs ss (omega arith))
length-turned ds (r ∷ rs) [] e = refl
length-turned ds [] ss e = e

get_or-turned : (ds rs : List ℕ) (ss : List ℤ) (k : ℕ) → k < length rs → k < length ss → get_or (turned ds rs ss) k (pos 0) ≡ turned_at ds (get_or rs k 0) (get_or ss k (pos 0))
unfolding turned
get_or-turned ds [] ss k h l = absurd (not-suc-le-zero h)
get_or-turned ds (r ∷ rs) [] k h l = absurd (not-suc-le-zero l)
get_or-turned ds (r ∷ rs) (s ∷ ss) zero h l = refl
get_or-turned ds (r ∷ rs) (s ∷ ss) (suc k) h l = get_or-turned ds rs ss k (le_of_suc-le-suc h) (le_of_suc-le-suc l)

module _ (ds : List ℕ) (r : ℕ) (ss : List ℤ) (i : ℕ) where
  pub turned-one : get_or ds r 0 ≡ 1 → set ss i (neg_ℤ (get_or ss i (pos 0))) ≡ set ss i (turned_at ds r (get_or ss i (pos 0)))
  turned-one e = rw (eq-eqb (get_or ds r 0) 1 e)

  pub turned_none : (get_or ds r 0 ≡ 1 → ⊥) → ss ≡ set ss i (turned_at ds r (get_or ss i (pos 0)))
  turned_none n = rw (ne_eqb (get_or ds r 0) 1 n) (sym (set-get_or ss i (pos 0)))

-- coins and spins together
flipped : (roots : List ℕ) (ss : List ℤ) (g : Xoshiro256StarStar) {ds : List ℕ} {r : Xoshiro256StarStar} {ss' : List ℤ}
    → coins_of ds r ≡ coins roots g (length roots) → ss' ≡ turned ds roots ss
    → ◌≡◌ {A = Ended} (record { decisions = ds; spins = ss'; generator = r }) (ended Update (bare roots) ss g)
unfolding ended
flipped roots ss g {ds} {r} e t =
    (λ i. record { decisions = ds; spins = t i; generator = r })
    ∙ ap (λ (k : Coins). record { decisions = k.decisions; spins = turned k.decisions roots ss; generator = k.generator }) e

-- ---- after the first i sites: their coins, and their spins, which no later coin changes
pub record Flipping (roots ds₀ : List ℕ) (g₀ : Xoshiro256StarStar) (ss₀ : List ℤ) (ds : List ℕ) (g : Xoshiro256StarStar) (ss : List ℤ) (i : ℕ) : Type 0 where
  pub inside : i ≤ length roots
  pub coins-n : length ds ≡ length ds₀
  pub spins-n : length ss ≡ length ss₀
  pub so_far : coins_of ds g ≡ coins roots g₀ i
  pub met : (k : ℕ) → k < i → get_or ds (get_or roots k 0) 0 ≡ 2 → ⊥
  pub done : (k : ℕ) → k < i → get_or ss k (pos 0) ≡ turned_at ds (get_or roots k 0) (get_or ss₀ k (pos 0))
  pub rest : (k : ℕ) → i ≤ k → get_or ss k (pos 0) ≡ get_or ss₀ k (pos 0)

pub flipping-none : (roots : List ℕ) (g : Xoshiro256StarStar) (ss : List ℤ) {ds : List ℕ} → ds ≡ replicate (length roots) 2 → Flipping roots ds g ss ds g ss 0
unfolding coins
flipping-none roots g ss e = record {
  inside = omega arith;
  coins-n = refl;
  spins-n = refl;
  so_far = ap (λ (l : List ℕ). coins_of l g) e;
  met = λ k h. absurd (not-suc-le-zero h);
  done = below_none _;
  rest = λ k h. refl;
}

module _ {roots ds₀ : List ℕ} {g₀ : Xoshiro256StarStar} {ss₀ : List ℤ} {ds : List ℕ} {g : Xoshiro256StarStar} {ss : List ℤ} {i : ℕ}
    (f : Flipping roots ds₀ g₀ ss₀ ds g ss i) where
  -- one site more
  pub flipping-on : i < length roots → length roots ≡ length ss₀ → get_or roots i 0 < length ds
      → {ds' : List ℕ} {g' : Xoshiro256StarStar} {ss' : List ℤ} → length ds' ≡ length ds → coins_of ds' g' ≡ toss (get_or roots i 0) (coins_of ds g)
      → ss' ≡ set ss i (turned_at ds' (get_or roots i 0) (get_or ss i (pos 0))) → Flipping roots ds₀ g₀ ss₀ ds' g' ss' (i + 1)
  unfolding coins
  flipping-on lt long in-ds {ds'} {g'} {ss'} n t e =
      let v = turned_at ds' (get_or roots i 0) (get_or ss i (pos 0)) in
      let same : ds' ≡ (toss (get_or roots i 0) (coins_of ds g)).decisions = ap (λ (c : Coins). c.decisions) t in
      let kept : (q : ℕ) → (get_or ds q 0 ≡ 2 → ⊥) → get_or ds' q 0 ≡ get_or ds q 0 =
      λ q no. ap (λ (l : List ℕ). get_or l q 0) same ∙ toss-keeps (get_or roots i 0) (coins_of ds g) q no
      in
      let z = f.spins-n in
      record {
        inside = omega arith;
        coins-n = n ∙ f.coins-n;
        spins-n = ap length e ∙ length-set ss i v ∙ f.spins-n;
        so_far = t ∙ ap (toss (get_or roots i 0)) f.so_far ∙ ap (coins roots g₀) (sym (add-one i));
        met = below_more _ i (λ k h two. f.met k h (sym (kept (get_or roots k 0) (f.met k h)) ∙ two))
            (λ two. toss-meets (get_or roots i 0) (coins_of ds g) in-ds (sym (ap (λ (l : List ℕ). get_or l (get_or roots i 0) 0) same) ∙ two));
        done = below_more _ i
            (λ k h.
            ap (λ (q : List ℤ). get_or q k (pos 0)) e ∙ get_or-set_other ss i k v (pos 0) (λ x. omega arith) ∙ f.done k h
            ∙ ap (λ (d : ℕ). cond (eqb d 1) (neg_ℤ (get_or ss₀ k (pos 0))) (get_or ss₀ k (pos 0))) (sym (kept (get_or roots k 0) (f.met k h))))
            (ap (λ (q : List ℤ). get_or q i (pos 0)) e ∙ get_or-set_same ss i v (pos 0) (omega arith) ∙ ap (turned_at ds' (get_or roots i 0)) (f.rest i (omega arith)));
        rest = λ k l. ap (λ (q : List ℤ). get_or q k (pos 0)) e ∙ get_or-set_other ss i k v (pos 0) (λ x. omega arith) ∙ f.rest k (omega arith);
      }

  -- the spin that is next is a spin
  pub next-spin : i < length ss → T (all_spins ss₀) → T (is_spin (get_or ss i (pos 0)))
  next-spin h a = let z = f.spins-n in subst (λ (s : ℤ). T (is_spin s)) (sym (f.rest i (omega arith))) (spin-at ss₀ i a (omega arith))

  -- all sites
  pub all-flipped : length roots ≤ i → length roots ≡ length ss₀
      → ◌≡◌ {A = Ended} (record { decisions = ds; spins = ss; generator = g }) (ended Update (bare roots) ss₀ g₀)
  all-flipped le long =
      let z = f.spins-n in
      let full : i ≡ length roots = omega (arith, f.inside) in
      flipped roots ss₀ g₀ (f.so_far ∙ ap (coins roots g₀) full)
      (ext_get_or (pos 0) ss (turned ds roots ss₀) (z ∙ sym (length-turned ds roots ss₀ long))
      (λ k h. f.done k (omega arith) ∙ sym (get_or-turned ds roots ss₀ k (omega arith) (omega arith))))
