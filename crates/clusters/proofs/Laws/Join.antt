-- What a join is in each of its three cases.
use Rattle.std.specs.Prelude.{◌≡◌, List, ℕ, ◌≤◌, ◌<◌, get_or, ℤ, neg_ℤ}
use Rattle.std.proofs.Common.{arith, SFits, w64, to_z, of_z, pos, nat_abs, ◌-ℤ◌, ◌^◌}
use Rattle.std.proofs.lemmas.Int.{ints}
use borrow.Author.Tests.{lt-ltb, le-ltb, eq-eqb, ne_eqb}
use Rattle.clusters.specs.Inside.Join.{Wind, wind, link, raise, join}

-- equal lists make equal states
pub same-wind : {ps ps' rs rs' : List ℕ} {os os' : List ℤ} → ps ≡ ps' → rs ≡ rs' → os ≡ os' → wind ps rs os ≡ wind ps' rs' os'
same-wind p r o = λ i. wind (p i) (r i) (o i)

-- a negation that fits, as the code leaves it in a local
pub negated : (z : ℤ) → SFits w64 z → nat_abs z < 2 ^ 63 → to_z w64 (of_z w64 (pos 0 -ℤ to_z w64 (of_z w64 z))) ≡ neg_ℤ z
negated z f h = omega (arith, ints)

module _ (w : Wind) (a b : ℕ) (x y : ℤ) where
  pub join-lower : get_or w.ranks a 0 < get_or w.ranks b 0 → join w a b x y ≡ link w a b (neg_ℤ x) (neg_ℤ y)
  unfolding join
  join-lower h = simp (lt-ltb _ _ h)

  pub join-equal : get_or w.ranks b 0 ≤ get_or w.ranks a 0 → get_or w.ranks a 0 ≡ get_or w.ranks b 0 → join w a b x y ≡ raise (link w b a x y) a
  unfolding join
  join-equal h e = simp (le-ltb _ _ h, eq-eqb _ _ e)

  pub join-higher : get_or w.ranks b 0 ≤ get_or w.ranks a 0 → (get_or w.ranks a 0 ≡ get_or w.ranks b 0 → ⊥) → join w a b x y ≡ link w b a x y
  unfolding join
  join-higher h n = simp (le-ltb _ _ h, ne_eqb _ _ n)
