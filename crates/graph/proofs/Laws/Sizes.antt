-- No site's component shrinks, and two to a site's rank is at most its component's size.
use Rattle.std.specs.Prelude.{◌≡◌, eqb, get_or, set}
use Rattle.std.proofs.Common.{sym, ◌∙◌, subst, lt_of_not-le, arith, eqb→eq, get_or-set_same, get_or-set_other}
use Rattle.std.proofs.Math.Path.{ap}
use mathlib.Core.List.{List}
use Prim.Native.Nat.{ℕ, suc, ◌+◌, ◌^◌, ◌≤◌, ◌<◌}
use Rattle.std.proofs.Math.Decide.{ℕ_discrete, dec_le}
use Rattle.std.proofs.lemmas.List.{get_or-replicate}
use Rattle.std.proofs.Math.Pow.{pow-lt}
use Rattle.graph.specs.Forest.{Bond, Forest, root_of, rank_of, fresh, relabel, absorb, forest, count, Sound}
use Rattle.graph.specs.Walk.{Within}
use Rattle.graph.proofs.Laws.Lookup.{by-test}
use Rattle.graph.proofs.Laws.Counts.{count-pos, count-bound, count-won, count-other}
use Rattle.graph.proofs.Laws.Roots.{Apart, sound-fresh, hit, miss, stays, forest-keeps, sound-forest}

-- the size of the component of the site i
abbrev pub size_at : Forest → ℕ → ℕ
size_at f i = count (root_of f i) f.roots

module _ (n : ℕ) (f : Forest) (w l : ℕ) (sound : Sound n f) (apart : Apart n f w l) where
  -- the winner's component has both
  pub size-won : (i : ℕ) → root_of (absorb f w l) i ≡ w → size_at (absorb f w l) i ≡ count w f.roots + count l f.roots
  unfolding absorb
  size-won i k = ap (λ (r : ℕ). count r (relabel w l f.roots)) k ∙ count-won w l f.roots apart.differ

  pub size-grows : (i : ℕ) → i < n → size_at f i ≤ size_at (absorb f w l) i
  unfolding absorb
  size-grows i h = go (ℕ_discrete (root_of f i) l) (ℕ_discrete (root_of f i) w)
    where
      rs : List ℕ
      rs = f.roots

      go : Dec (root_of f i ≡ l) → Dec (root_of f i ≡ w) → size_at f i ≤ size_at (absorb f w l) i
      go (yes p) q = omega (arith, ap (λ (r : ℕ). count r rs) p, size-won i (hit n f w l sound i h p))
      go (no p) (yes q) = omega (arith, ap (λ (r : ℕ). count r rs) q, size-won i (miss n f w l sound i h p ∙ q))
      go (no p) (no q) = omega (arith, ap (λ (r : ℕ). count r (relabel w l rs)) (miss n f w l sound i h p), count-other w l (root_of f i) rs q p)

-- ---- ranks
Ranked : ℕ → Forest → Type 0
Ranked n f = (i : ℕ) → i < n → 2 ^ rank_of f i ≤ size_at f i

ranked-fresh : (n : ℕ) → Ranked n (fresh n)
unfolding Ranked fresh
ranked-fresh n i h =
    subst (λ (k : ℕ). 2 ^ k ≤ size_at (fresh n) i) (sym (get_or-replicate n i 0 0 h)) (count-pos (fresh n).roots i (omega (arith, (sound-fresh n).roots-n)))

ranked-absorb : (n : ℕ) (f : Forest) (w l : ℕ) → Sound n f → Apart n f w l → Ranked n f → Ranked n (absorb f w l)
unfolding Ranked absorb
ranked-absorb n f w l sound apart ranked i h =
    by-test (λ (rk : List ℕ). 2 ^ get_or rk i 0 ≤ size_at g i) (eqb (rank_of f w) (rank_of f l)) _ _ (λ b. raised (eqb→eq _ _ b) (ℕ_discrete i w)) (λ _. same)
  where
    g : Forest
    g = absorb f w l

    rs : List ℕ
    rs = f.roots

    same : 2 ^ rank_of f i ≤ size_at g i
    same = omega (arith, ranked i h, size-grows n f w l sound apart i h)

    raised : rank_of f w ≡ rank_of f l → Dec (i ≡ w) → 2 ^ get_or (set f.ranks w (suc (rank_of f w))) i 0 ≤ size_at g i
    raised k (no d) = subst (λ (r : ℕ). 2 ^ r ≤ size_at g i) (sym (get_or-set_other f.ranks w i (suc (rank_of f w)) 0 d)) same
    raised k (yes p) =
        let q : get_or (set f.ranks w (suc (rank_of f w))) i 0 ≡ suc (rank_of f w) =
        ap (λ (a : ℕ). get_or (set f.ranks w (suc (rank_of f w))) a 0) p ∙ get_or-set_same f.ranks w (suc (rank_of f w)) 0 (omega (arith, sound.ranks-n, apart.w-lt)) in
        let u : root_of g i ≡ w = ap (root_of g) p ∙ stays n f w l sound w apart.w-lt apart.w-root apart.differ in
        let v : 2 ^ suc (rank_of f w) ≤ size_at g i =
        omega (arith, size-won n f w l sound apart i u, ranked w apart.w-lt, ranked l apart.l_lt, ap (λ (r : ℕ). 2 ^ r) k, ap (λ (r : ℕ). count r rs) apart.w-root, ap (λ (r : ℕ). count r rs) apart.l-root) in
        subst (λ (r : ℕ). 2 ^ r ≤ size_at g i) (sym q) v

module _ (n : ℕ) (bonds : List Bond) (within : Within n bonds) where
  -- Rank: two to a site's rank is at most the size of its component.
  pub rank-bound : (i : ℕ) → i < n → 2 ^ rank_of (forest n bonds) i ≤ size_at (forest n bonds) i
  unfolding Ranked
  rank-bound = forest-keeps n bonds within (Ranked n) (λ f w l sound apart _ r. ranked-absorb n f w l sound apart r) (ranked-fresh n)

  -- so with at most 2 ^ k sites no rank is above k
  pub rank-le : (k : ℕ) → n ≤ 2 ^ k → (i : ℕ) → i < n → rank_of (forest n bonds) i ≤ k
  rank-le k small i h = go (dec_le (rank_of (forest n bonds) i) k)
    where
      go : Dec (rank_of (forest n bonds) i ≤ k) → rank_of (forest n bonds) i ≤ k
      go (yes p) = p
      go (no p) = absurd (omega (arith, rank-bound i h, count-bound (root_of (forest n bonds) i) (forest n bonds).roots, (sound-forest n bonds within).roots-n, pow-lt (lt_of_not-le p)))
