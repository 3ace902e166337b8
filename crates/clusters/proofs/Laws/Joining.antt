-- Laws of the definition: joins keep a forest grown, and a rank stays small.
use Rattle.std.specs.Prelude.{ℕ, zero, suc, refl, ◌+◌, ◌^◌, ◌<◌, ◌≤◌, ◌≡◌, List, length, get_or}
use Rattle.std.proofs.Common.{arith, sym, ◌∙◌, pow_mono}
use Rattle.std.proofs.Math.Nat.{pow-succ'}
use Rattle.std.proofs.Math.Decide.{ℕ_discrete, dec_lt}
use Rattle.graph.specs.Forest.{Forest, relabel, count}
use Rattle.graph.proofs.Laws.Lookup.{length-relabel, relabel-hit, relabel-miss}
use Rattle.graph.proofs.Laws.Counts.{count-bound, count-won, count-other}
use Rattle.clusters.specs.Inside.Rep.{Grown}
use Rattle.domain.specs.Cases.{by-dec}

-- the ranks as a join of the loser l to the winner w leaves them
pub record Raised (f : Forest) (l w : ℕ) (ranks : List ℕ) : Type 0 where
  pub sized : length ranks ≡ length f.ranks
  pub other : (i : ℕ) → (i ≡ w → ⊥) → get_or ranks i 0 ≡ get_or f.ranks i 0
  pub more : get_or f.ranks w 0 ≤ get_or ranks w 0
  pub above : get_or ranks l 0 < get_or ranks w 0
  pub big : 2 ^ get_or ranks w 0 ≤ count w f.roots + count l f.roots

-- two roots of one forest
pub record Pair (f : Forest) (l w : ℕ) : Type 0 where
  pub loser : l < length f.roots
  pub winner : w < length f.roots
  pub loses : get_or f.roots l 0 ≡ l
  pub wins : get_or f.roots w 0 ≡ w
  pub apart : l ≡ w → ⊥

abbrev pub merged : Forest → ℕ → ℕ → List ℕ → Forest
merged f l w ranks = record { roots = relabel w l f.roots; ranks = ranks }

module _ (f : Forest) (l w : ℕ) (g : Grown f) (p : Pair f l w) where
  -- a root as it is after, by what it was before
  pub hit : (i : ℕ) → i < length f.roots → get_or f.roots i 0 ≡ l → get_or (relabel w l f.roots) i 0 ≡ w
  hit i = relabel-hit w l f.roots i

  pub miss : (i : ℕ) → i < length f.roots → (get_or f.roots i 0 ≡ l → ⊥) → get_or (relabel w l f.roots) i 0 ≡ get_or f.roots i 0
  miss i = relabel-miss w l f.roots i

  pub winner-stays : get_or (relabel w l f.roots) w 0 ≡ w
  winner-stays = miss w p.winner (λ e. p.apart (sym e ∙ p.wins)) ∙ p.wins

  pub no_less : (ranks : List ℕ) → Raised f l w ranks → (q : ℕ) → get_or f.ranks q 0 ≤ get_or ranks q 0
  no_less ranks r q = by-dec (ℕ_discrete q w) (λ e. rw e r.more) (λ n. let e = r.other q n in omega arith)

  inside-merged : (i : ℕ) → i < length f.roots → get_or (relabel w l f.roots) i 0 < length f.roots
  inside-merged i lt =
      by-dec (ℕ_discrete (get_or f.roots i 0) l) (λ e. rw (hit i lt e) p.winner) (λ n. rw (miss i lt n) (g.inside i lt))

  rooted-merged : (i : ℕ) → i < length f.roots → get_or (relabel w l f.roots) (get_or (relabel w l f.roots) i 0) 0 ≡ get_or (relabel w l f.roots) i 0
  rooted-merged i lt =
      by-dec (ℕ_discrete (get_or f.roots i 0) l) (λ e. rw (hit i lt e) winner-stays)
      (λ n. rw (miss i lt n) (miss (get_or f.roots i 0) (g.inside i lt) (λ e. n (sym (g.rooted i lt) ∙ e)) ∙ g.rooted i lt))

  module _ (ranks : List ℕ) (r : Raised f l w ranks) where
    tall-merged : (i : ℕ) → i < length f.roots → (get_or (relabel w l f.roots) i 0 ≡ i → ⊥)
        → get_or ranks i 0 < get_or ranks (get_or (relabel w l f.roots) i 0) 0
    tall-merged i lt ne =
        let b : i ≡ w → ⊥ = λ e. ne (rw e winner-stays) in
        let u = r.other i b in
        let v = r.other l p.apart in
        let x = r.above in
        by-dec (ℕ_discrete (get_or f.roots i 0) l)
        (λ d. rw (hit i lt d)
        (by-dec (ℕ_discrete i l) (λ a. rw a x)
        (λ a. let t : get_or f.ranks i 0 < get_or f.ranks l 0 = rw d at (g.tall i lt (λ z. a (sym z ∙ d))) in omega arith)))
        (λ d. rw (miss i lt d)
        (let t = g.tall i lt (λ z. ne (miss i lt d ∙ z)) in let y = no_less ranks r (get_or f.roots i 0) in omega arith))

    big-merged : (i : ℕ) → i < length f.roots → get_or (relabel w l f.roots) i 0 ≡ i → 2 ^ get_or ranks i 0 ≤ count i (relabel w l f.roots)
    big-merged i lt e =
        by-dec (ℕ_discrete i w) (λ a. rw (a, count-won w l f.roots (λ z. p.apart (sym z))) r.big)
        (λ a. by-dec (ℕ_discrete (get_or f.roots i 0) l) (λ d. absurd (a (sym e ∙ hit i lt d)))
        (λ d.
        let q : get_or f.roots i 0 ≡ i = sym (miss i lt d) ∙ e in
        rw (r.other i a, count-other w l i f.roots a (λ z. d (q ∙ z))) (g.big i lt q)))

    pub grown-merged : Grown (merged f l w ranks)
    grown-merged =
        let n = length-relabel w l f.roots in
        record {
          sized = r.sized ∙ g.sized ∙ sym n;
          inside = λ i lt. rw n (inside-merged i (rw n at lt));
          rooted = λ i lt. rooted-merged i (rw n at lt);
          tall = λ i lt. tall-merged i (rw n at lt);
          big = λ i lt. big-merged i (rw n at lt);
        }

-- a rank stays small: a root of rank k has 2^k sites
pub rank_below : (k : ℕ) {f : Forest} (i : ℕ) → Grown f → i < length f.roots → get_or f.roots i 0 ≡ i → length f.roots < 2 ^ k → get_or f.ranks i 0 < k
rank_below k {f} i g lt e small =
    by-dec (dec_lt (get_or f.ranks i 0) k) (λ a. a)
    (λ a.
    let b = g.big i lt e in
    let d = count-bound i f.roots in
    let m : 2 ^ k ≤ 2 ^ get_or f.ranks i 0 = pow_mono (omega arith) in
    absurd (omega arith))

lt-pow2 : (k : ℕ) → k < 2 ^ k
lt-pow2 zero = omega arith
lt-pow2 (suc k) = omega (arith, lt-pow2 k, pow-succ' 2 k)

-- and so below the number of sites
pub rank-lt : {f : Forest} (i : ℕ) → Grown f → i < length f.roots → get_or f.ranks i 0 < length f.roots
rank-lt {f} i g lt =
    let n = g.inside i lt in
    let b = g.big (get_or f.roots i 0) n (g.rooted i lt) in
    let d = count-bound (get_or f.roots i 0) f.roots in
    let m = lt-pow2 (get_or f.ranks (get_or f.roots i 0) 0) in
    by-dec (ℕ_discrete (get_or f.roots i 0) i) (λ e. let h : get_or f.ranks i 0 ≡ get_or f.ranks (get_or f.roots i 0) 0 = rw e refl in omega arith)
    (λ ne. let t = g.tall i lt ne in omega arith)
