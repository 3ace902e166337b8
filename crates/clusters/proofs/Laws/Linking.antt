-- Linking a root below another is a join of the forest.
use Rattle.std.specs.Prelude.{ℕ, ◌+◌, ◌*◌, ◌^◌, ◌<◌, ◌≤◌, ◌≡◌, refl, List, length, get_or, set}
use Rattle.std.proofs.Math.Nat.{pow-succ'}
use Rattle.std.proofs.Common.{add-one, arith, sym, ap, ◌∙◌, inl, inr, ⊎_elim, length-set, get_or-set_same, get_or-set_other}
use Rattle.std.proofs.Math.Decide.{ℕ_discrete}
use borrow.Author.Tests.{eq-eqb, ne_eqb, lt-ltb, le-ltb}
use Rattle.graph.specs.Forest.{Forest, root_of, rank_of, relabel, count, absorb, unite}
use Rattle.graph.proofs.Laws.Lookup.{length-relabel}
use Rattle.clusters.specs.Inside.Rep.{Site, Grown, Rep}
use Rattle.domain.specs.Cases.{by-dec}
use Rattle.clusters.proofs.Laws.Forest.{ended}
use Rattle.clusters.proofs.Laws.Joining.{rank_below, Raised, Pair, merged, hit, miss, winner-stays, no_less, grown-merged}

module _ (f : Forest) (l w : ℕ) (g : Grown f) (p : Pair f l w) (ranks : List ℕ) (r : Raised f l w ranks) where
  -- the loser
  loser-site : Site (merged f l w ranks) l w
  loser-site = record {
    inside = rw (length-relabel w l f.roots) p.winner;
    same = winner-stays f l w g p ∙ sym (hit f l w g p l p.loser p.loses);
    up = inr (λ e. p.apart (sym e ∙ hit f l w g p l p.loser p.loses), r.above);
  }

  -- two sites of one component stay in one
  same-merged : (i q : ℕ) → i < length f.roots → q < length f.roots → get_or f.roots q 0 ≡ get_or f.roots i 0
      → get_or (relabel w l f.roots) q 0 ≡ get_or (relabel w l f.roots) i 0
  same-merged i q li lq e =
      by-dec (ℕ_discrete (get_or f.roots i 0) l) (λ d. hit f l w g p q lq (e ∙ d) ∙ sym (hit f l w g p i li d))
      (λ d. miss f l w g p q lq (λ z. d (sym e ∙ z)) ∙ e ∙ sym (miss f l w g p i li d))

  -- a site that is no root stays none
  still-none : (i : ℕ) → i < length f.roots → (get_or f.roots i 0 ≡ i → ⊥) → get_or (relabel w l f.roots) i 0 ≡ i → ⊥
  still-none i li n e =
      by-dec (ℕ_discrete (get_or f.roots i 0) l)
      (λ d. let z : i ≡ w = sym e ∙ hit f l w g p i li d in n (rw z p.wins))
      (λ d. n (sym (miss f l w g p i li d) ∙ e))

  other-site : (i q : ℕ) → i < length f.roots → (i ≡ l → ⊥) → Site f i q → Site (merged f l w ranks) i q
  other-site i q li ni s = record {
    inside = rw (length-relabel w l f.roots) s.inside;
    same = same-merged i q li s.inside s.same;
    up = ⊎_elim (λ u. inl (u.0, miss f l w g p i li (λ z. ni (sym u.1 ∙ z)) ∙ u.1))
        (λ u.
        let a = r.other i (λ z. u.0 (rw z p.wins)) in
        let b = no_less f l w g p ranks r q in
        let d = u.1 in
        inr (still-none i li u.0, omega arith))
        s.up;
  }

-- the loser's link is set to the winner
pub linked : {parent rank : List ℕ} {f : Forest} (l w : ℕ) (ranks : List ℕ) → Rep parent rank f → Pair f l w → Raised f l w ranks
    → Rep (set parent l w) ranks (merged f l w ranks)
linked {parent} {rank} {f} l w ranks r p q = record {
  grown = grown-merged f l w r.grown p ranks q;
  links = length-set parent l w ∙ r.links ∙ sym (length-relabel w l f.roots);
  ranks = refl;
  site = λ i h.
      let lt = rw (length-relabel w l f.roots) at h in
      by-dec (ℕ_discrete i l)
      (λ e. rw (e, get_or-set_same parent l w 0 (rw r.links p.loser)) (loser-site f l w r.grown p ranks q))
      (λ n. rw (get_or-set_other parent l i w 0 n) (other-site f l w r.grown p ranks q i (get_or parent i 0) lt n (r.site i lt)));
}

-- the ranks as they are, where the winner's is higher
pub raised-none : (f : Forest) (l w : ℕ) → Grown f → Pair f l w → get_or f.ranks l 0 < get_or f.ranks w 0 → Raised f l w f.ranks
raised-none f l w g p h =
    let b = g.big w p.winner p.wins in
    record { sized = refl; other = λ i n. refl; more = omega arith; above = h; big = omega arith }

-- one more at the winner, where they were equal
pub raised-one : (f : Forest) (l w k : ℕ) → Grown f → Pair f l w → k ≡ get_or f.ranks w 0 → k ≡ get_or f.ranks l 0
    → Raised f l w (set f.ranks w (k + 1))
raised-one f l w k g p ew el =
    let b : 2 ^ k ≤ count w f.roots = rw ew (g.big w p.winner p.wins) in
    let a : 2 ^ k ≤ count l f.roots = rw el (g.big l p.loser p.loses) in
    let lt : w < length f.ranks = rw g.sized p.winner in
    let sm = get_or-set_same f.ranks w (k + 1) 0 lt in
    let so = get_or-set_other f.ranks w l (k + 1) 0 p.apart in
    let pw : 2 ^ (k + 1) ≡ 2 * 2 ^ k = ap (λ (m : ℕ). 2 ^ m) (add-one k) ∙ pow-succ' 2 k in
    record {
      sized = length-set f.ranks w (k + 1);
      other = λ i n. get_or-set_other f.ranks w i (k + 1) 0 n;
      more = omega arith;
      above = omega arith;
      big = rw sm (omega arith);
    }

-- the three ways of a join of two roots x and y
module _ (f : Forest) (x y : ℕ) (ne : x ≡ y → ⊥) where
  unite-low : rank_of f x < rank_of f y → unite f x y ≡ merged f x y f.ranks
  unfolding unite absorb
  unite-low h = rw (ne_eqb x y ne, lt-ltb (rank_of f x) (rank_of f y) h, ne_eqb (rank_of f y) (rank_of f x) (λ e. omega arith))

  unite-high : rank_of f y < rank_of f x → unite f x y ≡ merged f y x f.ranks
  unfolding unite absorb
  unite-high h =
      rw (ne_eqb x y ne, le-ltb (rank_of f x) (rank_of f y) (omega arith), ne_eqb (rank_of f x) (rank_of f y) (λ e. omega arith))

  unite-even : rank_of f x ≡ rank_of f y → unite f x y ≡ merged f y x (set f.ranks x (rank_of f x + 1))
  unfolding unite absorb
  unite-even e =
      rw (ne_eqb x y ne, le-ltb (rank_of f x) (rank_of f y) (omega arith), eq-eqb (rank_of f x) (rank_of f y) e, add-one)

module _ {parent rank : List ℕ} {f : Forest} (x y : ℕ) (r : Rep parent rank f) (p : Pair f x y) where
  swapped : Pair f y x
  swapped = record { loser = p.winner; winner = p.loser; loses = p.wins; wins = p.loses; apart = λ e. p.apart (sym e) }

  kx : get_or f.ranks x 0 ≡ get_or rank x 0
  kx = rw r.ranks

  ky : get_or f.ranks y 0 ≡ get_or rank y 0
  ky = rw r.ranks

  pub join-low : get_or rank x 0 < get_or rank y 0 → Rep (set parent x y) rank (unite f x y)
  join-low h =
      let l : rank_of f x < rank_of f y = rw (kx, ky) h in
      rw (unite-low f x y p.apart l, r.ranks) (linked x y f.ranks r p (raised-none f x y r.grown p l))

  pub join-high : get_or rank y 0 < get_or rank x 0 → Rep (set parent y x) rank (unite f x y)
  join-high h =
      let l : rank_of f y < rank_of f x = rw (kx, ky) h in
      rw (unite-high f x y p.apart l, r.ranks) (linked y x f.ranks r swapped (raised-none f y x r.grown swapped l))

  pub join-even : (k : ℕ) → k ≡ get_or rank x 0 → k ≡ get_or rank y 0 → Rep (set parent y x) (set rank x (k + 1)) (unite f x y)
  join-even k ex ey =
      let u : Raised f y x (set f.ranks x (k + 1)) = raised-one f y x k r.grown swapped (ex ∙ sym kx) (ey ∙ sym ky) in
      let e : unite f x y ≡ merged f y x (set f.ranks x (k + 1)) =
      unite-even f x y p.apart (kx ∙ sym ex ∙ ey ∙ sym ky) ∙ ap (λ (m : ℕ). merged f y x (set f.ranks x (m + 1))) (kx ∙ sym ex) in
      rw (e, r.ranks) (linked y x (set f.ranks x (k + 1)) r swapped u)

-- as many ranks as links
pub rank-inside : {parent rank : List ℕ} {f : Forest} (x : ℕ) → Rep parent rank f → x < length parent → x < length rank
rank-inside x r lt = rw (r.ranks, r.grown.sized, ← r.links) lt

-- two sites that link to themselves are two roots
pub pair : {parent rank : List ℕ} {f : Forest} (x y : ℕ) → Rep parent rank f → (x < length parent) × (get_or parent x 0 ≡ x)
    → (y < length parent) × (get_or parent y 0 ≡ y) → (x ≡ y → ⊥) → Pair f x y
pair x y r hx hy ne = record {
  loser = rw r.links at hx.0;
  winner = rw r.links at hy.0;
  loses = ended x r hx.0 hx.1;
  wins = ended y r hy.0 hy.1;
  apart = ne;
}

-- a root's rank is far from 255
pub rank-fits : {parent rank : List ℕ} {f : Forest} (x : ℕ) → Rep parent rank f → x < length parent → get_or parent x 0 ≡ x → length parent < 2 ^ 64
    → get_or rank x 0 < 64
rank-fits {parent} {rank} {f} x r lt e small =
    rw r.ranks (rank_below 64 x r.grown (rw r.links at lt) (ended x r lt e) (rw r.links at small))

-- a join by the roots that were found
pub join_by : {parent rank : List ℕ} (f : Forest) (x y : ℕ) {rx ry : ℕ} → rx ≡ root_of f x → ry ≡ root_of f y
    → Rep parent rank (unite f rx ry) → Rep parent rank (unite f (root_of f x) (root_of f y))
join_by f x y ex ey r = rw (← ex, ← ey) r

pub join-same : {parent rank : List ℕ} (f : Forest) (x y : ℕ) {rx ry : ℕ} → rx ≡ root_of f x → ry ≡ root_of f y
    → rx ≡ ry → Rep parent rank f → Rep parent rank (unite f (root_of f x) (root_of f y))
unfolding unite
join-same f x y ex ey e r = rw (eq-eqb (root_of f x) (root_of f y) (sym ex ∙ e ∙ ey)) r
