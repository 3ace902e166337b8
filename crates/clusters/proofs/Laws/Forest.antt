-- Laws of the representation: links that move up keep a forest.
use Rattle.std.specs.Prelude.{ℕ, ◌+◌, ◌-◌, ◌<◌, ◌≤◌, ◌≡◌, List, length, get_or, set}
use Rattle.std.proofs.Common.{arith, sym, ap, ◌∙◌, inr, ⊎_elim, below_more, length-set, get_or-set_same, get_or-set_other, ext_get_or}
use Rattle.std.proofs.Math.Decide.{ℕ_discrete}
use Rattle.std.proofs.lemmas.List.{set-get_or}
use Rattle.graph.specs.Forest.{Forest}
use Rattle.clusters.specs.declared.links.Links.{Links}
use Rattle.clusters.specs.Inside.Rep.{Site, Rep, Holds, Kept, Moved, Higher, Valid, Climbed, Settled, Flattened}
use Rattle.clusters.proofs.Laws.Joining.{rank-lt}
use Rattle.domain.specs.Cases.{by-dec}

-- a site whose link is another site: the link is higher, and may be moved to any higher site
pub higher : {f : Forest} {i q : ℕ} → Site f i q → (q ≡ i → ⊥) → Higher f i q
higher s ne = ⊎_elim (λ u. absurd (ne u.0)) (λ u. record { inside = s.inside; same = s.same; up = u.1 }) s.up

relinked : {f : Forest} {i q : ℕ} (g : ℕ) → Site f i q → (q ≡ i → ⊥) → Higher f i g → Site f i g
relinked g s ne h =
    record { inside = h.inside; same = h.same; up = ⊎_elim (λ u. absurd (ne u.0)) (λ u. inr (u.0, h.up)) s.up }

-- one more step up, or none, from a higher site
higher-on : {f : Forest} {x p g : ℕ} → Higher f x p → Site f p g → Higher f x g
higher-on h s = record {
  inside = s.inside;
  same = s.same ∙ h.same;
  up = ⊎_elim (λ u. rw u.0 h.up) (λ u. let a = h.up in let b = u.1 in omega arith) s.up;
}

-- the site at x
pub site-at : {parent rank : List ℕ} {f : Forest} (x : ℕ) → Rep parent rank f → x < length parent → Site f x (get_or parent x 0)
site-at x r lt = r.site x (rw r.links at lt)

-- a link stays among the sites
pub link-inside : {parent rank : List ℕ} {f : Forest} (x : ℕ) → Rep parent rank f → x < length parent → get_or parent x 0 < length parent
link-inside x r lt = rw r.links (site-at x r lt).inside

-- where a walk ends
pub ended : {parent rank : List ℕ} {f : Forest} (z : ℕ) → Rep parent rank f → z < length parent → get_or parent z 0 ≡ z → get_or f.roots z 0 ≡ z
ended {f = f} z r lt e =
    ⊎_elim (λ u. u.1) (λ u. let a : get_or f.ranks z 0 < get_or f.ranks z 0 = rw e at u.1 in absurd (omega arith)) (site-at z r lt).up

-- a root that was found links to itself
pub root-links : {parent rank : List ℕ} {f : Forest} (x q : ℕ) → Rep parent rank f → x < length parent → q ≡ get_or f.roots x 0
    → (q < length parent) × (get_or parent q 0 ≡ q)
root-links {parent} x q r lt e =
    let l = rw r.links at lt in
    let in' : q < length parent = rw (e, r.links) (r.grown.inside x l) in
    (in', ⊎_elim (λ u. u.0) (λ u. absurd (u.0 (rw e (r.grown.rooted x l)))) (site-at q r in').up)

-- the root of a site that is none is higher
higher-root : {parent rank : List ℕ} {f : Forest} (x : ℕ) → Rep parent rank f → x < length parent → (get_or f.roots x 0 ≡ x → ⊥)
    → Higher f x (get_or f.roots x 0)
higher-root x r lt ne =
    let l = rw r.links at lt in
    record { inside = r.grown.inside x l; same = r.grown.rooted x l; up = r.grown.tall x l ne }

-- no move, and moves one after the other
pub kept-none : {f : Forest} {parent rank : List ℕ} → Rep parent rank f → Kept f parent rank parent
kept-none r = record { rep = r; flat = λ k e. e }

pub kept_on : {f : Forest} {before rank after rank' after' : List ℕ} → Kept f before rank after → Kept f after rank' after' → Kept f before rank' after'
kept_on a b = record { rep = b.rep; flat = λ k e. b.flat k (a.flat k e) }

-- x, no root, is linked to g, a higher site: to its root where it linked to its root
module _ {parent rank : List ℕ} {f : Forest} (x g : ℕ) (r : Rep parent rank f) (lt : x < length parent) (ne : get_or parent x 0 ≡ x → ⊥) (h : Higher f x g) where
  relink : Rep (set parent x g) rank f
  relink = record {
    grown = r.grown;
    links = length-set parent x g ∙ r.links;
    ranks = r.ranks;
    site = λ i l.
        by-dec (ℕ_discrete i x) (λ e. rw (e, get_or-set_same parent x g 0 lt) (relinked g (site-at x r lt) ne h))
        (λ n. rw (get_or-set_other parent x i g 0 n) (r.site i l));
  }

  pub moved : (get_or parent x 0 ≡ get_or f.roots x 0 → g ≡ get_or f.roots x 0) → Kept f parent rank (set parent x g)
  moved to = record {
    rep = relink;
    flat = λ k e.
        by-dec (ℕ_discrete k x) (λ d. rw (d, get_or-set_same parent x g 0 lt) (to (rw d at e)))
        (λ n. get_or-set_other parent x k g 0 n ∙ e);
  }

-- path halving: x is linked to g, the link of its link p
pub halved : {parent rank : List ℕ} {f : Forest} (x p g : ℕ) → Rep parent rank f → x < length parent → (get_or parent x 0 ≡ x → ⊥)
    → p ≡ get_or parent x 0 → g ≡ get_or parent p 0 → Higher f x g × Kept f parent rank (set parent x g)
halved {parent} {f = f} x p g r lt ne ep eg =
    let h : Higher f x g = rw (eg, ep) (higher-on (higher (site-at x r lt) ne) (site-at (get_or parent x 0) r (link-inside x r lt))) in
    (h, moved x g r lt ne h (λ e. eg ∙ (root-links x p r lt (ep ∙ e)).1 ∙ ep ∙ e))

-- x is linked to its root q
pub settled : {parent rank : List ℕ} {f : Forest} (x q : ℕ) → Rep parent rank f → x < length parent → q ≡ get_or f.roots x 0
    → (get_or (set parent x q) x 0 ≡ get_or f.roots x 0) × Kept f parent rank (set parent x q)
settled {parent} x q r lt e = (
  get_or-set_same parent x q 0 lt ∙ e,
  ⊎_elim (λ u. rw (ap (λ (v : ℕ). set parent x v) (e ∙ u.1 ∙ sym u.0) ∙ set-get_or parent x 0) (kept-none r))
      (λ u. moved x q r lt (λ z. u.0 (ended x r lt z)) (rw e (higher-root x r lt u.0)) (λ _. e))
      (site-at x r lt).up,
)

-- where a rank is a byte, what is left to 256 falls with each link
pub falls : {parent rank : List ℕ} {f : Forest} (x g : ℕ) → Rep parent rank f → Higher f x g → get_or rank x 0 < 256
    → 256 - get_or rank g 0 < 256 - get_or rank x 0
falls {rank = rank} x g r h b = let a : get_or rank x 0 < get_or rank g 0 = rw r.ranks h.up in omega arith

-- the measure of a walk: a rank is below the number of sites
pub climbs : {parent rank parent' rank' : List ℕ} {f : Forest} (x g : ℕ) → Rep parent rank f → Rep parent' rank' f → x < length parent → Higher f x g
    → length parent' - get_or rank' g 0 < length parent - get_or rank x 0
climbs {parent} {rank} {parent'} {rank'} {f} x g r r' lt h =
    let a : get_or rank x 0 < get_or rank' g 0 = rw (r.ranks, r'.ranks) h.up in
    let b : get_or rank' g 0 < length f.roots = rw r'.ranks (rank-lt g r.grown h.inside) in
    omega (arith, r.links, r'.links)

-- a walk from x, over links as they were in l₀, has come to z, over links as they are in l
pub record Walked (l₀ : Links) (x : ℕ) (l : Links) (z : ℕ) : Type 0 where
  pub inside : z < length l.parent.now
  pub sized : length l.parent.now ≡ length l₀.parent.now
  pub keeps : (f : Forest) → Holds l₀ f → (get_or f.roots z 0 ≡ get_or f.roots x 0) × Moved f l₀ l

pub walk-on : {l₀ l : Links} {x z : ℕ} (l' : Links) (g : ℕ) → Valid l₀ → Walked l₀ x l z → Climbed l l' z g → Walked l₀ x l' g
walk-on l' g v w k = record {
  inside = let u = k v.0 (w.keeps v.0 v.1).1.rep in rw u.1.rep.links u.0.inside;
  sized = let u = k v.0 (w.keeps v.0 v.1).1.rep in u.1.rep.links ∙ sym v.1.links;
  keeps = λ f r. let b = w.keeps f r in let u = k f b.1.rep in (u.0.same ∙ b.0, kept_on b.1 u.1);
}

-- every site below i links to its root
pub record Settling (l₀ l : Links) (i : ℕ) : Type 0 where
  pub inside : i ≤ length l.parent.now
  pub sized : length l.parent.now ≡ length l₀.parent.now
  pub keeps : (f : Forest) → Holds l₀ f → Holds l f × ((k : ℕ) → k < i → get_or l.parent.now k 0 ≡ get_or f.roots k 0)

pub settle-on : {l₀ l : Links} {i : ℕ} (l' : Links) → Settling l₀ l i → i < length l.parent.now → Settled l l' i
    → length l'.parent.now ≡ length l.parent.now → Settling l₀ l' (i + 1)
settle-on {i = i} l' s lt t e = record {
  inside = rw e (omega arith);
  sized = e ∙ s.sized;
  keeps = λ f r.
      let a = s.keeps f r in
      let b = t f a.0 in
      (b.1.rep, below_more _ i (λ k h. b.1.flat k (a.1 k h)) b.0);
}

-- a slice that holds a forest after a step is as long as before
pub settled-length : {l₀ l : Links} (l' : Links) {i : ℕ} → Valid l₀ → Settling l₀ l i → Settled l l' i → length l'.parent.now ≡ length l.parent.now
settled-length l' v s t = let a = s.keeps v.0 v.1 in (t v.0 a.0).1.rep.links ∙ sym a.0.links

pub all_settled : {l₀ l : Links} {i : ℕ} → Settling l₀ l i → length l.parent.now ≤ i → Flattened l₀ l
all_settled {l = l} s le f r =
    let a = s.keeps f r in
    (ext_get_or 0 l.parent.now f.roots a.0.links (λ k h. a.1 k (omega arith)), a.0.ranks)
