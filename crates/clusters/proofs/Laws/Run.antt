-- One bond more.
use Rattle.std.specs.Prelude.{◌≡◌, Bool, true, false, cond, List, [], ◌∷◌, ◌++◌, ℕ, zero, suc, ◌+◌, ◌*◌, ◌<◌, ◌≤◌, length, ℤ, refl, Option, Some, None}
use Rattle.std.proofs.Common.{sym, ap, ◌∙◌, subst, append-nil, add-one, arith, length-append}
use Rattle.lattice.specs.Lattice.{sites, in_domain}
use Rattle.lattice.proofs.Laws.Neighbours.{domain, extent-pos}
use Rattle.bonds.specs.declared.Activation.{Activation}
use Rattle.bonds.specs.Visit.{visit_of}
use Rattle.graph.specs.Forest.{Bond, Forest, root_of, absorb, unite, forest, join}
use Rattle.graph.specs.Walk.{Within}
use Rattle.graph.proofs.Laws.Lookup.{length-relabel}
use Rattle.graph.proofs.Laws.Roots.{sound-forest, unite-cases}
use Rattle.graph.proofs.Laws.Same.{forest-next}
use Rattle.clusters.specs.Inside.Rep.{Rep, Holds, Valid, Joined}
use Rattle.clusters.specs.declared.links.Links.{Links}
use Rattle.clusters.specs.declared.winding.Marks.{Marks}
use Rattle.clusters.specs.Inside.Sway.{Scene, Swung, next}
use Rattle.clusters.specs.Call.{Call}
use Rattle.clusters.specs.Update.{bond_at, visit_at, drawn}
use Rattle.clusters.proofs.Laws.Places.{place}
use Rattle.clusters.proofs.Laws.Drawn.{drawn-sound}
use Rattle.clusters.specs.declared.fk.Pass.{Pass}
use Rattle.clusters.specs.Inside.Run.{Plane, plane_in, Lists, Sized, Given, Origin, call_of, scene, plane_of, Joint, Turned, Stands, Visit}

-- the forest's side of a bond
pub forest-joined : (n : ℕ) (bs : List Bond) (c : Bond) (l l' : Links) → Holds l (forest n bs) → Joined l l' c.x c.y → Holds l' (forest n (bs ++ c ∷ []))
unfolding join
forest-joined n bs c l l' r j = subst (λ (f : Forest). Holds l' f) (sym (forest-next n bs c)) (j (forest n bs) r)

-- drawn, one bond further
module _ (c : Call) (b : ℕ) where
  pub generator-next : (drawn c (b + 1)).generator ≡ (visit_at c b (drawn c b).generator).state
  unfolding drawn
  generator-next = rw (add-one b)

  active-next : (drawn c (b + 1)).active ≡ (drawn c b).active ++ cond (visit_at c b (drawn c b).generator).active (bond_at c.extents b ∷ []) []
  unfolding drawn
  active-next = rw (add-one b)

  pub active-more : (visit_at c b (drawn c b).generator).active ≡ true → (drawn c (b + 1)).active ≡ (drawn c b).active ++ bond_at c.extents b ∷ []
  active-more e = active-next ∙ ap (λ (t : Bool). (drawn c b).active ++ cond t (bond_at c.extents b ∷ []) []) e

  pub active-same : (visit_at c b (drawn c b).generator).active ≡ false → (drawn c (b + 1)).active ≡ (drawn c b).active
  active-same e = active-next ∙ ap (λ (t : Bool). (drawn c b).active ++ cond t (bond_at c.extents b ∷ []) []) e ∙ append-nil (drawn c b).active

-- no more active bonds than visited ones
one-le : (t : Bool) (k : Bond) → length (cond t (k ∷ []) []) ≤ 1
one-le true k = omega arith
one-le false k = omega arith

pub active-le : (c : Call) (b : ℕ) → length (drawn c b).active ≤ b
unfolding drawn
active-le c zero = omega arith
active-le c (suc b) =
    let t = (visit_at c b (drawn c b).generator).active in
    omega (
      arith,
      length-append (drawn c b).active (cond t (bond_at c.extents b ∷ []) []),
      one-le t (bond_at c.extents b),
      active-le c b,
    )

-- the sites of the bonds drawn are among the sites
pub within-drawn : (c : Call) (b : ℕ) → in_domain c.extents ≡ true → b ≤ sites c.extents * length c.extents → Within (sites c.extents) (drawn c b).active
within-drawn c b ok le k m =
    let s = drawn-sound c b k m in
    let h = s.1 in
    subst (λ (q : Bond). (q.x < sites c.extents) × (q.y < sites c.extents)) (sym s.3) (place c.extents ok s.0 (omega arith))

pub roots-sized : (n : ℕ) (bs : List Bond) {fs ks : List ℕ} → Within n bs → Rep fs ks (forest n bs) → length fs ≡ n
roots-sized n bs w r = r.links ∙ (sound-forest n bs w).roots-n

-- where the winding is kept, there are as many parents as roots
pub one_size : (n : ℕ) (pl : Plane) (bs : List Bond) {l : Lists} {f : Marks} → Rep l.roots l.decisions (forest n bs) → Turned (scene n pl bs) l f
    → length l.parents ≡ length l.roots
one_size n pl bs r t = t.swung.hangs.parents-n ∙ sym (roots-sized n bs t.swung.within r)

-- ---- a join leaves the five lists as long as they were
length-unite : (f : Forest) (p q : ℕ) → length (unite f p q).roots ≡ length f.roots
unfolding absorb
length-unite f p q = unite-cases (λ (u : Forest). length u.roots ≡ length f.roots) f p q (λ _. refl) (λ w l _. length-relabel w l f.roots)

-- the two of the links
pub links-sized : (l l' : Links) (x y : ℕ) → Valid l → Joined l l' x y → (length l'.parent.now ≡ length l.parent.now) × (length l'.rank.now ≡ length l.rank.now)
links-sized l l' x y v j =
    let h = v.1 in
    let k = j v.0 h in
    let e = length-unite v.0 (root_of v.0 x) (root_of v.0 y) in
    (k.links ∙ e ∙ sym h.links, ap length k.ranks ∙ k.grown.sized ∙ e ∙ sym h.grown.sized ∙ sym (ap length h.ranks))

-- the three of the winding, where it is kept
swung-ranks-n : {k : Scene} {ps rs : List ℕ} {os : List ℤ} → Swung k ps rs os → length rs ≡ k.n
swung-ranks-n {k} s = ap length s.ranks ∙ (sound-forest k.n k.bonds s.within).ranks-n

pub swung-sized : (k : Scene) (c : Bond) {l l' : Lists} → length l'.roots ≡ length l.roots → length l'.decisions ≡ length l.decisions
    → Swung k l.parents l.ranks l.offsets → Swung (next k c) l'.parents l'.ranks l'.offsets → Sized l l'
swung-sized k c r d s s' = record {
  roots = r;
  decisions = d;
  parents = s'.hangs.parents-n ∙ sym s.hangs.parents-n;
  ranks = swung-ranks-n s' ∙ sym (swung-ranks-n s);
  offsets = s'.sized ∙ sym s.sized;
}

-- ---- the plane: the code has its extents where there are two axes
first-of : Option (ℕ × ℕ) → ℕ
first-of (Some p) = p.0
first-of None = 0

second-of : Option (ℕ × ℕ) → ℕ
second-of (Some p) = p.1
second-of None = 0

pub record Plain (pl : Plane) (x y : ℕ) : Type 0 where
  pub two : pl.two ≡ true
  pub ex : pl.ex ≡ x
  pub ey : pl.ey ≡ y

pub plane-some : (pl : Plane) (ex ey : ℕ) {o : Option (ℕ × ℕ)} → o ≡ plane_in pl → o ≡ Some (ex, ey) → Plain pl ex ey
unfolding first-of second-of
plane-some pl ex ey e f = go pl.two refl (sym e ∙ f)
  where
    go : (b : Bool) → pl.two ≡ b → cond {A = Option (ℕ × ℕ)} b (Some (pl.ex, pl.ey)) None ≡ Some (ex, ey) → Plain pl ex ey
    go true t h = record { two = t; ex = ap first-of h; ey = ap second-of h }
    go false t h = cc

pub plane-none : (pl : Plane) {o : Option (ℕ × ℕ)} → o ≡ plane_in pl → o ≡ None → pl.two ≡ false
plane-none pl e f = go pl.two refl (sym e ∙ f)
  where
    go : (b : Bool) → pl.two ≡ b → cond {A = Option (ℕ × ℕ)} b (Some (pl.ex, pl.ey)) None ≡ None → pl.two ≡ false
    go true t h = cc
    go false t h = t

-- its extents are no 0
pub plane-pos : (sh : List ℕ) → in_domain sh ≡ true → (0 < (plane_of sh).ex) × (0 < (plane_of sh).ey)
plane-pos sh d = let r = (domain sh d).range in (extent-pos sh 0 r, extent-pos sh 1 r)

-- the bond that is next
module _ (g : Given) (o : Origin) {l : Lists} {pl : Plane} {p : Pass} {k : Bond} {b : ℕ} (v : Visit g o l pl p k b) where
  pub site-in : k.x < sites o.extents
  site-in = subst (λ (q : Bond). q.x < sites o.extents) v.place (place o.extents v.fit.domain b v.below).0

  pub to_in : k.y < sites o.extents
  to_in = subst (λ (q : Bond). q.y < sites o.extents) v.place (place o.extents v.fit.domain b v.below).1

  pub roots-n : length l.roots ≡ sites o.extents
  roots-n = let h = v.below in roots-sized (sites o.extents) (drawn (call_of g o) b).active (within-drawn (call_of g o) b v.fit.domain (omega arith)) v.here.joint.rep

  pub few-sites : sites o.extents ≤ 16777216
  few-sites = (domain o.extents v.fit.domain).few

  -- the same on the code's plane, and back
  pub on-plane : Joint pl.two (scene (sites o.extents) pl (drawn (call_of g o) b).active) l p.marks
  on-plane = subst (λ (q : Plane). Joint q.two (scene (sites o.extents) q (drawn (call_of g o) b).active) l p.marks) (sym v.plane) v.here.joint

  pub off-plane : {l' : Lists} {m : Marks} → Joint pl.two (next (scene (sites o.extents) pl (drawn (call_of g o) b).active) k) l' m
      → Joint (plane_of o.extents).two (next (scene (sites o.extents) (plane_of o.extents) (drawn (call_of g o) b).active) k) l' m
  off-plane {l'} {m} j =
      subst (λ (q : Plane). Joint q.two (next (scene (sites o.extents) q (drawn (call_of g o) b).active) k) l' m) v.plane j

  -- what visiting it comes to
  visit-is : (a : Activation) → a ≡ visit_of g.spins g.couplings g.weights g.thresholds k.x k.y b p.state → a ≡ visit_at (call_of g o) b (drawn (call_of g o) b).generator
  visit-is a e =
      e ∙ ap (visit_of g.spins g.couplings g.weights g.thresholds k.x k.y b) v.here.state
      ∙ ap (λ (q : Bond). visit_of g.spins g.couplings g.weights g.thresholds q.x q.y b (drawn (call_of g o) b).generator) (sym v.place)

  module _ (a : Activation) (e : a ≡ visit_of g.spins g.couplings g.weights g.thresholds k.x k.y b p.state) where
    -- it is not active
    pub passed : a.active ≡ false → Stands (call_of g o) (b + 1) l (record { state = a.state; active = p.active; marks = p.marks })
    passed t =
        let u = visit-is a e in
        let s = active-same (call_of g o) b (sym (ap (λ (x : Activation). x.active) u) ∙ t) in
        record {
          state = ap (λ (x : Activation). x.state) u ∙ sym (generator-next (call_of g o) b);
          active = v.here.active ∙ ap length (sym s);
          joint = subst (λ (bs : List Bond). Joint (plane_of o.extents).two (scene (sites o.extents) (plane_of o.extents) bs) l p.marks) (sym s) v.here.joint;
        }

    -- it is
    pub taken : a.active ≡ true → {l' : Lists} (m : Marks)
        → Joint (plane_of o.extents).two (next (scene (sites o.extents) (plane_of o.extents) (drawn (call_of g o) b).active) k) l' m
        → Stands (call_of g o) (b + 1) l' (record { state = a.state; active = p.active + 1; marks = m })
    taken t {l'} m j =
        let u = visit-is a e in
        let s : (drawn (call_of g o) (b + 1)).active ≡ (drawn (call_of g o) b).active ++ k ∷ [] =
        active-more (call_of g o) b (sym (ap (λ (x : Activation). x.active) u) ∙ t) ∙ ap (λ (q : Bond). (drawn (call_of g o) b).active ++ q ∷ []) v.place in
        record {
          state = ap (λ (x : Activation). x.state) u ∙ sym (generator-next (call_of g o) b);
          active = ap (λ (k : ℕ). k + 1) v.here.active ∙ sym (ap length s ∙ length-append (drawn (call_of g o) b).active (k ∷ []));
          joint = subst (λ (bs : List Bond). Joint (plane_of o.extents).two (scene (sites o.extents) (plane_of o.extents) bs) l' m) (sym s) j;
        }
