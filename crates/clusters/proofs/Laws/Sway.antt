-- What a lookup finds, and what a bond does to the three lists.
use Rattle.std.specs.Prelude.{◌≡◌, refl, ◌≢◌, Bool, true, false, cond, ◌||◌, Some, None, ℕ, ◌+◌, ◌*◌, ◌-◌, ◌≤◌, ◌<◌, length, get_or, set, pos, neg_ℤ, nat_abs, ◌+ℤ◌, ◌-ℤ◌}
use Rattle.std.proofs.Common.{sym, ap₂, ◌∙◌, ⊎_elim, add-one, arith, length-set, lit<, get_or-set_same, get_or-set_other, le_trans, SFits, to_z, of_z}
use Rattle.std.proofs.Math.Path.{ap, subst}
use mathlib.Core.List.Memᴰ
use mathlib.Core.List.{List, [], ◌∷◌, ◌++◌, Memᴰ}
use Rattle.std.proofs.Math.Decide.{ℕ_discrete, dec_lt}
use borrow.Author.Tests.{eq-eqb, ne_eqb, lt-ltb, le-ltb}
use Rattle.std.proofs.Math.IntN.{ℤ}
use Rattle.std.specs.Int.{w64}
use Rattle.domain.specs.Cases.{by-dec}
use Rattle.ints.specs.Fits.{near_fits, read_back}
use Rattle.ints.specs.Ints.{abs-add, abs-sub, view, diff-add, diff-neg, diff-eq, +ℤ-left-comm}
use Rattle.graph.specs.Forest.{Bond, Forest, root_of, rank_of, absorb, unite, join, forest}
use Rattle.graph.specs.Winding.{Winding, root, rank, offset, along, attach, close, around, wind, winding}
use Rattle.graph.specs.Walk.{Within}
use Rattle.graph.proofs.Laws.Same.{winding-trees, winding-next, forest-next}
use Rattle.graph.proofs.Laws.Roots.{Apart, sound-forest}
use Rattle.graph.proofs.Laws.Trees.{Good, offset-hit, offset-miss, zero-stays}
use Rattle.graph.proofs.Laws.Bounds.{short-along, spread-all, offset-lt}
use Rattle.graph.proofs.Laws.Bounds as bounds
use Rattle.graph.proofs.Laws.Sizes.{rank-le}
use Rattle.clusters.specs.declared.winding.Found.{Found}
use Rattle.clusters.specs.declared.winding.Marks.{Marks}
use Rattle.clusters.specs.declared.winding.Way.{Way}
use Rattle.clusters.specs.Inside.Links.{Hung, Hangs}
use Rattle.clusters.proofs.Laws.Links.{hangs-absorb}
use Rattle.clusters.specs.Inside.Join as J
use Rattle.clusters.specs.Inside.Join.{Wind, Room, Linkable, link, raise}
use Rattle.clusters.proofs.Laws.Join.{join-lower, join-equal, join-higher}
use Rattle.clusters.specs.Inside.Sway.{Scene, trees, xs, ys, next, on, Swings, Swung, found, moved, far, Near, rounded, around_of, away, off, marks, marks_of, closing, way_of}

-- ---- places and ways
-- two places are equal by their parts
pub same_place : (r : ℕ) {x x' y y' : ℤ} → x ≡ x' → y ≡ y' → ◌≡◌ {A = Found} (record { root = r; x = x; y = y }) (record { root = r; x = x'; y = y' })
same_place r p q = λ i. record { root = r; x = p i; y = q i }

-- the way around a bond is at most 2b + 1 on an axis, where each way to a root is at most b
pub around-near : (f g : ℤ) (on : Bool) (b : ℕ) → nat_abs f ≤ b → nat_abs g ≤ b → nat_abs (rounded f g on) ≤ 2 * b + 1
around-near f g true b h k = le_trans (abs-add (f -ℤ g) (pos 1)) (omega (arith, abs-sub f g))
around-near f g false b h k = le_trans (abs-add (f -ℤ g) (pos 0)) (omega (arith, abs-sub f g))

pub step-last : (f g s : ℤ) → f -ℤ g +ℤ s ≡ f +ℤ s -ℤ g
step-last f g s = rw (view f, view g, view s) (simp (diff-neg, diff-add) (diff-eq _ _ _ _ (omega arith)))

-- ---- one axis
module _ (d e n : ℕ) (bonds : List Bond) (within : Within n bonds) where
  good : Good n (winding (along d) e n bonds)
  good = (spread-all (along d) e n bonds (short-along d) within).0

  same : (i : ℕ) → root (winding (along d) e n bonds) i ≡ root_of (forest n bonds) i
  same i = ap (λ (f : Forest). root_of f i) (winding-trees (along d) e n bonds)

  near : (i : ℕ) → i < n → nat_abs (offset (winding (along d) e n bonds) i) < n
  near = offset-lt (along d) e n bonds (short-along d) within

  zero-at : (i : ℕ) → i < n → root_of (forest n bonds) i ≡ i → offset (winding (along d) e n bonds) i ≡ pos 0
  zero-at i h r = ap (offset (winding (along d) e n bonds)) (sym (same i ∙ r)) ∙ good.root-offset i h

-- ---- the lookup
module _ (k : Scene) {ps rs : List ℕ} {os : List ℤ} (sw : Swung k ps rs os) where
  in_scene : (i : ℕ) → i < length ps → i < k.n
  in_scene i h = rw sw.hangs.parents-n at h

  pub rank-small : (i : ℕ) → i < k.n → get_or rs i 0 ≤ 24
  rank-small i h = rw sw.ranks (rank-le k.n k.bonds sw.within 24 sw.few i h)

  -- each site is near its root
  pub x-near : (i : ℕ) → i < k.n → nat_abs (offset (xs k) i) ≤ far
  x-near i h = let l = sw.few in omega (arith, near 0 k.ex k.n k.bonds sw.within i h)

  pub y-near : (i : ℕ) → i < k.n → nat_abs (offset (ys k) i) ≤ far
  y-near i h = let l = sw.few in omega (arith, near 1 k.ey k.n k.bonds sw.within i h)

  pub near-found : (i : ℕ) → i < length ps → Near (found k i)
  near-found i h = record {
    x = x-near i (in_scene i h);
    y = y-near i (in_scene i h);
  }

  pub at-root : (s : ℕ) → s < length ps → get_or ps s 0 ≡ s → ◌≡◌ {A = Found} (record { root = s; x = pos 0; y = pos 0 }) (found k s)
  at-root s h e =
      let r = (sw.hangs.hung s (in_scene s h)).ends e in
      let a = zero-at 0 k.ex k.n k.bonds sw.within s (in_scene s h) r in
      let b = zero-at 1 k.ey k.n k.bonds sw.within s (in_scene s h) r in
      λ i. record { root = (sym r) i; x = (sym a) i; y = (sym b) i }

  module _ (s : ℕ) (h : s < length ps) (ne : get_or ps s 0 ≢ s) where
    up-link : Hung k.n (trees k) s (get_or ps s 0)
    up-link = sw.hangs.hung s (in_scene s h)

    pub parent_in : get_or ps s 0 < length ps
    parent_in = rw sw.hangs.parents-n up-link.parent-lt

    pub rank_falls : (t : ℕ) → 255 - get_or rs s 0 ≡ t → 255 - get_or rs (get_or ps s 0) 0 < t
    rank_falls t i =
        let up : get_or rs s 0 < get_or rs (get_or ps s 0) 0 = rw sw.ranks (up-link.rises ne) in
        omega (arith, rank-small (get_or ps s 0) up-link.parent-lt)

    module _ (x y : ℤ) (w : Found) (ex : x ≡ get_or os (2 * s) (pos 0)) (ey : y ≡ on os 1 s) (ew : w ≡ found k (get_or ps s 0)) where
      pub one_link : moved w x y ≡ found k s
      one_link =
          let ex' : x ≡ on os 0 s = ex ∙ ap (λ (i : ℕ). get_or os i (pos 0)) (omega arith) in
          (λ i. moved (ew i) (ex' i) (ey i))
          ∙ (λ i. record { root = up-link.same-root i; x = (sym (sw.x.swings s (in_scene s h))) i; y = (sym (sw.y.swings s (in_scene s h))) i })

      pub sum_fits : SFits w64 (x +ℤ w.x) × SFits w64 (y +ℤ w.y)
      sum_fits = (
        near_fits (x +ℤ w.x) far (subst (λ (v : Found). nat_abs v.x ≤ far) (sym one_link) (near-found s h).x) (lit< tt),
        near_fits (y +ℤ w.y) far (subst (λ (v : Found). nat_abs v.y ≤ far) (sym one_link) (near-found s h).y) (lit< tt),
      )

-- ---- the way around a bond, from the two places found
pub way-is : (k : Scene) (c : Bond) → around_of (found k c.x) (found k c.y) c.axis ≡ way_of k c
unfolding around along
way-is k c =
    let px = step-last (offset (xs k) c.x) (offset (xs k) c.y) (along 0 c) in
    let py = step-last (offset (ys k) c.x) (offset (ys k) c.y) (along 1 c) in
    λ i. record { a = root_of (trees k) c.x; b = root_of (trees k) c.y; around = (px i, py i) }

-- what a place found is, as it is read back from a local
module _ (k : Scene) {ps rs : List ℕ} {os : List ℤ} (sw : Swung k ps rs os) (s : ℕ) (h : s < k.n) (f : Found) (e : f ≡ found k s) where
  near-x : nat_abs f.x ≤ far
  near-x = subst (λ (v : Found). nat_abs v.x ≤ far) (sym e) (x-near k sw s h)

  near-y : nat_abs f.y ≤ far
  near-y = subst (λ (v : Found). nat_abs v.y ≤ far) (sym e) (y-near k sw s h)

  pub back-x : to_z w64 (of_z w64 f.x) ≡ f.x
  back-x = read_back f.x (near_fits f.x far near-x (lit< tt)).sfits

  pub back-y : to_z w64 (of_z w64 f.y) ≡ f.y
  back-y = read_back f.y (near_fits f.y far near-y (lit< tt)).sfits

  pub seen-x : nat_abs (to_z w64 (of_z w64 f.x)) ≤ far
  seen-x = rw back-x near-x

  pub seen-y : nat_abs (to_z w64 (of_z w64 f.y)) ≤ far
  seen-y = rw back-y near-y

-- what a join is asked, of the way q
module _ (k : Scene) {ps rs : List ℕ} {os : List ℤ} (sw : Swung k ps rs os) where
  pub room_for : Room (J.wind ps rs os)
  room_for = record {
    ranks = ap length sw.ranks ∙ (sound-forest k.n k.bonds sw.within).ranks-n ∙ sym sw.hangs.parents-n;
    offsets = sw.sized ∙ ap (λ (n : ℕ). 2 * n) (sym sw.hangs.parents-n);
    few = rw sw.hangs.parents-n sw.few;
  }

  module _ (c : Bond) (hx : c.x < k.n) (hy : c.y < k.n) (q : Way) (e : q ≡ way_of k c) where
    pub a_in : q.a < length ps
    a_in = rw sw.hangs.parents-n (subst (λ (v : Way). v.a < k.n) (sym e) ((sound-forest k.n k.bonds sw.within).root-lt c.x hx))

    pub b-in : q.b < length ps
    b-in = rw sw.hangs.parents-n (subst (λ (v : Way). v.b < k.n) (sym e) ((sound-forest k.n k.bonds sw.within).root-lt c.y hy))

    pub spare : get_or rs q.a 0 < 255
    spare = let l : q.a < k.n = rw sw.hangs.parents-n at a_in in omega (arith, rank-small k sw q.a l)

    bound-x : nat_abs q.around.0 ≤ 2 * far
    bound-x =
        subst (λ (v : Way). nat_abs v.around.0 ≤ 2 * far) (sym e)
        (let l = sw.few in omega (arith, bounds.around-lt (along 0) k.ex k.n k.bonds (short-along 0) sw.within c hx hy))

    bound-y : nat_abs q.around.1 ≤ 2 * far
    bound-y =
        subst (λ (v : Way). nat_abs v.around.1 ≤ 2 * far) (sym e)
        (let l = sw.few in omega (arith, bounds.around-lt (along 1) k.ey k.n k.bonds (short-along 1) sw.within c hx hy))

    pub way-back-x : to_z w64 (of_z w64 q.around.0) ≡ q.around.0
    way-back-x = read_back q.around.0 (near_fits q.around.0 _ bound-x (lit< tt)).sfits

    pub way-back-y : to_z w64 (of_z w64 q.around.1) ≡ q.around.1
    way-back-y = read_back q.around.1 (near_fits q.around.1 _ bound-y (lit< tt)).sfits

    pub way-seen-x : nat_abs (to_z w64 (of_z w64 q.around.0)) < 9223372036854775808
    way-seen-x = rw way-back-x (omega (arith, bound-x))

    pub way-seen-y : nat_abs (to_z w64 (of_z w64 q.around.1)) < 9223372036854775808
    way-seen-y = rw way-back-y (omega (arith, bound-y))

-- all of that at once
module _ (k : Scene) {ps rs : List ℕ} {os : List ℤ} (sw : Swung k ps rs os) (c : Bond) (ix : c.x < length ps) (iy : c.y < length ps) where
  pub linkable : (q : Way) → q ≡ way_of k c → Linkable (J.wind ps rs os) q
  linkable q e =
      let room = room_for k sw in
      let hx = in_scene k sw c.x ix in
      let hy = in_scene k sw c.y iy in
      record {
        ranks = room.ranks;
        offsets = room.offsets;
        few = room.few;
        a = a_in k sw c hx hy q e;
        b = b-in k sw c hx hy q e;
        spare = spare k sw c hx hy q e;
        x = omega (arith, bound-x k sw c hx hy q e);
        y = omega (arith, bound-y k sw c hx hy q e);
      }

module _ (q : Way) where
  pub closes : q.a ≡ q.b → closing q ≡ Some q.around
  closes e = rw (eq-eqb q.a q.b e)

  pub joins : (q.a ≡ q.b → ⊥) → closing q ≡ None
  joins n = rw (ne_eqb q.a q.b n)

-- ---- a bond's two roots
module _ (f : Forest) (a b : ℕ) where
  unite-same : a ≡ b → unite f a b ≡ f
  unfolding unite
  unite-same e = rw (eq-eqb a b e)

  module _ (ne : a ≢ b) where
    unite-low : rank_of f a < rank_of f b → unite f a b ≡ absorb f b a
    unfolding unite
    unite-low h = rw (ne_eqb a b ne, lt-ltb (rank_of f a) (rank_of f b) h)

    unite-high : rank_of f b ≤ rank_of f a → unite f a b ≡ absorb f a b
    unfolding unite
    unite-high h = rw (ne_eqb a b ne, le-ltb (rank_of f a) (rank_of f b) h)

absorb-keeps : (f : Forest) (w l : ℕ) → (rank_of f w ≡ rank_of f l → ⊥) → (absorb f w l).ranks ≡ f.ranks
unfolding absorb
absorb-keeps f w l ne = rw (ne_eqb (rank_of f w) (rank_of f l) ne)

absorb-lifts : (f : Forest) (w l : ℕ) → rank_of f w ≡ rank_of f l → (absorb f w l).ranks ≡ set f.ranks w (rank_of f w + 1)
unfolding absorb
absorb-lifts f w l e = rw (eq-eqb (rank_of f w) (rank_of f l) e, add-one)

module _ (step : Bond → ℤ) (e : ℕ) (s : Winding) (c : Bond) where
  wind-closed : root s c.x ≡ root s c.y → wind step e s c ≡ close e s (around step e s c)
  unfolding wind
  wind-closed h = rw (eq-eqb (root s c.x) (root s c.y) h)

  wind-near : root s c.x ≢ root s c.y → rank s (root s c.x) < rank s (root s c.y)
      → wind step e s c ≡ attach s (root s c.y) (root s c.x) (neg_ℤ (around step e s c))
  unfolding wind
  wind-near ne h = rw (ne_eqb (root s c.x) (root s c.y) ne, lt-ltb (rank s (root s c.x)) (rank s (root s c.y)) h)

  wind-far : root s c.x ≢ root s c.y → rank s (root s c.y) ≤ rank s (root s c.x)
      → wind step e s c ≡ attach s (root s c.x) (root s c.y) (around step e s c)
  unfolding wind
  wind-far ne h = rw (ne_eqb (root s c.x) (root s c.y) ne, le-ltb (rank s (root s c.x)) (rank s (root s c.y)) h)

-- ---- displacements when one root takes over another's sites
module _ (n : ℕ) (ps : List ℕ) (os os' : List ℤ) (d : ℕ) (s : Winding) (w l : ℕ) (z : ℤ) (good : Good n s) (apart : Apart n s.trees w l)
    (hangs : Hangs n ps s.trees) (old : Swings n ps os d s) (here : on os' d l ≡ z) (there : (i : ℕ) → i ≢ l → on os' d i ≡ on os d i) where
  under : (i : ℕ) → i < n → Dec (root s i ≡ l) → offset (attach s w l z) i ≡ on os d i +ℤ offset (attach s w l z) (get_or ps i 0)
  under i h (yes k) =
      let u = hangs.hung i h in
      offset-hit n s w l z good i h k ∙ ap (λ (o : ℤ). z +ℤ o) (old.swings i h) ∙ +ℤ-left-comm z (on os d i) (offset s (get_or ps i 0))
      ∙ ap (λ (o : ℤ). on os d i +ℤ o) (sym (offset-hit n s w l z good (get_or ps i 0) u.parent-lt (u.same-root ∙ k)))
  under i h (no f) =
      let u = hangs.hung i h in
      offset-miss n s w l z good i h f ∙ old.swings i h
      ∙ ap (λ (o : ℤ). on os d i +ℤ o) (sym (offset-miss n s w l z good (get_or ps i 0) u.parent-lt (λ k. f (sym u.same-root ∙ k))))

  loser : offset (attach s w l z) l ≡ z +ℤ offset (attach s w l z) w
  loser =
      offset-hit n s w l z good l apart.l_lt apart.l-root
      ∙ ap (λ (o : ℤ). z +ℤ o) (ap (offset s) (sym apart.l-root) ∙ good.root-offset l apart.l_lt ∙ sym (zero-stays n s w l z good w apart.w-lt apart.w-root apart.differ))

  each : (i : ℕ) → i < n → Dec (i ≡ l) → offset (attach s w l z) i ≡ on os' d i +ℤ offset (attach s w l z) (get_or (set ps l w) i 0)
  each i h (yes k) =
      subst (λ (a : ℕ). offset (attach s w l z) a ≡ on os' d a +ℤ offset (attach s w l z) (get_or (set ps l w) a 0)) (sym k)
      (loser ∙ sym (ap₂ (λ (o : ℤ) (q : ℕ). o +ℤ offset (attach s w l z) q) here (get_or-set_same ps l w 0 (omega (arith, hangs.parents-n, apart.l_lt)))))
  each i h (no f) =
      under i h (ℕ_discrete (root s i) l)
      ∙ sym (ap₂ (λ (o : ℤ) (q : ℕ). o +ℤ offset (attach s w l z) q) (there i f) (get_or-set_other ps l i w 0 f))

  pub swings-attach : Swings n (set ps l w) os' d (attach s w l z)
  swings-attach = record { swings = λ i h. each i h (ℕ_discrete i l) }

-- the two displacements of l, set
abbrev hung-at : List ℤ → ℕ → ℤ → ℤ → List ℤ
hung-at os l x y = set (set os (2 * l + 0) x) (2 * l + 1) y

module _ (os : List ℤ) (l : ℕ) (x y : ℤ) (h : 2 * l + 1 < length os) where
  first-at : on (hung-at os l x y) 0 l ≡ x
  first-at = get_or-set_other (set os (2 * l + 0) x) (2 * l + 1) (2 * l + 0) y (pos 0) (λ e. omega arith) ∙ get_or-set_same os (2 * l + 0) x (pos 0) (omega arith)

  second_at : on (hung-at os l x y) 1 l ≡ y
  second_at = get_or-set_same (set os (2 * l + 0) x) (2 * l + 1) y (pos 0) (simp length-set h)

  other_at : (d i : ℕ) → d < 2 → i ≢ l → on (hung-at os l x y) d i ≡ on os d i
  other_at d i b ne =
      get_or-set_other (set os (2 * l + 0) x) (2 * l + 1) (2 * i + d) y (pos 0) (λ e. ne (omega arith))
      ∙ get_or-set_other os (2 * l + 0) (2 * i + d) x (pos 0) (λ e. ne (omega arith))

-- ---- one bond more
module _ (k : Scene) (c : Bond) {ps rs : List ℕ} {os : List ℤ} (sw : Swung k ps rs os) (ix : c.x < length ps) (iy : c.y < length ps) where
  hx : c.x < k.n
  hx = in_scene k sw c.x ix

  hy : c.y < k.n
  hy = in_scene k sw c.y iy

  within-next : Within k.n (k.bonds ++ c ∷ [])
  within-next q m =
      ⊎_elim (λ (i : Memᴰ q k.bonds). sw.within q i)
      (λ (i : Memᴰ q (c ∷ [])). subst (λ (v : Bond). (v.x < k.n) × (v.y < k.n)) (sym (Memᴰ.eq_of_singleton i)) (hx, hy))
      (Memᴰ.append_cases k.bonds m)

  trees-next : trees (next k c) ≡ unite (trees k) (root_of (trees k) c.x) (root_of (trees k) c.y)
  unfolding join
  trees-next = forest-next k.n k.bonds c

  ax : (i : ℕ) → root (xs k) i ≡ root_of (trees k) i
  ax = same 0 k.ex k.n k.bonds sw.within

  ay : (i : ℕ) → root (ys k) i ≡ root_of (trees k) i
  ay = same 1 k.ey k.n k.bonds sw.within

  -- the bond closes a loop
  module _ (e : root_of (trees k) c.x ≡ root_of (trees k) c.y) where
    x-closed : xs (next k c) ≡ close k.ex (xs k) (around (along 0) k.ex (xs k) c)
    x-closed = winding-next (along 0) k.ex k.n k.bonds c ∙ wind-closed (along 0) k.ex (xs k) c (ax c.x ∙ e ∙ sym (ax c.y))

    y-closed : ys (next k c) ≡ close k.ey (ys k) (around (along 1) k.ey (ys k) c)
    y-closed = winding-next (along 1) k.ey k.n k.bonds c ∙ wind-closed (along 1) k.ey (ys k) c (ay c.x ∙ e ∙ sym (ay c.y))

    pub closed : Swung (next k c) ps rs os
    unfolding close
    closed =
        let t : trees (next k c) ≡ trees k = trees-next ∙ unite-same (trees k) (root_of (trees k) c.x) (root_of (trees k) c.y) e in
        record {
          within = within-next;
          few = sw.few;
          hangs = subst (λ (f : Forest). Hangs k.n ps f) (sym t) sw.hangs;
          ranks = sw.ranks ∙ ap (λ (f : Forest). f.ranks) (sym t);
          sized = sw.sized;
          x = subst (λ (s : Winding). Swings k.n ps os 0 s) (sym x-closed) (record { swings = sw.x.swings });
          y = subst (λ (s : Winding). Swings k.n ps os 1 s) (sym y-closed) (record { swings = sw.y.swings });
        }

  -- w takes over the sites of l, which stands (zx, zy) from w
  module _ (w l : ℕ) (zx zy : ℤ) (rs' : List ℕ) (apart : Apart k.n (trees k) w l) (le : rank_of (trees k) l ≤ rank_of (trees k) w)
      (et : trees (next k c) ≡ absorb (trees k) w l) (ex : xs (next k c) ≡ attach (xs k) w l zx) (ey : ys (next k c) ≡ attach (ys k) w l zy)
      (er : rs' ≡ (absorb (trees k) w l).ranks) where
    room : 2 * l + 1 < length os
    room = omega (arith, sw.sized, apart.l_lt)

    taken : Swung (next k c) (set ps l w) rs' (hung-at os l zx zy)
    taken =
        let tx = winding-trees (along 0) k.ex k.n k.bonds in
        let ty = winding-trees (along 1) k.ey k.n k.bonds in
        record {
          within = within-next;
          few = sw.few;
          hangs = subst (λ (f : Forest). Hangs k.n (set ps l w) f) (sym et)
              (hangs-absorb k.n ps (trees k) w l (sound-forest k.n k.bonds sw.within) apart le sw.hangs);
          ranks = er ∙ ap (λ (f : Forest). f.ranks) (sym et);
          sized = simp length-set sw.sized;
          x = subst (λ (s : Winding). Swings k.n (set ps l w) (hung-at os l zx zy) 0 s) (sym ex)
              (swings-attach k.n ps os (hung-at os l zx zy) 0 (xs k) w l zx (good 0 k.ex k.n k.bonds sw.within)
              (subst (λ (f : Forest). Apart k.n f w l) (sym tx) apart) (subst (λ (f : Forest). Hangs k.n ps f) (sym tx) sw.hangs) sw.x
              (first-at os l zx zy room) (λ i n. other_at os l zx zy room 0 i (omega arith) n));
          y = subst (λ (s : Winding). Swings k.n (set ps l w) (hung-at os l zx zy) 1 s) (sym ey)
              (swings-attach k.n ps os (hung-at os l zx zy) 1 (ys k) w l zy (good 1 k.ey k.n k.bonds sw.within)
              (subst (λ (f : Forest). Apart k.n f w l) (sym ty) apart) (subst (λ (f : Forest). Hangs k.n ps f) (sym ty) sw.hangs) sw.y
              (second_at os l zx zy room) (λ i n. other_at os l zx zy room 1 i (omega arith) n));
        }

  -- the two roots are joined: the lists are those of `join`
  module _ (ne : root_of (trees k) c.x ≢ root_of (trees k) c.y) where
    pair_far : Apart k.n (trees k) (root_of (trees k) c.x) (root_of (trees k) c.y)
    pair_far =
        let s = sound-forest k.n k.bonds sw.within in
        record { w-lt = s.root-lt c.x hx; l_lt = s.root-lt c.y hy; w-root = s.root-root c.x hx; l-root = s.root-root c.y hy; differ = ne }

    pair-near : Apart k.n (trees k) (root_of (trees k) c.y) (root_of (trees k) c.x)
    pair-near =
        let p = pair_far in
        record { w-lt = p.l_lt; l_lt = p.w-lt; w-root = p.l-root; l-root = p.w-root; differ = λ e. ne (sym e) }

    -- the winding of one axis, where the roots and ranks are read off its own trees
    module _ (d e : ℕ) where
      axis-near : rank_of (trees k) (root_of (trees k) c.x) < rank_of (trees k) (root_of (trees k) c.y)
          → winding (along d) e k.n (k.bonds ++ c ∷ [])
          ≡ attach (winding (along d) e k.n k.bonds) (root_of (trees k) c.y) (root_of (trees k) c.x) (neg_ℤ (around (along d) e (winding (along d) e k.n k.bonds) c))
      axis-near h =
          let s = winding (along d) e k.n k.bonds in
          let t = winding-trees (along d) e k.n k.bonds in
          winding-next (along d) e k.n k.bonds c
          ∙ wind-near (along d) e s c (subst (λ (f : Forest). root_of f c.x ≢ root_of f c.y) (sym t) ne)
          (subst (λ (f : Forest). rank_of f (root_of f c.x) < rank_of f (root_of f c.y)) (sym t) h)
          ∙ ap (λ (f : Forest). attach s (root_of f c.y) (root_of f c.x) (neg_ℤ (around (along d) e s c))) t

      axis-far : rank_of (trees k) (root_of (trees k) c.y) ≤ rank_of (trees k) (root_of (trees k) c.x)
          → winding (along d) e k.n (k.bonds ++ c ∷ [])
          ≡ attach (winding (along d) e k.n k.bonds) (root_of (trees k) c.x) (root_of (trees k) c.y) (around (along d) e (winding (along d) e k.n k.bonds) c)
      axis-far h =
          let s = winding (along d) e k.n k.bonds in
          let t = winding-trees (along d) e k.n k.bonds in
          winding-next (along d) e k.n k.bonds c
          ∙ wind-far (along d) e s c (subst (λ (f : Forest). root_of f c.x ≢ root_of f c.y) (sym t) ne)
          (subst (λ (f : Forest). rank_of f (root_of f c.y) ≤ rank_of f (root_of f c.x)) (sym t) h)
          ∙ ap (λ (f : Forest). attach s (root_of f c.x) (root_of f c.y) (around (along d) e s c)) t

    -- what holds of the three lists of a state
    abbrev Holds : Wind → Type 0
    Holds v = Swung (next k c) v.parents v.ranks v.offsets

    same_rank : (i : ℕ) → get_or rs i 0 ≡ rank_of (trees k) i
    same_rank i = ap (λ (l : List ℕ). get_or l i 0) sw.ranks

    abbrev now : Wind
    now = J.wind ps rs os

    abbrev p : ℕ
    p = root_of (trees k) c.x

    abbrev q : ℕ
    q = root_of (trees k) c.y

    abbrev zx : ℤ
    zx = around (along 0) k.ex (xs k) c

    abbrev zy : ℤ
    zy = around (along 1) k.ey (ys k) c

    lower : get_or rs p 0 < get_or rs q 0 → Holds (link now p q (neg_ℤ zx) (neg_ℤ zy))
    lower h =
        let l : rank_of (trees k) p < rank_of (trees k) q = omega (arith, same_rank p, same_rank q) in
        taken q p (neg_ℤ zx) (neg_ℤ zy) rs pair-near (omega arith) (trees-next ∙ unite-low (trees k) p q ne l) (axis-near 0 k.ex l) (axis-near 1 k.ey l)
        (sw.ranks ∙ sym (absorb-keeps (trees k) q p (λ e. omega arith)))

    higher : get_or rs q 0 < get_or rs p 0 → Holds (link now q p zx zy)
    higher h =
        let l : rank_of (trees k) q < rank_of (trees k) p = omega (arith, same_rank p, same_rank q) in
        let m : rank_of (trees k) q ≤ rank_of (trees k) p = omega arith in
        taken p q zx zy rs pair_far m (trees-next ∙ unite-high (trees k) p q ne m) (axis-far 0 k.ex m) (axis-far 1 k.ey m)
        (sw.ranks ∙ sym (absorb-keeps (trees k) p q (λ e. omega arith)))

    equal : get_or rs p 0 ≡ get_or rs q 0 → Holds (raise (link now q p zx zy) p)
    equal h =
        let e : rank_of (trees k) p ≡ rank_of (trees k) q = sym (same_rank p) ∙ h ∙ same_rank q in
        let m : rank_of (trees k) q ≤ rank_of (trees k) p = omega arith in
        taken p q zx zy (set rs p (get_or rs p 0 + 1)) pair_far m (trees-next ∙ unite-high (trees k) p q ne m) (axis-far 0 k.ex m) (axis-far 1 k.ey m)
        (ap (λ (l : List ℕ). set l p (get_or l p 0 + 1)) sw.ranks ∙ sym (absorb-lifts (trees k) p q e))

    pub joined : Holds (J.join now p q zx zy)
    joined =
        by-dec (dec_lt (get_or rs p 0) (get_or rs q 0)) (λ h. subst Holds (sym (join-lower now p q zx zy h)) (lower h))
        (λ n. by-dec (ℕ_discrete (get_or rs p 0) (get_or rs q 0))
        (λ e. subst Holds (sym (join-equal now p q zx zy (omega arith) e)) (equal e))
        (λ m. subst Holds (sym (join-higher now p q zx zy (omega arith) m)) (higher (omega arith))))

  -- ---- the flags
  or_swap : (s t u v : Bool) → (s || t) || (u || v) ≡ (s || u) || (t || v)
  or_swap true t u v = refl
  or_swap false true true v = refl
  or_swap false true false v = refl
  or_swap false false u v = refl

  same-marks : {x x' y y' t t' u u' : Bool} → x ≡ x' → y ≡ y' → t ≡ t' → u ≡ u'
      → ◌≡◌ {A = Marks} (record { x = x; y = y; torn = t || u }) (record { x = x'; y = y'; torn = t' || u' })
  same-marks p q r s = λ i. record { x = p i; y = q i; torn = r i || s i }

  pub marks-next : marks (marks_of k) (closing (way_of k c)) k.ex k.ey ≡ marks_of (next k c)
  unfolding close attach
  marks-next =
      by-dec (ℕ_discrete (root_of (trees k) c.x) (root_of (trees k) c.y))
      (λ e.
      ap (λ (t : Bool). marks (marks_of k) (cond t (Some (zx', zy')) None) k.ex k.ey) (eq-eqb (root_of (trees k) c.x) (root_of (trees k) c.y) e)
      ∙ (λ i. record { x = (xs k).wraps || away zx'; y = (ys k).wraps || away zy'; torn = or_swap (xs k).torn (ys k).torn (off zx' k.ex) (off zy' k.ey) i })
      ∙ same-marks (ap (λ (s : Winding). s.wraps) (sym (x-closed e))) (ap (λ (s : Winding). s.wraps) (sym (y-closed e)))
      (ap (λ (s : Winding). s.torn) (sym (x-closed e))) (ap (λ (s : Winding). s.torn) (sym (y-closed e))))
      (λ n.
      ap (λ (t : Bool). marks (marks_of k) (cond t (Some (zx', zy')) None) k.ex k.ey) (ne_eqb (root_of (trees k) c.x) (root_of (trees k) c.y) n)
      ∙ same-marks (still-wraps n 0 k.ex) (still-wraps n 1 k.ey) (still-torn n 0 k.ex) (still-torn n 1 k.ey))
    where
      zx' : ℤ
      zx' = around (along 0) k.ex (xs k) c

      zy' : ℤ
      zy' = around (along 1) k.ey (ys k) c

      still-wraps : root_of (trees k) c.x ≢ root_of (trees k) c.y → (d e : ℕ)
          → (winding (along d) e k.n k.bonds).wraps ≡ (winding (along d) e k.n (k.bonds ++ c ∷ [])).wraps
      still-wraps n d e =
          by-dec (dec_lt (rank_of (trees k) (root_of (trees k) c.x)) (rank_of (trees k) (root_of (trees k) c.y)))
          (λ h. ap (λ (s : Winding). s.wraps) (sym (axis-near n d e h))) (λ h. ap (λ (s : Winding). s.wraps) (sym (axis-far n d e (omega arith))))

      still-torn : root_of (trees k) c.x ≢ root_of (trees k) c.y → (d e : ℕ)
          → (winding (along d) e k.n k.bonds).torn ≡ (winding (along d) e k.n (k.bonds ++ c ∷ [])).torn
      still-torn n d e =
          by-dec (dec_lt (rank_of (trees k) (root_of (trees k) c.x)) (rank_of (trees k) (root_of (trees k) c.y)))
          (λ h. ap (λ (s : Winding). s.torn) (sym (axis-near n d e h))) (λ h. ap (λ (s : Winding). s.torn) (sym (axis-far n d e (omega arith))))
