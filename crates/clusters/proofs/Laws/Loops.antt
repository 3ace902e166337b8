-- The bonds of a site, one after the other, and the sites.
use Rattle.std.specs.Prelude.{◌≡◌, refl, false, List, ℕ, ◌+◌, ◌*◌, ◌<◌, ◌≤◌, length}
use Rattle.std.proofs.Common.{sym, ◌∙◌, subst, add-mul, one-mul, add-zero, zero-mul, add_assoc, arith}
use Rattle.std.proofs.Math.Arith.{digits_lt, digits_div, digits_mod}
use Rattle.generator.specs.declared.Xoshiro256StarStar.{Xoshiro256StarStar}
use Rattle.lattice.specs.Lattice.{sites, fwd}
use Rattle.clusters.specs.Inside.Sway.{bond}
use Rattle.clusters.specs.declared.Action.{Action}
use Rattle.clusters.specs.Update.{bond_at, drawn}
use Rattle.clusters.specs.declared.winding.Marks.{Marks}
use Rattle.clusters.specs.declared.fk.Pass.{Pass}
use Rattle.clusters.specs.Inside.Run.{Plane, Lists, Sized, Given, call_of, origin, Stands, Visit, Visitable, Visited, SiteAt, SiteReady, SiteDone, Start, Done}

-- the bond of a site and a direction
pub place_of : (sh : List ℕ) (site to axis : ℕ) → axis < length sh → to ≡ fwd sh site axis → bond_at sh (site * length sh + axis) ≡ bond site to axis
place_of sh site to axis h e =
    let d = digits_div site h in
    let m = digits_mod site h in
    λ i. record { x = d i; y = ((λ j. fwd sh (d j) (m j)) ∙ sym e) i; axis = m i }

pub sized_none : (l : Lists) → Sized l l
sized_none l = record { roots = refl; decisions = refl; parents = refl; ranks = refl; offsets = refl }

pub sized_on : {l₀ l l' : Lists} → Sized l₀ l → Sized l l' → Sized l₀ l'
sized_on s z = record {
  roots = z.roots ∙ s.roots;
  decisions = z.decisions ∙ s.decisions;
  parents = z.parents ∙ s.parents;
  ranks = z.ranks ∙ s.ranks;
  offsets = z.offsets ∙ s.offsets;
}

-- within a site, after `axis` directions
pub record Going (g : Given) (sh : List ℕ) (l₀ : Lists) (pl : Plane) (p₀ : Pass) (site : ℕ) (l : Lists) (p : Pass) (axis : ℕ) : Type 0 where
  pub inside : axis ≤ length sh
  pub sized : Sized l₀ l
  pub keeps : (x : Xoshiro256StarStar) (a : Action) → SiteAt g (origin sh x a) l₀ pl p₀ site → Stands (call_of g (origin sh x a)) (site * length sh + axis) l p

module _ (g : Given) (sh : List ℕ) (l₀ : Lists) (pl : Plane) (p₀ : Pass) (site : ℕ) where
  pub going-none : Going g sh l₀ pl p₀ site l₀ p₀ 0
  going-none = record {
    inside = omega arith;
    sized = sized_none l₀;
    keeps = λ x a s. subst (λ (b : ℕ). Stands (call_of g (origin sh x a)) b l₀ p₀) (sym (add-zero (site * length sh))) s.here;
  }

  module _ {l : Lists} {p : Pass} {axis : ℕ} (go : Going g sh l₀ pl p₀ site l p axis) (lt : axis < length sh) (to : ℕ) (e : to ≡ fwd sh site axis) where
    pub visit-of : (x : Xoshiro256StarStar) (a : Action) → SiteAt g (origin sh x a) l₀ pl p₀ site → Visit g (origin sh x a) l pl p (bond site to axis) (site * length sh + axis)
    visit-of x a s = record {
      fit = s.fit;
      plane = s.plane;
      place = place_of sh site to axis lt e;
      below = digits_lt s.inside lt;
      here = go.keeps x a s;
    }

    -- m is the number of directions as the code has it
    module _ (m : ℕ) (em : m ≡ length sh) where
      pub visitable : SiteReady g sh l₀ pl p₀ site → Visitable g l pl p (bond site to axis) (site * m + axis)
      visitable r =
          (origin sh r.0 r.1, subst (λ (n : ℕ). Visit g (origin sh r.0 r.1) l pl p (bond site to axis) (site * n + axis)) (sym em) (visit-of r.0 r.1 r.2))

      pub going_on : {l' : Lists} (r : Pass) → Sized l l' → Visited g l l' pl p (bond site to axis) (site * m + axis) r
          → Going g sh l₀ pl p₀ site l' r (axis + 1)
      going_on {l'} r z v = record {
        inside = omega arith;
        sized = sized_on go.sized z;
        keeps = λ x a s.
            let w : Visited g l l' pl p (bond site to axis) (site * length sh + axis) r = subst (λ (n : ℕ). Visited g l l' pl p (bond site to axis) (site * n + axis) r) em v in
            subst (λ (b : ℕ). Stands (call_of g (origin sh x a)) b l' r) (add_assoc (site * length sh) axis 1) (w (origin sh x a) (visit-of x a s));
      }

  -- a bond's number is below that of the couplings
  pub bond-below : SiteReady g sh l₀ pl p₀ site → (m axis : ℕ) → m ≡ length sh → axis < m → site * m + axis < length g.couplings
  bond-below r m axis em h =
      let s = r.2 in
      subst (λ (n : ℕ). site * n + axis < length g.couplings) (sym em)
      (subst (λ (n : ℕ). site * length sh + axis < n) (sym s.fit.couplings-n) (digits_lt s.inside (omega arith)))

  pub gone : {l : Lists} {p : Pass} {axis : ℕ} → Going g sh l₀ pl p₀ site l p axis → length sh ≤ axis → SiteDone g sh l₀ l pl p₀ site p
  gone {l} {p} {axis} go le x a s =
      let full : axis ≡ length sh = omega (arith, go.inside) in
      let e : site * length sh + axis ≡ (site + 1) * length sh = omega (arith, add-mul site 1 (length sh), one-mul (length sh)) in
      subst (λ (b : ℕ). Stands (call_of g (origin sh x a)) b l p) e (go.keeps x a s)

-- ---- over the sites
pub record Walking (g : Given) (sh : List ℕ) (l₀ : Lists) (p₀ : Pass) (l : Lists) (p : Pass) (site : ℕ) : Type 0 where
  pub inside : site ≤ sites sh
  pub sized : Sized l₀ l
  pub keeps : (a : Action) → Stands (call_of g (origin sh p₀.state a)) (site * length sh) l p

-- no bond yet
abbrev pub blank : Xoshiro256StarStar → Pass
blank x = record { state = x; active = 0; marks = record { x = false; y = false; torn = false } }

module _ (g : Given) (sh : List ℕ) {l₀ : Lists} {pl : Plane} (start : Start g sh l₀ pl) where
  stands-none : (x : Xoshiro256StarStar) (a : Action) → Stands (call_of g (origin sh x a)) 0 l₀ (blank x)
  unfolding drawn
  stands-none x a = record { state = refl; active = refl; joint = start.fresh }

  pub walking-none : (x : Xoshiro256StarStar) → Walking g sh l₀ (blank x) l₀ (blank x) 0
  walking-none x = record {
    inside = omega arith;
    sized = sized_none l₀;
    keeps = λ a. subst (λ (b : ℕ). Stands (call_of g (origin sh x a)) b l₀ (blank x)) (sym (zero-mul (length sh))) (stands-none x a);
  }

  -- with flags that are all clear
  pub walking-clear : (x : Xoshiro256StarStar) (f : Marks) → f.x ≡ false → f.y ≡ false → f.torn ≡ false
      → Walking g sh l₀ (record { state = x; active = 0; marks = f }) l₀ (record { state = x; active = 0; marks = f }) 0
  walking-clear x f a b d =
      let none : record { x = false; y = false; torn = false } ≡ f = λ i. record { x = sym a i; y = sym b i; torn = sym d i } in
      subst (λ (m : Marks). Walking g sh l₀ (record { state = x; active = 0; marks = m }) l₀ (record { state = x; active = 0; marks = m }) 0) none (walking-none x)

  module _ {p₀ : Pass} {l : Lists} {p : Pass} {site : ℕ} (w : Walking g sh l₀ p₀ l p site) where
    pub site-at : site < sites sh → (a : Action) → SiteAt g (origin sh p₀.state a) l pl p site
    site-at h a = record { fit = start.fit; plane = start.plane; inside = h; here = w.keeps a }

    pub walking_on : site < sites sh → {l' : Lists} (r : Pass) → Sized l l' → SiteDone g sh l l' pl p site r → Walking g sh l₀ p₀ l' r (site + 1)
    walking_on h r z d = record {
      inside = omega arith;
      sized = sized_on w.sized z;
      keeps = λ a. d p₀.state a (site-at h a);
    }

    pub walked : sites sh ≤ site → Done g sh l p₀.state p
    walked le a =
        let e : site ≡ sites sh = omega (arith, w.inside) in
        subst (λ (i : ℕ). Stands (call_of g (origin sh p₀.state a)) (i * length sh) l p) e (w.keeps a)
