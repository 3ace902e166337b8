-- The parts of an accepted call put together.
use Rattle.std.specs.Prelude.{◌≡◌, refl, Bool, false, List, [], ℕ, ◌+◌, ◌*◌, ◌^◌, ◌<◌, ◌≤◌, length, get_or, replicate, ℤ, pos, ◌+ℤ◌}
use Rattle.std.proofs.Common.{sym, ap, ap₂, ◌∙◌, subst, arith, eq-eqb, ne_eqb}
use mathlib.Core.List.Memᴰ
use Rattle.std.proofs.lemmas.List.{length-replicate, get_or-replicate}
use Rattle.std.proofs.Math.IntN.{+ℤ_idl}
use Rattle.lattice.specs.Lattice.{sites}
use Rattle.lattice.proofs.Laws.Neighbours.{domain}
use Rattle.graph.specs.Forest.{up_from, fresh, forest, joins, filled}
use Rattle.graph.specs.Winding.{offset, still, winding, winds}
use Rattle.graph.proofs.Laws.Lookup.{get_or-up_from}
use Rattle.clusters.specs.Inside.Rep.{Flattened}
use Rattle.clusters.proofs.Laws.Starting.{fresh-rep}
use Rattle.clusters.proofs.Laws.Links.{hangs-fresh}
use Rattle.clusters.specs.Inside.Sway.{Swings}
use Rattle.clusters.specs.declared.Action.{Action}
use Rattle.clusters.specs.declared.Action.TheVariants.{Observe, Update}
use Rattle.clusters.specs.declared.Observation.{Observation}
use Rattle.clusters.specs.declared.Top.{Top}
use Rattle.clusters.specs.Sizes.{four_of, descending, at_least, twentieth}
use Rattle.clusters.specs.Observation.{two_axes}
use Rattle.clusters.specs.Update.{Ended, drawn, ended}
use Rattle.clusters.specs.Inside.Bare.{bare, sizes_of}
use Rattle.clusters.proofs.Laws.Counts.{length-sizes_of, sizes-le}
use Rattle.clusters.specs.declared.winding.Marks.{Marks}
use Rattle.clusters.specs.declared.links.Links.{Links}
use Rattle.clusters.specs.declared.fk.Lists.{Lists as CodeLists}
use Rattle.clusters.specs.declared.fk.Pass.{Pass}
use Rattle.clusters.specs.Inside.Read.{lists_of}
use Rattle.clusters.specs.Inside.Run.{Plane, Given, Fit, Lists, lists, call_of, origin, scene, plane_of, Joint, Start, Done}
use Rattle.clusters.proofs.Laws.Run.{roots-sized, within-drawn}
use Rattle.generator.specs.declared.Xoshiro256StarStar.{Xoshiro256StarStar}
use Rattle.clusters.specs.Inside.Steps.{DrewAll, Room, Countable, shown, observed_by, held}

-- ---- the start
-- n sites, each its own root and its own parent, with nothing drawn
abbrev pub start_lists : ℕ → Lists
start_lists n = lists (up_from 0 n) (replicate n 0) (up_from 0 n) (replicate n 0) (replicate (2 * n) (pos 0))

pub start-joint : (n : ℕ) (pl : Plane) (two : Bool) → n ≤ 16777216 → Joint two (scene n pl []) (start_lists n) (record { x = false; y = false; torn = false })
unfolding forest joins fresh winding winds still
start-joint n pl two few = record {
  rep = fresh-rep n;
  turned = λ _. record {
    swung = record {
      within = λ c m. absurd (Memᴰ.not-nil m);
      few = few;
      hangs = hangs-fresh n;
      ranks = refl;
      sized = length-replicate (2 * n) (pos 0);
      x = swings 0 (omega arith);
      y = swings 1 (omega arith);
    };
    flags = refl;
  };
}
  where
    swings : (d : ℕ) → d < 2 → Swings n (up_from 0 n) (replicate (2 * n) (pos 0)) d (still n)
    swings d b = record {
      swings = λ i h.
          let own : get_or (up_from 0 n) i 0 ≡ i = get_or-up_from 0 n i h ∙ omega arith in
          sym (ap₂ (λ (z o : ℤ). z +ℤ o) (get_or-replicate (2 * n) (2 * i + d) (pos 0) (pos 0) (omega arith)) (ap (offset (still n)) own) ∙ +ℤ_idl (offset (still n) i));
    }

pub started : {g : Given} {sh : List ℕ} {pl : Plane} {fs ks ps rs : List ℕ} {os : List ℤ} → Room g sh pl fs ks ps rs os → {l : Lists}
    → l ≡ lists (up_from 0 (length fs)) (replicate (length ks) 0) (up_from 0 (length ps)) (replicate (length rs) 0) (replicate (length os) (pos 0))
    → Start g sh l pl
started {sh = sh} r {l} e = record {
  fit = r.fit;
  plane = r.plane;
  fresh = subst (λ (q : Lists). Joint (two_axes sh) (scene (sites sh) (plane_of sh) []) q (record { x = false; y = false; torn = false })) (sym here)
      (start-joint (sites sh) (plane_of sh) (two_axes sh) (domain sh r.fit.domain).few);
}
  where
    here : l ≡ start_lists (sites sh)
    here =
        e ∙ (λ i. lists (up_from 0 (r.roots i)) (replicate (r.decisions i) 0) (up_from 0 (r.parents i)) (replicate (r.ranks i) 0) (replicate (r.offsets i) (pos 0)))

-- ---- the pass done and the roots flattened
pub few-roots : (g : Given) (sh : List ℕ) (x : Xoshiro256StarStar) (l : Lists) (p : Pass) → Fit g sh → Done g sh l x p → length l.roots ≤ 2 ^ 32
few-roots g sh x l p f d =
    let c = call_of g (origin sh x Observe) in
    let e = roots-sized (sites sh) (drawn c (sites sh * length sh)).active (within-drawn c (sites sh * length sh) f.domain (omega arith)) (d Observe).joint.rep in
    omega (arith, e, (domain sh f.domain).few)

pub drew : (g : Given) (sh : List ℕ) (x : Xoshiro256StarStar) (l : CodeLists) (p : Pass) → Done g sh (lists_of l) x p → (k : Links) → Flattened l.links.now k
    → DrewAll g sh x k.parent.now k.rank.now p
drew g sh x l p d k f a =
    let s = d a in
    let h = f _ s.joint.rep in
    record {
      roots-are = h.0;
      ranks-are = h.1;
      state = s.state;
      count = s.active;
      flags = λ t. (s.joint.turned t).flags;
    }

-- ---- the tallies
pub record Counted (counts' hist : List ℕ) : Type 0 where
  pub few : length counts' < 2 ^ 32
  pub inside : (i : ℕ) → i < length counts' → get_or counts' i 0 < length hist

pub counted : {roots counts hist : List ℕ} → Countable roots counts hist → (counts' : List ℕ) → counts' ≡ sizes_of roots → Counted counts' hist
counted {roots} {counts} {hist} c counts' e =
    subst (λ (q : List ℕ). Counted q hist) (sym e)
    (record {
      few = let l = c.few in omega (arith, length-sizes_of roots);
      inside = λ i lt. let h : i < length roots = omega (arith, length-sizes_of roots) in let n = c.hist-n in omega (arith, sizes-le roots i h);
    })

pub same-observation : (counts : List ℕ) (pl : Plane) (p : Pass) {k l : ℕ} {t : Top} {f : Marks}
    → k ≡ filled counts → t ≡ four_of (descending counts) → l ≡ at_least (twentieth (length counts)) counts → f ≡ shown pl p.marks
    → ◌≡◌ {A = Observation} (record { components = k; active = p.active; top = t; large = l; winding = record { x = f.x; y = f.y }; torn = f.torn }) (observed_by counts pl p)
same-observation counts pl p ek et el ef =
    λ i. record { components = ek i; active = p.active; top = et i; large = el i; winding = record { x = (ef i).x; y = (ef i).y }; torn = (ef i).torn }

-- the flags of two axes, and of any other number
pub shown-two : (sh : List ℕ) (f : Marks) → length sh ≡ 2 → f ≡ shown (plane_of sh) f
shown-two sh f e = rw (eq-eqb (length sh) 2 e) refl

pub shown-other : (sh : List ℕ) (f r : Marks) → (length sh ≡ 2 → ⊥) → r.x ≡ false → r.y ≡ false → r.torn ≡ false → r ≡ shown (plane_of sh) f
shown-other sh f r n x y t = rw (ne_eqb (length sh) 2 n) (λ i. record { x = x i; y = y i; torn = t i })

-- ---- step 4
pub observed-only : {a : Action} (roots ds : List ℕ) (ss : List ℤ) (g : Xoshiro256StarStar) → a ≡ Observe
    → ◌≡◌ {A = Ended} (record { decisions = ds; spins = ss; generator = g }) (ended a (held roots ds) ss g)
unfolding ended
observed-only roots ds ss g e = rw e

pub updated : {a : Action} (roots ds : List ℕ) (ss : List ℤ) (g : Xoshiro256StarStar) → a ≡ Update → ended Update (bare roots) ss g ≡ ended a (held roots ds) ss g
unfolding ended
updated roots ds ss g e = rw e
