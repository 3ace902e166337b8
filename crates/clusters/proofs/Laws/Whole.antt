-- A whole call: its parts put together, and what its checks have shown.
use Rattle.std.specs.Prelude.{◌≡◌, refl, Bool, true, false, ◌&&◌, ◌||◌, ℕ, ◌+◌, ◌*◌, ◌<◌, length, get_or, ℤ, pos, Ok, Err}
use Rattle.std.proofs.Common.{sym, ◌∙◌, subst, leb-true}
use Rattle.std.proofs.Math.Path.{ap}
use mathlib.Core.List.{List}
use Rattle.std.proofs.Math.ListN.{replicate}
use Rattle.domain.specs.declared.Refusal.{Refusal}
use Rattle.domain.specs.declared.Refusal.TheVariants.{Histogram}
use Rattle.domain.specs.Numbers.{is_entry}
use Rattle.domain.specs.Refusals.{checks, Passed}
use Rattle.domain.proofs.Laws.{passed, needed, needed-each}
use Rattle.generator.specs.declared.Xoshiro256StarStar.{Xoshiro256StarStar}
use Rattle.lattice.specs.Lattice.{sites, in_domain}
use Rattle.lattice.proofs.Laws.Neighbours.{domain}
use Rattle.lattice.proofs.Laws.Shape.{made}
use Rattle.graph.specs.Forest.{Forest, forest, sizes, filled}
use Rattle.graph.proofs.Laws.Counts.{length-sizes}
use Rattle.graph.proofs.Laws.Roots.{sound-forest}
use Rattle.clusters.specs.declared.winding.Marks.{Marks}
use Rattle.clusters.specs.declared.Observation.{Observation}
use Rattle.clusters.specs.Call.{Call, Lent, size}
use Rattle.clusters.specs.Sizes.{raised, four_of, descending, at_least, twentieth}
use Rattle.clusters.specs.Observation.{two_axes, winding_of, observation}
use Rattle.clusters.specs.Update.{left, Ended, drawn, active, ended, accepted, settled, outcome}
use Rattle.clusters.proofs.Laws.Places.{within}
use Rattle.clusters.specs.Inside.Bare.{bare, sizes_of}
use Rattle.clusters.proofs.Laws.Counts.{sizes-bare}
use Rattle.clusters.specs.declared.fk.Pass.{Pass}
use Rattle.clusters.specs.declared.input.Input.{Input}
use Rattle.clusters.specs.Inside.Run.{Plane, Given, given, call_of, origin, plane_of}
use Rattle.clusters.specs.Inside.Read.{given_of, extents_in, Reads}
use Rattle.clusters.specs.Inside.Asked.{lens_of, all_asked, judge-is}
use Rattle.clusters.proofs.Laws.Asked.{lengths, one-length, spins-ok}
use Rattle.clusters.specs.Inside.Steps.{Drew, DrewAll, Room, Countable, observed_by, held}
use Rattle.clusters.specs.Inside.Whole.{lent_by, Ready}

-- ---- the parts put together
guarded : (two : Bool) {b b' : Bool} → (two ≡ true → b ≡ b') → (two && b) ≡ (two && b')
guarded true f = f refl
guarded false f = refl

module _ (c : Call) {roots decisions : List ℕ} {p : Pass} (ok : in_domain c.extents ≡ true) (d : Drew c roots decisions p) where
  whole : Forest
  whole = forest (size c) (active c)

  pub roots-n : length roots ≡ size c
  roots-n = ap length d.roots-are ∙ (sound-forest (size c) (active c) (within c ok)).roots-n

  pub inside-roots : (i : ℕ) → i < length roots → get_or roots i 0 < length roots
  inside-roots i h =
      subst (λ (q : List ℕ). get_or q i 0 < length roots) (sym d.roots-are)
      (rw roots-n ((sound-forest (size c) (active c) (within c ok)).root-lt i (rw roots-n at h)))

  pub countable : {l : Lent} → Ready c.extents (given c.spins c.couplings c.weights c.thresholds) l → Countable roots l.counts l.histogram
  countable r =
      record {
        counts-n = r.counts-n ∙ sym roots-n;
        few = rw roots-n ((domain c.extents ok).few);
        hist-n = r.histogram-n ∙ ap (λ (n : ℕ). n + 1) (sym roots-n);
        low = r.low;
      }

  counts-are : sizes_of roots ≡ sizes (size c) (forest (size c) (active c))
  counts-are = (λ i. sizes (roots-n i) (bare (d.roots-are i))) ∙ sizes-bare (size c) (forest (size c) (active c))

  flag-x : (two_axes c.extents && p.marks.x) ≡ (two_axes c.extents && (winding_of c.extents 0 (active c)).wraps)
  unfolding winding_of
  flag-x = guarded (two_axes c.extents) (λ t. ap (λ (m : Marks). m.x) (d.flags t))

  flag-y : (two_axes c.extents && p.marks.y) ≡ (two_axes c.extents && (winding_of c.extents 1 (active c)).wraps)
  unfolding winding_of
  flag-y = guarded (two_axes c.extents) (λ t. ap (λ (m : Marks). m.y) (d.flags t))

  flag-torn : (two_axes c.extents && p.marks.torn)
      ≡ (two_axes c.extents && ((winding_of c.extents 0 (active c)).torn || (winding_of c.extents 1 (active c)).torn))
  unfolding winding_of
  flag-torn = guarded (two_axes c.extents) (λ t. ap (λ (m : Marks). m.torn) (d.flags t))

  seen-is : observed_by (sizes (size c) (forest (size c) (active c))) (plane_of c.extents) p ≡ observation c.extents (active c)
  unfolding observation
  seen-is =
      λ i. record {
        components = filled (sizes (size c) (forest (size c) (active c)));
        active = d.count i;
        top = four_of (descending (sizes (size c) (forest (size c) (active c))));
        large = at_least (twentieth (length-sizes (size c) (forest (size c) (active c)) i)) (sizes (size c) (forest (size c) (active c)));
        winding = record { x = flag-x i; y = flag-y i };
        torn = flag-torn i;
      }

  module _ {pl : Plane} {seen : Observation} (epl : pl ≡ plane_of c.extents) (es : seen ≡ observed_by (sizes_of roots) pl p) where
    seen_all : seen ≡ observation c.extents (active c)
    seen_all = es ∙ (λ i. observed_by (counts-are i) (epl i) p) ∙ seen-is

    module _ {ds : List ℕ} {ss : List ℤ} {x : Xoshiro256StarStar}
        (ee : ◌≡◌ {A = Ended} (record { decisions = ds; spins = ss; generator = x }) (ended c.action (held roots decisions) c.spins p.state)) where
      ended_is : ◌≡◌ {A = Ended} (record { decisions = ds; spins = ss; generator = x }) (ended c.action (forest (size c) (active c)) c.spins (drawn c (size c * length c.extents)).generator)
      ended_is = ee ∙ (λ i. ended c.action (held (d.roots-are i) (d.ranks-are i)) c.spins (d.state i))

      pub finished : (l : Lent) → Ready c.extents (given c.spins c.couplings c.weights c.thresholds) l
          → {cs hs ps rs ms : List ℕ} {os : List ℤ}
          → cs ≡ sizes_of roots → hs ≡ raised 0 (sizes_of roots) l.histogram
          → ps ≡ replicate (length l.parents) 0 → rs ≡ replicate (length l.ranks) 0 → os ≡ replicate (length l.offsets) (pos 0) → ms ≡ replicate (length l.marks) 0
          → left (Ok (record { generator = x; observation = seen })) ss (lent_by roots cs ds hs ps rs os ms) ≡ accepted c l
      unfolding accepted
      finished l r ec eh ep er eo em =
          let qc = ec ∙ counts-are in
          let qh = eh ∙ ap (λ (q : List ℕ). raised 0 q l.histogram) counts-are in
          let qp = ep ∙ ap (λ (n : ℕ). replicate n 0) r.parents-n in
          let qr = er ∙ ap (λ (n : ℕ). replicate n 0) r.ranks-n in
          let qo = eo ∙ ap (λ (n : ℕ). replicate n (pos 0)) r.offsets-n in
          let qm = em ∙ ap (λ (n : ℕ). replicate n 0) r.marks-n in
          λ i. left (Ok (record { generator = (ended_is i).generator; observation = seen_all i })) (ended_is i).spins
          (lent_by (d.roots-are i) (qc i) (ended_is i).decisions (qh i) (qp i) (qr i) (qo i) (qm i))

-- ---- what the checks have shown
module _ (c : Call) (l : Lent)
    (e : checks (all_asked c.extents c.spins c.couplings c.weights c.thresholds c.generator l.histogram (lens_of c l)) ≡ (Ok tt)) where
  all : Passed (all_asked c.extents c.spins c.couplings c.weights c.thresholds c.generator l.histogram (lens_of c l))
  all = passed _ e

  pub in-domain : in_domain c.extents ≡ true
  in-domain = needed _ _ all.0

  pub ready : Ready c.extents (given c.spins c.couplings c.weights c.thresholds) l
  ready =
      let z = lengths (sites c.extents) (sites c.extents * length c.extents) (lens_of c l) (needed _ _ all.1.0) in
      record {
        fit = record {
          domain = in-domain;
          spins = spins-ok 0 c.spins all.1.1.1.1.0;
          spins-n = z.spins;
          couplings-n = z.couplings;
          classes = one-length c.weights c.thresholds (needed _ _ all.1.1.1.0);
        };
        roots-n = z.roots;
        counts-n = z.counts;
        decisions-n = z.decisions;
        histogram-n = z.histogram;
        parents-n = z.parents;
        ranks-n = z.ranks;
        offsets-n = z.offsets;
        marks-n = z.marks;
        low = λ s h. leb-true _ _ (needed-each is_entry Histogram 0 l.histogram 0 all.1.1.1.1.1.1.0 s h);
      }

  pub accepts : accepted c l ≡ outcome c l
  unfolding outcome settled
  accepts = ap (settled c l) (sym (sym (judge-is c l) ∙ e))

  -- what the call reads is what it was given
  module _ {k : Input} (r : Reads k c.extents c.spins c.couplings c.weights c.thresholds) where
    back : extents_in k ≡ c.extents
    back = (made c.extents in-domain r.shape).back

    pub plane-is : plane_of (extents_in k) ≡ plane_of c.extents
    plane-is = ap plane_of back

    pub room : Room (given_of k) (extents_in k) (plane_of (extents_in k)) l.roots l.decisions l.parents l.ranks l.offsets
    room =
        record {
          fit = k.fit;
          plane = refl;
          roots = ready.roots-n ∙ ap sites (sym back);
          decisions = ready.decisions-n ∙ ap sites (sym back);
          parents = ready.parents-n ∙ ap sites (sym back);
          ranks = ready.ranks-n ∙ ap sites (sym back);
          offsets = ready.offsets-n ∙ ap (λ (sh : List ℕ). 2 * sites sh) (sym back);
        }

    pub drew : {roots decisions : List ℕ} {p : Pass} → DrewAll (given_of k) (extents_in k) c.generator roots decisions p → Drew c roots decisions p
    drew {roots} {decisions} {p} d =
        subst (λ (sh : List ℕ). Drew (call_of (given c.spins c.couplings c.weights c.thresholds) (origin sh c.generator c.action)) roots decisions p) back
        (subst (λ (g : Given). Drew (call_of g (origin (extents_in k) c.generator c.action)) roots decisions p) r.tile (d c.action))

-- a refused call leaves everything as it was
pub refuses : (c : Call) (l : Lent) (r : Refusal)
    → checks (all_asked c.extents c.spins c.couplings c.weights c.thresholds c.generator l.histogram (lens_of c l)) ≡ Err r
    → left (Err r) c.spins l ≡ outcome c l
unfolding outcome settled
refuses c l r e = ap (settled c l) (sym (sym (judge-is c l) ∙ e))
