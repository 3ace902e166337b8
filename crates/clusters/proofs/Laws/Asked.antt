-- The verdict of the checks, by which of them fails first.
use Rattle.std.specs.Prelude.{◌≡◌, refl, Bool, true, false, not, cond, ◌&&◌, T, List, [], ◌∷◌, ℕ, suc, ◌+◌, ◌*◌, ◌≤◌, length, ℤ, Float, Ok, Err}
use Rattle.std.proofs.Math.Bool.{and-eq-true_iff}
use Rattle.std.proofs.Common.{◌∙◌, mul-le-mul, eqb-true}
use Rattle.domain.specs.declared.Refusal.{Refusal}
use Rattle.domain.specs.declared.Refusal.TheVariants.{Shape, Length, Generator, Classes, Spin, Coupling, Histogram}
use Rattle.domain.specs.Numbers.{is_spin, is_entry}
use Rattle.domain.proofs.Laws.{unlike, held}
use Rattle.domain.specs.Refusals.{Verdict, need_each, checks}
use Rattle.generator.specs.declared.Xoshiro256StarStar.{Xoshiro256StarStar}
use Rattle.generator.specs.Xoshiro.{dead}
use Rattle.lattice.specs.Lattice.{sites, in_domain}
use Rattle.bonds.specs.Classes.{classes_ok, bad_coupling}
use Rattle.bonds.specs.Visit.{all_spins}
use Rattle.clusters.specs.declared.checks.Lens.{Lens}
use Rattle.clusters.specs.Inside.Asked.{lens_asked, lens_ok, values_asked, all_asked}

module _ (v : Verdict) (vs : List Verdict) where
  pub refused-first : (r : Refusal) → v ≡ Err r → Err r ≡ checks (v ∷ vs)
  unfolding checks
  refused-first r e = rw e

  pub passed_first : v ≡ (Ok tt) → checks vs ≡ checks (v ∷ vs)
  unfolding checks
  passed_first e = rw e

pub only_one : (v : Verdict) → v ≡ checks (v ∷ [])
unfolding checks
only_one (Ok tt) = refl
only_one (Err r) = refl

module _ (sh : List ℕ) (ss : List ℤ) (js ws : List Float) (ts : List ℕ) (g : Xoshiro256StarStar) (hs : List ℕ) (z : Lens) where
  pub bad-shape : in_domain sh ≡ false → Err Shape ≡ checks (all_asked sh ss js ws ts g hs z)
  unfolding checks
  bad-shape e = rw e

  module _ (d : in_domain sh ≡ true) where
    pub bad-length : lens_ok (sites sh) (sites sh * length sh) z ≡ false → Err Length ≡ checks (all_asked sh ss js ws ts g hs z)
    unfolding checks
    bad-length e = rw (d, e)

    module _ (l : lens_ok (sites sh) (sites sh * length sh) z ≡ true) where
      pub bad-generator : dead g ≡ true → Err Generator ≡ checks (all_asked sh ss js ws ts g hs z)
      unfolding checks
      bad-generator e = rw (d, l, e)

      pub bad-classes : dead g ≡ false → classes_ok ws ts ≡ false → Err Classes ≡ checks (all_asked sh ss js ws ts g hs z)
      unfolding checks
      bad-classes e k = rw (d, l, e, k)

      module _ (e : dead g ≡ false) (k : classes_ok ws ts ≡ true) where
        pub by_values : checks (values_asked ss js ws ts hs) ≡ checks (all_asked sh ss js ws ts g hs z)
        unfolding checks
        by_values = rw (d, l, e, k)

        pub bad-spins : {r : Refusal} → need_each is_spin Spin 0 ss ≡ Err r → Err r ≡ checks (all_asked sh ss js ws ts g hs z)
        bad-spins a = refused-first _ _ _ a ∙ by_values

        module _ (a : need_each is_spin Spin 0 ss ≡ Ok tt) where
          pub bad-couplings : {r : Refusal} → need_each (λ j. not (bad_coupling ws ts j)) Coupling 0 js ≡ Err r → Err r ≡ checks (all_asked sh ss js ws ts g hs z)
          bad-couplings b = refused-first _ _ _ b ∙ passed_first _ _ a ∙ by_values

          pub by_histogram : need_each (λ j. not (bad_coupling ws ts j)) Coupling 0 js ≡ Ok tt → need_each is_entry Histogram 0 hs ≡ checks (all_asked sh ss js ws ts g hs z)
          by_histogram b = only_one _ ∙ passed_first _ _ b ∙ passed_first _ _ a ∙ by_values

-- the lengths, one by one
pub record Lengths (n b : ℕ) (z : Lens) : Type 0 where
  pub spins : z.spins ≡ n
  pub couplings : z.couplings ≡ b
  pub roots : z.roots ≡ n
  pub counts : z.counts ≡ n
  pub decisions : z.decisions ≡ n
  pub histogram : z.histogram ≡ n + 1
  pub parents : z.parents ≡ n
  pub ranks : z.ranks ≡ n
  pub offsets : z.offsets ≡ 2 * n
  pub marks : z.marks ≡ 2 * n

pub lengths : (n b : ℕ) (z : Lens) → lens_ok n b z ≡ true → Lengths n b z
lengths n b z e =
    let h = held (lens_asked n b z) e in
    record {
      spins = eqb-true _ _ h.0;
      couplings = eqb-true _ _ h.1.0;
      roots = eqb-true _ _ h.1.1.0;
      counts = eqb-true _ _ h.1.1.1.0;
      decisions = eqb-true _ _ h.1.1.1.1.0;
      histogram = eqb-true _ _ h.1.1.1.1.1.0;
      parents = eqb-true _ _ h.1.1.1.1.1.1.0;
      ranks = eqb-true _ _ h.1.1.1.1.1.1.1.0;
      offsets = eqb-true _ _ h.1.1.1.1.1.1.1.1.0;
      marks = eqb-true _ _ h.1.1.1.1.1.1.1.1.1.0;
    }

pub one-length : (ws : List Float) (ts : List ℕ) → classes_ok ws ts ≡ true → length ws ≡ length ts
one-length ws ts e = eqb-true _ _ ((and-eq-true_iff _ _).0 ((and-eq-true_iff _ _).0 ((and-eq-true_iff _ _).0 e).0).0).0

pub few-bonds : {n m : ℕ} → n ≤ 16777216 → m ≤ 4 → n * m ≤ 16777216 * 4
few-bonds h k = mul-le-mul h k

-- the spins that passed are spins
pub spins-ok : (k : ℕ) (ss : List ℤ) → need_each is_spin Spin k ss ≡ (Ok tt) → T (all_spins ss)
unfolding need_each
spins-ok k [] e = tt
spins-ok k (s ∷ ss) e = go (is_spin s) e (spins-ok (suc k) ss)
  where
    go : (b : Bool) → cond b (need_each is_spin Spin (suc k) ss) (Err (Spin k)) ≡ (Ok tt) → (need_each is_spin Spin (suc k) ss ≡ (Ok tt) → T (all_spins ss)) → T (b && all_spins ss)
    go true e rest = rest e
    go false e rest = absurd (unlike (Spin k) e)
