-- The checks of a call, with the lent lists seen only by their lengths, and the histogram. Definitions only, and that they are the call's.
use Rattle.std.specs.Prelude.{◌≡◌, refl, Bool, not, List, [], ◌∷◌, ℕ, ◌+◌, ◌*◌, eqb, length, ℤ, Float}
use Rattle.domain.specs.declared.Refusal.TheVariants.{Shape, Length, Generator, Classes, Spin, Coupling, Histogram}
use Rattle.domain.specs.Numbers.{is_spin, is_entry}
use Rattle.domain.specs.Refusals.{Verdict, need, every, need_each, checks}
use Rattle.generator.specs.declared.Xoshiro256StarStar.{Xoshiro256StarStar}
use Rattle.generator.specs.Xoshiro.{dead}
use Rattle.lattice.specs.Lattice.{sites, in_domain}
use Rattle.bonds.specs.Classes.{classes_ok, bad_coupling}
use Rattle.clusters.specs.Call.{Call, Lent, lengths_ok, asked, judge}
use Rattle.clusters.specs.declared.checks.Lens.{Lens}

abbrev pub lens_of : Call → Lent → Lens
lens_of c l = record {
  spins = length c.spins;
  couplings = length c.couplings;
  roots = length l.roots;
  counts = length l.counts;
  decisions = length l.decisions;
  histogram = length l.histogram;
  parents = length l.parents;
  ranks = length l.ranks;
  offsets = length l.offsets;
  marks = length l.marks;
}

abbrev pub lens_asked : ℕ → ℕ → Lens → List Bool
lens_asked n b z =
    eqb z.spins n
    ∷ eqb z.couplings b
    ∷ eqb z.roots n
    ∷ eqb z.counts n
    ∷ eqb z.decisions n
    ∷ eqb z.histogram (n + 1)
    ∷ eqb z.parents n
    ∷ eqb z.ranks n
    ∷ eqb z.offsets (2 * n)
    ∷ eqb z.marks (2 * n)
    ∷ []

abbrev pub lens_ok : ℕ → ℕ → Lens → Bool
lens_ok n b z = every (lens_asked n b z)

-- the last three, on the values
abbrev pub values_asked : List ℤ → List Float → List Float → List ℕ → List ℕ → List Verdict
values_asked ss js ws ts hs =
    need_each is_spin Spin 0 ss
    ∷ need_each (λ j. not (bad_coupling ws ts j)) Coupling 0 js
    ∷ need_each is_entry Histogram 0 hs
    ∷ []

-- all of them
abbrev pub all_asked : List ℕ → List ℤ → List Float → List Float → List ℕ → Xoshiro256StarStar → List ℕ → Lens → List Verdict
all_asked sh ss js ws ts g hs z =
    need (in_domain sh) Shape
    ∷ need (lens_ok (sites sh) (sites sh * length sh) z) Length
    ∷ need (not (dead g)) Generator
    ∷ need (classes_ok ws ts) Classes
    ∷ values_asked ss js ws ts hs

pub judge-is : (c : Call) (l : Lent)
    → checks (all_asked c.extents c.spins c.couplings c.weights c.thresholds c.generator l.histogram (lens_of c l)) ≡ judge c l
unfolding judge asked lengths_ok
judge-is c l = refl
