-- `lattice::in_domain` meets its contract: each test that fails leaves the definition false.
use Rattle.std.proofs.Common.{sym, ap, le-leb, ◌∙◌, ◌≡◌, ◌≤◌, true, false, length, rules}
use Rattle.std.proofs.Math.Bool.{and-false}
use Rattle.std.proofs.lemmas.Bool.{lt-leb}
use mathlib.Core.Logic.{⊎_elim}
use Rattle.lattice.specs.Lattice.{in_domain, in_range}
use Rattle.lattice.specs.Shape.{shape_for}
use Rattle.lattice.specs.declared.Shape.{Shape}
use Rattle.lattice.proofs.in_domain.Goals as goal
use Rattle.lattice.proofs.in_domain.Goals.{then-extents-le4, else-extents-le4}

pub returns-then-ranged : goal.returns-then-ranged
unfolding in_domain shape_for
returns-then-ranged c =
    let r : in_range c.args.extents.now ≡ true = search rules in
    let a : 1 ≤ length c.args.extents.now = search rules in
    let b : length c.args.extents.now ≤ 4 = search rules in
    simp (ap (λ (s : Shape). s.sites) c.shape_of.ensures, le-leb _ _ a, le-leb _ _ b, r)

pub returns-else-ranged : goal.returns-else-ranged
unfolding in_domain
returns-else-ranged c = c.if-ranged.false ∙ sym (elim c.if-extents-le4.branch as (λ b. in_domain c.args.extents.now ≡ false) [
  | then-extents-le4 w ↦ simp (sym w.ranged.ensures ∙ sym w.value-is ∙ c.if-ranged.false, and-false)
  | else-extents-le4 w ↦ ⊎_elim
      (λ p. simp (lt-leb (length c.args.extents.now) 4 p.1, and-false))
      (λ q. simp (lt-leb 1 (length c.args.extents.now) q)) w.if-extents-le4.either
])
