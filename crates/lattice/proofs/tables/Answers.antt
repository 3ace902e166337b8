-- `lattice::tables` meets its contract, case by case of its answer.
use Rattle.std.proofs.Common.{ℕ, List, true, ◌*◌, ◌≤◌, ◌≡◌, ◌∙◌, ap, ap₂, sym, arith, mul-le-mul, length, Ok}
use Rattle.std.proofs.lemmas.Result.{err_from_is_err_and}
use mathlib.Core.Logic.{⊎_elim}
use Rattle.lattice.specs.declared.Shape.{Shape}
use Rattle.lattice.specs.Shape.{shape_for}
use Rattle.lattice.specs.Lattice.{sites, in_domain, fwd_table, bwd_table}
use Rattle.lattice.specs.Tables.{left}
use Rattle.lattice.proofs.Laws.Neighbours.{domain}
use Rattle.lattice.proofs.Laws.Shape.{Made, made}
use Rattle.lattice.proofs.Laws.Tables.{refused-shape, refused-up, refused-down, filled}
use Rattle.lattice.proofs.tables.Goals as goal

module _ (sh : List ℕ) {s : Shape} (m : (s ≡ shape_for sh) × (in_domain sh ≡ true)) where
  made-of : Made sh s
  made-of = made sh m.1 m.0

  total : s.sites * s.axes ≡ sites sh * length sh
  total = ap₂ ◌*◌ made-of.sites-are made-of.axes-are

pub returns-in_err-lattice : goal.returns-in_err-lattice
returns-in_err-lattice c =
    let p = err_from_is_err_and c.from_residual.result c.from_residual.ensures.1 in
    let e = c.in_err-lattice.ensures.refused in
    rw (p.1, p.2, e.0) (refused-shape _ _ _ e.1)

pub overflow_mul-total : goal.overflow_mul-total
overflow_mul-total c =
    let m = c.in_ok-lattice.ensures.made in
    let d = domain _ m.1 in
    let h : sites c.args.extents.now * length c.args.extents.now ≤ 16777216 * 4 = mul-le-mul d.few d.four in
    omega (arith, total _ m)

pub returns-then-up-total : goal.returns-then-up-total
returns-then-up-total c =
    let m = c.in_ok-lattice.ensures.made in
    ⊎_elim
    (λ p. refused-up _ _ _ m.1 (λ e. p (e ∙ sym (total _ m))))
    (λ q. refused-down _ _ _ m.1 (λ e. q.1 (e ∙ sym (total _ m)))) c.then-up-total.either

pub returns : goal.returns
returns c =
    let m = c.in_ok-lattice.ensures.made in
    let s = made-of _ m in
    let f = c.fill.ensures in
    ap₂ (left (Ok tt)) (f.up_after ∙ ap fwd_table s.back) (f.down_after ∙ ap bwd_table s.back)
    ∙ filled _ _ _ m.1 (c.if-up-total.false ∙ total _ m) (c.if-down-total.false ∙ total _ m)
