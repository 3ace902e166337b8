-- Walks are joined end to end, reversed, and carried to a longer list of bonds.
use Rattle.std.proofs.Common.{sym, subst}
use Rattle.std.specs.Prelude.{List, ℕ, ℤ, ◌+ℤ◌, neg_ℤ}
use Rattle.std.proofs.Math.IntN.{+ℤ_idr, +ℤ_assoc}
use Rattle.graph.specs.Forest.{Bond}
use Rattle.graph.specs.Walk.{Walk, stay, ahead, back, Among}
use Rattle.graph.proofs.Laws.Ints.{back-ahead, back-back}

module _ {step : Bond → ℤ} {bonds : List Bond} where
  pub onward : {a b c : ℕ} {z y : ℤ} → Walk step bonds a b z → Walk step bonds b c y → Walk step bonds a c (z +ℤ y)
  onward {a} {b} {z = z} u stay = subst (Walk step bonds a b) (sym (+ℤ_idr z)) u
  onward {a} {z = z} u (ahead {z = y} c m v) = subst (Walk step bonds a c.y) (+ℤ_assoc z y (step c)) (ahead c m (onward u v))
  onward {a} {z = z} u (back {z = y} c m v) = subst (Walk step bonds a c.x) (+ℤ_assoc z y (neg_ℤ (step c))) (back c m (onward u v))

  pub reverse : {a b : ℕ} {z : ℤ} → Walk step bonds a b z → Walk step bonds b a (neg_ℤ z)
  reverse stay = stay
  reverse {a} (ahead {z = z} c m v) = subst (Walk step bonds c.y a) (back-ahead z (step c)) (onward (back c m stay) (reverse v))
  reverse {a} (back {z = z} c m v) = subst (Walk step bonds c.x a) (back-back z (step c)) (onward (ahead c m stay) (reverse v))

pub widen : {step : Bond → ℤ} {few many : List Bond} {a b : ℕ} {z : ℤ} → Among few many → Walk step few a b z → Walk step many a b z
widen among stay = stay
widen among (ahead c m v) = ahead c (among c m) (widen among v)
widen among (back c m v) = back c (among c m) (widen among v)
