-- Every active bond of a call on a shape of the domain joins two sites, one step apart on its axis.
use Rattle.std.specs.Prelude.{◌≡◌, true, cond, ℕ, ◌+◌, ◌*◌, ◌/◌, ◌%◌, ◌<◌, length, eqb}
use Rattle.std.proofs.Math.Path.{sym}
use Rattle.std.proofs.Common.{ap, ◌∙◌, subst, mod-lt, div-lt_iff_lt-mul, add-zero, arith, eq-eqb, ne_eqb}
use mathlib.Core.List.{List, Memᴰ}
use Rattle.std.proofs.Math.Nat.{mod-mod}
use Rattle.std.proofs.Math.Decide.{ℕ_discrete}
use Rattle.lattice.specs.Lattice.{sites, extent, stride, coord_at, coord, fwd, in_domain}
use Rattle.lattice.proofs.Laws.Neighbours.{domain, fwd-lt}
use Rattle.lattice.proofs.Laws.Coordinates.{coord-fwd, coord-fwd-other}
use Rattle.graph.specs.Forest.{Bond}
use Rattle.graph.specs.Walk.{Within}
use Rattle.clusters.specs.Call.{Call, size, bonds}
use Rattle.clusters.specs.Update.{bond_at, active}
use Rattle.clusters.proofs.Laws.Drawn.{drawn-sound}

module _ (sh : List ℕ) (ok : in_domain sh ≡ true) where
  pub place : (b : ℕ) → b < sites sh * length sh → ((bond_at sh b).x < sites sh) × ((bond_at sh b).y < sites sh)
  place b h =
      let w = domain sh ok in
      let m : 0 < length sh = omega (arith, w.some) in
      let x : b / length sh < sites sh = (div-lt_iff_lt-mul m).1 h in
      (x, fwd-lt sh (b % length sh) w.range (b / length sh) (mod-lt b m) x)

  coord-same : (i d : ℕ) → coord sh i d ≡ (coord sh i d + 0) % extent sh d
  unfolding coord_at
  coord-same i d = sym (ap (λ (y : ℕ). y % extent sh d) (add-zero (coord sh i d)) ∙ mod-mod (i / stride sh d) (extent sh d))

  moves : (i a d : ℕ) → coord sh (fwd sh i a) d ≡ (coord sh i d + cond (eqb a d) 1 0) % extent sh d
  moves i a d = go (ℕ_discrete a d)
    where
      go : Dec (a ≡ d) → coord sh (fwd sh i a) d ≡ (coord sh i d + cond (eqb a d) 1 0) % extent sh d
      go (yes e) = rw (eq-eqb a d e, e) (coord-fwd sh (domain sh ok).range i d)
      go (no f) = rw (ne_eqb a d f) (coord-fwd-other sh (domain sh ok).range i a d (λ e. f (sym e)) ∙ coord-same i d)

module _ (c : Call) (ok : in_domain c.extents ≡ true) where
  pub within : Within (size c) (active c)
  within k m =
      let s = drawn-sound c (bonds c) k m in
      subst (λ (b : Bond). (b.x < size c) × (b.y < size c)) (sym s.3) (place c.extents ok s.0 s.1)

  pub one-step : (d : ℕ) (k : Bond) → Memᴰ k (active c)
      → coord c.extents k.y d ≡ (coord c.extents k.x d + cond (eqb k.axis d) 1 0) % extent c.extents d
  one-step d k m =
      let s = drawn-sound c (bonds c) k m in
      subst (λ (b : Bond). coord c.extents b.y d ≡ (coord c.extents b.x d + cond (eqb b.axis d) 1 0) % extent c.extents d) (sym s.3)
      (moves c.extents ok (bond_at c.extents s.0).x (bond_at c.extents s.0).axis d)
