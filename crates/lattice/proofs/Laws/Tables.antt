-- The outcome of the tables call, case by case; and that a promise of it admits one outcome.
use Rattle.std.specs.Prelude.{ℕ, ◌*◌, ◌≡◌, true, false, ◌&&◌, List, length, eqb, Ok, Err}
use Rattle.std.proofs.Math.Path.{sym}
use Rattle.std.proofs.Common.{ap}
use Rattle.std.proofs.Math.Bool.{and-false}
use borrow.Author.Tests.{eq-eqb, ne_eqb}
use Rattle.domain.specs.Refusals.{Verdict}
use Rattle.domain.specs.declared.Refusal.TheVariants.{Shape, Length}
use Rattle.domain.specs.Promise as promise
use Rattle.domain.specs.Promise.{Promised}
use Rattle.domain.proofs.Laws.{one-verdict}
use Rattle.lattice.specs.Lattice.{sites, in_domain, fwd_table, bwd_table}
use Rattle.lattice.specs.Tables.{Given, given, Outcome, left, judge, settled, outcome}

module _ (sh : List ℕ) (nf nb : ℕ) where
  wrong-shape : in_domain sh ≡ false → judge sh nf nb ≡ Err Shape
  unfolding judge
  wrong-shape d = rw d

  wrong-length : in_domain sh ≡ true → (eqb nf (sites sh * length sh) && eqb nb (sites sh * length sh)) ≡ false → judge sh nf nb ≡ Err Length
  unfolding judge
  wrong-length d h = rw (d, h)

  fine : in_domain sh ≡ true → (eqb nf (sites sh * length sh) && eqb nb (sites sh * length sh)) ≡ true → judge sh nf nb ≡ Ok tt
  unfolding judge
  fine d h = rw (d, h)

module _ (sh up down : List ℕ) where
  settles : {v : Verdict} → judge sh (length up) (length down) ≡ v → settled (given sh up down) v ≡ outcome (given sh up down)
  unfolding outcome
  settles e = sym (ap (settled (given sh up down)) e)

  pub refused-shape : in_domain sh ≡ false → Promised outcome (given sh up down) (left (Err Shape) up down)
  unfolding settled
  refused-shape d = settles (wrong-shape sh (length up) (length down) d)

  refused-length : in_domain sh ≡ true → (eqb (length up) (sites sh * length sh) && eqb (length down) (sites sh * length sh)) ≡ false
      → Promised outcome (given sh up down) (left (Err Length) up down)
  unfolding settled
  refused-length d h = settles (wrong-length sh (length up) (length down) d h)

  pub refused-up : in_domain sh ≡ true → (length up ≡ sites sh * length sh → ⊥) → Promised outcome (given sh up down) (left (Err Length) up down)
  refused-up d h = refused-length d (rw (ne_eqb _ _ h))

  pub refused-down : in_domain sh ≡ true → (length down ≡ sites sh * length sh → ⊥) → Promised outcome (given sh up down) (left (Err Length) up down)
  refused-down d h = refused-length d (rw (ne_eqb (length down) (sites sh * length sh) h) (and-false (eqb (length up) (sites sh * length sh))))

  pub filled : in_domain sh ≡ true → length up ≡ sites sh * length sh → length down ≡ sites sh * length sh
      → Promised outcome (given sh up down) (left (Ok tt) (fwd_table sh) (bwd_table sh))
  unfolding settled
  filled d h k = settles (fine sh (length up) (length down) d (rw (eq-eqb _ _ h, eq-eqb _ _ k)))

-- two outcomes that the promise admits are equal, to the case of the refusal
pub one-outcome : (g : Given) (v w : Verdict) {up down up' down' : List ℕ} → Promised outcome g (left v up down) → Promised outcome g (left w up' down')
    → (v ≡ w) × (up ≡ up') × (down ≡ down')
one-outcome g v w p q =
    let e = promise.one-outcome outcome g p q in
    (one-verdict v w (ap (λ (o : Outcome). o.reply) e), ap (λ (o : Outcome). o.forward) e, ap (λ (o : Outcome). o.backward) e)
