-- What an accepted call has passed, and what it leaves.
use Rattle.std.specs.Prelude.{◌≡◌, ℕ, true, length, Ok, Err}
use Rattle.std.proofs.Math.Path.{refl, ap}
use Rattle.std.proofs.Common.{sym, ◌∙◌, arith}
use Rattle.std.proofs.Math.Bool.{and-eq-true_iff}
use borrow.Author.Tests.{eqb-true}
use Rattle.domain.specs.Refusals.{Verdict, done, refused, Passed, Held}
use Rattle.domain.proofs.Laws.{passed, held, needed}
use Rattle.lattice.specs.Lattice.{in_domain}
use Rattle.bonds.specs.Classes.{classes_ok}
use Rattle.clusters.specs.Call.{Call, Lent, size, bonds, lengths_ok, asked, judge}
use Rattle.graph.specs.Forest.{forest}
use Rattle.clusters.specs.declared.Action.TheVariants.{Observe}
use Rattle.clusters.specs.Observation.{observation}
use Rattle.clusters.specs.declared.Seen.{Seen}
use Rattle.clusters.specs.Update.{Outcome, drawn, active, ended, outcome, settled, accepted}
use Rattle.claims.specs.Terms.{Ran}

-- a reply of one form is not of the other, and has one content
never : {A : Type 0} (n p : ℕ) {a : A} → refused n p ≡ done a → ⊥
never n p e = let z : ◌≡◌ {A = ℕ} 0 1 = cc in omega arith

one-done : {A : Type 0} {a b : A} → done a ≡ done b → a ≡ b
one-done e = cc

module _ (c : Call) (l : Lent) (ok : judge c l ≡ (Ok tt)) where
  all : Passed (asked c l)
  unfolding judge
  all = passed (asked c l) ok

  pub in-domain : in_domain c.extents ≡ true
  unfolding asked
  in-domain = needed _ _ all.0

  lengths : Held (lengths_ok c l)
  unfolding asked
  lengths = held (lengths_ok c l) (needed _ _ all.1.0)

  pub spins-full : length c.spins ≡ size c
  unfolding lengths_ok
  spins-full = eqb-true _ _ lengths.0

  pub classes-ok : classes_ok c.weights c.thresholds ≡ true
  unfolding asked
  classes-ok = needed _ _ all.1.1.1.0

  pub one-length : length c.weights ≡ length c.thresholds
  one-length = eqb-true _ _ ((and-eq-true_iff _ _).0 ((and-eq-true_iff _ _).0 ((and-eq-true_iff _ _).0 classes-ok).0).0).0

  pub outcome-is : outcome c l ≡ accepted c l
  unfolding outcome settled
  outcome-is = ap (settled c l) ok

-- an answer of `done` is given by an accepted call alone, and carries the observation of its active bonds
module _ (c : Call) (l : Lent) (o : Outcome) (s : Seen) (ran : Ran c l o s) where
  judged : (v : Verdict) → judge c l ≡ v → (settled c l v).reply ≡ done s → judge c l ≡ (Ok tt)
  unfolding settled
  judged (Ok tt) e t = e
  judged (Err r) e t = absurd (never _ _ t)

  pub ok : judge c l ≡ (Ok tt)
  unfolding outcome
  ok = judged (judge c l) refl (sym (ap (λ (x : Outcome). x.reply) ran.promised) ∙ ran.answered)

  pub leaves : o ≡ accepted c l
  leaves = ran.promised ∙ outcome-is c l ok

  seen : s ≡ record { generator = (ended c.action (forest (size c) (active c)) c.spins (drawn c (bonds c)).generator).generator; observation = observation c.extents (active c) }
  unfolding accepted
  seen = one-done (sym ran.answered ∙ ap (λ (x : Outcome). x.reply) leaves)

  pub observes : s.observation ≡ observation c.extents (active c)
  observes = ap (λ (x : Seen). x.observation) seen

  pub same-generator : c.action ≡ Observe → s.generator ≡ (drawn c (bonds c)).generator
  unfolding ended
  same-generator observe = ap (λ (x : Seen). x.generator) seen ∙ rw observe
