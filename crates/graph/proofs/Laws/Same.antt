-- The winding of a list of bonds has the forest of that list, whatever the axis.
use Rattle.std.specs.Prelude.{◌≡◌, Bool, true, false, ℕ, eqb, ltb, ℤ}
use Rattle.std.proofs.Math.Path.{refl, ap}
use Rattle.std.proofs.Common.{◌∙◌}
use Rattle.std.proofs.Math.Bool.{cond}
use mathlib.Core.List.{List, [], ◌∷◌, ◌++◌}
use Rattle.graph.specs.Forest.{Bond, Forest, fresh, join, joins, forest}
use Rattle.graph.specs.Winding.{Winding, root, rank, still, wind, winds, winding}

through : {A B : Type 0} (f : A → B) (b : Bool) (p q : A) → f (cond b p q) ≡ cond b (f p) (f q)
through f true p q = refl
through f false p q = refl

module _ (step : Bond → ℤ) (e : ℕ) where
  pub wind-trees : (s : Winding) (c : Bond) → (wind step e s c).trees ≡ join s.trees c
  unfolding wind join
  wind-trees s c =
      let t : Winding → Forest = λ w. w.trees in
      through t (eqb (root s c.x) (root s c.y)) _ _
      ∙ ap (λ (f : Forest). cond (eqb (root s c.x) (root s c.y)) s.trees f) (through t (ltb (rank s (root s c.x)) (rank s (root s c.y))) _ _)

  pub winds-trees : (s : Winding) (cs : List Bond) → (winds step e s cs).trees ≡ joins s.trees cs
  unfolding winds joins
  winds-trees s [] = refl
  winds-trees s (c ∷ cs) = winds-trees (wind step e s c) cs ∙ ap (λ (f : Forest). joins f cs) (wind-trees s c)

  pub winding-trees : (n : ℕ) (bonds : List Bond) → (winding step e n bonds).trees ≡ forest n bonds
  unfolding winding forest
  winding-trees n bonds = winds-trees (still n) bonds

  -- a list visited after another, and one bond more
  pub winds-append : (s : Winding) (ks bs : List Bond) → winds step e s (ks ++ bs) ≡ winds step e (winds step e s ks) bs
  unfolding winds
  winds-append s [] bs = refl
  winds-append s (c ∷ ks) bs = winds-append (wind step e s c) ks bs

  pub winding-next : (n : ℕ) (bonds : List Bond) (c : Bond) → winding step e n (bonds ++ c ∷ []) ≡ wind step e (winding step e n bonds) c
  unfolding winding
  winding-next n bonds c = winds-append (still n) bonds (c ∷ [])

pub joins-append : (f : Forest) (ks bs : List Bond) → joins f (ks ++ bs) ≡ joins (joins f ks) bs
unfolding joins
joins-append f [] bs = refl
joins-append f (c ∷ ks) bs = joins-append (join f c) ks bs

pub forest-next : (n : ℕ) (bonds : List Bond) (c : Bond) → forest n (bonds ++ c ∷ []) ≡ join (forest n bonds) c
unfolding forest
forest-next n bonds c = joins-append (fresh n) bonds (c ∷ [])
