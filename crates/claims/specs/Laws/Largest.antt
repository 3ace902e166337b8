-- The first of the sizes in descending order is the largest.
use Rattle.std.specs.Prelude.{◌≡◌, refl, Bool, true, false, cond, List, [], ◌∷◌, ℕ, max, get_or, ltb}
use Rattle.std.proofs.Common.{ap, ◌∙◌, arith, ltb-true, ltb-false}
use Rattle.graph.specs.Forest.{greatest}
use Rattle.clusters.specs.Sizes.{insert, descending}

insert-first : (x : ℕ) (l : List ℕ) → get_or (insert x l) 0 0 ≡ max x (get_or l 0 0)
unfolding insert
insert-first x [] = omega arith
insert-first x (y ∷ ys) = go (ltb x y) refl
  where
    go : (b : Bool) → ltb x y ≡ b → get_or (cond b (y ∷ insert x ys) (x ∷ y ∷ ys)) 0 0 ≡ max x y
    go true e = omega (arith, ltb-true x y e)
    go false e = omega (arith, ltb-false x y e)

pub first-greatest : (l : List ℕ) → get_or (descending l) 0 0 ≡ greatest l
unfolding descending greatest
first-greatest [] = refl
first-greatest (x ∷ xs) = insert-first x (descending xs) ∙ ap (max x) (first-greatest xs)
