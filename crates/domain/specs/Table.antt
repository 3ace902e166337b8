-- A table of examples: each row a value of the definitions and the value that is written for it. The claim about a table is
-- `computed rows ≡ written rows`, and its proof is `refl`.
use Rattle.std.specs.Prelude.{List, [], ◌∷◌}

infix 68 ◌gives◌
pub data Row : Type 1 where
  ◌gives◌ : {A : Type 0} → A → A → Row

-- the two columns
abbrev pub Columns : List Row → Type 0
Columns [] = Unit
Columns (◌gives◌ {A = A} x y ∷ rows) = A × Columns rows

abbrev pub computed : (rows : List Row) → Columns rows
computed [] = tt
computed ((x gives y) ∷ rows) = (x, computed rows)

abbrev pub written : (rows : List Row) → Columns rows
written [] = tt
written ((x gives y) ∷ rows) = (y, written rows)
