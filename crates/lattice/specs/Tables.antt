-- The call that fills the neighbour tables: its verdict, and everything that it leaves.
use Rattle.std.specs.Prelude.{ℕ, ◌*◌, ◌&&◌, List, [], ◌∷◌, length, eqb, Ok, Err}
use Rattle.domain.specs.declared.Refusal.TheVariants.{Shape, Length}
use Rattle.domain.specs.Refusals.{Verdict, Reply, reply_of, need, checks}
use Rattle.lattice.specs.Lattice.{sites, in_domain, fwd_table, bwd_table}

-- the checks in order, by the lengths of the two tables
unfoldable pub asked : List ℕ → ℕ → ℕ → List Verdict
asked sh forward backward =
    need (in_domain sh) Shape
    ∷ need (eqb forward (sites sh * length sh) && eqb backward (sites sh * length sh)) Length
    ∷ []

unfoldable pub judge : List ℕ → ℕ → ℕ → Verdict
unfolding asked checks
judge sh forward backward = checks (asked sh forward backward)

-- what is given: the extents, and the tables as they are lent
pub record Given : Type 0 where
  pub extents : List ℕ
  pub forward : List ℕ
  pub backward : List ℕ

abbrev pub given : List ℕ → List ℕ → List ℕ → Given
given sh up down = record { extents = sh; forward = up; backward = down }

-- what is left: the reply, and the tables
pub record Outcome : Type 0 where
  pub reply : Reply Unit
  pub forward : List ℕ
  pub backward : List ℕ

abbrev pub left : Verdict → List ℕ → List ℕ → Outcome
left v up down = record { reply = reply_of v; forward = up; backward = down }

-- accepted, both tables are filled; refused, both are as lent
unfoldable pub settled : Given → Verdict → Outcome
unfolding fwd_table bwd_table
settled g (Ok tt) = left (Ok tt) (fwd_table g.extents) (bwd_table g.extents)
settled g (Err r) = left (Err r) g.forward g.backward

unfoldable pub outcome : Given → Outcome
unfolding judge settled
outcome g = settled g (judge g.extents (length g.forward) (length g.backward))
