-- Values of the lattice, by computation: W2, W10, and one that a padded row would change.
use Rattle.std.specs.Prelude.{◌≡◌, refl, List, [], ◌∷◌}
use Rattle.domain.specs.Refusals.{done, refused, reply_of}
use Rattle.domain.specs.Table.{Row, ◌gives◌, computed, written}
use Rattle.lattice.specs.Lattice.{sites, stride, coord_at, coord, put, ahead, behind, fwd, bwd, in_range, in_domain, tab_from, fwd_at, bwd_at, fwd_table, bwd_table}
use Rattle.lattice.specs.Tables.{given, outcome, judge}

abbrev pub rows : List Row
rows =
    fwd (3 ∷ 5 ∷ []) 4 1 gives 0
    ∷ fwd (3 ∷ 5 ∷ []) 14 0 gives 4
    ∷ fwd (3 ∷ 5 ∷ []) 14 1 gives 10
    ∷ bwd (3 ∷ 5 ∷ []) 7 0 gives 2
    ∷ coord (3 ∷ 5 ∷ []) 7 0 gives 1
    ∷ coord (3 ∷ 5 ∷ []) 7 1 gives 2
    ∷ sites (3 ∷ 5 ∷ []) gives 15
    ∷ stride (3 ∷ 5 ∷ []) 0 gives 5
    -- extent 2: both neighbours are one site; extent 1: the site itself
    ∷ outcome (given (2 ∷ 1 ∷ []) (9 ∷ 9 ∷ 9 ∷ 9 ∷ []) (9 ∷ 9 ∷ 9 ∷ 9 ∷ [])) gives record { reply = done tt; forward = 1 ∷ 0 ∷ 0 ∷ 1 ∷ []; backward = 1 ∷ 0 ∷ 0 ∷ 1 ∷ [] }
    -- a table one entry too long: nothing is written
    ∷ outcome (given (1 ∷ []) (9 ∷ []) (9 ∷ 9 ∷ [])) gives record { reply = refused 2 0; forward = 9 ∷ []; backward = 9 ∷ 9 ∷ [] }
    ∷ reply_of (judge (4096 ∷ 4096 ∷ []) 33554432 33554432) gives done tt
    ∷ reply_of (judge (4097 ∷ []) 4097 4097) gives refused 1 0
    ∷ reply_of (judge (0 ∷ []) 0 0) gives refused 1 0
    ∷ reply_of (judge (4096 ∷ 4096 ∷ 4096 ∷ 4096 ∷ []) 0 0) gives refused 1 0
    ∷ reply_of (judge [] 0 0) gives refused 1 0
    ∷ []

pub rows-hold : computed rows ≡ written rows
unfolding outcome judge fwd_table bwd_table fwd_at bwd_at tab_from sites stride coord_at put ahead behind in_range in_domain
rows-hold = refl
