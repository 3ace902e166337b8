-- The worked examples of the rules, by computation over the definitions that the promises cite: each with every number that is given for it.
use Rattle.std.specs.Prelude.{◌≡◌, refl, true, false, List, [], ◌∷◌, ℕ, replicate, pos, Float}
use Rattle.std.specs.Float.{inf}
use Rattle.std.specs.Float.Ieee.{lt, eq}
use Rattle.domain.specs.Refusals.{done, refused, reply_of, every, need_each}
use Rattle.domain.specs.Table.{Row, ◌gives◌, computed, written}
use Rattle.domain.specs.Numbers.{always, zero_f, one_f, minus_one_f}
use Rattle.generator.specs.Xoshiro.{output, draw_of}
use Rattle.generator.specs.Examples.{run, seed}
use Rattle.lattice.specs.Lattice.{sites, stride, coord_at, put, ahead, behind, fwd, bwd, in_range, in_domain}
use Rattle.lattice.specs.Tables as tables
use Rattle.clusters.specs.declared.Action.TheVariants.{Observe, Update}
use Rattle.clusters.specs.Call.{Call, lengths_ok, asked, judge}
use Rattle.clusters.specs.Sizes.{raised, descending, at_least}
use Rattle.clusters.specs.Update.{drawn, is_active, outcome}
use Rattle.clusters.specs.Samples.{up, down, call, tile, reply, clusters, flags}

-- two sites in a ring, both bonds pulling, at a threshold
abbrev pair : ℕ → Call
pair t = call (2 ∷ []) (up ∷ up ∷ []) (one_f ∷ one_f ∷ []) t Update

-- a square of two by two with these couplings
abbrev square : List Float → Call
square js = call (2 ∷ 2 ∷ []) (replicate 4 up) js always Observe

abbrev point : Call
point = call (1 ∷ 1 ∷ []) (up ∷ []) (one_f ∷ one_f ∷ []) always Observe

abbrev idle : Call
idle = call (1 ∷ []) (up ∷ []) (minus_one_f ∷ []) always Update

abbrev rows : List Row
rows =
    -- W1
    run output 3 seed gives (11520 ∷ 0 ∷ 1509978240 ∷ [])
    ∷ run draw_of 3 seed gives (2880 ∷ 0 ∷ 377494560 ∷ [])
    -- W2
    ∷ fwd (3 ∷ 5 ∷ []) 4 1 gives 0
    ∷ fwd (3 ∷ 5 ∷ []) 14 0 gives 4
    ∷ fwd (3 ∷ 5 ∷ []) 14 1 gives 10
    ∷ bwd (3 ∷ 5 ∷ []) 7 0 gives 2
    -- W3
    ∷ is_active (pair 2880) 0 gives false
    ∷ is_active (pair 2880) 1 gives true
    ∷ tile (pair 2880) gives record { roots = 1 ∷ 1 ∷ []; counts = 0 ∷ 2 ∷ []; decisions = 2 ∷ 1 ∷ []; spins = down ∷ down ∷ [] }
    -- W4
    ∷ is_active (pair 2881) 0 gives true
    ∷ is_active (pair 2881) 1 gives true
    ∷ tile (pair 2881) gives record { roots = 0 ∷ 0 ∷ []; counts = 2 ∷ 0 ∷ []; decisions = 1 ∷ 2 ∷ []; spins = down ∷ down ∷ [] }
    -- W5: one component, 2 active, both flags
    ∷ clusters (reply point) gives (1 ∷ 2 ∷ [])
    ∷ flags (reply point) gives (true ∷ true ∷ false ∷ [])
    -- W6: 1 active, flags clear
    ∷ clusters (reply (square (one_f ∷ replicate 7 zero_f))) gives (3 ∷ 1 ∷ [])
    ∷ flags (reply (square (one_f ∷ replicate 7 zero_f))) gives (false ∷ false ∷ false ∷ [])
    -- W7: flag x set, y clear
    ∷ flags (reply (square (one_f ∷ zero_f ∷ zero_f ∷ zero_f ∷ one_f ∷ replicate 3 zero_f))) gives (true ∷ false ∷ false ∷ [])
    -- W9: no draw for the bond; the coin is the first output; the spin is negated
    ∷ (drawn idle 1).generator gives seed
    ∷ (tile idle).spins gives (down ∷ [])
    -- W10
    ∷ reply_of (tables.judge (4096 ∷ 4096 ∷ []) 33554432 33554432) gives done tt
    ∷ reply_of (tables.judge (4097 ∷ []) 4097 4097) gives refused 1 0
    ∷ reply_of (tables.judge (0 ∷ []) 0 0) gives refused 1 0
    ∷ reply_of (tables.judge (4096 ∷ 4096 ∷ 4096 ∷ 4096 ∷ []) 0 0) gives refused 1 0
    -- W11
    ∷ reply (call (1 ∷ []) (pos 0 ∷ []) (inf false ∷ []) always Update) gives refused 5 0
    ∷ []

pub worked : computed rows ≡ written rows
unfolding
    outcome judge asked lengths_ok every need_each drawn raised descending at_least sites stride coord_at put ahead behind in_range in_domain tables.judge lt eq
worked = refl
