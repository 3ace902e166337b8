-- Calls and sizes by computation: each mistake that somebody may make in the definitions changes a value here.
use Rattle.std.specs.Prelude.{◌≡◌, refl, false, List, [], ◌∷◌, ℕ, ◌+◌, ◌^◌, replicate, ℤ, pos, Float}
use Rattle.std.specs.Float.{nan, fin}
use Rattle.std.specs.Float.Ieee.{lt, eq}
use Rattle.domain.specs.Refusals.{refused, every, need_each}
use Rattle.domain.specs.Table.{Row, ◌gives◌, computed, written}
use Rattle.domain.specs.Numbers.{always, zero_f, one_f, minus_one_f}
use Rattle.generator.specs.Xoshiro.{step}
use Rattle.generator.specs.Examples.{seed}
use Rattle.lattice.specs.Lattice.{sites, stride, coord_at, put, ahead, in_range, in_domain}
use Rattle.clusters.specs.declared.Action.TheVariants.{Observe, Update}
use Rattle.clusters.specs.Call.{Call, lengths_ok, asked, judge}
use Rattle.clusters.specs.Sizes.{raised, descending, four_of, at_least, twentieth}
use Rattle.clusters.specs.Update.{drawn, outcome}
use Rattle.clusters.specs.Samples.{up, down, call_from, call, lent_with, lent, tile, reply, clusters, sizes, flags, generator_of}

-- shape 4, bonds 1 and 3 always active: components {1, 2} and {3, 0}, with the roots 1 and 3; the first coin is heads, the second tails
abbrev ring : Call
ring = call_from (record { s0 = 2 ^ 34; s1 = 2; s2 = 3; s3 = 4 }) (4 ∷ []) (replicate 4 up) (zero_f ∷ one_f ∷ zero_f ∷ one_f ∷ []) always Update

-- shape 2, both bonds pull, at a threshold
abbrev pair : ℕ → Call
pair t = call (2 ∷ []) (up ∷ up ∷ []) (one_f ∷ one_f ∷ []) t Observe

-- shape 2 with these spins and couplings, always, and every entry of the histogram one too high
abbrev wrong : List ℤ → List Float → Call
wrong ss js = call (2 ∷ []) ss js always Observe

abbrev high : ℕ
high = 2 ^ 63 + 1

abbrev two : Float
two = fin false 1 (pos 1)

abbrev rows : List Row
rows =
    -- the first site met of each component draws, not the first root
    tile ring gives record { roots = 3 ∷ 1 ∷ 1 ∷ 3 ∷ []; counts = 0 ∷ 2 ∷ 0 ∷ 2 ∷ []; decisions = 2 ∷ 0 ∷ 2 ∷ 1 ∷ []; spins = down ∷ up ∷ up ∷ down ∷ [] }
    -- the histogram rises at size 2 by 2, and at size 0 by nothing
    ∷ (outcome ring (lent_with 5 ring)).lent.histogram gives (5 ∷ 5 ∷ 7 ∷ 5 ∷ 5 ∷ [])
    ∷ clusters (reply ring) gives (2 ∷ 2 ∷ [])
    ∷ sizes (reply ring) gives (2 ∷ 2 ∷ 0 ∷ 0 ∷ 2 ∷ [])
    -- one axis keeps no winding, though the ring of two closes
    ∷ flags (reply (pair always)) gives (false ∷ false ∷ false ∷ [])
    -- always and never draw all the same
    ∷ generator_of (reply (pair always)) gives (step (step seed) ∷ [])
    ∷ generator_of (reply (pair 0)) gives (step (step seed) ∷ [])
    -- observing leaves the ranks in the decisions, and the spins; never: no bond is active
    ∷ tile (pair always) gives record { roots = 0 ∷ 0 ∷ []; counts = 2 ∷ 0 ∷ []; decisions = 1 ∷ 0 ∷ []; spins = up ∷ up ∷ [] }
    ∷ clusters (reply (pair 0)) gives (2 ∷ 0 ∷ [])
    -- the sizes
    ∷ raised 0 (0 ∷ 2 ∷ 0 ∷ 2 ∷ 1 ∷ []) (5 ∷ 5 ∷ 5 ∷ 5 ∷ 5 ∷ 5 ∷ []) gives (5 ∷ 6 ∷ 7 ∷ 5 ∷ 5 ∷ 5 ∷ [])
    ∷ four_of (descending (0 ∷ 2 ∷ 0 ∷ 7 ∷ 1 ∷ 2 ∷ 3 ∷ [])) gives record { first = 7; second = 3; third = 2; fourth = 2 }
    ∷ four_of (descending (0 ∷ 2 ∷ [])) gives record { first = 2; second = 0; third = 0; fourth = 0 }
    ∷ at_least 2 (0 ∷ 2 ∷ 0 ∷ 2 ∷ 1 ∷ []) gives 2
    ∷ twentieth 20 gives 1
    ∷ twentieth 21 gives 2
    -- refusals in order, each with everything wrong that is checked later
    ∷ (outcome (call_from (record { s0 = 0; s1 = 0; s2 = 0; s3 = 0 }) (2 ∷ []) (pos 3 ∷ []) (nan ∷ []) (always + 1) Observe) (lent_with high (pair 0))).reply gives refused 2 0
    ∷ (outcome (call_from (record { s0 = 0; s1 = 0; s2 = 0; s3 = 0 }) (2 ∷ []) (pos 3 ∷ pos 3 ∷ []) (nan ∷ nan ∷ []) (always + 1) Observe) (lent_with high (pair 0))).reply gives refused 3 0
    ∷ (outcome (call (2 ∷ []) (pos 3 ∷ pos 3 ∷ []) (nan ∷ nan ∷ []) (always + 1) Observe) (lent_with high (pair 0))).reply gives refused 4 0
    ∷ (outcome (wrong (up ∷ pos 3 ∷ []) (nan ∷ nan ∷ [])) (lent_with high (pair 0))).reply gives refused 5 1
    ∷ (outcome (wrong (up ∷ down ∷ []) (minus_one_f ∷ nan ∷ [])) (lent_with high (pair 0))).reply gives refused 6 1
    ∷ (outcome (wrong (up ∷ down ∷ []) (two ∷ one_f ∷ [])) (lent (pair 0))).reply gives refused 6 0
    ∷ outcome (pair 0) (lent_with high (pair 0)) gives record { reply = refused 7 0; spins = up ∷ up ∷ []; lent = lent_with high (pair 0) }
    ∷ judge (pair 0) (lent_with (2 ^ 63) (pair 0)) gives judge (pair 0) (lent (pair 0))
    ∷ []

rows-hold : computed rows ≡ written rows
unfolding outcome judge asked lengths_ok every need_each drawn raised descending at_least sites stride coord_at put ahead in_range in_domain lt eq
rows-hold = refl
