-- What a join does to the three lists.
use Rattle.std.specs.Prelude.{◌≡◌, cond, List, ℕ, ◌+◌, ◌*◌, ◌^◌, ◌≤◌, ◌<◌, eqb, ltb, length, get_or, set, ℤ, neg_ℤ, nat_abs}
use Rattle.clusters.specs.declared.winding.Way.{Way}
use Rattle.clusters.specs.declared.winding.Winding.{Winding}

-- the three lists: each site's parent, its rank, and its two offsets to its parent
pub record Wind : Type 0 where
  pub parents : List ℕ
  pub ranks : List ℕ
  pub offsets : List ℤ

abbrev pub wind : List ℕ → List ℕ → List ℤ → Wind
wind ps rs os = record { parents = ps; ranks = rs; offsets = os }

-- those that the code holds
abbrev pub wind_of : Winding → Wind
wind_of w = wind w.parents.now w.ranks.now w.offsets.now

-- the same three are lent
abbrev pub SameLists : Winding → Winding → Type 0
SameLists w w' = (w'.parents.ghost_name ≡ w.parents.ghost_name) × (w'.ranks.ghost_name ≡ w.ranks.ghost_name) × (w'.offsets.ghost_name ≡ w.offsets.ghost_name)

-- as many ranks as sites, twice as many offsets, and no more sites than the domain has
pub record Room (w : Wind) : Type 0 where
  pub ranks : length w.ranks ≡ length w.parents
  pub offsets : length w.offsets ≡ 2 * length w.parents
  pub few : length w.parents ≤ 16777216

-- what the way q is joined by: as many ranks as sites, twice as many offsets, no more sites than the domain has, two of them, and numbers with room
pub record Linkable (w : Wind) (q : Way) : Type 0 where
  pub ranks : length w.ranks ≡ length w.parents
  pub offsets : length w.offsets ≡ 2 * length w.parents
  pub few : length w.parents ≤ 16777216
  pub a : q.a < length w.parents
  pub b : q.b < length w.parents
  pub spare : get_or w.ranks q.a 0 < 255
  pub x : nat_abs q.around.0 < 2 ^ 63
  pub y : nat_abs q.around.1 < 2 ^ 63

-- the root a comes under b, from which it lies (x, y)
abbrev pub link : Wind → ℕ → ℕ → ℤ → ℤ → Wind
link w a b x y = wind (set w.parents a b) w.ranks (set (set w.offsets (2 * a + 0) x) (2 * a + 1) y)

abbrev pub raise : Wind → ℕ → Wind
raise w a = wind w.parents (set w.ranks a (get_or w.ranks a 0 + 1)) w.offsets

-- the root b comes under a, from which it lies (x, y), or, where a's rank is lower, a under b at the opposite; between equals a's rank rises by 1
unfoldable pub join : Wind → ℕ → ℕ → ℤ → ℤ → Wind
join w a b x y =
    cond (ltb (get_or w.ranks a 0) (get_or w.ranks b 0)) (link w a b (neg_ℤ x) (neg_ℤ y))
    (cond (eqb (get_or w.ranks a 0) (get_or w.ranks b 0)) (raise (link w b a x y) a) (link w b a x y))
