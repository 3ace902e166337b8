-- What the code's three lists, parents, ranks and offsets, have to do with the winding of the bonds so far; and what the code answers.
use Rattle.std.specs.Prelude.{◌≡◌, Bool, cond, not, ◌||◌, List, [], ◌∷◌, ◌++◌, Option, Some, None, ℕ, ◌+◌, ◌*◌, ◌%◌, ◌≤◌, ◌<◌, eqb, length, get_or, ℤ, pos, nat_abs, ◌+ℤ◌, ◌-ℤ◌}
use Rattle.graph.specs.Forest.{Bond, Forest, root_of, forest}
use Rattle.graph.specs.Winding.{Winding, offset, along, around, winding}
use Rattle.graph.specs.Walk.{Within}
use Rattle.clusters.specs.declared.winding.Found.{Found}
use Rattle.clusters.specs.declared.winding.Marks.{Marks}
use Rattle.clusters.specs.declared.winding.Way.{Way}
use Rattle.clusters.specs.declared.winding.Bond.{Bond as CodeBond}
use Rattle.clusters.specs.declared.winding.Winding.{Winding as CodeWinding}
use Rattle.clusters.specs.Inside.Links.{Hangs}

-- n sites, the extents of the two axes, and the active bonds so far
pub record Scene : Type 0 where
  pub n : ℕ
  pub ex : ℕ
  pub ey : ℕ
  pub bonds : List Bond

abbrev pub trees : Scene → Forest
trees k = forest k.n k.bonds

-- the winding along axis 0, and along axis 1
abbrev pub xs : Scene → Winding
xs k = winding (along 0) k.ex k.n k.bonds

abbrev pub ys : Scene → Winding
ys k = winding (along 1) k.ey k.n k.bonds

-- one bond more
abbrev pub next : Scene → Bond → Scene
next k c = record { n = k.n; ex = k.ex; ey = k.ey; bonds = k.bonds ++ c ∷ [] }

abbrev pub bond : ℕ → ℕ → ℕ → Bond
bond s t d = record { x = s; y = t; axis = d }

abbrev pub bond_of : CodeBond → Bond
bond_of c = bond c.x c.y c.axis

-- a site's own displacement from its parent, along axis d
abbrev pub on : List ℤ → ℕ → ℕ → ℤ
on os d i = get_or os (2 * i + d) (pos 0)

-- the displacements along axis d stand for the offsets
pub record Swings (n : ℕ) (ps : List ℕ) (os : List ℤ) (d : ℕ) (s : Winding) : Type 0 where
  pub swings : (i : ℕ) → i < n → offset s i ≡ on os d i +ℤ offset s (get_or ps i 0)

-- the three lists stand for the scene
pub record Swung (k : Scene) (ps rs : List ℕ) (os : List ℤ) : Type 0 where
  pub within : Within k.n k.bonds
  pub few : k.n ≤ 16777216
  pub hangs : Hangs k.n ps (trees k)
  pub ranks : rs ≡ (trees k).ranks
  pub sized : length os ≡ 2 * k.n
  pub x : Swings k.n ps os 0 (xs k)
  pub y : Swings k.n ps os 1 (ys k)

-- the code's lists stand for the scene
abbrev pub Sways : Scene → CodeWinding → Type 0
Sways k w = Swung k w.parents.now w.ranks.now w.offsets.now

abbrev pub Held : CodeWinding → Type 0
Held w = (k : Scene) × Sways k w

-- the bond is between two of the sites
pub record Bondable (w : CodeWinding) (c : CodeBond) : Type 0 where
  pub held : Held w
  pub x : c.x < length w.parents.now
  pub y : c.y < length w.parents.now

-- ---- the lookup
abbrev pub moved : Found → ℤ → ℤ → Found
moved f x y = record { root = f.root; x = x +ℤ f.x; y = y +ℤ f.y }

abbrev pub found : Scene → ℕ → Found
found k s = record { root = root_of (trees k) s; x = offset (xs k) s; y = offset (ys k) s }

abbrev pub FoundAt : CodeWinding → ℕ → Found → Type 0
FoundAt w s r = (k : Scene) → Sways k w → r ≡ found k s

-- ---- a bond
abbrev pub far : ℕ
far = 16777216

abbrev pub rounded : ℤ → ℤ → Bool → ℤ
rounded f g on = f -ℤ g +ℤ cond on (pos 1) (pos 0)

-- a place no farther from its root than there are sites
pub record Near (f : Found) : Type 0 where
  pub x : nat_abs f.x ≤ far
  pub y : nat_abs f.y ≤ far

-- from the places of its two sites
abbrev pub around_of : Found → Found → ℕ → Way
around_of f g d = record {
  a = f.root;
  b = g.root;
  around = (rounded f.x g.x (eqb d 0), rounded f.y g.y (eqb d 1));
}

abbrev pub way_of : Scene → Bond → Way
way_of k c = record {
  a = root_of (trees k) c.x;
  b = root_of (trees k) c.y;
  around = (around (along 0) k.ex (xs k) c, around (along 1) k.ey (ys k) c);
}

abbrev pub WayAt : CodeWinding → CodeBond → Way → Type 0
WayAt w c r = (k : Scene) → Sways k w → r ≡ way_of k (bond_of c)

-- the way around, where the bond closes a loop
abbrev pub closing : Way → Option (ℤ × ℤ)
closing q = cond (eqb q.a q.b) (Some q.around) None

pub record Unites (k : Scene) (c : Bond) (w : CodeWinding) (r : Option (ℤ × ℤ)) : Type 0 where
  pub swung : Sways (next k c) w
  pub answer : r ≡ closing (way_of k c)

abbrev pub United : CodeWinding → CodeWinding → CodeBond → Option (ℤ × ℤ) → Type 0
United w w' c r = (k : Scene) → Sways k w → Unites k (bond_of c) w' r

-- ---- the flags
abbrev pub away : ℤ → Bool
away d = not (eqb (nat_abs d) 0)

abbrev pub off : ℤ → ℕ → Bool
off d e = not (eqb (nat_abs d % e) 0)

abbrev pub marks : Marks → Option (ℤ × ℤ) → ℕ → ℕ → Marks
marks f None ex ey = f
marks f (Some (dx, dy)) ex ey = record { x = f.x || away dx; y = f.y || away dy; torn = f.torn || (off dx ex || off dy ey) }

abbrev pub marks_of : Scene → Marks
marks_of k = record { x = (xs k).wraps; y = (ys k).wraps; torn = (xs k).torn || (ys k).torn }

pub record Bonds (k : Scene) (c : Bond) (w : CodeWinding) (r : Marks) : Type 0 where
  pub swung : Sways (next k c) w
  pub answer : r ≡ marks_of (next k c)

abbrev pub Bonded : CodeWinding → CodeWinding → CodeBond → ℕ → ℕ → Marks → Marks → Type 0
Bonded w w' c ex ey f r = (k : Scene) → Sways k w → k.ex ≡ ex → k.ey ≡ ey → f ≡ marks_of k → Bonds k (bond_of c) w' r
