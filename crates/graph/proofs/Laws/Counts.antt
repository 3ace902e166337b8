-- Counting a root's sites.
use Rattle.std.specs.Prelude.{◌≡◌, refl, ◌≢◌, ◌⊎◌, Bool, cond, List, [], ◌∷◌, map, ℕ, zero, suc, ◌+◌, ◌≤◌, ◌<◌, eqb, length, get_or}
use Rattle.std.proofs.Common.{sym, ap, ◌∙◌, subst, inl, inr, zero-le, suc-le-suc, le_of_suc-le-suc, not-suc-le-zero, arith}
use Rattle.std.proofs.Math.Decide.{ℕ_discrete}
use Rattle.std.proofs.lemmas.List.{length-map}
use Rattle.graph.specs.Forest.{Forest, up_from, relabel, count, sizes, greatest, largest}
use Rattle.graph.proofs.Laws.Lookup.{eqb_yes, eqb-not, length-up_from, get_or-up_from}

pub one-if : (a r : ℕ) → a ≡ r → ◌≡◌ {A = ℕ} (cond (eqb a r) 1 0) 1
one-if a r e = ap {B = ℕ} (λ (b : Bool). cond b 1 0) (eqb_yes a r e)

pub none-if : (a r : ℕ) → a ≢ r → ◌≡◌ {A = ℕ} (cond (eqb a r) 1 0) 0
none-if a r f = ap {B = ℕ} (λ (b : Bool). cond b 1 0) (eqb-not a r f)

-- where each site of r's in one list is a site of t's in the other
pub count-le : (r t : ℕ) (l m : List ℕ) → length l ≡ length m → ((i : ℕ) → i < length l → get_or l i 0 ≡ r → get_or m i 0 ≡ t) → count r l ≤ count t m
unfolding count
count-le r t [] m k f = zero-le
count-le r t (a ∷ l) [] k f = absurd (omega arith)
count-le r t (a ∷ l) (b ∷ m) k f = go (ℕ_discrete a r) (count-le r t l m (omega arith) (λ i h. f (suc i) (suc-le-suc h)))
  where
    go : Dec (a ≡ r) → count r l ≤ count t m → cond (eqb a r) 1 0 + count r l ≤ cond (eqb b t) 1 0 + count t m
    go (yes p) h = omega (arith, one-if a r p, one-if b t (f 0 (suc-le-suc zero-le) p))
    go (no p) h = omega (arith, none-if a r p)

-- a root that counts has a site
pub count-some : (r : ℕ) (l : List ℕ) → (count r l ≡ 0) ⊎ ((i : ℕ) × (i < length l) × (get_or l i 0 ≡ r))
unfolding count
count-some r [] = inl refl
count-some r (a ∷ l) = go (ℕ_discrete a r) (count-some r l)
  where
    go : Dec (a ≡ r) → (count r l ≡ 0) ⊎ ((i : ℕ) × (i < length l) × (get_or l i 0 ≡ r))
        → (cond (eqb a r) 1 0 + count r l ≡ 0) ⊎ ((i : ℕ) × (i < suc (length l)) × (get_or (a ∷ l) i 0 ≡ r))
    go (yes p) h = inr (0, suc-le-suc zero-le, p)
    go (no p) (inl z) = inl (omega (arith, none-if a r p))
    go (no p) (inr t) = inr (suc t.0, suc-le-suc t.1, t.2)

pub count-bound : (r : ℕ) (l : List ℕ) → count r l ≤ length l
unfolding count
count-bound r [] = zero-le
count-bound r (a ∷ l) = go (ℕ_discrete a r) (count-bound r l)
  where
    go : Dec (a ≡ r) → count r l ≤ length l → cond (eqb a r) 1 0 + count r l ≤ suc (length l)
    go (yes p) h = omega (arith, one-if a r p)
    go (no p) h = omega (arith, none-if a r p)

-- a site counts
pub count-pos : (l : List ℕ) (i : ℕ) → i < length l → 1 ≤ count (get_or l i 0) l
unfolding count
count-pos [] i h = absurd (not-suc-le-zero h)
count-pos (a ∷ l) zero h = omega (arith, one-if a a refl)
count-pos (a ∷ l) (suc i) h = let k = count-pos l i (le_of_suc-le-suc h) in omega arith

-- ---- after a takeover
-- the winner has both roots' sites
pub count-won : (w l : ℕ) (rs : List ℕ) → w ≢ l → count w (relabel w l rs) ≡ count w rs + count l rs
unfolding count relabel
count-won w l [] f = refl
count-won w l (r ∷ rs) f = go (ℕ_discrete r l) (ℕ_discrete r w) (count-won w l rs f)
  where
    go : Dec (r ≡ l) → Dec (r ≡ w) → count w (relabel w l rs) ≡ count w rs + count l rs
        → cond (eqb (cond (eqb r l) w r) w) 1 0 + count w (relabel w l rs) ≡ (cond (eqb r w) 1 0 + count w rs) + (cond (eqb r l) 1 0 + count l rs)
    go (yes p) (yes q) k = absurd (f (sym q ∙ p))
    go (yes p) (no q) k =
        let t : cond (eqb r l) w r ≡ w = ap (λ (b : Bool). cond b w r) (eqb_yes r l p) in
        omega (arith, one-if (cond (eqb r l) w r) w t, none-if r w q, one-if r l p)
    go (no p) (yes q) k =
        let t : cond (eqb r l) w r ≡ w = ap (λ (b : Bool). cond b w r) (eqb-not r l p) ∙ q in
        omega (arith, one-if (cond (eqb r l) w r) w t, one-if r w q, none-if r l p)
    go (no p) (no q) k =
        let t : cond (eqb r l) w r ≡ r = ap (λ (b : Bool). cond b w r) (eqb-not r l p) in
        omega (arith, none-if (cond (eqb r l) w r) w (λ u. q (sym t ∙ u)), none-if r w q, none-if r l p)

-- and any other root keeps its own
pub count-other : (w l r : ℕ) (rs : List ℕ) → r ≢ w → r ≢ l → count r (relabel w l rs) ≡ count r rs
unfolding count relabel
count-other w l r [] f g = refl
count-other w l r (q ∷ rs) f g = go (ℕ_discrete q l) (count-other w l r rs f g)
  where
    go : Dec (q ≡ l) → count r (relabel w l rs) ≡ count r rs
        → cond (eqb (cond (eqb q l) w q) r) 1 0 + count r (relabel w l rs) ≡ cond (eqb q r) 1 0 + count r rs
    go (yes p) k =
        let t : cond (eqb q l) w q ≡ w = ap (λ (b : Bool). cond b w q) (eqb_yes q l p) in
        omega (arith, none-if (cond (eqb q l) w q) r (λ u. f (sym u ∙ t)), none-if q r (λ u. g (sym u ∙ p)))
    go (no p) k =
        let t : cond (eqb q l) w q ≡ q = ap (λ (b : Bool). cond b w q) (eqb-not q l p) in
        ap (λ (a : ℕ). cond (eqb a r) 1 0 + count r (relabel w l rs)) t ∙ ap (λ (a : ℕ). cond (eqb q r) 1 0 + a) k

-- ---- the greatest
pub greatest-le : (l : List ℕ) (k : ℕ) → ((i : ℕ) → i < length l → get_or l i 0 ≤ k) → greatest l ≤ k
unfolding greatest
greatest-le [] k f = zero-le
greatest-le (a ∷ l) k f = let h = greatest-le l k (λ i h. f (suc i) (suc-le-suc h)) in omega (arith, f 0 (suc-le-suc zero-le))

pub le-greatest : (l : List ℕ) (i : ℕ) → i < length l → get_or l i 0 ≤ greatest l
unfolding greatest
le-greatest [] i h = absurd (not-suc-le-zero h)
le-greatest (a ∷ l) zero h = omega arith
le-greatest (a ∷ l) (suc i) h = let k = le-greatest l i (le_of_suc-le-suc h) in omega arith

get_or-map-in : (f : ℕ → ℕ) (l : List ℕ) (i : ℕ) → i < length l → get_or (map f l) i 0 ≡ f (get_or l i 0)
get_or-map-in f [] i h = absurd (not-suc-le-zero h)
get_or-map-in f (a ∷ l) zero h = refl
get_or-map-in f (a ∷ l) (suc i) h = get_or-map-in f l i (le_of_suc-le-suc h)

pub length-sizes : (n : ℕ) (f : Forest) → length (sizes n f) ≡ n
unfolding sizes
length-sizes n f = length-map (up_from 0 n) (λ (i : ℕ). count i f.roots) ∙ length-up_from 0 n

pub get_or-sizes : (n : ℕ) (f : Forest) (i : ℕ) → i < n → get_or (sizes n f) i 0 ≡ count i f.roots
unfolding sizes
get_or-sizes n f i h =
    get_or-map-in (λ (i : ℕ). count i f.roots) (up_from 0 n) i (omega (arith, length-up_from 0 n))
    ∙ ap (λ (k : ℕ). count k f.roots) (get_or-up_from 0 n i h ∙ omega arith)

-- each component of one forest is at most as large as some component of the other
pub largest-le : (n : ℕ) (f g : Forest) → ((i : ℕ) → i < n → count i f.roots ≤ largest n g) → largest n f ≤ largest n g
unfolding largest
largest-le n f g h = greatest-le (sizes n f) _ (λ i k. let k' : i < n = omega (arith, length-sizes n f) in subst (λ (c : ℕ). c ≤ greatest (sizes n g)) (sym (get_or-sizes n f i k')) (h i k'))

pub le-largest : (n : ℕ) (f : Forest) (i : ℕ) → i < n → count i f.roots ≤ largest n f
unfolding largest
le-largest n f i h = subst (λ (c : ℕ). c ≤ greatest (sizes n f)) (get_or-sizes n f i h) (le-greatest (sizes n f) i (omega (arith, length-sizes n f)))
