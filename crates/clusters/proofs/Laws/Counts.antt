-- Laws of the counts.
use Rattle.std.specs.Prelude.{ℕ, suc, ◌+◌, ◌<◌, ◌≤◌, ◌≡◌, refl, Bool, true, false, cond, not, List, [], ◌∷◌, eqb, leb, length, get_or, set, drop, replicate}
use Rattle.std.proofs.Common.{zero-le, zero-add, add-zero, add-one, arith, sym, ap, ap₂, ◌∙◌, length-set, drop_of_length-le, ext_get_or, drop-cons, get_or-set_same, get_or-set_other, eq-eqb, ne_eqb, le-leb}
use Rattle.std.proofs.Math.Decide.{ℕ_discrete}
use Rattle.std.proofs.lemmas.List.{length-replicate, get_or-replicate}
use Rattle.std.proofs.lemmas.Bool.{lt-leb}
use Rattle.std.specs.List.{count_by}
use Rattle.std.proofs.lemmas.List.Recursion.{is_count_by}
use Rattle.graph.specs.Forest.{count, filled, Forest, sizes}
use Rattle.graph.proofs.Laws.Counts.{count-bound, length-sizes, get_or-sizes}
use Rattle.clusters.specs.Sizes.{at_least}
use Rattle.clusters.specs.Inside.Bare.{bare, sizes_of}

pub length-sizes_of : (l : List ℕ) → length (sizes_of l) ≡ length l
length-sizes_of l = length-sizes (length l) (bare l)

pub get_or-sizes_of : (l : List ℕ) (r : ℕ) → r < length l → get_or (sizes_of l) r 0 ≡ count r l
get_or-sizes_of l r lt = get_or-sizes (length l) (bare l) r lt

pub sizes-le : (l : List ℕ) (r : ℕ) → r < length l → get_or (sizes_of l) r 0 ≤ length l
sizes-le l r lt = rw (get_or-sizes_of l r lt) (count-bound r l)

-- one entry more or less, at its own number and at another
pub count-here : (l : List ℕ) (i : ℕ) → i < length l → count (get_or l i 0) (drop i l) ≡ 1 + count (get_or l i 0) (drop (i + 1) l)
unfolding count
count-here l i lt = rw (add-one, drop-cons l i 0 lt) (simp (eq-eqb (get_or l i 0) (get_or l i 0) refl))

pub count-there : (l : List ℕ) (i q : ℕ) → i < length l → (get_or l i 0 ≡ q → ⊥) → count q (drop i l) ≡ count q (drop (i + 1) l)
unfolding count
count-there l i q lt ne = rw (add-one, drop-cons l i 0 lt) (simp (ne_eqb (get_or l i 0) q ne, zero-add))

-- the counts of the entries before i
pub record Tallied (roots counts : List ℕ) (i : ℕ) : Type 0 where
  pub inside : i ≤ length roots
  pub sized : length counts ≡ length roots
  pub at : (r : ℕ) → r < length roots → get_or counts r 0 + count r (drop i roots) ≡ count r roots

pub tallied-none : {roots counts : List ℕ} → counts ≡ replicate (length roots) 0 → Tallied roots counts 0
tallied-none {roots} {counts} e = record {
  inside = zero-le;
  sized = ap length e ∙ length-replicate (length roots) 0;
  at = λ r lt. rw (e, get_or-replicate {A = ℕ} (length roots) r 0 0 lt, zero-add) refl;
}

pub tallied-fits : {roots counts : List ℕ} {i : ℕ} → Tallied roots counts i → i < length roots → get_or roots i 0 < length roots
    → get_or counts (get_or roots i 0) 0 + 1 ≤ length roots
tallied-fits {roots} {counts} {i} t lt lr =
    let a = t.at (get_or roots i 0) lr in
    let b = count-here roots i lt in
    let d = count-bound (get_or roots i 0) roots in
    omega arith

pub tallied-on : {roots counts : List ℕ} {i : ℕ} → Tallied roots counts i → i < length roots → get_or roots i 0 < length roots
    → Tallied roots (set counts (get_or roots i 0) (get_or counts (get_or roots i 0) 0 + 1)) (i + 1)
tallied-on {roots} {counts} {i} t lt lr = record { inside = omega arith; sized = length-set counts p v ∙ t.sized; at = λ q lq. go q lq (ℕ_discrete q p) }
  where
    p : ℕ
    p = get_or roots i 0

    v : ℕ
    v = get_or counts (get_or roots i 0) 0 + 1

    go : (q : ℕ) → q < length roots → Dec (q ≡ get_or roots i 0)
        → get_or (set counts (get_or roots i 0) (get_or counts (get_or roots i 0) 0 + 1)) q 0 + count q (drop (i + 1) roots) ≡ count q roots
    go q lq (yes e) =
        let a = t.at (get_or roots i 0) lr in
        let b = count-here roots i lt in
        rw (e, get_or-set_same counts (get_or roots i 0) (get_or counts (get_or roots i 0) 0 + 1) 0 (rw t.sized lr)) (omega arith)
    go q lq (no n) =
        let a = t.at q lq in
        let b = count-there roots i q lt (λ e. n (sym e)) in
        rw (get_or-set_other counts (get_or roots i 0) q (get_or counts (get_or roots i 0) 0 + 1) 0 n) (omega arith)

pub tallied-all : {roots counts : List ℕ} {i : ℕ} → Tallied roots counts i → length roots ≤ i → counts ≡ sizes_of roots
unfolding count
tallied-all {roots} {counts} {i} t le =
    ext_get_or 0 counts (sizes_of roots) (t.sized ∙ sym (length-sizes_of roots))
    (λ r lt.
    let l : r < length roots = rw t.sized at lt in
    let a : get_or counts r 0 + 0 ≡ count r roots = rw (drop_of_length-le roots {i = i} le) at (t.at r l) in
    sym (add-zero (get_or counts r 0)) ∙ a ∙ sym (get_or-sizes_of roots r l))

-- one count more or less
pub at_least-step : (t : ℕ) (l : List ℕ) (i : ℕ) → i < length l → at_least t (drop i l) ≡ cond (leb t (get_or l i 0)) 1 0 + at_least t (drop (i + 1) l)
unfolding at_least
at_least-step t l i lt = rw (add-one, drop-cons l i 0 lt)

pub at_least-le : (t : ℕ) (l : List ℕ) → at_least t l ≤ length l
unfolding at_least
at_least-le t [] = zero-le
at_least-le t (c ∷ cs) = go (leb t c) (at_least-le t cs)
  where
    go : (b : Bool) → at_least t cs ≤ length cs → cond b 1 0 + at_least t cs ≤ suc (length cs)
    go true h = omega arith
    go false h = omega arith

-- how many are t or more, counted at the place i
pub record Reached (t : ℕ) (l : List ℕ) (k i : ℕ) : Type 0 where
  pub inside : i ≤ length l
  pub at : k + at_least t (drop i l) ≡ at_least t l

pub reached-on : {t : ℕ} {l : List ℕ} {k i : ℕ} (r : ℕ) → Reached t l k i → i < length l → r ≡ cond (leb t (get_or l i 0)) 1 0
    → (k + r ≤ length l) × Reached t l (k + r) (i + 1)
reached-on {t} {l} {k} {i} r w lt e =
    let a = w.at in
    let b = at_least-step t l i lt in
    let d = at_least-le t l in
    (omega arith, record { inside = omega arith; at = omega arith })

pub reached-all : {t : ℕ} {l : List ℕ} {k i : ℕ} → Reached t l k i → length l ≤ i → k ≡ at_least t l
unfolding at_least
reached-all {t} {l} {k} {i} w le =
    let a : k + 0 ≡ at_least t l = rw (drop_of_length-le l {i = i} le) at w.at in
    omega arith

-- the entries that are t or more, counted
pub at_least-counts : (t : ℕ) (l : List ℕ) → at_least t l ≡ count_by (leb t) l
unfolding at_least
at_least-counts t = is_count_by (at_least t) (leb t) refl (λ x xs. go (leb t x) (at_least t xs))
  where
    go : (b : Bool) (n : ℕ) → cond b 1 0 + n ≡ cond b (1 + n) n
    go true n = refl
    go false n = zero-add n

-- the components are the counts that are 1 or more
pub filled_is : (l : List ℕ) → filled l ≡ at_least 1 l
unfolding filled at_least
filled_is [] = refl
filled_is (a ∷ l) = ap₂ ◌+◌ (go (ℕ_discrete a 0)) (filled_is l)
  where
    go : Dec (a ≡ 0) → ◌≡◌ {A = ℕ} (cond (not (eqb a 0)) 1 0) (cond (leb 1 a) 1 0)
    go (yes e) = rw (eq-eqb a 0 e, lt-leb 1 a (omega arith))
    go (no n) = rw (ne_eqb a 0 n, le-leb 1 a (omega arith))

pub sizes-bare : (n : ℕ) (f : Forest) → sizes n (bare f.roots) ≡ sizes n f
unfolding sizes
sizes-bare n f = refl
