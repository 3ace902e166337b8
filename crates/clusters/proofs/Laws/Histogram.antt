-- Laws of the histogram.
use Rattle.std.specs.Prelude.{ℕ, zero, suc, ◌+◌, ◌<◌, ◌≤◌, ◌≡◌, refl, List, [], ◌∷◌, length, get_or, drop}
use Rattle.std.proofs.Common.{zero-le, zero-add, add-zero, add-one, arith, sym, ap, ◌∙◌, length-set, drop_of_length-le, ext_get_or, drop-cons, get_or-set_same, get_or-set_other, eq-eqb, ne_eqb}
use Rattle.std.proofs.Math.Decide.{ℕ_discrete}
use Rattle.graph.specs.Forest.{count}
use Rattle.graph.proofs.Laws.Counts.{count-bound}
use Rattle.clusters.specs.Sizes.{of_size, raised}
use Rattle.clusters.specs.Inside.Bare.{noted}

pub length-raised : (k : ℕ) (hs counts : List ℕ) → length (raised k counts hs) ≡ length hs
unfolding raised
length-raised k [] counts = refl
length-raised k (h ∷ hs) counts = ap suc (length-raised (suc k) hs counts)

pub get_or-raised : (k : ℕ) (hs counts : List ℕ) (s : ℕ) → s < length hs → get_or (raised k counts hs) s 0 ≡ get_or hs s 0 + of_size (k + s) counts
unfolding raised
get_or-raised k [] counts s lt = absurd (omega arith)
get_or-raised k (h ∷ hs) counts zero lt = rw add-zero
get_or-raised k (h ∷ hs) counts (suc s) lt =
    get_or-raised (suc k) hs counts s (omega arith) ∙ ap (λ (q : ℕ). get_or hs s 0 + of_size q counts) (let e : suc k + s ≡ k + suc s = omega arith in e)

of_size-suc : (s : ℕ) (counts : List ℕ) → of_size (suc s) counts ≡ count (suc s) counts
of_size-suc s counts = rw (ne_eqb (suc s) 0 (λ e. omega arith))

pub of_size-le : (s : ℕ) (counts : List ℕ) → of_size s counts ≤ length counts
of_size-le zero counts = zero-le
of_size-le (suc s) counts = rw (of_size-suc s counts) (count-bound (suc s) counts)

pub of_size-step : (s : ℕ) (l : List ℕ) (i : ℕ) → i < length l → of_size s (drop i l) ≡ of_size s (get_or l i 0 ∷ []) + of_size s (drop (i + 1) l)
unfolding count
of_size-step zero l i lt = refl
of_size-step (suc s) l i lt =
    rw (of_size-suc s (drop i l), of_size-suc s (drop (i + 1) l), of_size-suc s (get_or l i 0 ∷ []), add-one, drop-cons l i 0 lt) (omega arith)

-- at its own size one more, elsewhere none
pub of_size-here : (c : ℕ) → (c ≡ 0 → ⊥) → of_size c (c ∷ []) ≡ 1
unfolding count
of_size-here c ne = rw (ne_eqb c 0 ne, eq-eqb c c refl)

pub of_size-there : (c s : ℕ) → (s ≡ c → ⊥) → of_size s (c ∷ []) ≡ 0
unfolding count
of_size-there c zero ne = refl
of_size-there c (suc s) ne = of_size-suc s (c ∷ []) ∙ rw (ne_eqb c (suc s) (λ e. ne (sym e)))

pub of_size-none : (s : ℕ) → of_size s (0 ∷ []) ≡ 0
of_size-none zero = refl
of_size-none (suc s) = of_size-there 0 (suc s) (λ e. omega arith)

pub length-noted : (h : List ℕ) (c : ℕ) → length (noted h c) ≡ length h
length-noted h c = go (ℕ_discrete c 0)
  where
    go : Dec (c ≡ 0) → length (noted h c) ≡ length h
    go (yes e) = simp (eq-eqb c 0 e)
    go (no n) = simp (ne_eqb c 0 n, length-set)

pub get_or-noted : (h : List ℕ) (c s : ℕ) → c < length h → get_or (noted h c) s 0 ≡ get_or h s 0 + of_size s (c ∷ [])
get_or-noted h c s lt = go (ℕ_discrete c 0) (ℕ_discrete s c)
  where
    go : Dec (c ≡ 0) → Dec (s ≡ c) → get_or (noted h c) s 0 ≡ get_or h s 0 + of_size s (c ∷ [])
    go (yes e) d = simp (eq-eqb c 0 e) (rw (e, of_size-none s, add-zero))
    go (no n) (yes d) = simp (ne_eqb c 0 n) (rw (d, of_size-here c n) (get_or-set_same h c (get_or h c 0 + 1) 0 lt))
    go (no n) (no d) = simp (ne_eqb c 0 n) (rw (of_size-there c s d, add-zero) (get_or-set_other h c s (get_or h c 0 + 1) 0 d))

-- the components of the counts before i are in
pub record Rising (counts hist₀ hist : List ℕ) (i : ℕ) : Type 0 where
  pub inside : i ≤ length counts
  pub sized : length hist ≡ length hist₀
  pub at : (s : ℕ) → s < length hist₀ → get_or hist s 0 + of_size s (drop i counts) ≡ get_or hist₀ s 0 + of_size s counts

pub rising-fits : {counts hist₀ hist : List ℕ} {i : ℕ} (s : ℕ) → Rising counts hist₀ hist i → s < length hist₀ → get_or hist s 0 ≤ get_or hist₀ s 0 + length counts
rising-fits {counts} s r lt = let a = r.at s lt in let b = of_size-le s counts in omega arith

pub rising-on : {counts hist₀ hist : List ℕ} {i : ℕ} {hist' : List ℕ} → Rising counts hist₀ hist i → i < length counts
    → get_or counts i 0 < length hist → hist' ≡ noted hist (get_or counts i 0) → Rising counts hist₀ hist' (i + 1)
rising-on {counts} {hist₀} {hist} {i} {hist'} r lt lc e = record {
  inside = omega arith;
  sized = ap length e ∙ length-noted hist (get_or counts i 0) ∙ r.sized;
  at = λ s ls.
      let a = r.at s ls in
      let b = of_size-step s counts i lt in
      let d : get_or hist' s 0 ≡ get_or hist s 0 + of_size s (get_or counts i 0 ∷ []) = rw e (get_or-noted hist (get_or counts i 0) s lc) in
      omega arith;
}

empty : (s : ℕ) → of_size s [] ≡ 0
unfolding count
empty zero = refl
empty (suc s) = of_size-suc s []

pub rising-all : {counts hist₀ hist : List ℕ} {i : ℕ} → Rising counts hist₀ hist i → length counts ≤ i → hist ≡ raised 0 counts hist₀
rising-all {counts} {hist₀} {hist} {i} r le =
    ext_get_or 0 hist (raised 0 counts hist₀) (r.sized ∙ sym (length-raised 0 hist₀ counts))
    (λ s lt.
    let l : s < length hist₀ = rw r.sized at lt in
    let a = r.at s l in
    let b : of_size s (drop i counts) ≡ 0 = rw (drop_of_length-le counts {i = i} le) (none s) in
    let d : get_or (raised 0 counts hist₀) s 0 ≡ get_or hist₀ s 0 + of_size s counts = get_or-raised 0 hist₀ counts s l ∙ ap (λ (q : ℕ). get_or hist₀ s 0 + of_size q counts) (zero-add s) in
    omega arith)
  where
    none : (s : ℕ) → of_size s [] ≡ 0
    none s = empty s
