-- Laws of the tables: how a list is filled from the front, and what the entries are.
--     fwd_at-row, bwd_at-row       the entry at i·m + d is the neighbour of site i in direction d
--     fwd_table-at, bwd_table-at   the same of the tables
use Rattle.std.specs.Prelude.{ℕ, zero, suc, ◌+◌, ◌*◌, ◌/◌, ◌%◌, ◌≤◌, ◌<◌, ◌≡◌, refl, List, length, get_or, set}
use Rattle.std.proofs.Math.Path.{ap, ap₂}
use Rattle.std.proofs.Common.{◌∙◌, sym, subst, arith, not-suc-le-zero, le_of_suc-le-suc, zero-add, add-zero, mul-le-mul_right, suc-mul, mod-eq_of_lt, ext_get_or, get_or-set_same, get_or-set_other}
use Rattle.std.proofs.Math.Decide.{ℕ_discrete}
use Rattle.std.proofs.Math.Nat.{mul-add-div_right, mul-add-mod_self_right, div-eq_of_lt}
use Rattle.lattice.specs.Lattice.{sites, fwd, bwd, tab_from, fwd_at, bwd_at, fwd_table, bwd_table}

pub length-tab : (f : ℕ → ℕ) (k n : ℕ) → length (tab_from f k n) ≡ n
unfolding tab_from
length-tab f k zero = refl
length-tab f k (suc n) = ap suc (length-tab f (suc k) n)

pub get_or-tab : (f : ℕ → ℕ) (k n j : ℕ) → j < n → get_or (tab_from f k n) j 0 ≡ f (k + j)
unfolding tab_from
get_or-tab f k zero j h = absurd (not-suc-le-zero h)
get_or-tab f k (suc n) zero h = ap f (sym (add-zero k))
get_or-tab f k (suc n) (suc j) h = get_or-tab f (suc k) n j (le_of_suc-le-suc h) ∙ ap f (omega arith)

-- the first k entries of a list are f's
pub record Filled (f : ℕ → ℕ) (k : ℕ) (xs : List ℕ) : Type 0 where
  pub at : (j : ℕ) → j < k → get_or xs j 0 ≡ f j

pub filled_none : (f : ℕ → ℕ) (xs : List ℕ) → Filled f 0 xs
filled_none f xs = record { at = λ j h. absurd (not-suc-le-zero h) }

pub filled_more : {f : ℕ → ℕ} {k : ℕ} {xs : List ℕ} (v : ℕ) → Filled f k xs → k < length xs → v ≡ f k → Filled f (k + 1) (set xs k v)
filled_more {f} {k} {xs} v p h e = record { at = λ j l. one j l (ℕ_discrete j k) }
  where
    one : (j : ℕ) → j < k + 1 → Dec (j ≡ k) → get_or (set xs k v) j 0 ≡ f j
    one j l (yes q) = subst (λ (x : ℕ). get_or (set xs k v) x 0 ≡ f x) (sym q) (get_or-set_same xs k v 0 h ∙ e)
    one j l (no q) = get_or-set_other xs k j v 0 q ∙ p.at j (omega arith)

pub filled-all : {f : ℕ → ℕ} {n : ℕ} {xs : List ℕ} → length xs ≡ n → Filled f n xs → xs ≡ tab_from f 0 n
filled-all {f} {n} {xs} h p =
    ext_get_or 0 xs (tab_from f 0 n) (h ∙ sym (length-tab f 0 n))
    (λ i l. let b : i < n = omega arith in p.at i b ∙ sym (get_or-tab f 0 n i b ∙ ap f (zero-add i)))

-- rows of m entries
pub row_lt : (n m i d : ℕ) → i < n → d < m → i * m + d < n * m
row_lt n m i d h k =
    let a : suc i * m ≤ n * m = mul-le-mul_right m h in
    omega (arith, suc-mul i m)

row-div : (m i d : ℕ) → d < m → (i * m + d) / m ≡ i
row-div m i d h = mul-add-div_right (omega arith) i d ∙ omega (arith, div-eq_of_lt h)

row-mod : (m i d : ℕ) → d < m → (i * m + d) % m ≡ d
row-mod m i d h = mul-add-mod_self_right i m d ∙ mod-eq_of_lt h

module _ (sh : List ℕ) (i d : ℕ) (k : d < length sh) where
  pub fwd_at-row : fwd_at sh (i * length sh + d) ≡ fwd sh i d
  unfolding fwd_at
  fwd_at-row = ap₂ (fwd sh) (row-div _ i d k) (row-mod _ i d k)

  pub bwd_at-row : bwd_at sh (i * length sh + d) ≡ bwd sh i d
  unfolding bwd_at
  bwd_at-row = ap₂ (bwd sh) (row-div _ i d k) (row-mod _ i d k)

  pub fwd_table-at : i < sites sh → get_or (fwd_table sh) (i * length sh + d) 0 ≡ fwd sh i d
  unfolding fwd_table
  fwd_table-at h = get_or-tab _ 0 _ _ (row_lt (sites sh) (length sh) i d h k) ∙ ap (fwd_at sh) (zero-add _) ∙ fwd_at-row

  pub bwd_table-at : i < sites sh → get_or (bwd_table sh) (i * length sh + d) 0 ≡ bwd sh i d
  unfolding bwd_table
  bwd_table-at h = get_or-tab _ 0 _ _ (row_lt (sites sh) (length sh) i d h k) ∙ ap (bwd_at sh) (zero-add _) ∙ bwd_at-row
