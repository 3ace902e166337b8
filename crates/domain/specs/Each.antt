-- Laws of a check of each entry, at the index where a loop stands.
use Rattle.std.specs.Prelude.{◌≡◌, refl, List, [], ◌∷◌, Bool, true, false, ◌&&◌, ℕ, suc, ◌+◌, ◌≤◌, ◌<◌, length, get_or, drop, leb, Ok, Err}
use Rattle.std.proofs.Common.{sym, ◌∙◌, add-one, drop_of_length-le, le-leb}
use Rattle.std.specs.List.{list_all}
use Rattle.std.proofs.Math.Bool.{and-eq-true_iff}
use Rattle.std.proofs.Math.Seq.{drop-cons}
use Rattle.std.proofs.lemmas.Bool.{lt-leb}
use Rattle.domain.specs.Numbers.{always, thresholds_ok}
use Rattle.domain.specs.declared.Refusal.{Refusal}
use Rattle.domain.specs.Refusals.{Verdict, need_each}

-- what is left to check at the place k
abbrev pub each_from : {A : Type 0} → (A → Bool) → (ℕ → Refusal) → List A → ℕ → Verdict
each_from ok at xs k = need_each ok at k (drop k xs)

and_assoc : (a b c : Bool) → ((a && b) && c) ≡ (a && (b && c))
and_assoc true b c = refl
and_assoc false b c = refl

and_one : (a : Bool) → (a && true) ≡ a
and_one true = refl
and_one false = refl

module _ {A : Type 0} (ok : A → Bool) (d : A) (xs : List A) where
  -- a flag that has met the first i entries: what is left decides with it
  pub met-one : (b : Bool) (i : ℕ) → i < length xs → (b && list_all ok (drop i xs)) ≡ ((b && ok (get_or xs i d)) && list_all ok (drop (i + 1) xs))
  met-one b i h = rw (add-one i, drop-cons xs i d h) (sym (and_assoc b (ok (get_or xs i d)) (list_all ok (drop (suc i) xs))))

  pub met_all : (b : Bool) (i : ℕ) → length xs ≤ i → (b && list_all ok (drop i xs)) ≡ b
  met_all b i h = rw (drop_of_length-le xs h) (and_one b)

  -- the verdict from i on
  pub each-found : (at : ℕ → Refusal) (i : ℕ) → i < length xs → ok (get_or xs i d) ≡ false → each_from ok at xs i ≡ Err (at i)
  unfolding need_each
  each-found at i h e = rw (drop-cons xs i d h, e)

  pub each-passed : (at : ℕ → Refusal) (i : ℕ) → i < length xs → ok (get_or xs i d) ≡ true → each_from ok at xs i ≡ each_from ok at xs (i + 1)
  unfolding need_each
  each-passed at i h e = rw (add-one i, drop-cons xs i d h, e)

pub each-ended : {A : Type 0} (ok : A → Bool) (at : ℕ → Refusal) (xs : List A) (i : ℕ) → length xs ≤ i → each_from ok at xs i ≡ Ok tt
unfolding need_each
each-ended ok at xs i h = rw (drop_of_length-le xs {i = i} h)

pub all-accept : {A : Type 0} (ok : A → Bool) (at : ℕ → Refusal) (k : ℕ) (xs : List A) → list_all ok xs ≡ true → need_each ok at k xs ≡ Ok tt
unfolding need_each
all-accept ok at k [] e = refl
all-accept ok at k (x ∷ xs) e =
    let a = (and-eq-true_iff (ok x) (list_all ok xs)).0 e in
    rw a.0 (all-accept ok at (suc k) xs a.1)

-- ---- thresholds, at the index where a loop stands
module _ (ts : List ℕ) (i : ℕ) where
  low_step : i < length ts → thresholds_ok (drop i ts) ≡ (leb (get_or ts i 0) always && thresholds_ok (drop (i + 1) ts))
  low_step h = rw (add-one i, drop-cons ts i 0 h)

  pub low-over : i < length ts → always < get_or ts i 0 → thresholds_ok (drop i ts) ≡ false
  low-over h g = low_step h ∙ rw (lt-leb (get_or ts i 0) always g)

  pub low-passed : i < length ts → get_or ts i 0 ≤ always → thresholds_ok (drop i ts) ≡ thresholds_ok (drop (i + 1) ts)
  low-passed h g = low_step h ∙ rw (le-leb (get_or ts i 0) always g)

  pub low-ended : length ts ≤ i → thresholds_ok (drop i ts) ≡ true
  low-ended h = rw (drop_of_length-le ts h)
