-- A loop that stores v k at each place k from the front, whatever the element.
use Rattle.std.specs.Prelude.{ℕ, ◌+◌, ◌<◌, ◌≤◌, ◌≡◌, refl, List, length, get_or, replicate, set}
use Rattle.std.proofs.Common.{zero-add, arith, sym, ap, ◌∙◌, length-set, ext_get_or, get_or-set_same, get_or-set_other, below_none, below_more}
use Rattle.std.proofs.lemmas.List.{length-replicate, get_or-replicate}
use Rattle.graph.specs.Forest.{up_from}
use Rattle.graph.proofs.Laws.Lookup.{length-up_from, get_or-up_from}

-- the first i places are filled; d is what a place past the end reads
pub record Filled {A : Type 0} (d : A) (v : ℕ → A) (l₀ l : List A) (i : ℕ) : Type 0 where
  pub inside : i ≤ length l
  pub sized : length l ≡ length l₀
  pub at : (k : ℕ) → k < i → get_or l k d ≡ v k

pub fill_none : {A : Type 0} (d : A) (v : ℕ → A) (l : List A) → Filled d v l l 0
fill_none d v l = record { inside = omega arith; sized = refl; at = below_none _ }

pub fill_on : {A : Type 0} {d : A} {v : ℕ → A} {l₀ l : List A} {i : ℕ} → Filled d v l₀ l i → i < length l → Filled d v l₀ (set l i (v i)) (i + 1)
fill_on {d = d} {v = v} {l = l} {i = i} f lt = record {
  inside = simp length-set (omega arith);
  sized = length-set l i (v i) ∙ f.sized;
  at = below_more _ i (λ k h. get_or-set_other l i k (v i) d (λ e. omega arith) ∙ f.at k h) (get_or-set_same l i (v i) d lt);
}

pub filled-own : {l₀ l : List ℕ} {i : ℕ} → Filled 0 (λ k. k) l₀ l i → length l ≤ i → l ≡ up_from 0 (length l₀)
filled-own {l₀} {l} {i} f le =
    ext_get_or 0 l (up_from 0 (length l)) (sym (length-up_from 0 (length l))) (λ k lt. f.at k (omega arith) ∙ sym (get_or-up_from 0 (length l) k lt ∙ zero-add k))
    ∙ ap (up_from 0) f.sized

pub filled-alike : {A : Type 0} {d : A} (v : A) {l₀ l : List A} {i : ℕ} → Filled d (λ k. v) l₀ l i → length l ≤ i → l ≡ replicate (length l₀) v
filled-alike {d = d} v {l₀} {l} {i} f le =
    ext_get_or d l (replicate (length l₀) v) (f.sized ∙ sym (length-replicate (length l₀) v))
    (λ k lt. f.at k (omega arith) ∙ sym (get_or-replicate (length l₀) k v d (rw f.sized at lt)))
