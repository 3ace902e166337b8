-- The fresh forest.
use Rattle.std.specs.Prelude.{ℕ, ◌<◌, ◌≡◌, refl, length, replicate}
use Rattle.std.proofs.Common.{zero-add, ◌∙◌}
use Rattle.std.proofs.Math.Path.{sym, ap}
use Rattle.std.proofs.Math.Logic.{inl}
use Rattle.std.proofs.Math.ListN.{get_or, length-replicate}
use Rattle.std.proofs.lemmas.List.{get_or-replicate}
use Rattle.graph.specs.Forest.{fresh, up_from}
use Rattle.graph.proofs.Laws.Lookup.{length-up_from, get_or-up_from}
use Rattle.graph.proofs.Laws.Counts.{count-pos}
use Rattle.clusters.specs.Inside.Rep.{Grown, Rep}

module _ (n : ℕ) where
  own : (i : ℕ) → i < length (up_from 0 n) → get_or (up_from 0 n) i 0 ≡ i
  own i lt = get_or-up_from 0 n i (rw (length-up_from 0 n) at lt) ∙ zero-add i

  pub fresh-grown : Grown (fresh n)
  unfolding fresh
  fresh-grown = record {
    sized = length-replicate n 0 ∙ sym (length-up_from 0 n);
    inside = λ i lt. rw (own i lt) lt;
    rooted = λ i lt. ap (λ (k : ℕ). get_or (up_from 0 n) k 0) (own i lt);
    tall = λ i lt ne. absurd (ne (own i lt));
    big = λ i lt e. rw (get_or-replicate {A = ℕ} n i 0 0 (rw (length-up_from 0 n) at lt)) (rw (own i lt) at (count-pos (up_from 0 n) i lt));
  }

  pub fresh-rep : Rep (up_from 0 n) (replicate n 0) (fresh n)
  unfolding fresh
  fresh-rep = record {
    grown = fresh-grown;
    links = refl;
    ranks = refl;
    site = λ i lt. record { inside = rw (own i lt) lt; same = ap (λ (k : ℕ). get_or (up_from 0 n) k 0) (own i lt); up = inl (own i lt, own i lt) };
  }
