-- What a link does to the parent links of the code.
use Rattle.std.specs.Prelude.{◌≡◌, ◌≢◌, List, ℕ, ◌≤◌, ◌<◌, length, get_or, set}
use Rattle.std.proofs.Common.{sym, ap, ◌∙◌, subst, arith, length-set, get_or-set_same, get_or-set_other}
use Rattle.std.proofs.Math.Decide.{ℕ_discrete}
use Rattle.graph.specs.Forest.{Forest, root_of, rank_of, up_from, fresh, absorb, Sound}
use Rattle.graph.proofs.Laws.Lookup.{length-up_from, get_or-up_from}
use Rattle.graph.proofs.Laws.Roots.{Apart, fresh-root, hit, miss, stays, rank-other, rank-won}
use Rattle.clusters.specs.Inside.Links.{Hung, Hangs}

-- ---- one entry set
module _ {A : Type 0} (l : List A) (j : ℕ) (a z : A) (P : ℕ → A → Type 0) (h : j < length l) where
  -- what holds of the new entry at j, and of the old ones elsewhere
  pub set-each : P j a → ((i : ℕ) → i ≢ j → P i (get_or l i z)) → (i : ℕ) → P i (get_or (set l j a) i z)
  set-each p f i = go (ℕ_discrete i j)
    where
      go : Dec (i ≡ j) → P i (get_or (set l j a) i z)
      go (yes e) = subst (λ (k : ℕ). P k (get_or (set l j a) k z)) (sym e) (subst (P j) (sym (get_or-set_same l j a z h)) p)
      go (no d) = subst (P i) (sym (get_or-set_other l j i a z d)) (f i d)

-- ---- parents
pub hangs-fresh : (n : ℕ) → Hangs n (up_from 0 n) (fresh n)
hangs-fresh n = record {
  parents-n = length-up_from 0 n;
  hung = λ i h. let own : get_or (up_from 0 n) i 0 ≡ i = get_or-up_from 0 n i h ∙ omega arith in record {
    parent-lt = subst (λ (p : ℕ). p < n) (sym own) h;
    ends = λ _. fresh-root n i h;
    tops = λ _. own;
    rises = λ d. absurd (d own);
    same-root = ap (root_of (fresh n)) own;
  };
}

-- a root takes over another's sites: the loser's parent is the winner
pub hangs-absorb : (n : ℕ) (ps : List ℕ) (f : Forest) (w l : ℕ) → Sound n f → Apart n f w l → rank_of f l ≤ rank_of f w
    → Hangs n ps f → Hangs n (set ps l w) (absorb f w l)
hangs-absorb n ps f w l sound apart le hangs = record {
  parents-n = length-set ps l w ∙ hangs.parents-n;
  hung = set-each ps l w 0 (λ i q. i < n → Hung n g i q) (omega (arith, hangs.parents-n, apart.l_lt)) loser other;
}
  where
    g : Forest
    g = absorb f w l

    w' : root_of g w ≡ w
    w' = stays n f w l sound w apart.w-lt apart.w-root apart.differ

    l' : root_of g l ≡ w
    l' = hit n f w l sound l apart.l_lt apart.l-root

    won : (rank_of f w ≤ rank_of g w) × (rank_of f l < rank_of g w)
    won = rank-won n f w l sound apart.w-lt le

    loser : l < n → Hung n g l w
    loser _ = record {
      parent-lt = apart.w-lt;
      ends = λ e. absurd (apart.differ e);
      tops = λ e. absurd (apart.differ (sym l' ∙ e));
      rises = λ _. omega (arith, won.1, rank-other n f w l sound l (λ e. apart.differ (sym e)));
      same-root = w' ∙ sym l';
    }

    -- a rank does not fall
    rank_up : (i : ℕ) → Dec (i ≡ w) → rank_of f i ≤ rank_of g i
    rank_up i (yes e) = subst (λ (k : ℕ). rank_of f k ≤ rank_of g k) (sym e) won.0
    rank_up i (no d) = omega (arith, rank-other n f w l sound i d)

    -- two sites of one root keep one root
    both : (i j : ℕ) → i < n → j < n → root_of f j ≡ root_of f i → Dec (root_of f i ≡ l) → root_of g j ≡ root_of g i
    both i j hi hj e (yes k) = hit n f w l sound j hj (e ∙ k) ∙ sym (hit n f w l sound i hi k)
    both i j hi hj e (no d) = miss n f w l sound j hj (λ k. d (sym e ∙ k)) ∙ e ∙ sym (miss n f w l sound i hi d)

    -- a root of afterwards was one before
    was : (i : ℕ) → i < n → root_of g i ≡ i → Dec (root_of f i ≡ l) → root_of f i ≡ i
    was i h e (yes k) =
        let iw : w ≡ i = sym (hit n f w l sound i h k) ∙ e in
        absurd (apart.differ (sym apart.w-root ∙ ap (root_of f) iw ∙ k))
    was i h e (no d) = sym (miss n f w l sound i h d) ∙ e

    other : (i : ℕ) → i ≢ l → i < n → Hung n g i (get_or ps i 0)
    other i d h = record {
      parent-lt = (hangs.hung i h).parent-lt;
      ends = λ e. stays n f w l sound i h ((hangs.hung i h).ends e) d;
      tops = λ e. (hangs.hung i h).tops (was i h e (ℕ_discrete (root_of f i) l));
      rises = λ e.
          let notw : i ≢ w = λ k. e ((hangs.hung i h).tops (ap (root_of f) k ∙ apart.w-root ∙ sym k)) in
          omega (arith, (hangs.hung i h).rises e, rank-other n f w l sound i notw, rank_up (get_or ps i 0) (ℕ_discrete (get_or ps i 0) w));
      same-root = both i (get_or ps i 0) h (hangs.hung i h).parent-lt (hangs.hung i h).same-root (ℕ_discrete (root_of f i) l);
    }
