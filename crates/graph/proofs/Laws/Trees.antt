-- One bond's effect on a winding: what stays well formed, and what happens to a root and an offset.
use Rattle.std.specs.Prelude.{◌≡◌, refl, ◌≢◌, not, T, eqb, ltb, length, ℤ, pos, ◌+ℤ◌, neg_ℤ}
use Rattle.std.proofs.Math.Path.{sym, ap}
use Rattle.std.proofs.Common.{◌∙◌, subst, arith, T_not, eqb→eq, ltb→lt, nltb→le}
use mathlib.Core.List.{List, [], ◌∷◌, Memᴰ}
use Prim.Native.Nat.{ℕ, ◌≤◌, ◌<◌}
use Rattle.std.proofs.Math.Dec.{eqb_refl}
use Rattle.std.proofs.lemmas.List.{length-replicate, get_or-replicate}
use Rattle.graph.specs.Forest.{Bond, Sound}
use Rattle.graph.specs.Winding.{Winding, root, rank, offset, still, attach, close, around, wind, winds}
use Rattle.graph.specs.Walk.{Within, Among}
use Rattle.graph.proofs.Laws.Lookup.{by-test, length_shift, shift-hit, shift-miss}
use Rattle.graph.proofs.Laws.Roots.{Apart, fresh-root, sound-fresh, hit, miss, after, sound-absorb, Unites, first, second, unites-apart}

-- A sound forest with an offset for each of the n sites, 0 at a root.
pub record Good (n : ℕ) (s : Winding) : Type 0 where
  pub sound : Sound n s.trees
  pub offsets-n : length s.offsets ≡ n
  pub root-offset : (i : ℕ) → i < n → offset s (root s i) ≡ pos 0

-- ---- the start
pub still-root : (n i : ℕ) → i < n → root (still n) i ≡ i
unfolding still
still-root n i h = fresh-root n i h

pub still-offset : (n i : ℕ) → i < n → offset (still n) i ≡ pos 0
unfolding still
still-offset n i h = get_or-replicate n i (pos 0) (pos 0) h

pub good-still : (n : ℕ) → Good n (still n)
unfolding still
good-still n = record {
  sound = sound-fresh n;
  offsets-n = length-replicate n (pos 0);
  root-offset = λ i h. ap (offset (still n)) (still-root n i h) ∙ still-offset n i h;
}

-- ---- a root takes over another's sites
module _ (n : ℕ) (s : Winding) (w l : ℕ) (d : ℤ) (good : Good n s) where
  pub root-hit : (i : ℕ) → i < n → root s i ≡ l → root (attach s w l d) i ≡ w
  unfolding attach
  root-hit i h e = hit n s.trees w l good.sound i h e

  pub root-miss : (i : ℕ) → i < n → root s i ≢ l → root (attach s w l d) i ≡ root s i
  unfolding attach
  root-miss i h e = miss n s.trees w l good.sound i h e

  pub offset-hit : (i : ℕ) → i < n → root s i ≡ l → offset (attach s w l d) i ≡ d +ℤ offset s i
  unfolding attach
  offset-hit i h e = shift-hit l d s.trees.roots s.offsets i (omega arith) (omega arith) e

  pub offset-miss : (i : ℕ) → i < n → root s i ≢ l → offset (attach s w l d) i ≡ offset s i
  unfolding attach
  offset-miss i h e = shift-miss l d s.trees.roots s.offsets i (omega arith) (omega arith) e

  -- a root other than l keeps its offset, 0
  pub zero-stays : (r : ℕ) → r < n → root s r ≡ r → r ≢ l → offset (attach s w l d) r ≡ pos 0
  zero-stays r h e f = offset-miss r h (λ k. f (sym e ∙ k)) ∙ ap (offset s) (sym e) ∙ good.root-offset r h

  pub good-attach : Apart n s.trees w l → Good n (attach s w l d)
  unfolding attach
  good-attach apart = record {
    sound = sound-absorb n s.trees w l good.sound apart;
    offsets-n = length_shift l d s.trees.roots s.offsets (good.sound.roots-n ∙ sym good.offsets-n) ∙ good.offsets-n;
    root-offset = λ i h.
        let a = after n s.trees w l good.sound apart i h in
        ap (offset (attach s w l d)) a.1 ∙ zero-stays a.0 a.2 a.3 a.4;
  }

pub good-close : (n e : ℕ) (s : Winding) (d : ℤ) → Good n s → Good n (close e s d)
unfolding close
good-close n e s d good = record { sound = good.sound; offsets-n = good.offsets-n; root-offset = good.root-offset }

-- ---- a bond: it closes, or one of its two roots takes over the other's sites
module _ (step : Bond → ℤ) (e : ℕ) where
  -- the winner, the loser and the loser's displacement from the winner
  pub data Joins (s : Winding) (c : Bond) : ℕ → ℕ → ℤ → Type 0 where
    far : root s c.x ≢ root s c.y → rank s (root s c.y) ≤ rank s (root s c.x)
        → Joins s c (root s c.x) (root s c.y) (around step e s c)
    near : root s c.x ≢ root s c.y → rank s (root s c.x) < rank s (root s c.y)
        → Joins s c (root s c.y) (root s c.x) (neg_ℤ (around step e s c))

  pub wind-cases : (P : Winding → Type 0) (s : Winding) (c : Bond)
      → (root s c.x ≡ root s c.y → P (close e s (around step e s c)))
      → ((w l : ℕ) (d : ℤ) → Joins s c w l d → P (attach s w l d))
      → P (wind step e s c)
  unfolding wind
  wind-cases P s c f g =
      by-test P (eqb p q) _ _ (λ t. f (eqb→eq p q t))
      (λ t. let ne : p ≢ q = apart t in
      by-test P (ltb (rank s p) (rank s q)) _ _ (λ u. g _ _ _ (near ne (ltb→lt _ _ u))) (λ u. g _ _ _ (far ne (nltb→le _ _ u))))
    where
      p : ℕ
      p = root s c.x

      q : ℕ
      q = root s c.y

      apart : T (not (eqb p q)) → p ≢ q
      apart t e = T_not (eqb p q) t (subst (λ (k : ℕ). T (eqb p k)) e (eqb_refl p))

  joins-unites : (s : Winding) (c : Bond) {w l : ℕ} {d : ℤ} → Joins s c w l d → Unites s.trees (root s c.x) (root s c.y) w l
  joins-unites s c (far f h) = first f h
  joins-unites s c (near f h) = second f h

  pub joins-apart : (n : ℕ) (s : Winding) (c : Bond) {w l : ℕ} {d : ℤ} → Good n s → c.x < n → c.y < n → Joins s c w l d → Apart n s.trees w l
  joins-apart n s c good hx hy j = unites-apart n s.trees c.x c.y good.sound hx hy (joins-unites s c j)

  pub good-wind : (n : ℕ) (s : Winding) (c : Bond) → Good n s → c.x < n → c.y < n → Good n (wind step e s c)
  good-wind n s c good hx hy =
      wind-cases (Good n) s c (λ _. good-close n e s (around step e s c) good)
      (λ w l d j. good-attach n s w l d good (joins-apart n s c good hx hy j))

  -- what each bond of the list keeps, the list keeps
  pub winds-keep : (n : ℕ) (bonds : List Bond) → Within n bonds → (Q : Winding → Type 0)
      → ((s : Winding) (c : Bond) → Memᴰ c bonds → Good n s → Q s → Q (wind step e s c))
      → (cs : List Bond) → Among cs bonds → (s : Winding) → Good n s → Q s → Good n (winds step e s cs) × Q (winds step e s cs)
  unfolding winds
  winds-keep n bonds within Q keep [] among s good q = (good, q)
  winds-keep n bonds within Q keep (c ∷ cs) among s good q =
      let m : Memᴰ c bonds = among c (mathlib.Core.List.Memᴰ.head refl) in
      winds-keep n bonds within Q keep cs (λ a k. among a (mathlib.Core.List.Memᴰ.tail k)) (wind step e s c)
      (good-wind n s c good (within c m).0 (within c m).1) (keep s c m good q)
