-- What every bond keeps: each site is reached from its root by a walk that sums to its offset, a set flag has a closed walk behind it, and a bond
-- once visited has both ends at one root and, while the flag is clear, one step apart.
use Rattle.std.specs.Prelude.{◌≡◌, ◌≢◌, ◌⊎◌, Bool, true, false, not, ◌||◌, ℕ, ◌<◌, T, eqb, ℤ, ◌+ℤ◌, nat_abs}
use Rattle.std.proofs.Math.Path.{refl, sym, ap, subst, subst₂}
use Rattle.std.proofs.Common.{◌∙◌, inl, inr, true≢false, eqb→eq}
use Rattle.std.proofs.lemmas.Bool.{false≢true}
use mathlib.Core.List.{List, [], ◌∷◌, Memᴰ}
use Rattle.std.proofs.Math.Decide.{ℕ_discrete}
use Rattle.std.proofs.Math.IntN.{pos, neg_ℤ}
use Rattle.graph.specs.Forest.{Bond}
use Rattle.graph.specs.Winding.{Winding, root, offset, still, attach, close, around, wind, winds, winding}
use Rattle.graph.specs.Walk.{Walk, stay, ahead, Within, Among}
use Rattle.ints.specs.Ints.{abs-zero}
use Rattle.graph.proofs.Laws.Ints.{shift-both, gap-far, gap-near, gap-zero}
use Rattle.graph.proofs.Laws.Lookup.{eqb_yes}
use Rattle.graph.proofs.Laws.Trees.{Good, root-hit, root-miss, offset-hit, offset-miss, still-root, still-offset, good-still, Joins, far, near, wind-cases, good-wind, winds-keep}
use Rattle.graph.proofs.Laws.Walks.{onward, reverse}

-- ---- tests
or_cases : (a b : Bool) → a || b ≡ true → (a ≡ true) ⊎ (b ≡ true)
or_cases true b e = inl refl
or_cases false b e = inr e

pub or-clear : (a b : Bool) → a || b ≡ false → (a ≡ false) × (b ≡ false)
or-clear true b e = absurd (true≢false e)
or-clear false b e = (refl, e)

nonzero : (z : ℤ) → not (eqb (nat_abs z) 0) ≡ true → z ≢ pos 0
nonzero z t e = false≢true (sym (ap not (eqb_yes (nat_abs z) 0 (ap nat_abs e))) ∙ t)

zero_of : (b : Bool) → not b ≡ false → T b
zero_of true e = tt
zero_of false e = absurd (true≢false e)

is_zero : (z : ℤ) → not (eqb (nat_abs z) 0) ≡ false → z ≡ pos 0
is_zero z t = abs-zero z (eqb→eq (nat_abs z) 0 (zero_of (eqb (nat_abs z) 0) t))

module _ (step : Bond → ℤ) (e n : ℕ) (bonds : List Bond) where
  pub record Reached (s : Winding) : Type 0 where
    pub way : (i : ℕ) → i < n → Walk step bonds (root s i) i (offset s i)
    pub wrapped : s.wraps ≡ true → (a : ℕ) × (z : ℤ) × Walk step bonds a a z × (z ≢ pos 0)

  pub reached-still : Reached (still n)
  unfolding still
  reached-still = record {
    way = λ i h. subst₂ (λ (r : ℕ) (z : ℤ). Walk step bonds r i z) (sym (still-root n i h)) (sym (still-offset n i h)) stay;
    wrapped = λ t. absurd (false≢true t);
  }

  -- over a bond, from the root of its near end to the root of its far end
  pub bridge : (s : Winding) (c : Bond) → Memᴰ c bonds → c.x < n → c.y < n → Reached s
      → Walk step bonds (root s c.x) (root s c.y) (around step e s c)
  unfolding around
  bridge s c m hx hy r = onward (ahead c m (r.way c.x hx)) (reverse (r.way c.y hy))

  span : (s : Winding) (c : Bond) {w l : ℕ} {d : ℤ} → Joins step e s c w l d
      → Walk step bonds (root s c.x) (root s c.y) (around step e s c) → Walk step bonds w l d
  span s c (far _ _) u = u
  span s c (near _ _) u = reverse u

  reached-attach : (s : Winding) (w l : ℕ) (d : ℤ) → Good n s → Walk step bonds w l d → Reached s → Reached (attach s w l d)
  unfolding attach
  reached-attach s w l d good u r = record { way = λ i h. go i h (ℕ_discrete (root s i) l); wrapped = r.wrapped }
    where
      go : (i : ℕ) → i < n → Dec (root s i ≡ l) → Walk step bonds (root (attach s w l d) i) i (offset (attach s w l d) i)
      go i h (yes k) =
          subst₂ (λ (r : ℕ) (z : ℤ). Walk step bonds r i z) (sym (root-hit n s w l d good i h k)) (sym (offset-hit n s w l d good i h k))
          (onward u (subst (λ (a : ℕ). Walk step bonds a i (offset s i)) k (r.way i h)))
      go i h (no f) =
          subst₂ (λ (r : ℕ) (z : ℤ). Walk step bonds r i z) (sym (root-miss n s w l d good i h f)) (sym (offset-miss n s w l d good i h f))
          (r.way i h)

  reached-close : (s : Winding) (d : ℤ) → ((a : ℕ) × Walk step bonds a a d) → Reached s → Reached (close e s d)
  unfolding close
  reached-close s d u r = record { way = r.way; wrapped = λ t. go (or_cases s.wraps (not (eqb (nat_abs d) 0)) t) }
    where
      go : (s.wraps ≡ true) ⊎ (not (eqb (nat_abs d) 0) ≡ true) → (a : ℕ) × (z : ℤ) × Walk step bonds a a z × (z ≢ pos 0)
      go (inl t) = r.wrapped t
      go (inr t) = (u.0, d, u.1, nonzero d t)

  pub reached-wind : Within n bonds → (s : Winding) (c : Bond) → Memᴰ c bonds → Good n s → Reached s → Reached (wind step e s c)
  reached-wind within s c m good r =
      let u = bridge s c m (within c m).0 (within c m).1 r in
      wind-cases step e Reached s c
      (λ k. reached-close s (around step e s c) (root s c.x, subst (λ (b : ℕ). Walk step bonds (root s c.x) b (around step e s c)) (sym k) u) r)
      (λ w l d j. reached-attach s w l d good (span s c j u) r)

  pub reached : Within n bonds → Good n (winding step e n bonds) × Reached (winding step e n bonds)
  unfolding winding
  reached within = winds-keep step e n bonds within Reached (reached-wind within) bonds (λ c m. m) (still n) (good-still n) reached-still

  -- ---- visited bonds
  pub record Even (c : Bond) (s : Winding) : Type 0 where
    pub rooted : root s c.x ≡ root s c.y
    pub level : s.wraps ≡ false → offset s c.y ≡ offset s c.x +ℤ step c

  even-attach : (c : Bond) → c.x < n → c.y < n → (s : Winding) (w l : ℕ) (d : ℤ) → Good n s → Even c s → Even c (attach s w l d)
  unfolding attach
  even-attach c hx hy s w l d good v = go (ℕ_discrete (root s c.x) l)
    where
      go : Dec (root s c.x ≡ l) → Even c (attach s w l d)
      go (yes k) =
          let k' : root s c.y ≡ l = sym v.rooted ∙ k in
          record {
            rooted = root-hit n s w l d good c.x hx k ∙ sym (root-hit n s w l d good c.y hy k');
            level = λ t. offset-hit n s w l d good c.y hy k' ∙ ap (λ (z : ℤ). d +ℤ z) (v.level t) ∙ shift-both d (offset s c.x) (step c)
                ∙ ap (λ (z : ℤ). z +ℤ step c) (sym (offset-hit n s w l d good c.x hx k));
          }
      go (no f) =
          let f' : root s c.y ≢ l = λ k. f (v.rooted ∙ k) in
          record {
            rooted = root-miss n s w l d good c.x hx f ∙ v.rooted ∙ sym (root-miss n s w l d good c.y hy f');
            level = λ t. offset-miss n s w l d good c.y hy f' ∙ v.level t
                ∙ ap (λ (z : ℤ). z +ℤ step c) (sym (offset-miss n s w l d good c.x hx f));
          }

  even-close : (c : Bond) (s : Winding) (d : ℤ) → Even c s → Even c (close e s d)
  unfolding close
  even-close c s d v = record { rooted = v.rooted; level = λ t. v.level (or-clear s.wraps (not (eqb (nat_abs d) 0)) t).0 }

  -- a visited bond stays even
  even-kept : Within n bonds → (c : Bond) → Memᴰ c bonds → (s : Winding) (b : Bond) → Memᴰ b bonds → Good n s → Even c s → Even c (wind step e s b)
  even-kept within c m s b k good v =
      wind-cases step e (Even c) s b (λ _. even-close c s (around step e s b) v)
      (λ w l d _. even-attach c (within c m).0 (within c m).1 s w l d good v)

  -- the bond just visited is even
  even-joins : (c : Bond) → c.x < n → c.y < n → (s : Winding) {w l : ℕ} {d : ℤ} → Good n s → Joins step e s c w l d → Even c (attach s w l d)
  unfolding attach around
  even-joins c hx hy s good (far f _) =
      let p = root s c.x in let q = root s c.y in let d = around step e s c in
      record {
        rooted = root-miss n s p q d good c.x hx f ∙ sym (root-hit n s p q d good c.y hy refl);
        level = λ t. offset-hit n s p q d good c.y hy refl ∙ gap-far (offset s c.x) (step c) (offset s c.y)
            ∙ ap (λ (z : ℤ). z +ℤ step c) (sym (offset-miss n s p q d good c.x hx f));
      }
  even-joins c hx hy s good (near f _) =
      let p = root s c.x in let q = root s c.y in let d = neg_ℤ (around step e s c) in
      let f' : q ≢ p = λ k. f (sym k) in
      record {
        rooted = root-hit n s q p d good c.x hx refl ∙ sym (root-miss n s q p d good c.y hy f');
        level = λ t. offset-miss n s q p d good c.y hy f' ∙ gap-near (offset s c.x) (step c) (offset s c.y)
            ∙ ap (λ (z : ℤ). z +ℤ step c) (sym (offset-hit n s q p d good c.x hx refl));
      }

  even-closes : (c : Bond) (s : Winding) → root s c.x ≡ root s c.y → Even c (close e s (around step e s c))
  unfolding close around
  even-closes c s k = record {
    rooted = k;
    level = λ t. gap-zero (offset s c.x) (step c) (offset s c.y) (is_zero _ (or-clear s.wraps _ t).1);
  }

  even-visited : (c : Bond) → c.x < n → c.y < n → (s : Winding) → Good n s → Even c (wind step e s c)
  even-visited c hx hy s good = wind-cases step e (Even c) s c (even-closes c s) (λ w l d j. even-joins c hx hy s good j)

  even-all : Within n bonds → (cs : List Bond) → Among cs bonds → (s : Winding) → Good n s → (c : Bond) → Memᴰ c cs → Even c (winds step e s cs)
  unfolding winds
  even-all within [] among s good c m = elim m [ ]
  even-all within (b ∷ cs) among s good c (mathlib.Core.List.Memᴰ.head k) =
      let m : Memᴰ c bonds = among c (mathlib.Core.List.Memᴰ.head k) in
      let h = within c m in
      let v : Even c (wind step e s b) = subst (λ (a : Bond). Even c (wind step e s a)) k (even-visited c h.0 h.1 s good) in
      let hb = within b (among b (mathlib.Core.List.Memᴰ.head refl)) in
      (winds-keep step e n bonds within (Even c) (even-kept within c m) cs (λ a j. among a (mathlib.Core.List.Memᴰ.tail j)) (wind step e s b)
      (good-wind step e n s b good hb.0 hb.1) v).1
  even-all within (b ∷ cs) among s good c (mathlib.Core.List.Memᴰ.tail m) =
      let hb = within b (among b (mathlib.Core.List.Memᴰ.head refl)) in
      even-all within cs (λ a j. among a (mathlib.Core.List.Memᴰ.tail j)) (wind step e s b) (good-wind step e n s b good hb.0 hb.1) c m

  pub even : Within n bonds → (c : Bond) → Memᴰ c bonds → Even c (winding step e n bonds)
  unfolding winding
  even within c m = even-all within bonds (λ a j. j) (still n) (good-still n) c m
