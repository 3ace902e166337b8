-- One bond's effect on a forest: what stays well formed, and what happens to a root and a rank.
use Rattle.std.specs.Prelude.{◌≡◌, refl, ◌≢◌, not, eqb, ltb, set}
use Rattle.std.proofs.Math.Path.{sym, ap, subst}
use Rattle.std.proofs.Common.{◌∙◌, arith, eqb→eq, ltb→lt, nltb→le}
use mathlib.Core.List.Memᴰ
use mathlib.Core.List.{List, [], ◌∷◌}
use Prim.Native.Nat.{ℕ, suc, ◌≤◌, ◌<◌}
use Rattle.std.proofs.Math.Decide.{ℕ_discrete}
use Rattle.std.proofs.Math.Dec.{T, T_not, eqb_refl}
use Rattle.std.proofs.Math.ListN.{length, get_or, length-set}
use Rattle.std.proofs.lemmas.List.{length-replicate}
use Rattle.std.proofs.Math.Seq.{get_or-set_same, get_or-set_other}
use Rattle.graph.specs.Forest.{Bond, Forest, Sound, root_of, rank_of, fresh, absorb, unite, join, joins, forest}
use Rattle.graph.specs.Walk.{Within}
use Rattle.graph.proofs.Laws.Lookup.{by-test, length-up_from, get_or-up_from, length-relabel, relabel-hit, relabel-miss}

-- w and l are two different roots.
pub record Apart (n : ℕ) (f : Forest) (w l : ℕ) : Type 0 where
  pub w-lt : w < n
  pub l_lt : l < n
  pub w-root : root_of f w ≡ w
  pub l-root : root_of f l ≡ l
  pub differ : w ≢ l

-- ---- the start
pub fresh-root : (n i : ℕ) → i < n → root_of (fresh n) i ≡ i
unfolding fresh
fresh-root n i h = get_or-up_from 0 n i h ∙ omega arith

pub sound-fresh : (n : ℕ) → Sound n (fresh n)
unfolding fresh
sound-fresh n = record {
  roots-n = length-up_from 0 n;
  ranks-n = length-replicate n 0;
  root-lt = λ i h. subst (λ (r : ℕ). r < n) (sym (fresh-root n i h)) h;
  root-root = λ i h. ap (root_of (fresh n)) (fresh-root n i h);
}

-- ---- a root takes over another's sites
module _ (n : ℕ) (f : Forest) (w l : ℕ) (sound : Sound n f) where
  pub hit : (i : ℕ) → i < n → root_of f i ≡ l → root_of (absorb f w l) i ≡ w
  unfolding absorb
  hit i h e = relabel-hit w l f.roots i (omega arith) e

  pub miss : (i : ℕ) → i < n → root_of f i ≢ l → root_of (absorb f w l) i ≡ root_of f i
  unfolding absorb
  miss i h e = relabel-miss w l f.roots i (omega arith) e

  -- a root other than l stays a root
  pub stays : (r : ℕ) → r < n → root_of f r ≡ r → r ≢ l → root_of (absorb f w l) r ≡ r
  stays r h e d = miss r h (λ k. d (sym e ∙ k)) ∙ e

  -- the root of a site, afterwards, is a site and a root other than l
  pub after : Apart n f w l → (i : ℕ) → i < n → (r : ℕ) × (root_of (absorb f w l) i ≡ r) × (r < n) × (root_of f r ≡ r) × (r ≢ l)
  after apart i h = go (ℕ_discrete (root_of f i) l)
    where
      go : Dec (root_of f i ≡ l) → (r : ℕ) × (root_of (absorb f w l) i ≡ r) × (r < n) × (root_of f r ≡ r) × (r ≢ l)
      go (yes e) = (w, hit i h e, apart.w-lt, apart.w-root, apart.differ)
      go (no d) = (root_of f i, miss i h d, sound.root-lt i h, sound.root-root i h, d)

  pub sound-absorb : Apart n f w l → Sound n (absorb f w l)
  unfolding absorb
  sound-absorb apart = record {
    roots-n = length-relabel w l f.roots ∙ sound.roots-n;
    ranks-n = by-test (λ (rk : List ℕ). length rk ≡ n) (eqb (rank_of f w) (rank_of f l)) _ _
        (λ t. length-set f.ranks w (suc (rank_of f w)) ∙ sound.ranks-n) (λ t. sound.ranks-n);
    root-lt = λ i h. let a = after apart i h in subst (λ (r : ℕ). r < n) (sym a.1) a.2;
    root-root = λ i h. let a = after apart i h in ap (root_of (absorb f w l)) a.1 ∙ stays a.0 a.2 a.3 a.4 ∙ sym a.1;
  }

  -- only the winner's rank can change, and it comes to stand above the loser's
  pub rank-other : (i : ℕ) → i ≢ w → rank_of (absorb f w l) i ≡ rank_of f i
  unfolding absorb
  rank-other i d =
      by-test (λ (rk : List ℕ). get_or rk i 0 ≡ rank_of f i) (eqb (rank_of f w) (rank_of f l)) _ _
      (λ t. get_or-set_other f.ranks w i (suc (rank_of f w)) 0 d) (λ t. refl)

  pub rank-won : w < n → rank_of f l ≤ rank_of f w → (rank_of f w ≤ rank_of (absorb f w l) w) × (rank_of f l < rank_of (absorb f w l) w)
  unfolding absorb
  rank-won h le =
      by-test (λ (rk : List ℕ). (rank_of f w ≤ get_or rk w 0) × (rank_of f l < get_or rk w 0)) (eqb (rank_of f w) (rank_of f l)) _ _
      (λ t. let k : get_or (set f.ranks w (suc (rank_of f w))) w 0 ≡ suc (rank_of f w) = get_or-set_same f.ranks w (suc (rank_of f w)) 0 (omega (arith, sound.ranks-n)) in omega arith)
      (λ t. let d : rank_of f w ≢ rank_of f l = λ k. T_not (eqb (rank_of f w) (rank_of f l)) t (subst (λ (r : ℕ). T (eqb (rank_of f w) r)) k (eqb_refl (rank_of f w))) in omega arith)

-- ---- two roots: nothing, or one takes over the other's sites
-- the winner and the loser of p and q
pub data Unites (f : Forest) (p q : ℕ) : ℕ → ℕ → Type 0 where
  first : p ≢ q → rank_of f q ≤ rank_of f p → Unites f p q p q
  second : p ≢ q → rank_of f p < rank_of f q → Unites f p q q p

pub unite-cases : (P : Forest → Type 0) (f : Forest) (p q : ℕ) → (p ≡ q → P f) → ((w l : ℕ) → Unites f p q w l → P (absorb f w l)) → P (unite f p q)
unfolding unite
unite-cases P f p q same differ =
    by-test P (eqb p q) _ _ (λ t. same (eqb→eq p q t))
    (λ t. let ne : p ≢ q = apart t in
    by-test P (ltb (rank_of f p) (rank_of f q)) _ _ (λ u. differ _ _ (second ne (ltb→lt _ _ u))) (λ u. differ _ _ (first ne (nltb→le _ _ u))))
  where
    apart : T (not (eqb p q)) → p ≢ q
    apart t e = T_not (eqb p q) t (subst (λ (k : ℕ). T (eqb p k)) e (eqb_refl p))

pub unites-rank : (f : Forest) (p q : ℕ) {w l : ℕ} → Unites f p q w l → rank_of f l ≤ rank_of f w
unites-rank f p q (first _ h) = h
unites-rank f p q (second _ h) = omega arith

-- the roots of two sites
pub unites-apart : (n : ℕ) (f : Forest) (x y : ℕ) {w l : ℕ} → Sound n f → x < n → y < n → Unites f (root_of f x) (root_of f y) w l → Apart n f w l
unites-apart n f x y sound hx hy (first d _) = record {
  w-lt = sound.root-lt x hx;
  l_lt = sound.root-lt y hy;
  w-root = sound.root-root x hx;
  l-root = sound.root-root y hy;
  differ = d;
}
unites-apart n f x y sound hx hy (second d _) = record {
  w-lt = sound.root-lt y hy;
  l_lt = sound.root-lt x hx;
  w-root = sound.root-root y hy;
  l-root = sound.root-root x hx;
  differ = λ k. d (sym k);
}

-- ---- a bond, and a list of bonds
pub sound-join : (n : ℕ) (f : Forest) (c : Bond) → Sound n f → c.x < n → c.y < n → Sound n (join f c)
unfolding join
sound-join n f c sound hx hy =
    unite-cases (Sound n) f (root_of f c.x) (root_of f c.y) (λ _. sound) (λ w l u. sound-absorb n f w l sound (unites-apart n f c.x c.y sound hx hy u))

-- what each takeover keeps, the list keeps
pub joins-keep : (n : ℕ) (bonds : List Bond) → Within n bonds → (Q : Forest → Type 0)
    → ((f : Forest) (w l : ℕ) → Sound n f → Apart n f w l → rank_of f l ≤ rank_of f w → Q f → Q (absorb f w l))
    → (f : Forest) → Sound n f → Q f → Sound n (joins f bonds) × Q (joins f bonds)
unfolding joins join
joins-keep n [] within Q keep f sound q = (sound, q)
joins-keep n (c ∷ cs) within Q keep f sound q =
    let h = within c (Memᴰ.head refl) in
    joins-keep n cs (λ a k. within a (Memᴰ.tail k)) Q keep (join f c) (sound-join n f c sound h.0 h.1)
    (unite-cases Q f (root_of f c.x) (root_of f c.y) (λ _. q)
    (λ w l u. keep f w l sound (unites-apart n f c.x c.y sound h.0 h.1 u) (unites-rank f _ _ u) q))

pub forest-keeps : (n : ℕ) (bonds : List Bond) → Within n bonds → (Q : Forest → Type 0)
    → ((f : Forest) (w l : ℕ) → Sound n f → Apart n f w l → rank_of f l ≤ rank_of f w → Q f → Q (absorb f w l))
    → Q (fresh n) → Q (forest n bonds)
unfolding forest
forest-keeps n bonds within Q keep q = (joins-keep n bonds within Q keep (fresh n) (sound-fresh n) q).1

pub sound-forest : (n : ℕ) (bonds : List Bond) → Within n bonds → Sound n (forest n bonds)
unfolding forest
sound-forest n bonds within = (joins-keep n bonds within (λ _. Unit {0}) (λ _ _ _ _ _ _ _. tt) (fresh n) (sound-fresh n) tt).0
