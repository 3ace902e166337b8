-- The active bonds that step 1 draws: which they are, how many, and how they grow with the thresholds.
use Rattle.std.specs.Prelude.{◌≡◌, Bool, true, false, cond, length, get_or, Float, Some}
use Rattle.std.proofs.Math.Path.{refl, ap, ap₂}
use Rattle.std.proofs.Common.{sym, ◌∙◌, not-suc-le-zero, arith, ltb-true, lt-ltb}
use Rattle.std.proofs.lemmas.Bool.{false≢true}
use mathlib.Core.List.Memᴰ
use mathlib.Core.List.{List, [], ◌∷◌, Memᴰ}
use Prim.Native.Nat.{ℕ, zero, suc, ◌+◌, ◌≤◌, ◌<◌, zero-le}
use Rattle.std.proofs.Math.Decide.{ℕ_discrete}
use Rattle.std.proofs.Math.ListN.{length-append}
use Rattle.std.specs.Float.Ieee.{eq}
use Rattle.generator.specs.declared.Xoshiro256StarStar.{Xoshiro256StarStar}
use Rattle.generator.specs.Xoshiro.{draw_of}
use Rattle.bonds.specs.declared.BondState.{BondState}
use Rattle.bonds.specs.declared.BondState.TheVariants.{Idle, Pull}
use Rattle.bonds.specs.Classes.{lookup}
use Rattle.bonds.specs.Activation.{threshold_of, activation_of}
use Rattle.graph.specs.Forest.{Bond}
use Rattle.clusters.specs.Call.{Call}
use Rattle.claims.specs.Terms.{how_many, raise}
use Rattle.clusters.specs.Update.{bond_at, state_at, visit_at, drawn, is_active}

-- ---- a list that may have one more
the_one : (t : Bool) (a : Bond) → t ≡ true → Memᴰ a (cond t (a ∷ []) [])
the_one true a e = Memᴰ.head refl
the_one false a e = absurd (false≢true e)

length-one : (t : Bool) (a : Bond) → length (cond t (a ∷ []) []) ≡ cond t 1 0
length-one true a = refl
length-one false a = refl

module _ (c : Call) where
  -- each bond active by step 1 is there
  pub drawn-complete : (b j : ℕ) → j < b → is_active c j ≡ true → Memᴰ (bond_at c.extents j) (drawn c b).active
  unfolding drawn
  drawn-complete zero j h t = absurd (not-suc-le-zero h)
  drawn-complete (suc b) j h t = go (ℕ_discrete j b) (λ l. drawn-complete b j l t)
    where
      go : Dec (j ≡ b) → (j < b → Memᴰ (bond_at c.extents j) (drawn c b).active) → Memᴰ (bond_at c.extents j) (drawn c (suc b)).active
      go (yes e) rest =
          Memᴰ.append_right (drawn c b).active
          (Memᴰ.cast (ap (bond_at c.extents) e) (the_one (is_active c b) (bond_at c.extents b) (sym (ap (is_active c) e) ∙ t)))
      go (no f) rest = Memᴰ.append_left _ (rest (omega arith))

  pub drawn-count : (b : ℕ) → length (drawn c b).active ≡ how_many (is_active c) b
  unfolding drawn how_many
  drawn-count zero = refl
  drawn-count (suc b) =
      length-append (drawn c b).active (cond (is_active c b) (bond_at c.extents b ∷ []) [])
      ∙ ap₂ ◌+◌ (drawn-count b) (length-one (is_active c b) (bond_at c.extents b))

-- ---- other thresholds
threshold-le : (w : Float) (ws : List Float) (ts us : List ℕ) → length ts ≡ length us → ((i : ℕ) → get_or ts i 0 ≤ get_or us i 0)
    → threshold_of (lookup w ws ts) ≤ threshold_of (lookup w ws us)
threshold-le w [] ts us e h = zero-le
threshold-le w (x ∷ ws) [] us e h = zero-le
threshold-le w (x ∷ ws) (t ∷ ts) [] e h = absurd (omega arith)
threshold-le w (x ∷ ws) (t ∷ ts) (u ∷ us) e h = go (eq x w) (threshold-le w ws ts us (omega arith) (λ i. h (suc i)))
  where
    go : (b : Bool) → threshold_of (lookup w ws ts) ≤ threshold_of (lookup w ws us)
        → threshold_of (cond b (Some (record { weight = x; threshold = t })) (lookup w ws ts))
        ≤ threshold_of (cond b (Some (record { weight = x; threshold = u })) (lookup w ws us))
    go true rest = h 0
    go false rest = rest

module _ (ws : List Float) (ts us : List ℕ) (same : length ts ≡ length us) (higher : (i : ℕ) → get_or ts i 0 ≤ get_or us i 0) where
  one_state : (s : BondState) (g : Xoshiro256StarStar) → (activation_of s ws us g).state ≡ (activation_of s ws ts g).state
  one_state Idle g = refl
  one_state (Pull w) g = refl

  still-active : (s : BondState) (g : Xoshiro256StarStar) → (activation_of s ws ts g).active ≡ true → (activation_of s ws us g).active ≡ true
  still-active Idle g t = t
  still-active (Pull w) g t =
      let h : draw_of g < threshold_of (lookup w ws ts) = ltb-true (draw_of g) (threshold_of (lookup w ws ts)) t in
      lt-ltb (draw_of g) (threshold_of (lookup w ws us)) (omega (arith, threshold-le w ws ts us same higher))

module _ (c : Call) (us : List ℕ) (same : length c.thresholds ≡ length us) (higher : (i : ℕ) → get_or c.thresholds i 0 ≤ get_or us i 0) where
  pub one-generator : (b : ℕ) → (drawn (raise c us) b).generator ≡ (drawn c b).generator
  unfolding drawn
  one-generator zero = refl
  one-generator (suc b) =
      ap (λ g. (visit_at (raise c us) b g).state) (one-generator b)
      ∙ one_state c.weights c.thresholds us same higher (state_at c b) (drawn c b).generator

  pub more-active : (b : ℕ) → is_active c b ≡ true → is_active (raise c us) b ≡ true
  more-active b t =
      ap (λ g. (visit_at (raise c us) b g).active) (one-generator b)
      ∙ still-active c.weights c.thresholds us same higher (state_at c b) (drawn c b).generator t
