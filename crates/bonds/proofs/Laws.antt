-- One step of each definition along a list, and what a lookup finds.
use mathlib.Core.Path.{◌≡◌, refl, sym, ◌∙◌}
use mathlib.Core.List.{List, [], ◌∷◌}
use Prim.Native.Nat.{ℕ, zero, suc, ◌+◌, ◌<◌}
use native.Mathlib.Omega.{arith}
use native.Mathlib.Numerals.{add-one}
use mathlib.Core.Bool.{Bool, true, false, not, ◌&&◌, cond}
use lib.ListN.{length, get_or, drop}
use lib.Seq.{drop-cons}
use lib.Ieee.{Float, nan, inf, fin, lt, eq, ne}
use lib.Ieee.Scale.{finite}
use Rattle.std.specs.Prelude.{Option, Some, None, is_some}
use Rattle.std.specs.List.{position, position_from}
use Rattle.std.proofs.lemmas.List.Quantifiers.{position-Some}
use Rattle.std.proofs.lemmas.Iterator.Adapters.{position_from-zero}
use Rattle.std.specs.Float.{float_is_finite, float_with_sign}
use Rattle.bonds.specs.declared.Class.{Class}
use Rattle.bonds.specs.Classes.{rising, lookup, missing, bad_coupling}
use Rattle.domain.specs.Numbers.{zero_f}
use Rattle.bonds.specs.Bond.{magnitude}

-- ---- the library's words for a finite number and for a size
pub finite-is : (x : Float) → float_is_finite x ≡ finite x
unfolding float_is_finite
finite-is nan = refl
finite-is (inf s) = refl
finite-is (fin s m e) = refl

pub size-is : (x : Float) → float_with_sign false x ≡ magnitude x
unfolding float_with_sign
size-is nan = refl
size-is (inf s) = refl
size-is (fin s m e) = refl

-- ---- the lookup: the first weight that is equal, or none
lookup-first : (w : Float) (ws : List Float) (ts : List ℕ) → length ws ≡ length ts → (i : ℕ) → i < length ws → eq (get_or ws i nan) w ≡ true
    → ((k : ℕ) → k < i → eq (get_or ws k nan) w ≡ false) → lookup w ws ts ≡ Some (record { weight = get_or ws i nan; threshold = get_or ts i 0 })
lookup-first w [] ts same i h e apart = absurd (omega arith)
lookup-first w (x ∷ xs) [] same i h e apart = absurd (omega arith)
lookup-first w (x ∷ xs) (t ∷ ts) same zero h e apart = rw e
lookup-first w (x ∷ xs) (t ∷ ts) same (suc i) h e apart =
    rw (apart 0 (omega arith)) (lookup-first w xs ts (omega arith) i (omega arith) e (λ k l. apart (suc k) (omega arith)))

pub lookup-found : (w : Float) (ws : List Float) (ts : List ℕ) → length ws ≡ length ts → (i : ℕ) → position (λ (x : Float). eq x w) ws ≡ Some i
    → lookup w ws ts ≡ Some (record { weight = get_or ws i nan; threshold = get_or ts i 0 })
lookup-found w ws ts same i h =
    let p = position-Some (λ (x : Float). eq x w) ws i nan h in lookup-first w ws ts same i p.0 p.1 p.2

lookup-none : (w : Float) (ws : List Float) (ts : List ℕ) (k : ℕ) → position_from (λ (x : Float). eq x w) k ws ≡ None → lookup w ws ts ≡ None
lookup-none w [] ts k h = refl
lookup-none w (x ∷ xs) [] k h = refl
lookup-none w (x ∷ xs) (t ∷ ts) k h = go (eq x w) (lookup-none w xs ts (k + 1)) h
  where
    go : (b : Bool) → {o : Option ℕ} {l : Option Class} → (o ≡ None → l ≡ None) → cond b (Some k) o ≡ None → cond b (Some (record { weight = x; threshold = t })) l ≡ None
    go true rest e = absurd (cc)
    go false rest e = rest e

pub lookup-missed : (w : Float) (ws : List Float) (ts : List ℕ) → position (λ (x : Float). eq x w) ws ≡ None → lookup w ws ts ≡ None
lookup-missed w ws ts h = lookup-none w ws ts 0 (sym (position_from-zero (λ (x : Float). eq x w) ws) ∙ h)

-- ---- rising weights, at the index where a loop stands
pub rising_step : (p : Float) (ws : List Float) (i : ℕ) → i < length ws
    → rising p (drop i ws) ≡ (lt p (get_or ws i nan) && finite (get_or ws i nan) && rising (get_or ws i nan) (drop (i + 1) ws))
rising_step p ws i h = rw (drop-cons ws i nan h, add-one i)

-- ---- a bad coupling, as the code tests it
module _ (ws : List Float) (ts : List ℕ) (j : Float) (f : finite j ≡ true) where
  pub is_zero : ne j zero_f ≡ false → false ≡ bad_coupling ws ts j
  unfolding ne eq
  is_zero e = rw f (rw e)

  pub by-lookup : ne j zero_f ≡ true → (b : Bool) → is_some (lookup (magnitude j) ws ts) ≡ not b → b ≡ bad_coupling ws ts j
  unfolding ne eq
  by-lookup e b k = rw f (rw e (told (lookup (magnitude j) ws ts) b k))
    where
      told : (l : Option Class) (b : Bool) → is_some l ≡ not b → b ≡ missing l
      told (Some c) true k = absurd (cc)
      told (Some c) false k = refl
      told None true k = refl
      told None false k = absurd (cc)

-- neither not finite nor in no class
abbrev pub fair : List Float → List ℕ → Float → Bool
fair ws ts j = not (bad_coupling ws ts j)
