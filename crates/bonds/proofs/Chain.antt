-- The four tests of a class table: where it fails first, or that its last test decides.
use mathlib.Core.Path.{◌≡◌}
use mathlib.Core.List.{List}
use mathlib.Core.Bool.{Bool, true, false, ◌&&◌}
use Prim.Native.Nat.{ℕ, ◌<◌, ◌≤◌}
use borrow.Author.Tests.{eq-eqb, ne_eqb, le-leb, lt-leb}
use lib.ListN.{length}
use lib.Dec.{leb}
use lib.Ieee.{Float}
use Rattle.domain.specs.Numbers.{zero_f, thresholds_ok}
use Rattle.bonds.specs.Classes.{rising, classes_ok}

module _ (b c d : Bool) where
  first : {a : Bool} → a ≡ false → false ≡ (a && b && c && d)
  first p = rw p

  second : {a : Bool} → a ≡ true → b ≡ false → false ≡ (a && b && c && d)
  second p q = rw (p, q)

  third : {a : Bool} → a ≡ true → b ≡ true → c ≡ false → false ≡ (a && b && c && d)
  third p q r = rw (p, q, r)

  last : {a : Bool} → a ≡ true → b ≡ true → c ≡ true → d ≡ (a && b && c && d)
  last p q r = rw (p, q, r)

module _ (ws : List Float) (ts : List ℕ) where
  pub unequal : (length ws ≡ length ts → ⊥) → false ≡ classes_ok ws ts
  unequal h = first (leb (length ws) 64) (rising zero_f ws) (thresholds_ok ts) (ne_eqb (length ws) (length ts) h)

  module _ (same : length ws ≡ length ts) where
    pub too_many : 64 < length ws → false ≡ classes_ok ws ts
    too_many h = second (leb (length ws) 64) (rising zero_f ws) (thresholds_ok ts) (eq-eqb (length ws) (length ts) same) (lt-leb (length ws) 64 h)

    pub bad-weights : length ws ≤ 64 → rising zero_f ws ≡ false → false ≡ classes_ok ws ts
    bad-weights h r = third (leb (length ws) 64) (rising zero_f ws) (thresholds_ok ts) (eq-eqb (length ws) (length ts) same) (le-leb (length ws) 64 h) r

    pub by-thresholds : length ws ≤ 64 → rising zero_f ws ≡ true → thresholds_ok ts ≡ classes_ok ws ts
    by-thresholds h r = last (leb (length ws) 64) (rising zero_f ws) (thresholds_ok ts) (eq-eqb (length ws) (length ts) same) (le-leb (length ws) 64 h) r
