-- How many numbers of a row pass a test; a row that is carried into another one to one passes no more often.
use Rattle.std.specs.Prelude.{◌≡◌, refl, ◌≢◌, Bool, true, false, cond, not, ◌&&◌, List, [], ◌∷◌, map, ℕ, zero, suc, ◌+◌, ◌≤◌, ◌<◌, eqb, length, get_or}
use Rattle.std.proofs.Common.{sym, ap, ◌∙◌, zero-le, arith}
use Rattle.std.proofs.Math.Decide.{ℕ_discrete}
use Rattle.graph.specs.Forest.{Forest, up_from, count, sizes, filled, components, total}
use Rattle.graph.proofs.Laws.Lookup.{eqb_yes, eqb-not}
use Rattle.graph.proofs.Laws.Counts.{one-if, none-if}

-- of the n numbers from a on
unfoldable pub tally : (ℕ → Bool) → ℕ → ℕ → ℕ
tally p a zero = 0
tally p a (suc n) = cond (p a) 1 0 + tally p (suc a) n

tally-same : (p q : ℕ → Bool) (a n : ℕ) → ((i : ℕ) → a ≤ i → p i ≡ q i) → tally p a n ≡ tally q a n
unfolding tally
tally-same p q a zero f = refl
tally-same p q a (suc n) f =
    let h : tally p (suc a) n ≡ tally q (suc a) n = tally-same p q (suc a) n (λ i k. f i (omega arith)) in
    ap {B = ℕ} (λ (b : Bool). cond b 1 0 + tally p (suc a) n) (f a (omega arith)) ∙ ap (λ (m : ℕ). cond (q a) 1 0 + m) h

-- the test without the number b
without : (ℕ → Bool) → ℕ → ℕ → Bool
without p b i = p i && not (eqb i b)

and-true : (b : Bool) → b && true ≡ b
and-true true = refl
and-true false = refl

and-false : (b : Bool) → b && false ≡ false
and-false true = refl
and-false false = refl

without_other : (p : ℕ → Bool) (b i : ℕ) → i ≢ b → without p b i ≡ p i
unfolding without
without_other p b i f = ap (λ (c : Bool). p i && not c) (eqb-not i b f) ∙ and-true (p i)

without-self : (p : ℕ → Bool) (b : ℕ) → without p b b ≡ false
unfolding without
without-self p b = ap (λ (c : Bool). p b && not c) (eqb_yes b b refl) ∙ and-false (p b)

tally-without : (p : ℕ → Bool) (b : ℕ) → p b ≡ true → (a n : ℕ) → a ≤ b → b < a + n → tally p a n ≡ suc (tally (without p b) a n)
unfolding tally
tally-without p b t a zero l h = absurd (omega arith)
tally-without p b t a (suc n) l h = go (ℕ_discrete a b) (λ l'. tally-without p b t (suc a) n l' (omega arith))
  where
    bit : Bool → ℕ
    bit c = cond c 1 0

    go : Dec (a ≡ b) → (a < b → tally p (suc a) n ≡ suc (tally (without p b) (suc a) n))
        → bit (p a) + tally p (suc a) n ≡ suc (bit (without p b a) + tally (without p b) (suc a) n)
    go (yes k) rest = omega (
      arith,
      ap bit (ap p k ∙ t),
      ap bit (ap (without p b) k ∙ without-self p b),
      tally-same p (without p b) (suc a) n (λ i m. sym (without_other p b i (λ (r : i ≡ b). absurd (omega arith)))),
    )
    go (no f) rest = omega (arith, ap bit (without_other p b a f), rest (omega arith))

-- h carries what passes q in the row of k from a, one to one, to what passes p below n
unfoldable pub Into : (q p : ℕ → Bool) (h : ℕ → ℕ) (n a k : ℕ) → Type 0
Into q p h n a k = (i : ℕ) → a ≤ i → i < a + k → q i ≡ true → (h i < n) × (p (h i) ≡ true)

unfoldable pub OneToOne : (q : ℕ → Bool) (h : ℕ → ℕ) (a k : ℕ) → Type 0
OneToOne q h a k = (i j : ℕ) → a ≤ i → i < a + k → a ≤ j → j < a + k → q i ≡ true → q j ≡ true → h i ≡ h j → i ≡ j

pub tally-into : (q p : ℕ → Bool) (h : ℕ → ℕ) (n a k : ℕ) → Into q p h n a k → OneToOne q h a k → tally q a k ≤ tally p 0 n
unfolding tally Into OneToOne
tally-into q p h n a zero into one = zero-le
tally-into q p h n a (suc k) into one = go (λ r f g. tally-into q r h n (suc a) k f g) (q a) refl
  where
    bit : Bool → ℕ
    bit c = cond c 1 0

    one' : OneToOne q h (suc a) k
    one' i j l m l' m' t t' r = one i j (omega arith) (omega arith) (omega arith) (omega arith) t t' r

    go : ((r : ℕ → Bool) → Into q r h n (suc a) k → OneToOne q h (suc a) k → tally q (suc a) k ≤ tally r 0 n)
        → (b : Bool) → q a ≡ b → bit (q a) + tally q (suc a) k ≤ tally p 0 n
    go rest false e = omega (arith, ap bit e, rest p (λ i l m t. into i (omega arith) (omega arith) t) one')
    go rest true e =
        let s = into a (omega arith) (omega arith) e in
        let away : Into q (without p (h a)) h n (suc a) k =
        λ i l m t. let u = into i (omega arith) (omega arith) t in (
          u.0,
          without_other p (h a) (h i) (λ r. let v : i ≡ a = one i a (omega arith) (omega arith) (omega arith) (omega arith) t e r in omega arith) ∙ u.1,
        ) in
        omega (arith, ap bit e, tally-without p (h a) s.1 0 n zero-le (omega (arith, s.0)), rest (without p (h a)) away one')

-- ---- components
unfoldable pub fills : Forest → ℕ → Bool
fills f i = not (eqb (count i f.roots) 0)

filled-tally : (g : ℕ → ℕ) (a n : ℕ) → filled (map g (up_from a n)) ≡ tally (λ i. not (eqb (g i) 0)) a n
unfolding filled up_from tally
filled-tally g a zero = refl
filled-tally g a (suc n) = ap (λ (m : ℕ). cond (not (eqb (g a) 0)) 1 0 + m) (filled-tally g (suc a) n)

pub components-tally : (n : ℕ) (f : Forest) → components n f ≡ tally (fills f) 0 n
unfolding components fills
components-tally n f = filled-tally (λ (i : ℕ). count i f.roots) 0 n

-- ---- the sizes sum to the number of sites
row : (ℕ → ℕ) → ℕ → ℕ → ℕ
row g a n = total (map g (up_from a n))

row_zero : (a n : ℕ) → row (λ _. 0) a n ≡ 0
unfolding row total up_from
row_zero a zero = refl
row_zero a (suc n) = omega (arith, row_zero (suc a) n)

row-add : (g h : ℕ → ℕ) (a n : ℕ) → row (λ i. g i + h i) a n ≡ row g a n + row h a n
unfolding row total up_from
row-add g h a zero = refl
row-add g h a (suc n) = omega (arith, row-add g h (suc a) n)

abbrev at : ℕ → ℕ → ℕ
at r i = cond (eqb r i) 1 0

row-past : (r a n : ℕ) → r < a → row (at r) a n ≡ 0
unfolding row total up_from
row-past r a zero h = refl
row-past r a (suc n) h = omega (arith, none-if r a (omega arith), row-past r (suc a) n (omega arith))

row_one : (r a n : ℕ) → a ≤ r → r < a + n → row (at r) a n ≡ 1
unfolding row total up_from
row_one r a zero l h = absurd (omega arith)
row_one r a (suc n) l h = go (ℕ_discrete r a) (λ l'. row_one r (suc a) n l' (omega arith))
  where
    go : Dec (r ≡ a) → (a < r → total (map (at r) (up_from (suc a) n)) ≡ 1) → at r a + total (map (at r) (up_from (suc a) n)) ≡ 1
    go (yes k) rest = omega (arith, one-if r a k, row-past r (suc a) n (omega arith))
    go (no f) rest = omega (arith, none-if r a f, rest (omega arith))

counts-sum : (n : ℕ) (rs : List ℕ) → ((i : ℕ) → i < length rs → get_or rs i 0 < n) → row (λ i. count i rs) 0 n ≡ length rs
unfolding count
counts-sum n [] f = row_zero 0 n
counts-sum n (r ∷ rs) f =
    let h : r < n = f 0 (omega arith) in
    row-add (at r) (λ i. count i rs) 0 n
    ∙ omega (arith, row_one r 0 n zero-le (omega arith), counts-sum n rs (λ i h. f (suc i) (omega arith)))

pub sizes-sum : (n : ℕ) (f : Forest) → length f.roots ≡ n → ((i : ℕ) → i < n → get_or f.roots i 0 < n) → total (sizes n f) ≡ n
unfolding sizes row
sizes-sum n f k h = counts-sum n f.roots (λ i l. h i (omega arith)) ∙ k
