-- The four largest: one more put in, and what stands from a place on, taken from the end.
use Rattle.std.specs.Prelude.{ℕ, suc, ◌-◌, ◌<◌, ◌≤◌, ltb, length, get_or, drop, Bool, true, false, cond, List, [], ◌∷◌, ◌≡◌, refl, reverse, ◌++◌}
use Rattle.std.proofs.Common.{zero-le, le-ltb, drop_of_length-le, drop-cons, ap, ◌∙◌, sym, arith}
use Rattle.std.proofs.lemmas.List.{reverse-reverse, reverse-append}
use Rattle.clusters.specs.Inside.Placed.{Placed}
use Rattle.clusters.specs.Sizes.{insert, four_of, descending}
use Rattle.clusters.specs.declared.Top.{Top}

abbrev top : ℕ → ℕ → ℕ → ℕ → Top
top a b c d = record { first = a; second = b; third = c; fourth = d }

abbrev pub placed : ℕ → Top → Top
placed x t =
    cond (ltb x t.first)
    (cond (ltb x t.second)
    (cond (ltb x t.third)
    (cond (ltb x t.fourth) t (top t.first t.second t.third x))
    (top t.first t.second x t.third))
    (top t.first x t.second t.third))
    (top x t.first t.second t.third)

no_less : (x : ℕ) → ltb x 0 ≡ false
no_less x = le-ltb x 0 zero-le

pub insert-four : (x : ℕ) (l : List ℕ) → placed x (four_of l) ≡ four_of (insert x l)
unfolding insert
insert-four x [] = rw (no_less x)
insert-four x (a ∷ []) = rw (no_less x) (go (ltb x a))
  where
    go : (p : Bool) → cond p (top a x 0 0) (top x a 0 0) ≡ four_of (cond p (a ∷ x ∷ []) (x ∷ a ∷ []))
    go true = refl
    go false = refl
insert-four x (a ∷ b ∷ []) = rw (no_less x) (go (ltb x a) (ltb x b))
  where
    go : (p q : Bool) → cond p (cond q (top a b x 0) (top a x b 0)) (top x a b 0)
        ≡ four_of (cond p (a ∷ cond q (b ∷ x ∷ []) (x ∷ b ∷ [])) (x ∷ a ∷ b ∷ []))
    go true true = refl
    go true false = refl
    go false q = refl
insert-four x (a ∷ b ∷ c ∷ []) = rw (no_less x) (go (ltb x a) (ltb x b) (ltb x c))
  where
    go : (p q r : Bool) → cond p (cond q (cond r (top a b c x) (top a b x c)) (top a x b c)) (top x a b c)
        ≡ four_of (cond p (a ∷ cond q (b ∷ cond r (c ∷ x ∷ []) (x ∷ c ∷ [])) (x ∷ b ∷ c ∷ [])) (x ∷ a ∷ b ∷ c ∷ []))
    go true true true = refl
    go true true false = refl
    go true false r = refl
    go false q r = refl
insert-four x (a ∷ b ∷ c ∷ d ∷ es) = go (ltb x a) (ltb x b) (ltb x c) (ltb x d) (insert x es)
  where
    go : (p q r s : Bool) (fs : List ℕ) → cond p (cond q (cond r (cond s (top a b c d) (top a b c x)) (top a b x c)) (top a x b c)) (top x a b c)
        ≡ four_of (cond p (a ∷ cond q (b ∷ cond r (c ∷ cond s (d ∷ fs) (x ∷ d ∷ es)) (x ∷ c ∷ d ∷ es)) (x ∷ b ∷ c ∷ d ∷ es)) (x ∷ a ∷ b ∷ c ∷ d ∷ es))
    go true true true true fs = refl
    go true true true false fs = refl
    go true true false s fs = refl
    go true false r s fs = refl
    go false q r s fs = refl

pub placing : (t : Top) (x : ℕ) (r : Top) → r ≡ placed x t → Placed t x r
placing t x r e l k = e ∙ ap (placed x) k ∙ insert-four x l

-- the four of the counts that were met, from the last one back
abbrev pub top_of : List ℕ → Top
top_of met = four_of (descending (reverse met))

pub topped : (met : List ℕ) (x : ℕ) (t r : Top) → t ≡ top_of met → Placed t x r → r ≡ top_of (met ++ x ∷ [])
unfolding descending
topped met x t r e p = rw (reverse-append met (x ∷ [])) (p (descending (reverse met)) e)

-- none yet
pub top-none : (t : Top) → t.first ≡ 0 → t.second ≡ 0 → t.third ≡ 0 → t.fourth ≡ 0 → t ≡ top_of []
unfolding descending
top-none t a b c d i = record { first = a i; second = b i; third = c i; fourth = d i }

-- all of them
pub top-all : (counts : List ℕ) → top_of (reverse counts) ≡ four_of (descending counts)
top-all counts = rw (reverse-reverse counts) refl

-- ---- the same by the place, from the end
abbrev pub top_from : List ℕ → ℕ → Top
top_from counts i = four_of (descending (drop i counts))

pub topped-none : (counts : List ℕ) → record { first = 0; second = 0; third = 0; fourth = 0 } ≡ top_from counts (length counts)
unfolding descending
topped-none counts = rw (drop_of_length-le counts {i = length counts} (omega arith))

pub topped-on : (counts : List ℕ) (i : ℕ) {t : Top} (x : ℕ) (r : Top) → 0 < i → i ≤ length counts → t ≡ top_from counts i → x ≡ get_or counts (i - 1) 0 → Placed t x r
    → r ≡ top_from counts (i - 1)
unfolding descending
topped-on counts i x r lt le e k p =
    p (descending (drop i counts)) e
    ∙ ap (λ (v : ℕ). four_of (insert v (descending (drop i counts)))) k
    ∙ ap (λ (n : ℕ). four_of (insert (get_or counts (i - 1) 0) (descending (drop n counts)))) (let q : i ≡ suc (i - 1) = omega arith in q)
    ∙ ap (λ (l : List ℕ). four_of (descending l)) (sym (drop-cons counts (i - 1) 0 (omega arith)))
