-- What an accepted call has passed; and that a number and a place tell the refusal.
use Rattle.std.specs.Prelude.{◌≡◌, refl, Bool, true, false, cond, eqb, List, [], ◌∷◌, ℕ, zero, suc, ◌<◌, length, get_or, Ok, Err}
use Rattle.std.proofs.Common.{ap, not-suc-le-zero, le_of_suc-le-suc, arith}
use Rattle.std.proofs.Math.Bool.{and-eq-true_iff}
use Rattle.domain.specs.declared.Refusal.{Refusal}
use Rattle.domain.specs.declared.Refusal.TheVariants.{Shape, Length, Generator, Classes, Spin, Coupling, Histogram, Row, UnitCoupling, Malformed, Oversize}
use Rattle.domain.specs.Promise.{one_answer}
use Rattle.domain.specs.Refusals.{Verdict, Passed, Held, number_of, place_of, Reply, done, refused, reply_of, need, every, need_each, checks}

pub unlike : (r : Refusal) → ◌≡◌ {A = Verdict} (Err r) (Ok tt) → ⊥
unlike r e = let z : ◌≡◌ {A = ℕ} 0 1 = cc in omega arith

-- where the verdict is to accept, each check passed
pub passed : (vs : List Verdict) → checks vs ≡ Ok tt → Passed vs
unfolding checks
passed [] e = tt
passed (Ok tt ∷ vs) e = (refl, passed vs e)
passed (Err r ∷ vs) e = absurd (unlike r e)

-- and where every test holds, each does
pub held : (bs : List Bool) → every bs ≡ true → Held bs
unfolding every
held [] e = tt
held (b ∷ bs) e = let p = (and-eq-true_iff b (every bs)).0 e in (p.0, held bs p.1)

pub needed : (ok : Bool) (r : Refusal) → need ok r ≡ Ok tt → ok ≡ true
needed true r e = refl
needed false r e = absurd (unlike r e)

pub needed-each : {A : Type 0} (ok : A → Bool) (at : ℕ → Refusal) (k : ℕ) (xs : List A) (d : A)
    → need_each ok at k xs ≡ Ok tt → (i : ℕ) → i < length xs → ok (get_or xs i d) ≡ true
unfolding need_each
needed-each ok at k [] d e i h = absurd (not-suc-le-zero h)
needed-each ok at k (x ∷ xs) d e i h = go (ok x) refl e (λ e' j l. needed-each ok at (suc k) xs d e' j l) i h
  where
    go : (b : Bool) → ok x ≡ b → need_each ok at k (x ∷ xs) ≡ Ok tt
        → (need_each ok at (suc k) xs ≡ Ok tt → (j : ℕ) → j < length xs → ok (get_or xs j d) ≡ true)
        → (i : ℕ) → i < suc (length xs) → ok (get_or (x ∷ xs) i d) ≡ true
    go true t e rest zero h = t
    go true t e rest (suc j) h = rest (rw t at e) j (le_of_suc-le-suc h)
    go false t e rest i h = absurd (unlike (at k) (rw t at e))

-- the refusal of a number and a place
abbrev pub refusal_at : ℕ → ℕ → Refusal
refusal_at n p =
    cond (eqb n 1) Shape (cond (eqb n 2) Length (cond (eqb n 3) Generator (cond (eqb n 4) Classes (cond (eqb n 5) (Spin p)
    (cond (eqb n 6) (Coupling p) (cond (eqb n 7) (Histogram p) (cond (eqb n 8) Row (cond (eqb n 9) (UnitCoupling p) (cond (eqb n 10) Malformed Oversize)))))))))

pub case_at : (r : Refusal) → refusal_at (number_of r) (place_of r) ≡ r
case_at Shape = refl
case_at Length = refl
case_at Generator = refl
case_at Classes = refl
case_at (Spin i) = refl
case_at (Coupling b) = refl
case_at (Histogram s) = refl
case_at Row = refl
case_at (UnitCoupling b) = refl
case_at Malformed = refl
case_at Oversize = refl

abbrev verdict_in : Reply Unit → Verdict
verdict_in (done t) = Ok tt
verdict_in (refused n p) = Err (refusal_at n p)

verdict-back : (v : Verdict) → verdict_in (reply_of v) ≡ v
verdict-back (Ok tt) = refl
verdict-back (Err r) = ap Err (case_at r)

pub one-verdict : (v w : Verdict) → reply_of v ≡ reply_of w → v ≡ w
one-verdict = one_answer reply_of verdict_in verdict-back
