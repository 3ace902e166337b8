-- Document 01, "Refusal numbers, in order of checking": the number and the place of each refusal, and how the checks of a call give one verdict.
use Rattle.std.specs.Prelude.{◌≡◌, ℕ, suc, Bool, true, cond, ◌&&◌, List, [], ◌∷◌, ◌++◌, codes, decimal, Result, Ok, Err}
use Rattle.domain.specs.declared.Refusal.{Refusal}
use Rattle.domain.specs.declared.Refusal.TheVariants.{Shape, Length, Generator, Classes, Spin, Coupling, Histogram, Row, UnitCoupling, Malformed, Oversize}

abbrev pub number_of : Refusal → ℕ
number_of Shape = 1
number_of Length = 2
number_of Generator = 3
number_of Classes = 4
number_of (Spin i) = 5
number_of (Coupling b) = 6
number_of (Histogram s) = 7
number_of Row = 8
number_of (UnitCoupling b) = 9
number_of Malformed = 10
number_of Oversize = 11

abbrev pub place_of : Refusal → ℕ
place_of Shape = 0
place_of Length = 0
place_of Generator = 0
place_of Classes = 0
place_of (Spin i) = i
place_of (Coupling b) = b
place_of (Histogram s) = s
place_of Row = 0
place_of (UnitCoupling b) = b
place_of Malformed = 0
place_of Oversize = 0

-- what a refusal is shown as: its number, and its place
abbrev pub text_of : Refusal → List ℕ
text_of r = codes "refused " ++ decimal (number_of r) ++ codes " " ++ decimal (place_of r)

-- what the checks of a call come to
abbrev pub Verdict : Type 0
Verdict = Result Unit Refusal

-- what a call answers: what it has done, or the number of its refusal with the place
pub data Reply (A : Type 0) : Type 0 where
  done : A → Reply A
  refused : (number place : ℕ) → Reply A

abbrev pub refused_as : {A : Type 0} → Refusal → Reply A
refused_as r = refused (number_of r) (place_of r)

-- the reply of a call that answers with its verdict alone
abbrev pub reply_of : Verdict → Reply Unit
reply_of (Ok tt) = done tt
reply_of (Err r) = refused_as r

-- refused as r unless the test holds
abbrev pub need : Bool → Refusal → Verdict
need ok r = cond ok (Ok tt) (Err r)

-- every test of a list holds
unfoldable pub every : List Bool → Bool
every [] = true
every (b ∷ bs) = b && every bs

-- the first entry from place k on that fails the test, refused with its place
unfoldable pub need_each {ℓ} : {A : Type ℓ} → (A → Bool) → (ℕ → Refusal) → ℕ → List A → Verdict
need_each ok at k [] = Ok tt
need_each ok at k (x ∷ xs) = cond (ok x) (need_each ok at (suc k) xs) (Err (at k))

-- checks made in order: the first refusal is the verdict
unfoldable pub checks : List Verdict → Verdict
checks [] = Ok tt
checks (Ok tt ∷ vs) = checks vs
checks (Err r ∷ vs) = Err r

-- each check of a list passes
abbrev pub Passed : List Verdict → Type 0
Passed [] = Unit
Passed (v ∷ vs) = (v ≡ Ok tt) × Passed vs

-- each test of a list holds
abbrev pub Held : List Bool → Type 0
Held [] = Unit
Held (b ∷ bs) = (b ≡ true) × Held bs
