-- How a call is promised: everything that it leaves, its answer and each lent buffer, in one record, is a definition's value at everything that it
-- was given. So any two outcomes that a promise admits are equal: said once, here, for every entry point.
use Rattle.std.specs.Prelude.{◌≡◌}
use Rattle.std.proofs.Common.{sym, ap, ◌∙◌}

abbrev pub Promised {ℓ κ} : {Given : Type ℓ} {Left : Type κ} → (Given → Left) → Given → Left → Type κ
Promised outcome given left = left ≡ outcome given

pub one-outcome {ℓ κ} : {Given : Type ℓ} {Left : Type κ} (outcome : Given → Left) (given : Given) {this that : Left}
    → Promised outcome given this → Promised outcome given that → this ≡ that
one-outcome outcome given p q = p ∙ sym q

-- an answer that can be read back off its reply is the only one with that reply
pub one_answer {ℓ κ} : {Answer : Type ℓ} {Told : Type κ} (told : Answer → Told) (back : Told → Answer) → ((a : Answer) → back (told a) ≡ a) → (a b : Answer)
    → told a ≡ told b → a ≡ b
one_answer told back reads a b e = sym (reads a) ∙ ap back e ∙ reads b
