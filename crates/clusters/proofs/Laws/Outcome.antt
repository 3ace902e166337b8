-- The promise of `fk_update` admits one outcome, to the case of the refusal; and a refused call leaves everything as it was.
use Rattle.std.specs.Prelude.{◌≡◌, refl, List, ℤ, Ok, Err}
use Rattle.std.proofs.Common.{ap, ◌∙◌}
use Rattle.domain.specs.declared.Refusal.{Refusal}
use Rattle.domain.specs.Refusals.{Reply, done, refused}
use Rattle.domain.proofs.Laws.{refusal_at, case_at}
use Rattle.domain.specs.Promise as promise
use Rattle.domain.specs.Promise.{Promised, one_answer}
use Rattle.clusters.specs.Call.{Call, Lent, judge}
use Rattle.clusters.specs.declared.Seen.{Seen}
use Rattle.clusters.specs.Update.{Answer, reply_of, Outcome, left, settled, outcome}

abbrev answer_in : Reply Seen → Answer
answer_in (done s) = Ok s
answer_in (refused n p) = Err (refusal_at n p)

answer_back : (r : Answer) → answer_in (reply_of r) ≡ r
answer_back (Ok s) = refl
answer_back (Err r) = ap Err (case_at r)

pub one-outcome : (c : Call) (l : Lent) (r r' : Answer) {ss ss' : List ℤ} {m m' : Lent}
    → Promised (outcome c) l (left r ss m) → Promised (outcome c) l (left r' ss' m') → (r ≡ r') × (ss ≡ ss') × (m ≡ m')
one-outcome c l r r' p q =
    let e = promise.one-outcome (outcome c) l p q in
    (one_answer reply_of answer_in answer_back r r' (ap (λ (o : Outcome). o.reply) e), ap (λ (o : Outcome). o.spins) e, ap (λ (o : Outcome). o.lent) e)

pub refused-unchanged : (c : Call) (l : Lent) (r : Refusal) {o : Outcome} → Promised (outcome c) l o → judge c l ≡ Err r → o ≡ left (Err r) c.spins l
unfolding outcome settled
refused-unchanged c l r p e = p ∙ ap (settled c l) e
