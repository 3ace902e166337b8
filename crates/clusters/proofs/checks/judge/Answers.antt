-- `checks::judge` meets its contract: by which check fails first, and what is read where all pass.
use Rattle.std.proofs.Common.{ℕ, List, Float, not, ◌*◌, ◌≡◌, ◌∙◌, ap, ap₂, sym, arith, true, length, Ok}
use Rattle.std.proofs.lemmas.Result.{err_from_is_err_and}
use Rattle.domain.specs.declared.Refusal.TheVariants.{Coupling}
use Rattle.domain.specs.Refusals.{need_each, checks}
use Rattle.lattice.specs.Lattice.{sites, in_domain}
use Rattle.lattice.proofs.Laws.Shape.{Made, made, sites-le, axes-le}
use Rattle.bonds.specs.Classes.{bad_coupling}
use Rattle.clusters.specs.Inside.Asked.{lens_ok, all_asked}
use Rattle.clusters.proofs.Laws.Asked.{Lengths, bad-shape, bad-length, bad-generator, bad-classes, bad-spins, bad-couplings, by_histogram, lengths, spins-ok, few-bonds}
use Rattle.clusters.proofs.checks.judge.Goals as goal
use Rattle.clusters.proofs.checks.judge.Goals.{After-are_for, After-first_bad, After-judge_each-2}

-- what each test has shown
shaped : (c : After-are_for) → Made c.args.job.extents.now c.in_ok-lattice.lattice.shape
shaped c = let m = c.in_ok-lattice.ensures.made in made _ m.1 m.0

lens-is : (c : After-are_for) → c.are_for.result ≡ lens_ok (sites c.args.job.extents.now) (sites c.args.job.extents.now * length c.args.job.extents.now) c.args.lens
lens-is c =
    let m = shaped c in
    c.are_for.ensures ∙ ap₂ (λ (n k : ℕ). lens_ok n (n * k) c.args.lens) m.sites-are m.axes-are

fitting : (c : After-are_for) → c.are_for.result ≡ true → Lengths (sites c.args.job.extents.now) (sites c.args.job.extents.now * length c.args.job.extents.now) c.args.lens
fitting c t = lengths _ _ c.args.lens (sym (lens-is c) ∙ t)

bonds-are : (c : After-first_bad) → c.first_bad.result ≡ need_each (λ j. not (bad_coupling c.args.job.weights.now c.args.job.thresholds.now j)) Coupling 0 c.args.job.couplings.now
bonds-are c =
    let k = c.in_ok-classes.ensures.accepted in
    c.first_bad.ensures ∙ ap₂ (λ (ws : List Float) (ts : List ℕ). need_each (λ j. not (bad_coupling ws ts j)) Coupling 0 c.args.job.couplings.now) k.1 k.2

-- the last check decides
last-is : (c : After-judge_each-2) → lens_ok (sites c.args.job.extents.now) (sites c.args.job.extents.now * length c.args.job.extents.now) c.args.lens ≡ true
    → need_each (λ j. not (bad_coupling c.args.job.weights.now c.args.job.thresholds.now j)) Coupling 0 c.args.job.couplings.now ≡ Ok tt
    → c.judge_each-2.result ≡ checks (all_asked c.args.job.extents.now c.args.spins.now c.args.job.couplings.now c.args.job.weights.now c.args.job.thresholds.now c.args.job.generator c.args.histogram.now c.args.lens)
last-is c l b =
    let a = c.args in
    c.judge_each-2.ensures
    ∙ by_histogram a.job.extents.now a.spins.now a.job.couplings.now a.job.weights.now a.job.thresholds.now a.job.generator a.histogram.now a.lens
    c.in_ok-lattice.ensures.made.1 l (sym c.is_dead.ensures ∙ c.if-is_dead.false) c.in_ok-classes.ensures.accepted.0 (sym c.judge_each.ensures ∙ c.in_ok-judge_each.was) b

pub returns-in_err-lattice-clause-verdict : goal.returns-in_err-lattice-clause-verdict
returns-in_err-lattice-clause-verdict c =
    let p = err_from_is_err_and c.from_residual.result c.from_residual.ensures.1 in
    let e = c.in_err-lattice.ensures.refused in
    let a = c.args in
    rw (p.1, p.2, e.0) (bad-shape a.job.extents.now a.spins.now a.job.couplings.now a.job.weights.now a.job.thresholds.now a.job.generator a.histogram.now a.lens e.1)

pub overflow_mul-sites : goal.overflow_mul-sites
overflow_mul-sites c =
    let l = c.in_ok-lattice.lattice in
    omega (arith, few-bonds (sites-le _ l.good) (axes-le _ l.good))

pub are_for-requires : goal.are_for-requires
are_for-requires c = sites-le _ c.in_ok-lattice.lattice.good

pub returns-then-not-are_for-clause-verdict : goal.returns-then-not-are_for-clause-verdict
returns-then-not-are_for-clause-verdict c =
    let a = c.args in
    let s = (goal.at.returns-then-not-are_for-clause-verdict c).After-are_for in
    bad-length a.job.extents.now a.spins.now a.job.couplings.now a.job.weights.now a.job.thresholds.now a.job.generator a.histogram.now a.lens
    c.in_ok-lattice.ensures.made.1 (sym (lens-is s) ∙ c.if-not-are_for.true)

pub returns-then-is_dead-clause-verdict : goal.returns-then-is_dead-clause-verdict
returns-then-is_dead-clause-verdict c =
    let a = c.args in
    let s = (goal.at.returns-then-is_dead-clause-verdict c).After-are_for in
    bad-generator a.job.extents.now a.spins.now a.job.couplings.now a.job.weights.now a.job.thresholds.now a.job.generator a.histogram.now a.lens
    c.in_ok-lattice.ensures.made.1 (sym (lens-is s) ∙ c.if-not-are_for.false) (sym c.is_dead.ensures ∙ c.if-is_dead.true)

pub returns-in_err-classes-clause-verdict : goal.returns-in_err-classes-clause-verdict
returns-in_err-classes-clause-verdict c =
    let p = err_from_is_err_and c.from_residual-in_err-classes.result c.from_residual-in_err-classes.ensures.1 in
    let e = c.in_err-classes.ensures.refused in
    let a = c.args in
    let s = (goal.at.returns-in_err-classes-clause-verdict c).After-are_for in
    rw (p.1, p.2, e.1)
    (bad-classes a.job.extents.now a.spins.now a.job.couplings.now a.job.weights.now a.job.thresholds.now a.job.generator a.histogram.now a.lens
    c.in_ok-lattice.ensures.made.1 (sym (lens-is s) ∙ c.if-not-are_for.false) (sym c.is_dead.ensures ∙ c.if-is_dead.false) e.0)

pub returns-in_err-judge_each-clause-verdict : goal.returns-in_err-judge_each-clause-verdict
returns-in_err-judge_each-clause-verdict c =
    let p = err_from_is_err_and c.from_residual-in_err-judge_each.result c.from_residual-in_err-judge_each.ensures.1 in
    let a = c.args in
    let s = (goal.at.returns-in_err-judge_each-clause-verdict c).After-are_for in
    rw (p.1, p.2)
    (bad-spins a.job.extents.now a.spins.now a.job.couplings.now a.job.weights.now a.job.thresholds.now a.job.generator a.histogram.now a.lens
    c.in_ok-lattice.ensures.made.1 (sym (lens-is s) ∙ c.if-not-are_for.false) (sym c.is_dead.ensures ∙ c.if-is_dead.false)
    c.in_ok-classes.ensures.accepted.0 (sym c.judge_each.ensures ∙ c.in_err-judge_each.was))

pub first_bad-requires : goal.first_bad-requires
first_bad-requires c =
    let s = (goal.at.first_bad-requires c).After-are_for in
    sym c.requires.1 ∙ (fitting s c.if-not-are_for.false).couplings ∙ sym (ap₂ ◌*◌ (shaped s).sites-are (shaped s).axes-are)

pub returns-in_err-first_bad-clause-verdict : goal.returns-in_err-first_bad-clause-verdict
returns-in_err-first_bad-clause-verdict c =
    let p = err_from_is_err_and c.from_residual-in_err-first_bad.result c.from_residual-in_err-first_bad.ensures.1 in
    let a = c.args in
    let s = (goal.at.returns-in_err-first_bad-clause-verdict c).After-are_for in
    let f = (goal.at.returns-in_err-first_bad-clause-verdict c).After-first_bad in
    rw (p.1, p.2)
    (bad-couplings a.job.extents.now a.spins.now a.job.couplings.now a.job.weights.now a.job.thresholds.now a.job.generator a.histogram.now a.lens
    c.in_ok-lattice.ensures.made.1 (sym (lens-is s) ∙ c.if-not-are_for.false) (sym c.is_dead.ensures ∙ c.if-is_dead.false)
    c.in_ok-classes.ensures.accepted.0 (sym c.judge_each.ensures ∙ c.in_ok-judge_each.was) (sym (bonds-are f) ∙ c.in_err-first_bad.was))

pub returns-in_err-judge_each-2-clause-verdict : goal.returns-in_err-judge_each-2-clause-verdict
returns-in_err-judge_each-2-clause-verdict c =
    let p = err_from_is_err_and c.from_residual-in_err-judge_each-2.result c.from_residual-in_err-judge_each-2.ensures.1 in
    let h = goal.at.returns-in_err-judge_each-2-clause-verdict c in
    rw (p.1, p.2) (sym c.in_err-judge_each-2.was ∙ last-is h.After-judge_each-2 (sym (lens-is h.After-are_for) ∙ c.if-not-are_for.false) (sym (bonds-are h.After-first_bad) ∙ c.in_ok-first_bad.was))

pub invariant_of-tile : goal.invariant_of-tile
invariant_of-tile c = record { spins_are = spins-ok 0 c.args.spins.now (sym c.judge_each.ensures ∙ c.in_ok-judge_each.was) }

pub invariant_of-result : goal.invariant_of-result
invariant_of-result c =
    let s = (goal.at.invariant_of-result c).After-are_for in
    let b = (shaped s).back in
    let l = fitting s c.if-not-are_for.false in
    record {
      fit = record {
        domain = ap in_domain b ∙ c.in_ok-lattice.ensures.made.1;
        spins = spins-ok 0 c.args.spins.now (sym c.judge_each.ensures ∙ c.in_ok-judge_each.was);
        spins-n = sym c.requires.0 ∙ l.spins ∙ ap sites (sym b);
        couplings-n = sym c.requires.1 ∙ l.couplings ∙ ap (λ (q : List ℕ). sites q * length q) (sym b);
        classes = c.in_ok-classes.classes.same_length;
      };
    }

pub returns-clause-verdict : goal.returns-clause-verdict
returns-clause-verdict c =
    let h = goal.at.returns-clause-verdict c in
    sym c.in_ok-judge_each-2.was ∙ last-is h.After-judge_each-2 (sym (lens-is h.After-are_for) ∙ c.if-not-are_for.false) (sym (bonds-are h.After-first_bad) ∙ c.in_ok-first_bad.was)
