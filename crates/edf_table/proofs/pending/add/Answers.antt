use Rattle.std.proofs.Common.{◌≡◌, ℕ, ◌+◌, ◌-◌, ◌<◌, ◌≤◌, get_or, set, subst, sym, ◌∙◌, inl, inr, arith, length-set, get_or-set_same, get_or-set_other}
use Rattle.std.proofs.lemmas.Bool.{cases_eq}
use Rattle.edf_table.specs.declared.pending.Pending.{Pending}
use Rattle.edf_table.specs.Inside.Progress.{job_at}
use Rattle.edf_table.proofs.pending.add.Goals as goal
use Rattle.edf_table.proofs.pending.add.Goals.{then-loop-place-test+else-jobs-place, else-loop-place-test}

-- what is read beyond the jobs
abbrev none : Pending
none = record { key = 0; left = 0 }

pub loop-place-preserved : goal.loop-place-preserved
loop-place-preserved c =
    let jobs = c.loop-place.jobs in
    let place = c.loop-place.place in
    let moved = get_or jobs (place - 1) none in
    let last : (j : ℕ) → place - 1 ≤ j → (j < place → j ≡ place - 1) = λ j le lt. omega arith in
    let same : job_at jobs (place - 1) ≡ job_at c.args.jobs.now (place - 1) =
    c.loop-place.invariant.before (place - 1) (omega (arith, c.loop-place-test.true)) in
    record {
      within = omega (arith, c.loop-place.invariant.within);
      a_place_each = length-set jobs place moved ∙ c.loop-place.invariant.a_place_each;
      before = λ j lt. get_or-set_other jobs place j moved none (omega arith)
          ∙ c.loop-place.invariant.before j (omega arith);
      behind = λ j le lt. elim (cases_eq j (place - 1)) [
        | inl at ↦
            (let back : place - 1 + 1 ≡ place = omega (arith, c.loop-place-test.true) in
            subst (λ m. job_at (set jobs place moved) (m + 1) ≡ job_at c.args.jobs.now m) (sym at)
            (subst (λ m. job_at (set jobs place moved) m ≡ job_at c.args.jobs.now (place - 1)) (sym back)
            (get_or-set_same jobs place moved none
            (omega (arith, c.loop-place.invariant.a_place_each, c.loop-place.invariant.within, c.requires))
            ∙ same)))
        | inr ne ↦ get_or-set_other jobs place (j + 1) moved none (omega arith)
            ∙ c.loop-place.invariant.behind j (omega arith) lt
      ];
      below = λ j le lt. elim (cases_eq j (place - 1)) [
        | inl at ↦ subst (λ m. (job_at c.args.jobs.now m).key < c.args.job.key) (sym at)
            (subst (λ (x : Pending). x.key < c.args.job.key) same c.if-jobs-place.true)
        | inr ne ↦ c.loop-place.invariant.below j (omega arith) lt
      ];
    }

pub returns-clause-added : goal.returns-clause-added
returns-clause-added c =
    let jobs = c.loop-place.jobs in
    let place = c.loop-place.place in
    record {
      at = place;
      within = c.loop-place.invariant.within;
      here = get_or-set_same jobs place c.args.job none
          (omega (arith, c.loop-place.invariant.a_place_each, c.loop-place.invariant.within, c.requires));
      before = λ j lt. get_or-set_other jobs place j c.args.job none (omega arith)
          ∙ c.loop-place.invariant.before j lt;
      behind = λ j le lt. get_or-set_other jobs place (j + 1) c.args.job none (omega arith)
          ∙ c.loop-place.invariant.behind j le lt;
      above = λ some. elim c.loop-place-test.branch [
        | then-loop-place-test+else-jobs-place w ↦
            subst (λ (x : Pending). c.args.job.key ≤ x.key)
            (c.loop-place.invariant.before (place - 1) (omega arith)) w.if-jobs-place.false
        | else-loop-place-test w ↦ absurd (omega (arith, w.loop-place-test.false))
      ];
      below = c.loop-place.invariant.below;
    }
