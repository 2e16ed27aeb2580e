use Rattle.std.proofs.Common.{◌≡◌, ℕ, ◌-◌, ◌<◌, ◌≤◌, length, Some, sym, subst, ◌∙◌, arith}
use Rattle.std.specs.Prelude.{slice_get, slice_index_or}
use Rattle.std.proofs.lemmas.Option.{slice_get-get_or}
use Rattle.table_form.specs.Running.Courses.{plan_after}
use Rattle.table_form.specs.Tables.Plans.{PlanView}
use Rattle.run_counts.specs.declared.stretch.Stretch.{Stretch}
use Rattle.run_counts.specs.Inside.Repeats.{repeated}
use Rattle.run_counts.specs.Inside.Tells.{IsToldRound}
use Rattle.run_counts.specs.Stretches.{stretch_at}
use Rattle.run_counts.proofs.RepeatLemmas.{round_sound}
use Rattle.run_counts.proofs.ReportLemmas.{reported}
use Rattle.run_counts.proofs.RunLemmas.{IsToldRun, ends_round, ends_run, told_alike, told_both, told_none, told_repeated}
use Rattle.run_counts.proofs.counting.count_waits.Goals as goal

pub counting-init : goal.counting-init
counting-init c = record {
  round_size = c.requires.round;
  run_size = c.clear.ensures.size ∙ c.requires.run;
  within = omega arith;
  told = λ v lt. subst (IsToldRun c.args.course.now c.args.used.now v 0 0) (sym (c.clear.ensures.none v))
      (told_none c.args.course.now c.args.used.now v 0);
}

pub plan_after-requires : goal.plan_after-requires
plan_after-requires c = c.requires.counts c.counting.r (slice_index_or c.args.used.now c.counting.r 0)
    (slice_get-get_or c.args.used.now c.counting.r 0 c.counting-test.true)

pub append-requires-clause-sound : goal.append-requires-clause-sound
append-requires-clause-sound c = λ v lt.
    round_sound _ v (stretch_at c.describe.new.stretches v)
    (c.describe.ensures.told v (omega (arith, lt, c.counting.invariant.run_size)))

pub append-requires-clause-round : goal.append-requires-clause-round
append-requires-clause-round c = λ v lt.
    ends_round _ v (stretch_at c.describe.new.stretches v)
    (c.describe.ensures.told v (omega (arith, lt, c.counting.invariant.run_size)))

pub append-requires-clause-fits : goal.append-requires-clause-fits
append-requires-clause-fits c = λ v lt.
    let end = c.plan_lasts_to-end.ensures.within in
    ends_run c.args.course.now c.args.used.now v c.counting.r _ (stretch_at c.counting.run v)
    (c.counting.invariant.told v (omega (arith, lt, c.counting.invariant.run_size)))
    (omega (arith, end, c.requires.few, c.plan_lasts_to-end.ensures.after))

pub counting-preserved : goal.counting-preserved
counting-preserved c =
    let r = c.counting.r in
    let end = c.plan_lasts_to-end.result in
    let course = c.args.course.now in
    let used = c.args.used.now in
    let count : ℕ = slice_index_or used r 0 in
    let at : slice_get used r ≡ Some count = slice_get-get_or used r 0 c.counting-test.true in
    let low : r < end = c.plan_lasts_to-end.ensures.after in
    let high : end ≤ length used = c.plan_lasts_to-end.ensures.within in
    record {
      round_size = c.describe.ensures.size;
      run_size = c.append.ensures.size ∙ c.counting.invariant.run_size;
      within = high;
      told = λ v lt.
          let round : Stretch = stretch_at c.describe.new.stretches v in
          let told : IsToldRound (plan_after course count) v round =
          subst (λ (plan : PlanView). IsToldRound plan v round) c.plan_after.ensures.plan
          (c.describe.ensures.told v lt) in
          let rounds = told_repeated course used v r (end - r) end round (omega (arith, low)) (λ q from to.
          let other : ℕ = slice_index_or used q 0 in
          let at_q : slice_get used q ≡ Some other = slice_get-get_or used q 0 (omega (arith, to, high)) in
          told_alike course used v r q count other round at at_q
          (c.plan_lasts_to-end.ensures.same q from to) told) in
          let is = c.append.ensures.joined v (omega (arith, lt, c.counting.invariant.run_size)) in
          subst (IsToldRun course used v 0 end) (sym is)
          (told_both course used v 0 r end (stretch_at c.counting.run v) (repeated round (end - r))
          (c.counting.invariant.told v lt) rounds);
    }

pub returns-clause-reported : goal.returns-clause-reported
returns-clause-reported c = λ v lt.
    let told = c.counting.invariant.told v lt in
    reported c.args.course.now c.args.used.now v (stretch_at c.counting.run v) told.tells
    (omega (arith, told.whole, c.counting-test.false, c.counting.invariant.within))
