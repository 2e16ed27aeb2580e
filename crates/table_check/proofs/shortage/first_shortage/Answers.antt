use Rattle.std.proofs.Common.{◌/◌, ◌≤◌, Some, ap, refl, subst, sym, ◌∙◌, inl, inr, arith}
use Rattle.std.proofs.lemmas.Bool.{cases_eq}
use Rattle.std.proofs.lemmas.Option.{slice_get_read}
use Rattle.tab_core.specs.declared.TheConstants.{ROUND}
use Rattle.table_check.specs.declared.counters.TheConstants.{MAX_PERIODS}
use Rattle.table_check.proofs.Periods.{few_periods}
use Rattle.table_check.proofs.Supplied.{IsServedBy, first_short_if_low, served_if_no_task, served_if_none_low, serves_if_all}
use Rattle.table_check.proofs.shortage.first_shortage.Goals.{in-Some+in_default-first_low, in_default}
use Rattle.table_check.proofs.shortage.first_shortage.Goals as goal

pub bounds-counters-vcpu : goal.bounds-counters-vcpu
bounds-counters-vcpu c =
    let few : ROUND / c.in-Some.task.period ≤ MAX_PERIODS = few_periods c.in-Some.task in
    omega (arith, c.requires.size, c.loop-vcpu-test.true, few, c.in-Some-first_low.ensures.0)

pub returns-in-Some-first_low : goal.returns-in-Some-first_low
returns-in-Some-first_low c = λ rows counted.
    let at = slice_get_read c.args.tasks.now _ c.loop-vcpu.vcpu c.index-tasks-vcpu.result refl
    c.loop-vcpu-test.true
    c.index-tasks-vcpu.is ∙ ap Some c.in-Some.is in
    first_short_if_low c.args.tasks.now rows c.args.counters.now c.loop-vcpu.vcpu
    c.in-Some-first_low.period_no _
    c.in-Some.task at counted c.loop-vcpu.invariant c.in-Some-first_low.ensures refl

pub loop-vcpu-preserved : goal.loop-vcpu-preserved
loop-vcpu-preserved c =
    let at = slice_get_read c.args.tasks.now _ c.loop-vcpu.vcpu c.index-tasks-vcpu.result refl
    c.loop-vcpu-test.true
    c.index-tasks-vcpu.is in
    let here : IsServedBy c.args.tasks.now c.args.counters.now c.loop-vcpu.vcpu =
    elim c.match-tasks-vcpu.branch [
      | in-Some+in_default-first_low w ↦
          served_if_none_low c.args.tasks.now c.args.counters.now c.loop-vcpu.vcpu
          w.in-Some.task (at ∙ ap Some w.in-Some.is) w.in_default-first_low.ensures
      | in_default w ↦ served_if_no_task c.args.tasks.now c.args.counters.now c.loop-vcpu.vcpu
          (at ∙ ap Some w.in_default.is)
    ] in
    λ w lt. elim (cases_eq w c.loop-vcpu.vcpu) [
      | inl same ↦ subst (IsServedBy c.args.tasks.now c.args.counters.now) (sym same) here
      | inr other ↦ c.loop-vcpu.invariant w (omega arith)
    ]

pub returns : goal.returns
returns c = λ rows counted. serves_if_all c.args.tasks.now rows c.args.counters.now c.loop-vcpu.vcpu
    c.loop-vcpu-test.false counted c.loop-vcpu.invariant
