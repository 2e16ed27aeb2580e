use Rattle.std.proofs.Common.{◌≡◌, ℕ, ◌+◌, length, arith, refl, ap, subst, sym, ◌∙◌, List, Some}
use Rattle.std.proofs.lemmas.Option.{slice_get_read}
use Rattle.std.specs.Prelude.{slice_get}
use Rattle.tab_core.specs.declared.vcpu.Vcpu.{Vcpu}
use Rattle.period_choice.specs.Tasks.{IsFirstWithoutPeriod}
use Rattle.std.proofs.lemmas.List.{length_push}
use Rattle.period_choice.specs.Inside.SoFar.{AreTasksSoFar}
use Rattle.period_choice.proofs.TasksLemmas.{no_tasks, task_more, first_without}
use Rattle.period_choice.proofs.Unique.{tasks_unique}
use Rattle.period_choice.proofs.tasks.tasks_by.Goals as goal

pub loop-number-init : goal.loop-number-init
loop-number-init c = record {
  as_many = ap length c.in_ok-tasks.ensures.items;
  each = subst (AreTasksSoFar c.items-vcpus.result.now c.args.host.now.tick_ns) (sym c.in_ok-tasks.ensures.items)
      (no_tasks c.items-vcpus.result.now c.args.host.now.tick_ns);
}

-- the vCPU at this number, which is that of the next task
at_length : (vcpus : List Vcpu) (n number : ℕ) (vcpu : Vcpu) → n ≡ number
    → slice_get vcpus number ≡ Some vcpu → slice_get vcpus n ≡ Some vcpu
at_length vcpus n number vcpu same at = ap (slice_get vcpus) same ∙ at

pub returns-in_err-task_by-clause-no_period : goal.returns-in_err-task_by-clause-no_period
returns-in_err-task_by-clause-no_period c = λ vcpu is.
    let before = c.loop-number.invariant in
    let host = c.args.host.now in
    let vcpus = c.items-vcpus.result.now in
    let tasks = c.loop-number.tasks.items in
    let same = c.items-vcpus.ensures.same in
    let at = at_length vcpus (length tasks) c.loop-number.number c.index-vcpus-number.result before.as_many
    (slice_get_read vcpus _ c.loop-number.number _ refl c.loop-number-test.true c.index-vcpus-number.is) in
    let lacks = c.in_err-task_by.ensures.no_period in
    let told = rw is at c.from_residual-in_err-task_by.ensures in
    let named : c.loop-number.number ≡ vcpu = cc (lacks.0, told.1) in
    let first = first_without host tasks c.index-vcpus-number.result
    (subst (λ (vs : List Vcpu). AreTasksSoFar vs host.tick_ns tasks) same before.each)
    (subst (λ (vs : List Vcpu). slice_get vs (length tasks) ≡ Some c.index-vcpus-number.result) same at)
    lacks.1 in
    subst (IsFirstWithoutPeriod host) (before.as_many ∙ named) first

pub loop-number-preserved : goal.loop-number-preserved
loop-number-preserved c =
    let before = c.loop-number.invariant in
    let vcpus = c.items-vcpus.result.now in
    let tasks = c.loop-number.tasks.items in
    let at = slice_get_read vcpus _ c.loop-number.number _ refl c.loop-number-test.true
    c.index-vcpus-number.is in
    let pushed = c.in_ok-push.ensures.items in
    let longer = length_push tasks c.in_ok-task_by.field-0 in
    record {
      as_many = ap length pushed ∙ longer ∙ ap (λ n. n + 1) before.as_many;
      each = rw pushed
          (task_more vcpus c.args.host.now.tick_ns tasks c.index-vcpus-number.result c.in_ok-task_by.field-0 before.each
          (at_length vcpus _ _ _ before.as_many at) c.in_ok-task_by.ensures.ok);
    }

pub of-requires : goal.of-requires
of-requires c =
    let as_many = c.loop-number.invariant.as_many in
    let few = c.items-vcpus.ensures.few in
    let same = ap length c.items-vcpus.ensures.same in
    omega arith

pub returns-clause-ok : goal.returns-clause-ok
returns-clause-ok c =
    let before = c.loop-number.invariant in
    let same = c.items-vcpus.ensures.same in
    rw c.of.ensures (record {
      as_many = rw (← same) (omega arith);
      each = subst (λ (vs : List Vcpu). AreTasksSoFar vs c.args.host.now.tick_ns c.loop-number.tasks.items)
          same before.each;
    })

pub returns-clause-only : goal.returns-clause-only
returns-clause-only c = λ other is. tasks_unique c.args.host.now other c.of.result is (returns-clause-ok c)
