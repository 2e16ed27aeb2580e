use Rattle.std.proofs.Common.{Some, ap, refl, subst, sym, ◌∙◌, inl, inr, arith, rules}
use Rattle.std.proofs.lemmas.Bool.{cases_eq, false≢true}
use Rattle.std.proofs.lemmas.Option.{slice_get_read}
use Rattle.table_check.proofs.Exact.{IsExactBy, costs_if_exact, exact_if_costs, exact_if_no_task, exact_if_uncapped, serves_exactly_if_all}
use Rattle.table_check.proofs.caps.are_exact.Goals.{in-Some+else-has, else-has-via-then-has+else-not-has_its_costs, else-has-via-else-has, in_default}
use Rattle.table_check.proofs.caps.are_exact.Goals as goal

pub returns-then-not-has_its_costs : goal.returns-then-not-has_its_costs
returns-then-not-has_its_costs c = λ rows counted. (
  λ yes. absurd (false≢true yes),
  λ exact. absurd (
      let at = slice_get_read c.args.tasks.now _ c.loop-vcpu.vcpu c.index-tasks-vcpu.result refl
      c.loop-vcpu-test.true
      c.index-tasks-vcpu.is ∙ ap Some c.in-Some.is in
      let costs = costs_if_exact c.args.tasks.now c.args.capped.now rows c.args.counters.now c.loop-vcpu.vcpu
      c.in-Some.task at (sym c.has.ensures ∙ c.if-has.true) counted exact in
      false≢true (sym c.if-not-has_its_costs.true ∙ c.has_its_costs.ensures.1 costs)),
)

pub loop-vcpu-preserved : goal.loop-vcpu-preserved
loop-vcpu-preserved c =
    let at = slice_get_read c.args.tasks.now _ c.loop-vcpu.vcpu c.index-tasks-vcpu.result refl
    c.loop-vcpu-test.true
    c.index-tasks-vcpu.is in
    let here : IsExactBy c.args.tasks.now c.args.capped.now c.args.counters.now c.loop-vcpu.vcpu =
    elim c.match-tasks-vcpu.branch [
      | in-Some+else-has w ↦ elim w.else-has.branch [
        | else-has-via-then-has+else-not-has_its_costs w' ↦
            exact_if_costs c.args.tasks.now c.args.capped.now c.args.counters.now c.loop-vcpu.vcpu
            w.in-Some.task (at ∙ ap Some w.in-Some.is) (w'.has_its_costs.ensures.0 (search rules))
        | else-has-via-else-has w' ↦
            exact_if_uncapped c.args.tasks.now c.args.capped.now c.args.counters.now c.loop-vcpu.vcpu
            (sym w.has.ensures ∙ w'.if-has.false)
      ]
      | in_default w ↦ exact_if_no_task c.args.tasks.now c.args.capped.now c.args.counters.now c.loop-vcpu.vcpu
          (at ∙ ap Some w.in_default.is)
    ] in
    λ w lt. elim (cases_eq w c.loop-vcpu.vcpu) [
      | inl same ↦ subst (IsExactBy c.args.tasks.now c.args.capped.now c.args.counters.now) (sym same) here
      | inr other ↦ c.loop-vcpu.invariant w (omega arith)
    ]

pub returns : goal.returns
returns c = λ rows counted. (
  λ yes. serves_exactly_if_all c.args.tasks.now c.args.capped.now rows c.args.counters.now c.loop-vcpu.vcpu
      c.loop-vcpu-test.false counted c.loop-vcpu.invariant,
  λ exact. refl,
)
