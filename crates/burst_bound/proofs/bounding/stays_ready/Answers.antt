use Rattle.std.proofs.Common.{◌≡◌, true, inl, inr, ◌∙◌, sym, arith}
use Rattle.std.proofs.lemmas.Bool.{cases_lt}
use Rattle.tab_core.specs.VcpuSets.{has_vcpu}
use Rattle.table_form.specs.Running.Courses.{runnable_after}
use Rattle.burst_bound.proofs.bounding.stays_ready.Goals as goal

pub loop-count-preserved : goal.loop-count-preserved
loop-count-preserved c =
    let here : has_vcpu (runnable_after c.args.course.now c.loop-count.count) c.args.vcpu ≡ true =
    rw (← c.runnable_after.ensures) (sym c.has.ensures ∙ c.if-not-has.false) in
    λ n low high. elim (cases_lt n c.loop-count.count) [
      | inl before ↦ c.loop-count.invariant n low before
      | inr last ↦
          (let same : n ≡ c.loop-count.count = omega arith in
          rw same here)
    ]

pub returns-clause-yes : goal.returns-clause-yes
returns-clause-yes c = λ _ n low high. c.loop-count.invariant n low (omega (arith, c.count-events.ensures.count))
