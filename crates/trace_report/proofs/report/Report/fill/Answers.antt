use Rattle.std.proofs.Common.{◌≡◌, ◌*◌, ◌<◌, ◌≤◌, ℕ, List, length, refl, ap, sym, ◌∙◌, subst, arith}
use Rattle.std.specs.Prelude.{replicate, vec_capacity}
use Rattle.std.specs.Vec.{with_items}
use Rattle.std.proofs.lemmas.List.{length-replicate, with_items_is}
use Rattle.tab_core.specs.declared.TheConstants.{MAX_ROUNDS, MAX_VCPUS, ROUND}
use Rattle.table_form.specs.Running.Courses.{CourseView}
use Rattle.run_counts.specs.Reports.{IsReported}
use Rattle.run_counts.specs.RoundPlans.{round_plans_of}
use Rattle.run_counts.specs.Stretches.{stretch_at}
use Rattle.run_counts.specs.declared.round_plan.RoundPlan.{RoundPlan}
use Rattle.run_counts.specs.declared.stretch.Stretch.{Stretch}
use Rattle.trace_report.specs.Inside.Sound.{AreWithinCores, counted}
use Rattle.trace_report.specs.ReportViews.{no_core_ticks, report_view, vcpu_at}
use Rattle.trace_report.specs.RunReports.{HasRoom, IsFilled, IsVcpuCounted, vcpu_count}
use Rattle.trace_report.specs.declared.ticks.CoreTicks.{CoreTicks}
use Rattle.trace_report.specs.declared.ticks.VcpuTicks.{VcpuTicks}
use Rattle.trace_report.proofs.report.Report.fill.Goals as goal

-- what is reported of the vCPUs is what the stretches of the run say
abbrev AreCounted : List VcpuTicks → List Stretch → Type 0
AreCounted vcpus run = (v : ℕ) → v < length vcpus → vcpu_at vcpus v ≡ counted (stretch_at run v)

-- a report with these lists is filled
filled : (course : CourseView) (used : List ℕ) (plans : List RoundPlan) (vcpus : List VcpuTicks) (cores : List CoreTicks)
    (room : ℕ) (run : List Stretch) → plans ≡ round_plans_of course used → length vcpus ≡ vcpu_count course
    → AreCounted vcpus run → length vcpus ≤ MAX_VCPUS
    → ((v : ℕ) → v < MAX_VCPUS → IsReported course used v (stretch_at run v).offered (stretch_at run v).most)
    → cores ≡ replicate course.cores no_core_ticks → IsFilled course used (report_view plans vcpus cores room 0)
filled course used plans vcpus cores room run plans_are each are few reported cores_are = record {
  plans = plans_are;
  each_vcpu = each;
  vcpus = λ v lt. subst (IsVcpuCounted course used v) (sym (are v lt)) (record {
    counted = reported v (omega (arith, lt, few));
    no_slots = refl;
    no_shared = refl;
  });
  cores = cores_are;
  added = refl;
}

-- its vCPUs ran nothing
none_ran : (vcpus : List VcpuTicks) (run : List Stretch) → AreCounted vcpus run → AreWithinCores vcpus 0
none_ran vcpus run are v lt =
    subst (λ (t : VcpuTicks). (t.slots ≤ 0 * (MAX_ROUNDS * ROUND)) × (t.shared ≤ 0 * (MAX_ROUNDS * ROUND))) (sym (are v lt))
    (omega arith, omega arith)

-- the lists of the report before and now
module _ (c : goal.After-self-5-1) where
  room : HasRoom c.args.course.now c.args.rounds (report_view c.self.inside.plans.items c.self.inside.vcpus.items
      c.self.inside.cores.items (vec_capacity c.self.inside.plans) c.self.inside.added)
  room = subst (HasRoom c.args.course.now c.args.rounds) (sym c.self.view_is) c.requires.room

  as_many : length c.take_waits.new.vcpus ≡ length c.self.inside.vcpus.items
  as_many = c.take_waits.ensures.size ∙ ap length c.deref_mut-3.ensures.value

  vcpus_are : (with_items c.self.inside.vcpus c.take_waits.new.vcpus).items ≡ c.take_waits.new.vcpus
  vcpus_are = with_items_is c.self.inside.vcpus c.take_waits.new.vcpus (as_many ∙ sym c.self.inside.vcpus.ok.0)

  same_cores : length c.deref_mut-4.result.now ≡ c.args.course.now.cores
  same_cores = ap length c.deref_mut-4.ensures.value ∙ room.each_core

  new_cores : c.clear_cores.new.cores ≡ replicate c.args.course.now.cores no_core_ticks
  new_cores = c.clear_cores.ensures ∙ ap (λ (n : ℕ). replicate n no_core_ticks) same_cores

  many_cores : length c.clear_cores.new.cores ≡ length c.self.inside.cores.items
  many_cores = ap length c.clear_cores.ensures ∙ (length-replicate (length c.deref_mut-4.result.now) no_core_ticks ∙ ap length c.deref_mut-4.ensures.value)

  cores_are : (with_items c.self.inside.cores c.clear_cores.new.cores).items ≡ c.clear_cores.new.cores
  cores_are = with_items_is c.self.inside.cores c.clear_cores.new.cores (many_cores ∙ sym c.self.inside.cores.ok.0)

  run_is : (with_items c.self.inside.run c.count_waits.new.run).items ≡ c.count_waits.new.run
  run_is = with_items_is c.self.inside.run c.count_waits.new.run
      (c.count_waits.ensures.run ∙ (sym c.self.invariant.run_size ∙ sym c.self.inside.run.ok.0))

  round_is : (with_items c.self.inside.round c.count_waits.new.round).items ≡ c.count_waits.new.round
  round_is = with_items_is c.self.inside.round c.count_waits.new.round
      (c.count_waits.ensures.round ∙ (sym c.self.invariant.round_size ∙ sym c.self.inside.round.ok.0))

  few : length c.take_waits.new.vcpus ≤ MAX_VCPUS
  few = omega (arith, as_many, c.self.invariant.few)

  are : AreCounted c.take_waits.new.vcpus c.count_waits.new.run
  are v lt = c.take_waits.ensures.counted v (omega (arith, lt, c.take_waits.ensures.size))
      ∙ ap (λ (rs : List Stretch). counted (stretch_at rs v)) (c.deref.ensures.value ∙ run_is)

pub returns-clause-filled : goal.returns-clause-filled
returns-clause-filled c =
    let course = c.args.course.now in
    let plans = c.round_plans.new.plans in
    let cores : List CoreTicks = (with_items c.self.inside.cores c.clear_cores.new.cores).items in
    subst (λ (vs : List VcpuTicks). IsFilled course c.args.used.now (report_view plans.items vs cores (vec_capacity plans) 0))
    (sym (vcpus_are c))
    (filled course c.args.used.now plans.items c.take_waits.new.vcpus cores (vec_capacity plans) c.count_waits.new.run
    c.round_plans.ensures.listed (as_many c ∙ (room c).each_vcpu) (are c) (few c) c.count_waits.ensures.reported
    (cores_are c ∙ new_cores c))

pub returns-clause-room : goal.returns-clause-room
returns-clause-room c = record {
  rounds_fit = omega (arith, (room c).rounds_fit, c.round_plans.ensures.room, c.clear.ensures.capacity);
  each_vcpu = ap length (vcpus_are c) ∙ (as_many c ∙ (room c).each_vcpu);
  each_core = ap length (cores_are c) ∙ (many_cores c ∙ (room c).each_core);
}

pub invariant_of-self : goal.invariant_of-self
invariant_of-self c =
    let few_now : length (with_items c.self.inside.vcpus c.take_waits.new.vcpus).items ≤ MAX_VCPUS =
    omega (arith, ap length (vcpus_are c), few c) in
    record {
      few = few_now;
      added_few = omega arith;
      within = subst (λ (vs : List VcpuTicks). AreWithinCores vs 0) (sym (vcpus_are c))
          (none_ran c.take_waits.new.vcpus c.count_waits.new.run (are c));
      round_size = ap length (round_is c) ∙ c.count_waits.ensures.round;
      run_size = ap length (run_is c) ∙ c.count_waits.ensures.run;
    }
