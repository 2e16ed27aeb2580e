use Rattle.std.proofs.Common.{map, arith, ◌∙◌}
use Rattle.std.proofs.lemmas.List.{length-map}
use Rattle.flow_net.specs.Allotments.{cost_of_task, period_of_task}
use Rattle.flow_net.proofs.Loads.{periods_of_tasks, load_ok, fits_of_demands}
use Rattle.flow_net.proofs.making.demands_of.Goals as goal

pub marks_of-requires-clause-some : goal.marks_of-requires-clause-some
marks_of-requires-clause-some c v h =
    let p = periods_of_tasks c.args.tasks.now in
    let e = c.deref.ensures.value ∙ c.in_ok-periods.ensures in
    let h' = rw e at h in
    rw e (p.some v (omega (arith, h', p.same_len)))

pub marks_of-requires-clause-short : goal.marks_of-requires-clause-short
marks_of-requires-clause-short c v h =
    let p = periods_of_tasks c.args.tasks.now in
    let e = c.deref.ensures.value ∙ c.in_ok-periods.ensures in
    let h' = rw e at h in
    rw e (p.short v (omega (arith, h', p.same_len)))

pub invariant_of-result : goal.invariant_of-result
invariant_of-result c =
    let tasks = c.args.tasks.now in
    let p = periods_of_tasks tasks in
    let n = length-map tasks cost_of_task in
    let e = c.deref.ensures.value ∙ c.in_ok-periods.ensures in
    let marks = rw e at c.in_ok-marks.ensures in
    record {
      same_len = rw c.in_ok-costs.ensures (rw c.in_ok-periods.ensures p.same_len);
      few = rw c.in_ok-costs.ensures (omega (arith, n, c.requires.few));
      some_mark = marks.some;
      few_cores = c.requires.cores;
      ok = rw c.in_ok-costs.ensures (rw c.in_ok-periods.ensures
          (load_ok (map cost_of_task tasks) (map period_of_task tasks) c.in_ok-marks.marks.items c.args.cores
          p marks));
      fits = rw c.in_ok-costs.ensures
          (rw c.in_ok-periods.ensures (fits_of_demands tasks c.in_ok-marks.marks.items c.args.cores
          c.requires.fits));
    }
