use Rattle.std.proofs.Common.{ap, sym, ◌∙◌, length, arith}
use Rattle.plan_text.proofs.HomeLemmas.{as_many_homes}
use Rattle.plan_text.proofs.write.write_plan.Goals as goal

pub put_plan-requires : goal.put_plan-requires
put_plan-requires g c =
    let tasks = ap length c.items-tasks.ensures.same in
    let vcpus = ap length c.items-vcpus.ensures.same in
    let homes = ap length c.items-homes.ensures.same in
    let rows = ap length c.items-rows.ensures.same in
    let housed = as_many_homes c.args.plan.now.tasks c.args.plan.now.tables.homes
    c.args.plan.now.tables.rows c.args.plan.now.housed in
    record {
      named = vcpus ∙ (sym c.requires.vcpus ∙ sym tasks);
      few = omega (arith, tasks, c.items-tasks.ensures.few);
      housed = homes ∙ (housed ∙ sym tasks);
      few_rows = omega (arith, rows, c.items-rows.ensures.few);
    }

pub returns : goal.returns
returns g c = rw (
  c.items-vcpus.ensures.same,
  c.items-tasks.ensures.same,
  c.items-homes.ensures.same,
  c.items-rows.ensures.same,
) at (c.put_plan.ensures c.args.plan.now.capped)
