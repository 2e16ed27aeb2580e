use Rattle.std.proofs.Common.{refl}
use Rattle.std.proofs.lemmas.Result.{err_from_is_err_and}
use Rattle.tab_io.proofs.SinkLemmas.{all_left, left_behind, left_broken, left_last}
use Rattle.vcpu_names.specs.Names.{names_of}
use Rattle.plan_text.proofs.PlanTextLemmas.{plan_parts}
use Rattle.plan_text.proofs.write.put_plan.Goals as goal

pub returns-in_err-put_head : goal.returns-in_err-put_head
returns-in_err-put_head g c capped =
    let p = err_from_is_err_and c.from_residual.result c.from_residual.ensures.1 in
    let parts = plan_parts (names_of c.args.vcpus.now)
    (record {
      tasks = c.args.tasks.now;
      homes = c.args.homes.now;
      rows = c.args.rows.now;
      capped = capped;
    }) in
    let head = rw c.count_admitted.ensures at c.put_head.ensures in
    rw p.1 (left_broken _ _ _ _ _ _ _ _ _ (all_left _ _) parts head c.in_err-put_head.was)

pub returns-in_err-put_vcpus : goal.returns-in_err-put_vcpus
returns-in_err-put_vcpus g c capped =
    let p = err_from_is_err_and c.from_residual-in_err-put_vcpus.result
    c.from_residual-in_err-put_vcpus.ensures.1 in
    let parts = plan_parts (names_of c.args.vcpus.now)
    (record {
      tasks = c.args.tasks.now;
      homes = c.args.homes.now;
      rows = c.args.rows.now;
      capped = capped;
    }) in
    let head = rw c.count_admitted.ensures at c.put_head.ensures in
    let first = left_behind _ _ _ _ _ _ _ _ _ (all_left _ _) parts head c.in_ok-put_head.was in
    rw p.1 (left_broken _ _ _ _ _ _ _ _ _ first refl c.put_vcpus.ensures c.in_err-put_vcpus.was)

pub returns-in_err-put_cores : goal.returns-in_err-put_cores
returns-in_err-put_cores g c capped =
    let p = err_from_is_err_and c.from_residual-in_err-put_cores.result
    c.from_residual-in_err-put_cores.ensures.1 in
    let parts = plan_parts (names_of c.args.vcpus.now)
    (record {
      tasks = c.args.tasks.now;
      homes = c.args.homes.now;
      rows = c.args.rows.now;
      capped = capped;
    }) in
    let head = rw c.count_admitted.ensures at c.put_head.ensures in
    let first = left_behind _ _ _ _ _ _ _ _ _ (all_left _ _) parts head c.in_ok-put_head.was in
    let second = left_behind _ _ _ _ _ _ _ _ _ first refl c.put_vcpus.ensures c.in_ok-put_vcpus.was in
    rw p.1 (left_broken _ _ _ _ _ _ _ _ _ second refl c.put_cores.ensures c.in_err-put_cores.was)

pub returns : goal.returns
returns g c capped =
    let parts = plan_parts (names_of c.args.vcpus.now)
    (record {
      tasks = c.args.tasks.now;
      homes = c.args.homes.now;
      rows = c.args.rows.now;
      capped = capped;
    }) in
    let head = rw c.count_admitted.ensures at c.put_head.ensures in
    let first = left_behind _ _ _ _ _ _ _ _ _ (all_left _ _) parts head c.in_ok-put_head.was in
    let second = left_behind _ _ _ _ _ _ _ _ _ first refl c.put_vcpus.ensures c.in_ok-put_vcpus.was in
    let third = left_behind _ _ _ _ _ _ _ _ _ second refl c.put_cores.ensures c.in_ok-put_cores.was in
    left_last _ _ _ _ _ _ third c.put_line.ensures
