use Rattle.std.proofs.lemmas.Result.{err_from_is_err_and}
use Rattle.tab_io.proofs.SinkLemmas.{all_left, left_behind, left_broken, none_left}
use Rattle.vcpu_names.specs.Names.{names_of}
use Rattle.plan_text.proofs.PlanTextLemmas.{cores_left, no_cores_left}
use Rattle.plan_text.proofs.cores.put_cores.Goals as goal

pub loop-core-init : goal.loop-core-init
loop-core-init g c = all_left _ _

pub returns-in_err-put_core : goal.returns-in_err-put_core
returns-in_err-put_core g c =
    let p = err_from_is_err_and c.from_residual.result c.from_residual.ensures.1 in
    let parts = cores_left (names_of c.args.vcpus.now) c.args.rows.now c.loop-core.core
    c.index-rows-core.result c.loop-core-test.true c.index-rows-core.is in
    rw p.1 (left_broken _ _ _ _ _ _ _ _ _ c.loop-core.invariant parts
    (c.put_core.ensures (names_of c.args.vcpus.now) c.tails_of-tails.ensures) c.in_err-put_core.was)

pub loop-core-preserved : goal.loop-core-preserved
loop-core-preserved g c =
    let parts = cores_left (names_of c.args.vcpus.now) c.args.rows.now c.loop-core.core
    c.index-rows-core.result c.loop-core-test.true c.index-rows-core.is in
    left_behind _ _ _ _ _ _ _ _ _ c.loop-core.invariant parts
    (c.put_core.ensures (names_of c.args.vcpus.now) c.tails_of-tails.ensures) c.in_ok-put_core.was

pub returns : goal.returns
returns g c = none_left _ _ _ _ c.loop-core.invariant
    (no_cores_left (names_of c.args.vcpus.now) c.args.rows.now c.loop-core.core c.loop-core-test.false)
