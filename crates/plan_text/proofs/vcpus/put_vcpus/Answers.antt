use Rattle.std.proofs.Common.{arith}
use Rattle.std.proofs.lemmas.Result.{err_from_is_err_and}
use Rattle.tab_io.proofs.SinkLemmas.{all_left, left_behind, left_broken, none_left}
use Rattle.vcpu_names.specs.Names.{names_of}
use Rattle.plan_text.proofs.PlanTextLemmas.{no_vcpus_left, vcpus_left}
use Rattle.plan_text.proofs.vcpus.put_vcpus.Goals as goal

pub loop-v-init : goal.loop-v-init
loop-v-init g c = all_left _ _

pub returns-in_err-put_vcpu : goal.returns-in_err-put_vcpu
returns-in_err-put_vcpu g c =
    let p = err_from_is_err_and c.from_residual.result c.from_residual.ensures.1 in
    let parts = vcpus_left c.args.vcpus.now c.args.tasks.now c.args.homes.now c.loop-v.v
    c.index-vcpus-v.result c.index-tasks-v.result c.index-homes-v.result
    (omega (arith, c.loop-v-test.true, c.requires.named, c.requires.housed))
    (omega (arith, c.loop-v-test.true, c.requires.named, c.requires.housed))
    (omega (arith, c.loop-v-test.true, c.requires.named, c.requires.housed))
    c.index-vcpus-v.is c.index-tasks-v.is c.index-homes-v.is in
    rw p.1 (left_broken _ _ _ _ _ _ _ _ _ c.loop-v.invariant parts c.put_vcpu.ensures c.in_err-put_vcpu.was)

pub loop-v-preserved : goal.loop-v-preserved
loop-v-preserved g c =
    left_behind _ _ _ _ _ _ _ _ _ c.loop-v.invariant
    (vcpus_left c.args.vcpus.now c.args.tasks.now c.args.homes.now c.loop-v.v
    c.index-vcpus-v.result c.index-tasks-v.result c.index-homes-v.result
    (omega (arith, c.loop-v-test.true, c.requires.named, c.requires.housed))
    (omega (arith, c.loop-v-test.true, c.requires.named, c.requires.housed))
    (omega (arith, c.loop-v-test.true, c.requires.named, c.requires.housed))
    c.index-vcpus-v.is c.index-tasks-v.is c.index-homes-v.is)
    c.put_vcpu.ensures c.in_ok-put_vcpu.was

pub returns : goal.returns
returns g c = none_left _ _ _ _ c.loop-v.invariant
    (no_vcpus_left (names_of c.args.vcpus.now) c.args.tasks.now c.args.homes.now c.loop-v.v
    c.loop-v-test.false)
