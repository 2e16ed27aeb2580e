use Rattle.std.proofs.Common.{◌≡◌, ◌+◌, ◌≤◌, subst, arith}
use Rattle.burst_bound.specs.Inside.Runs.{IsReached}
use Rattle.table_form.specs.Promises.Capped.{ticks_run}
use Rattle.burst_bound.proofs.RanLemmas.{beyond, done_if_reached}
use Rattle.burst_bound.proofs.ran.done_in.Goals as goal

pub returns-in_err-ticks : goal.returns-in_err-ticks
returns-in_err-ticks c = λ rounds s few le are.
    let ran = c.ran_before.ensures rounds s few are in
    let none = rw c.in_err-ticks.was at c.checked_add.ensures in
    let many : 4294967296 ≤ c.ran_before.result + c.args.work = omega (arith, none) in
    rw c.from_residual.ensures (λ e at. beyond s c.args.vcpu c.args.work c.args.seen rounds e few
    (omega arith) le at)

pub returns : goal.returns
returns c = λ rounds s few le are.
    let ran = c.ran_before.ensures rounds s few are in
    let sum = rw c.in_ok-ticks.was at c.checked_add.ensures in
    let ticks : c.in_ok-ticks.ticks ≡ ticks_run s c.args.vcpu 0 c.args.seen + c.args.work = omega (arith, sum) in
    done_if_reached rounds s c.args.vcpu c.args.work c.args.seen c.reached_at.result (omega arith)
    (subst (λ (n : _). IsReached rounds s c.args.vcpu n c.reached_at.result) ticks
    (c.reached_at.ensures rounds s few are))
