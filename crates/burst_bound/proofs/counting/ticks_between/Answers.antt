use Rattle.std.proofs.Common.{◌≡◌, ℕ, ◌<◌, ◌^◌, List, length, ap, sym, subst, ◌∙◌, arith}
use Rattle.std.specs.Prelude.{take}
use Rattle.std.proofs.Math.Seq.{take-length}
use Rattle.tab_core.specs.declared.stint.Stint.{Stint}
use Rattle.table_form.specs.Running.State.{State}
use Rattle.burst_bound.specs.Inside.Counting.{run_by, run_on}
use Rattle.burst_bound.specs.KeptRuns.{IsKeptRun}
use Rattle.burst_bound.proofs.CountLemmas.{run_on_all, run_on_few, run_on_more, run_on_none}
use Rattle.burst_bound.proofs.KeptLemmas.{HasCore, core_of}
use Rattle.burst_bound.proofs.counting.ticks_between.Goals as goal

-- the core of the stints that are read
core_here : (c : goal.After-stints-stints) (s : State) → IsKeptRun c.args.course.now c.args.rounds c.args.crew.now s
    → HasCore s c.loop-core.core c.stints-stints.result.now
core_here c s kept = core_of c.args.course.now c.args.rounds c.args.crew.now s c.loop-core.core c.actor.result.now
    c.stints-stints.result.now kept (omega (arith, c.cores-core-end.ensures.cores)) c.actor.ensures c.stints-stints.ensures

pub loop-core-init : goal.loop-core-init
loop-core-init c = λ s kept. sym (run_on_none c.args.vcpu c.args.from c.args.end)

pub ticks_in-ticks-requires : goal.ticks_in-ticks-requires
ticks_in-ticks-requires c =
    let s = c.requires.kept.0 in
    let kept = c.requires.kept.1 in
    let has = core_here c s kept in
    let few = run_on_few c.args.course.now c.args.rounds s c.args.vcpu c.args.from c.args.end c.loop-core.core has.core
    c.cores-core-end.ensures.kept kept.invariant c.requires.order has.at in
    let fits = c.ranges.end.fits in
    subst (λ (stints : List Stint). run_by c.args.vcpu c.args.from c.args.end stints < 2 ^ 32) (sym has.stints_are)
    (omega arith)

pub overflow_add-ticks : goal.overflow_add-ticks
overflow_add-ticks c =
    let s = c.requires.kept.0 in
    let kept = c.requires.kept.1 in
    let has = core_here c.before s kept in
    let few = run_on_few c.args.course.now c.args.rounds s c.args.vcpu c.args.from c.args.end c.loop-core.core has.core
    c.cores-core-end.ensures.kept kept.invariant c.requires.order has.at in
    let fits = c.ranges.end.fits in
    let here = ap (run_by c.args.vcpu c.args.from c.args.end) has.stints_are in
    omega (arith, c.loop-core.invariant s kept, c.ticks_in-ticks.ensures)

pub loop-core-preserved : goal.loop-core-preserved
loop-core-preserved c = λ s kept.
    let has = core_here c.before s kept in
    let here = ap (run_by c.args.vcpu c.args.from c.args.end) has.stints_are in
    let more = run_on_more s c.args.vcpu c.args.from c.args.end c.loop-core.core has.core has.at in
    omega (arith, c.loop-core.invariant s kept, c.ticks_in-ticks.ensures)

pub returns : goal.returns
returns c = λ s kept.
    let all = run_on_all c.args.course.now c.args.rounds s c.args.vcpu c.args.from c.args.end
    c.cores-core-end.ensures.kept kept.invariant c.requires.order in
    let last : c.loop-core.core ≡ length s.cores =
    omega (arith, c.loop-core.auto.core-end, c.loop-core-test.false, c.cores-core-end.ensures.cores, kept.invariant.size) in
    let whole = ap (λ (n : ℕ). run_on c.args.vcpu c.args.from c.args.end (take n s.cores)) last
    ∙ ap (run_on c.args.vcpu c.args.from c.args.end) (take-length s.cores) in
    c.loop-core.invariant s kept ∙ whole ∙ all
