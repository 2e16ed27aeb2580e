use Rattle.std.proofs.Common.{◌≡◌, ℕ, List, max, subst, sym, arith}
use Rattle.std.proofs.lemmas.Bool.Decides.{nat_tests}
use Rattle.std.proofs.lemmas.Grind.{common_steps}
use Rattle.tab_core.specs.declared.stint.Stint.{Stint}
use Rattle.table_form.specs.Running.State.{State}
use Rattle.burst_bound.specs.Inside.Seeing.{IsSeenBelow, SeesFrom}
use Rattle.burst_bound.specs.KeptRuns.{IsKeptRun}
use Rattle.burst_bound.proofs.KeptLemmas.{HasCore, core_of, kept_in_order}
use Rattle.burst_bound.proofs.SeenLemmas.{not_seen_in_run, seen_in_run, seen_more, seen_none}
use Rattle.burst_bound.proofs.seeing.seen_at.Goals as goal

-- the core of the stints that are read
core_here : (c : goal.After-stints-stints) (s : State) → IsKeptRun c.args.course.now c.args.rounds c.args.crew.now s
    → HasCore s c.loop-core.core c.stints-stints.result.now
core_here c s kept = core_of c.args.course.now c.args.rounds c.args.crew.now s c.loop-core.core c.actor.result.now
    c.stints-stints.result.now kept (omega (arith, c.cores-core-end.ensures.cores)) c.actor.ensures c.stints-stints.ensures

pub unseen_until-requires : goal.unseen_until-requires
unseen_until-requires c = kept_in_order c.args.course.now c.args.rounds c.args.crew.now c.requires.0 c.loop-core.core
    c.stints-stints.result.now c.requires.1 (core_here c c.requires.0 c.requires.1)

pub loop-core-init : goal.loop-core-init
loop-core-init c = λ s kept. seen_none s c.args.event

pub loop-core-preserved : goal.loop-core-preserved
loop-core-preserved c = λ s kept.
    let has = core_here c.before.before s kept in
    let sees = subst (λ (stints : List Stint). SeesFrom c.args.event c.unseen_until.result stints) has.stints_are
    c.unseen_until.ensures.sees in
    let more = seen_more s c.loop-core.core c.args.event c.loop-core.latest c.unseen_until.result has.core
    (c.loop-core.invariant s kept) has.at sees
    (λ y all. c.unseen_until.ensures.least y
    (subst (λ (stints : List Stint). SeesFrom c.args.event y stints) (sym has.stints_are) all)) in
    let top : c.max-latest.result ≡ max c.loop-core.latest c.unseen_until.result =
    grind (arith, nat_tests, common_steps, c.max-latest.ensures) in
    rw top more

pub returns-then-from : goal.returns-then-from
returns-then-from c = λ s kept.
    let last : c.loop-core.core ≡ c.args.course.now.cores =
    omega (arith, c.loop-core.auto.core-end, c.loop-core-test.false, c.cores-core-end.ensures.cores) in
    seen_in_run c.args.course.now c.args.rounds s c.args.event c.loop-core.latest kept.invariant
    (subst (λ (n : ℕ). IsSeenBelow s n c.args.event c.loop-core.latest) last (c.loop-core.invariant s kept))
    (rw (c.from.ensures, c.from-2.ensures, c.from-3.ensures) at c.if-from.true)

pub returns-else-from : goal.returns-else-from
returns-else-from c = λ s kept x at.
    let last : c.loop-core.core ≡ c.args.course.now.cores =
    omega (arith, c.loop-core.auto.core-end, c.loop-core-test.false, c.cores-core-end.ensures.cores) in
    not_seen_in_run c.args.course.now c.args.rounds s c.args.event c.loop-core.latest x kept.invariant
    (subst (λ (n : ℕ). IsSeenBelow s n c.args.event c.loop-core.latest) last (c.loop-core.invariant s kept))
    (rw (c.from.ensures, c.from-2.ensures, c.from-3.ensures) at c.if-from.false) at
