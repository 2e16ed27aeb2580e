use Rattle.std.proofs.Common.{◌≡◌, ℕ, List, get_or, subst, sym, ◌∙◌, arith}
use Rattle.std.proofs.lemmas.Grind.{common_steps}
use Rattle.tab_core.specs.declared.stint.Stint.{Stint}
use Rattle.burst_bound.specs.Inside.Seeing.{IsSeenBelow, SeesFrom}
use Rattle.burst_bound.proofs.KeptLemmas.{core_of, kept_in_order}
use Rattle.burst_bound.proofs.SeenLemmas.{seen_more, seen_none}
use Rattle.burst_bound.proofs.sights.fill_sights.Goals as goal

pub raise-requires : goal.raise-requires
raise-requires c =
    let s = c.requires.kept.0 in
    let kept = c.requires.kept.1 in
    let has = core_of c.args.course.now c.args.rounds c.args.crew.now s c.loop-core.core c.actor.result.now
    c.stints-stints.result.now kept (omega (arith, c.cores-core-end.ensures.cores)) c.actor.ensures c.stints-stints.ensures in
    record {
      few = (let size = c.loop-core.invariant.size in let few = c.requires.few in omega arith);
      order = kept_in_order c.args.course.now c.args.rounds c.args.crew.now s c.loop-core.core c.stints-stints.result.now kept has;
    }

pub loop-core-init : goal.loop-core-init
loop-core-init c = record {
  size = grind (arith, common_steps, c.clear.ensures);
  sights = λ s event kept lt. (let none : get_or c.clear.new.sights event 0 ≡ 0 = grind (arith, common_steps, c.clear.ensures) in
      rw none (seen_none s event));
}

pub loop-core-preserved : goal.loop-core-preserved
loop-core-preserved c = record {
  size = c.raise.ensures.size ∙ c.loop-core.invariant.size;
  sights = λ s event kept lt.
      (let size = c.loop-core.invariant.size in
      let has = core_of c.args.course.now c.args.rounds c.args.crew.now s c.loop-core.core c.actor.result.now
      c.stints-stints.result.now kept (omega (arith, c.cores-core-end.ensures.cores)) c.actor.ensures c.stints-stints.ensures in
      let raised = c.raise.ensures.raised event (omega arith) in
      let more = seen_more s c.loop-core.core event (get_or c.loop-core.sights event 0) raised.here has.core
      (c.loop-core.invariant.sights s event kept lt) has.at
      (subst (λ (stints : List Stint). SeesFrom event raised.here stints) has.stints_are raised.sees)
      (λ y all. raised.least y (subst (λ (stints : List Stint). SeesFrom event y stints) (sym has.stints_are) all)) in
      rw raised.is more);
}

pub returns-clause-sights : goal.returns-clause-sights
returns-clause-sights c = λ s event kept lt.
    let last : c.loop-core.core ≡ c.args.course.now.cores =
    omega (arith, c.loop-core.auto.core-end, c.loop-core-test.false, c.cores-core-end.ensures.cores) in
    subst (λ (n : ℕ). IsSeenBelow s n event (get_or c.loop-core.sights event 0)) last (c.loop-core.invariant.sights s event kept lt)
