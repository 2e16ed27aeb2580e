use Rattle.std.proofs.Common.{◌≡◌, ◌+◌, ◌<◌, [], ◌∷◌, ◌++◌, length, length-append, ap, sym, subst, ◌∙◌, arith, rules}
use Rattle.std.specs.Prelude.{vec_capacity}
use Rattle.std.proofs.lemmas.Option.{slice_get_within}
use Rattle.burst_bound.specs.Answers.{IsBurstAnswer}
use Rattle.burst_bound.specs.ScriptBursts.{ScriptBurst, bursts_of}
use Rattle.burst_bound.specs.declared.answer.BurstAnswer.{BurstAnswer}
use Rattle.burst_bound.proofs.ScriptBurstLemmas.{BurstsSoFar, all_bursts, burst_next, no_burst_here, no_burst_yet, pairs_more}
use Rattle.burst_bound.proofs.report.answer_all.Goals as goal
use Rattle.burst_bound.proofs.report.answer_all.Goals.{in-Burst, in_default}

pub push_reserved-requires : goal.push_reserved-requires
push_reserved-requires c =
    let events = c.events-events.result.now in
    let next = burst_next events c.loop-i.i (length c.loop-i.answers.items) c.index-events-i.result c.in-Burst.vcpu
    c.in-Burst.work c.loop-i.invariant.so_far c.loop-i-test.true c.index-events-i.is c.in-Burst.is in
    let lt = slice_get_within (bursts_of events) (length c.loop-i.answers.items) _ next.0 in
    let same = ap (λ es. length (bursts_of es)) c.events-events.ensures.same in
    let room = c.requires.room in
    let cap = c.loop-i.invariant.room in
    let small : length c.loop-i.answers.items < vec_capacity c.loop-i.answers = omega arith in
    search (rules, small)

pub loop-i-init : goal.loop-i-init
loop-i-init c = record {
  so_far = rw c.clear.ensures.items (no_burst_yet c.events-events.result.now);
  each = λ s kept runs k b a at there. absurd (cc (rw c.clear.ensures.items at there));
  room = c.clear.ensures.capacity;
}

pub loop-i-preserved : goal.loop-i-preserved
loop-i-preserved c =
    let events = c.events-events.result.now in
    let old = c.loop-i.answers.items in
    let inv = c.loop-i.invariant in
    elim c.match-event.branch [
      | in-Burst w ↦
          let answer : BurstAnswer = w.answer_of-answer.result in
          let pushed : c.match-event.answers.items ≡ old ++ answer ∷ [] = search rules in
          let long = ap length pushed ∙ length-append old (answer ∷ []) in
          let next = burst_next events c.loop-i.i (length old) c.index-events-i.result w.in-Burst.vcpu w.in-Burst.work
          inv.so_far c.loop-i-test.true c.index-events-i.is w.in-Burst.is in
          let burst : ScriptBurst = record { event = c.loop-i.i; tick = c.index-events-i.result.tick; vcpu = w.in-Burst.vcpu; work = w.in-Burst.work } in
          record {
            so_far = subst (BurstsSoFar events (c.loop-i.i + 1)) (sym long) next.1;
            each = λ s kept runs k b a at there.
                pairs_more (λ (x : ScriptBurst) (y : BurstAnswer). IsBurstAnswer c.args.course.now c.args.rounds s x.event x.vcpu x.work y)
                (bursts_of events) old burst answer (inv.each s kept runs) next.0
                (w.answer_of-answer.ensures s kept runs) k b a at (rw pushed at there);
            room = search rules;
          }
      | in_default w ↦
          let same : c.match-event.answers.items ≡ old = search rules in
          let rest = no_burst_here events c.loop-i.i (length old) c.index-events-i.result inv.so_far
          c.loop-i-test.true c.index-events-i.is (search rules) in
          record {
            so_far = subst (BurstsSoFar events (c.loop-i.i + 1)) (sym (ap length same)) rest;
            each = λ s kept runs k b a at there. inv.each s kept runs k b a at (rw same at there);
            room = search rules;
          }
    ]

pub returns-clause-answers : goal.returns-clause-answers
returns-clause-answers c = λ s kept runs.
    let events = c.events-events.result.now in
    let all = all_bursts events c.loop-i.i (length c.loop-i.answers.items) c.loop-i.invariant.so_far c.loop-i-test.false in
    rw (← c.events-events.ensures.same) (record { size = all; each = c.loop-i.invariant.each s kept runs })
